-- A mask is a number read as a set: k is a member where bit k is 1. A cell's mask is a set of duties (its domain), a tally a set of counts.
use Rattle.std.specs.Prelude.{◌≡◌, ℕ, ◌/◌, ◌%◌, ◌^◌, Bool, ◌==◌}

-- bit k of a mask, 0 or 1
abbrev pub bit : ℕ → ℕ → ℕ
bit mask k = (mask / 2 ^ k) % 2

-- the test of bit k
abbrev pub has : ℕ → ℕ → Bool
has mask k = bit mask k == 1

-- k is a member
abbrev pub In : ℕ → ℕ → Type 0
In mask k = bit mask k ≡ 1

-- each member of a is one of b
abbrev pub Within : ℕ → ℕ → Type 0
Within a b = (k : ℕ) → In a k → In b k
