-- The senses of a rule: when a total meets a count.
use Rattle.std.specs.Prelude.{◌≡◌, ℕ, ◌<◌, ◌≤◌, Bool, ◌==◌, nat_le}
use Rattle.refusals.specs.declared.PostFault.{PostFault}
use Rattle.refusals.specs.declared.PostFault.TheVariants.{Sense as NoSense}
use Rattle.rules.specs.declared.Sense.{Sense}
use Rattle.rules.specs.declared.Sense.TheVariants.{AtMost, AtLeast, Exactly}

-- the total n meets the count k
abbrev pub Meets : Sense → ℕ → ℕ → Type 0
Meets AtMost n k = n ≤ k
Meets AtLeast n k = k ≤ n
Meets Exactly n k = n ≡ k

-- the test of that
abbrev pub meets : Sense → ℕ → ℕ → Bool
meets AtMost n k = nat_le n k
meets AtLeast n k = nat_le k n
meets Exactly n k = n == k

-- the number that stands for a sense
abbrev pub sense_number : Sense → ℕ
sense_number AtMost = 0
sense_number AtLeast = 1
sense_number Exactly = 2

-- a number that stands for none
pub data SenseFault (n : ℕ) : PostFault → Type 0 where
  no_sense : 2 < n → SenseFault n NoSense
