-- A mask that a loop makes, one member after the other.
use Rattle.std.specs.Prelude.{◌≡◌, ℕ, ◌<◌, ◌≤◌, Decides}
use Rattle.masks.specs.Bit.{bit, has}

-- below n the mask has just the numbers that P holds of, and none from n on
abbrev pub Built : (ℕ → Type 0) → ℕ → ℕ → Type 0
Built P mask n = ((k : ℕ) → k < n → Decides (has mask k) (P k)) × ((k : ℕ) → n ≤ k → bit mask k ≡ 0)
