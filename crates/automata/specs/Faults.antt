-- When a table or classes are refused, and where.
use Rattle.std.specs.Prelude.{◌≡◌, ℕ, ◌*◌, ◌/◌, ◌<◌, ◌≤◌, min, ◌⊎◌, List, length, ◌≢◌}
use Rattle.refusals.specs.declared.PostFault.{PostFault}
use Rattle.refusals.specs.declared.PostFault.TheVariants.{Length, States, NextState, Duty}
use Rattle.refusals.specs.First.{First}

-- A table is judged by its length, then by its number of states, then byte by byte.
pub data TableFault (s : ℕ) (steps : List ℕ) : PostFault → Type 0 where
  wrong_length : (length steps ≢ 16 * s) → TableFault s steps (Length (min (length steps) (16 * s)))
  no_such_number : length steps ≡ 16 * s → (s ≡ 0) ⊎ (16 < s) → TableFault s steps States
  no_such_state : length steps ≡ 16 * s → 1 ≤ s → s ≤ 16 → (k : ℕ) → First (λ b. s ≤ b / 16) steps k → TableFault s steps (NextState k)

-- a class above 15
pub data ClassFault (classes : List ℕ) : PostFault → Type 0 where
  no_class : (k : ℕ) → First (λ c. 15 < c) classes k → ClassFault classes (Duty k)
