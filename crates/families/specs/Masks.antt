-- The masks of a plan's cells, and of one tally.
use Rattle.std.specs.Prelude.{◌≡◌, ℕ, ◌+◌, ◌^◌, ◌<◌, List, [], ◌∷◌, length, slice_index}
use Rattle.masks.specs.Bit.{Within}
use Rattle.masks.specs.Members.{lost}

-- masks of the sizes that a plan has, whether or not they are empty
pub record Proper (cells : List ℕ) (tally : ℕ) : Type 0 where
  pub size : length cells ≡ 192
  pub narrow : (i : ℕ) → slice_index cells i < 2 ^ 16
  pub fits : tally < 2 ^ 64

-- each mask of one list is within that of the other at its index
pub record AllWithin (xs ys : List ℕ) : Type 0 where
  pub size : length xs ≡ length ys
  pub each : (i : ℕ) → Within (slice_index xs i) (slice_index ys i)

-- how many values went from the first list of masks to the second
abbrev pub values_lost : List ℕ → List ℕ → ℕ
values_lost [] ys = 0
values_lost (x ∷ xs) [] = 0
values_lost (x ∷ xs) (y ∷ ys) = length (lost 64 x y) + values_lost xs ys

-- i is one of a list
abbrev pub OneOf : List ℕ → ℕ → Type 0
OneOf xs i = (j : ℕ) × (j < length xs) × (slice_index xs j ≡ i)
