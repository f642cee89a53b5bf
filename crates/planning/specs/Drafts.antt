-- Setting the masks of a draft.
use Rattle.std.specs.Prelude.{◌≡◌, ℕ, ◌+◌, ◌<◌, ◌≤◌, ◌⊎◌, List, length, slice_index}
use Rattle.refusals.specs.declared.PostFault.{PostFault}
use Rattle.refusals.specs.declared.PostFault.TheVariants.{Range, EmptyMask}

-- a range of cells that is not empty and runs no further than the last
abbrev pub GoodRange : ℕ → ℕ → Type 0
GoodRange first number = (1 ≤ number) × (first + number ≤ 192)

-- the range is judged first, then the mask
pub data RangeFault (first number mask : ℕ) : PostFault → Type 0 where
  no_range : (number ≡ 0) ⊎ (192 < first + number) → RangeFault first number mask Range
  no_duty : GoodRange first number → mask ≡ 0 → RangeFault first number mask EmptyMask

-- the cells of the range have the mask, and the others what they had
pub record RangeSet (first number mask : ℕ) (old new : List ℕ) : Type 0 where
  pub size : length new ≡ length old
  pub inside : (i : ℕ) → first ≤ i → i < first + number → slice_index new i ≡ mask
  pub before : (i : ℕ) → i < first → slice_index new i ≡ slice_index old i
  pub behind : (i : ℕ) → first + number ≤ i → slice_index new i ≡ slice_index old i
