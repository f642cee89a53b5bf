-- Rows: the cells that a rule reads, in order.
use Rattle.std.specs.Prelude.{◌≡◌, ℕ, ◌<◌, ◌≤◌, min, ◌⊎◌, List, length, slice_index}
use Rattle.refusals.specs.declared.PostFault.{PostFault}
use Rattle.refusals.specs.declared.PostFault.TheVariants.{Length, Cell, Repeated}
use Rattle.refusals.specs.First.{First}

-- the cell at index i stood before
abbrev pub StoodBefore : List ℕ → ℕ → Type 0
StoodBefore cells i = (j : ℕ) × (j < i) × (slice_index cells j ≡ slice_index cells i)

-- no cell stands twice
abbrev pub Different : List ℕ → Type 0
Different cells = (i : ℕ) → i < length cells → StoodBefore cells i → ⊥

-- 1 to 64 different cells below a limit
pub record GoodRow (limit : ℕ) (cells : List ℕ) : Type 0 where
  pub some : 1 ≤ length cells
  pub few : length cells ≤ 64
  pub below : (i : ℕ) → i < length cells → slice_index cells i < limit
  pub different : Different cells

-- A row is judged by its length, then each cell by the limit, then each cell by those before it.
pub data RowFault (limit : ℕ) (cells : List ℕ) : PostFault → Type 0 where
  wrong_length : (length cells ≡ 0) ⊎ (64 < length cells) → RowFault limit cells (Length (min (length cells) 64))
  no_cell : 1 ≤ length cells → length cells ≤ 64 → (i : ℕ) → First (λ c. limit ≤ c) cells i → RowFault limit cells (Cell i)
  repeats : 1 ≤ length cells → length cells ≤ 64 → ((j : ℕ) → j < length cells → slice_index cells j < limit)
      → (i : ℕ) → i < length cells → StoodBefore cells i → ((j : ℕ) → j < i → StoodBefore cells j → ⊥) → RowFault limit cells (Repeated i)
