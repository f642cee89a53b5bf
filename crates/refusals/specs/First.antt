-- The first index at fault in a list.
use Rattle.std.specs.Prelude.{ℕ, ◌<◌, List, length, slice_index}

-- index p is the lowest at which P holds
pub record First (P : ℕ → Type 0) (xs : List ℕ) (p : ℕ) : Type 0 where
  pub inside : p < length xs
  pub here : P (slice_index xs p)
  pub before : (k : ℕ) → k < p → P (slice_index xs k) → ⊥
