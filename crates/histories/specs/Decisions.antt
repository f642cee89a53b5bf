-- Decisions: what a planner asks of a plan, each a narrowing of one mask.
use Rattle.std.specs.Prelude.{ℕ, List, [], ◌∷◌, bit_and, slice_index, slice_set}
use Rattle.settling.specs.Masks.{Masks, masks}

-- keep of a cell's mask, or of a rule's tally, what a given mask has
pub data Decision : Type 0 where
  on_cell : ℕ → ℕ → Decision
  on_tally : ℕ → ℕ → Decision

abbrev pub narrow : Decision → Masks → Masks
narrow (on_cell i x) s = masks (slice_set s.cells i (bit_and (slice_index s.cells i) x)) s.tallies
narrow (on_tally r x) s = masks s.cells (slice_set s.tallies r (bit_and (slice_index s.tallies r) x))

-- the masks within all the decisions of a list
abbrev pub narrowed : List Decision → Masks → Masks
narrowed [] s = s
narrowed (d ∷ ds) s = narrow d (narrowed ds s)

-- the mask that a decision names
abbrev pub named : Decision → Masks → ℕ
named (on_cell i x) s = slice_index s.cells i
named (on_tally r x) s = slice_index s.tallies r
