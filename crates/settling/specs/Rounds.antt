-- Settling, run by run: propagation of all rules, round after round, until nothing more goes.
use Rattle.std.specs.Prelude.{◌≡◌, ℕ, ◌+◌, ◌<◌, ◌≤◌, length, slice_index, slice_set}
use Rattle.masks.specs.Members.{lost}
use Rattle.families.specs.Masks.{values_lost}
use Rattle.families.specs.Meaning.{Meaning, Left}
use Rattle.settling.specs.Masks.{Masks}

-- what a run of rule r leaves of the cells and of its own tally
abbrev pub left : Meaning → ℕ → Masks → Left
left m r s = (m.rule r).leaves s.cells (slice_index s.tallies r)

-- the masks after a run of rule r
abbrev pub run : Meaning → ℕ → Masks → Masks
run m r s = record { cells = (left m r s).cells; tallies = slice_set s.tallies r (left m r s).tally }

-- how many values that run takes
abbrev pub taken : Meaning → ℕ → Masks → ℕ
taken m r s = values_lost s.cells (left m r s).cells + length (lost 64 (slice_index s.tallies r) (left m r s).tally)

-- a mask: of a cell, or of the tally of the rule that ran
pub data Place : Type 0 where
  cell : ℕ → Place
  tally : Place

-- the mask that a failure names: the first cell with nothing left, or the tally of the rule that ran if every cell has something
pub data Names (s : Masks) (r : ℕ) : Place → Type 0 where
  lowest_cell : (i : ℕ) → i < 192 → slice_index s.cells i ≡ 0 → ((j : ℕ) → j < i → 0 < slice_index s.cells j) → Names s r (cell i)
  own_tally : ((j : ℕ) → j < 192 → 0 < slice_index s.cells j) → slice_index s.tallies r ≡ 0 → Names s r tally

-- no cell is empty, nor is the tally of rule r
pub record Full (s : Masks) (r : ℕ) : Type 0 where
  pub cells : (j : ℕ) → j < 192 → 0 < slice_index s.cells j
  pub tally : 0 < slice_index s.tallies r

-- how settling ends
pub data End : Type 0 where
  well : End
  fails : ℕ → Place → End

-- From the masks s, where rule r is next and this round has taken d values so far, settling makes n runs that take k values, leaves the masks
-- t and ends as e. A round that took nothing ends it well; another round follows one that took something; a run that leaves an empty mask
-- ends it at once.
pub data Settles (m : Meaning) (t : Masks) (e : End) : ℕ → ℕ → Masks → ℕ → ℕ → Type 0 where
  nothing_went : (r : ℕ) → m.rules ≤ r → e ≡ well → Settles m t e r 0 t 0 0
  next_round : (r d : ℕ) (s : Masks) (n k : ℕ) → m.rules ≤ r → 0 < d → Settles m t e 0 0 s n k → Settles m t e r d s n k
  empties : (r d : ℕ) (s : Masks) (p : Place) → r < m.rules → t ≡ run m r s → Names t r p → e ≡ fails r p → Settles m t e r d s 1 (taken m r s)
  next_rule : (r d : ℕ) (s : Masks) (n k : ℕ) → r < m.rules → Full (run m r s) r → Settles m t e (r + 1) (d + taken m r s) (run m r s) n k
      → Settles m t e r d s (n + 1) (taken m r s + k)
