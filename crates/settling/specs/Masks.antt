-- The masks of a plan: those of its cells and of its tallies.
use Rattle.std.specs.Prelude.{◌≡◌, ℕ, ◌^◌, ◌<◌, ◌⊎◌, List, length, slice_index}
use Rattle.families.specs.Masks.{AllWithin}
use Rattle.families.specs.Meaning.{Meaning}
use Rattle.settling.specs.declared.Snapshot.{Snapshot}

pub record Masks : Type 0 where
  pub cells : List ℕ
  pub tallies : List ℕ

abbrev pub masks : List ℕ → List ℕ → Masks
masks c t = record { cells = c; tallies = t }

abbrev pub of : Snapshot → Masks
of s = masks s.cells s.tallies

-- 192 cells of 16 bits and 72 tallies of 64
pub record Sized (s : Masks) : Type 0 where
  pub cells : length s.cells ≡ 192
  pub narrow : (i : ℕ) → slice_index s.cells i < 2 ^ 16
  pub tallies : length s.tallies ≡ 72
  pub fit : (r : ℕ) → slice_index s.tallies r < 2 ^ 64

-- each mask of s is within that of t
pub record Inside (s t : Masks) : Type 0 where
  pub cells : AllWithin s.cells t.cells
  pub tallies : AllWithin s.tallies t.tallies

-- every cell, and the tally of every rule, holds a value
pub record AllOpen (m : Meaning) (s : Masks) : Type 0 where
  pub cells : (i : ℕ) → i < 192 → 0 < slice_index s.cells i
  pub tallies : (r : ℕ) → r < m.rules → 0 < slice_index s.tallies r

-- a cell, or the tally of a rule, holds none
abbrev pub SomeEmpty : Meaning → Masks → Type 0
SomeEmpty m s = ((i : ℕ) × (i < 192) × (slice_index s.cells i ≡ 0)) ⊎ ((r : ℕ) × (r < m.rules) × (slice_index s.tallies r ≡ 0))
