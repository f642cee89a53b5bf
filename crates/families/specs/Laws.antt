-- What every family shows of each of its rules, over masks as they are.
use Rattle.std.specs.Prelude.{◌≡◌, ℕ, ◌^◌, ◌<◌, ◌≤◌, true, false, ◌⊎◌, List, slice_index}
use Rattle.masks.specs.Bit.{In, Within}
use Rattle.families.specs.Masks.{Proper, AllWithin, OneOf}
use Rattle.families.specs.Meaning.{Left, Rule, Meaning, most_rules}

-- the filling picks an open duty in each cell of the scope
abbrev pub Fills : List ℕ → List ℕ → List ℕ → Type 0
Fills scope filling cells = (i : ℕ) → OneOf scope i → In (slice_index cells i) (slice_index filling i)

-- each cell of the scope has the filling's duty and no other
abbrev pub Single : List ℕ → List ℕ → List ℕ → Type 0
Single scope filling cells = (i : ℕ) → OneOf scope i → slice_index cells i ≡ 2 ^ slice_index filling i

-- a cell of the scope, or the tally, has nothing left
abbrev pub Emptied : List ℕ → Left → Type 0
Emptied scope left = ((i : ℕ) × OneOf scope i × (slice_index left.cells i ≡ 0)) ⊎ (left.tally ≡ 0)

pub record LawfulRule (r : Rule) : Type 0 where
  -- the start tally is never empty, and the rule's cells are cells of a plan
  pub starts_open : 0 < r.start
  pub start_fits : r.start < 2 ^ 64
  pub scope_inside : (i : ℕ) → OneOf r.scope i → i < 192
  -- a run touches no cell but the rule's own
  pub changes_only_scope : (c : List ℕ) (t i : ℕ) → Proper c t → (OneOf r.scope i → ⊥) → slice_index (r.leaves c t).cells i ≡ slice_index c i
  -- and reads nothing else
  pub reads_only_scope : (c d : List ℕ) (t : ℕ) → Proper c t → Proper d t → ((j : ℕ) → OneOf r.scope j → slice_index c j ≡ slice_index d j)
      → ((i : ℕ) → OneOf r.scope i → slice_index (r.leaves c t).cells i ≡ slice_index (r.leaves d t).cells i) × ((r.leaves c t).tally ≡ (r.leaves d t).tally)
  -- it only removes
  pub only_removes : (c : List ℕ) (t : ℕ) → Proper c t → AllWithin (r.leaves c t).cells c × Within (r.leaves c t).tally t
  -- from narrower masks a run never comes out wider
  pub monotone : (c d : List ℕ) (t u : ℕ) → Proper c t → Proper d u → AllWithin c d → Within t u
      → AllWithin (r.leaves c t).cells (r.leaves d u).cells × Within (r.leaves c t).tally (r.leaves d u).tally
  -- an accepted filling that fits before the run fits after it
  pub keeps_allowed : (c : List ℕ) (t : ℕ) (f : List ℕ) (k : ℕ) → Proper c t → Fills r.scope f c → In t k → r.allows f k ≡ true
      → Fills r.scope f (r.leaves c t).cells × In (r.leaves c t).tally k
  -- a single value everywhere: something is emptied just if that filling is not accepted
  pub decides_single : (c : List ℕ) (f : List ℕ) (k : ℕ) → Proper c (2 ^ k) → Single r.scope f c
      → (Emptied r.scope (r.leaves c (2 ^ k)) → r.allows f k ≡ false) × (r.allows f k ≡ false → Emptied r.scope (r.leaves c (2 ^ k)))

pub record Lawful (m : Meaning) : Type 0 where
  pub few : m.rules ≤ most_rules
  pub each : (r : ℕ) → r < m.rules → LawfulRule (m.rule r)
