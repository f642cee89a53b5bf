-- What settling comes to: the largest masks from which no rule removes anything (the greatest fixpoint).
use Rattle.std.specs.Prelude.{◌≡◌, ℕ, ◌+◌, ◌*◌, ◌<◌, ◌≤◌}
use Rattle.families.specs.Meaning.{Meaning}
use Rattle.settling.specs.Masks.{Masks, Inside, AllOpen, SomeEmpty}
use Rattle.settling.specs.Rounds.{run, Place, End, well, fails}

-- no rule removes anything
abbrev pub Stable : Meaning → Masks → Type 0
Stable m s = (r : ℕ) → r < m.rules → run m r s ≡ s

-- t is the largest of the masks within s from which no rule removes anything
pub record Largest (m : Meaning) (s t : Masks) : Type 0 where
  pub stable : Stable m t
  pub inside : Inside t s
  pub above : (u : Masks) → Stable m u → Inside u s → Inside u t

-- Where settling from s makes n runs that take k values, leaves t and ends as e: it ends well with the largest masks, none of them empty, or
-- it fails and the largest masks have an empty one; and the runs are few.
pub record Outcome (m : Meaning) (s t : Masks) (e : End) (n k : ℕ) : Type 0 where
  pub ends_with_largest : e ≡ well → Largest m s t × AllOpen m t
  pub fails_where_largest_is_empty : (r : ℕ) (p : Place) → e ≡ fails r p → (u : Masks) × Largest m s u × SomeEmpty m u
  pub few_runs : n ≤ m.rules * (1 + k)
