-- The decision log: a machine that knows of decisions only. The masks that go with its decisions are characterised, as the largest that every rule
-- leaves alone.
use Rattle.std.specs.Prelude.{◌≡◌, ℕ, ◌+◌, ◌<◌, ◌≤◌, Bool, true, false, List, [], ◌∷◌, length, replicate, Some, None, Option, slice_index}
use Rattle.refusals.specs.declared.PlanFault.{PlanFault}
use Rattle.families.specs.Meaning.{Meaning}
use Rattle.settling.specs.Masks.{Masks, masks, AllOpen, SomeEmpty}
use Rattle.settling.specs.Rounds.{Place}
use Rattle.settling.specs.Largest.{Largest}
use Rattle.histories.specs.Decisions.{Decision, narrowed}
use Rattle.histories.specs.Calls.{Call, try, mark, back, ask, Question, Answer, done, failed, level, refused, refusal, reply}

-- whether the plan is void; the standing decisions, the newest first; and those at the mark of each open level, the newest level first
pub record Log : Type 0 where
  pub void : Bool
  pub standing : List Decision
  pub levels : List (List Decision)

-- the masks that a draft's cells and a family's start tallies make
pub record Starts (m : Meaning) (cells : List ℕ) (s : Masks) : Type 0 where
  pub cells_are : s.cells ≡ cells
  pub size : length s.tallies ≡ 72
  pub of_rules : (r : ℕ) → r < m.rules → slice_index s.tallies r ≡ (m.rule r).start
  pub beyond : (r : ℕ) → m.rules ≤ r → slice_index s.tallies r ≡ 0

-- the largest masks within s hold a value everywhere
abbrev pub Holds : Meaning → Masks → Type 0
Holds m s = (t : Masks) × Largest m s t × AllOpen m t

-- the largest masks within s have an empty one
abbrev pub Breaks : Meaning → Masks → Type 0
Breaks m s = (t : Masks) × Largest m s t × SomeEmpty m t

-- nothing open anywhere
abbrev pub nothing : Masks
nothing = masks (replicate 192 0) (replicate 72 0)

-- t are the masks of a log that is void, or has these decisions standing
pub record Has (m : Meaning) (start : Masks) (void : Bool) (standing : List Decision) (t : Masks) : Type 0 where
  pub nothing_where_void : void ≡ true → t ≡ nothing
  pub largest_else : void ≡ false → Largest m (narrowed standing start) t × AllOpen m t

-- the log at the start: void exactly where the largest masks have an empty one
pub data First (m : Meaning) (start : Masks) : Log → Type 0 where
  begins : Holds m start → First m start (record { void = false; standing = []; levels = [] })
  cannot : Breaks m start → First m start (record { void = true; standing = []; levels = [] })

-- the call is not refused
abbrev pub free : Meaning → Log → Call → Type 0
free m b c = refusal m b.void (length b.levels) c ≡ None

-- One call. Refused calls, questions and failed decisions leave the log alone. A decision is accepted just if the largest masks with it have
-- something everywhere. A mark remembers the decisions of the moment; back forgets all that came after the latest mark, and the mark itself.
pub data Turn (m : Meaning) (start : Masks) (b : Log) : Call → Answer → Log → Type 0 where
  refuses : (c : Call) (e : PlanFault) → refusal m b.void (length b.levels) c ≡ Some e → Turn m start b c (refused e) b
  stands : (d : Decision) (w n k : ℕ) → free m b (try d w) → Holds m (narrowed (d ∷ b.standing) start)
      → Turn m start b (try d w) (done n k) (record { void = false; standing = d ∷ b.standing; levels = b.levels })
  falls : (d : Decision) (w : ℕ) (o : Option (ℕ × Place)) (n k : ℕ) → free m b (try d w) → Breaks m (narrowed (d ∷ b.standing) start) → Turn m start b (try d w) (failed o n k) b
  opens : free m b mark → Turn m start b mark (level (length b.levels + 1)) (record { void = false; standing = b.standing; levels = b.standing ∷ b.levels })
  closes : (ds : List Decision) (ls : List (List Decision)) → free m b back → b.levels ≡ ds ∷ ls → Turn m start b back (level (length ls)) (record { void = false; standing = ds; levels = ls })
  tells : (q : Question) (w : ℕ) (t : Masks) → free m b (ask q w) → Has m start b.void b.standing t → Turn m start b (ask q w) (reply m b.void t q) b

-- any list of calls
pub data Turns (m : Meaning) (start : Masks) : Log → List Call → List Answer → Log → Type 0 where
  end : (b : Log) → Turns m start b [] [] b
  more : (a b c : Log) (x : Call) (xs : List Call) (y : Answer) (ys : List Answer) → Turn m start a x y b → Turns m start b xs ys c → Turns m start a (x ∷ xs) (y ∷ ys) c
