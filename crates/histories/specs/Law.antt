-- The law over every history of a plan.
use Rattle.std.specs.Prelude.{◌≡◌, ℕ, ◌^◌, ◌<◌, ◌≤◌, true, List, [], ◌∷◌, length, slice_index, slice_index_or}
use Rattle.masks.specs.Bit.{In}
use Rattle.families.specs.Masks.{OneOf}
use Rattle.families.specs.Meaning.{Meaning, workspace_needed}
use Rattle.settling.specs.Masks.{Masks}
use Rattle.counting.specs.Used.{KeepsOnlyUsed}
use Rattle.histories.specs.Decisions.{Decision, narrowed}
use Rattle.histories.specs.Calls.{Call, try, Question, Answer, done, reply}
use Rattle.histories.specs.Log.{Log, Starts, First, Turns}
use Rattle.histories.specs.Plans.{View, Shows, Run}

-- the cells of a draft: 192 masks of 16 bits, none of them empty
pub record DraftCells (cells : List ℕ) : Type 0 where
  pub size : length cells ≡ 192
  pub narrow : (i : ℕ) → slice_index cells i < 2 ^ 16
  pub open_all : (i : ℕ) → i < 192 → 0 < slice_index cells i

-- the same decisions in another order
pub data Reorder : List Decision → List Decision → Type 0 where
  nil : Reorder [] []
  keep : (d : Decision) (ds es : List Decision) → Reorder ds es → Reorder (d ∷ ds) (d ∷ es)
  swap : (d e : Decision) (ds : List Decision) → Reorder (d ∷ e ∷ ds) (e ∷ d ∷ ds)
  via : (ds es fs : List Decision) → Reorder ds es → Reorder es fs → Reorder ds fs

-- calls that make these decisions and nothing else, each on enough workspace
pub data Bare : List Decision → List Call → Type 0 where
  nil : Bare [] []
  cons : (d : Decision) (ds : List Decision) (w : ℕ) (cs : List Call) → workspace_needed ≤ w → Bare ds cs → Bare (d ∷ ds) (try d w ∷ cs)

-- a filling, a duty for each cell and a count for each rule's tally, lies within the masks
pub record Lies (m : Meaning) (duties counts : List ℕ) (s : Masks) : Type 0 where
  pub cells : (i : ℕ) → i < 192 → In (slice_index s.cells i) (slice_index duties i)
  pub tallies : (r : ℕ) → r < m.rules → In (slice_index s.tallies r) (slice_index counts r)

-- a solution: it fits the start masks and the decisions in the log, and every rule accepts it
pub record Obeys (m : Meaning) (start : Masks) (standing : List Decision) (duties counts : List ℕ) : Type 0 where
  pub cells : length duties ≡ 192
  pub rules : length counts ≡ m.rules
  pub lies : Lies m duties counts (narrowed standing start)
  pub allowed : (r : ℕ) → r < m.rules → (m.rule r).allows duties (slice_index counts r) ≡ true

-- a cell belongs to one rule at most, and every rule keeps nothing without a sequence for it
pub record Apart (m : Meaning) : Type 0 where
  pub no_cell_shared : (r q i : ℕ) → r < m.rules → q < m.rules → OneOf (m.rule r).scope i → OneOf (m.rule q).scope i → r ≡ q
  pub only_used : (r : ℕ) → r < m.rules → KeepsOnlyUsed (m.rule r)

-- every decision of a run was accepted
abbrev pub AllDone : List Answer → Type 0
AllDone ys = (j : ℕ) (a : Answer) → j < length ys → (n : ℕ) × (k : ℕ) × (slice_index_or ys j a ≡ done n k)

-- The law of a run: the start answers a, the calls cs are answered ys, and p is left.
pub record History (m : Meaning) (cells : List ℕ) (a : Answer) (cs : List Call) (ys : List Answer) (p : View) : Type 0 where
  -- the run itself
  pub run : Run m cells a cs ys p
  -- the decision log makes the same calls, and gives the same refusals, failures and levels
  pub start : Masks
  pub first : Log
  pub log : Log
  pub starts : Starts m cells start
  pub first_is : First m start first
  pub log_kept : Turns m start first cs ys log
  -- the plan is as the log has it: unless void, its masks are the largest within the start and the standing decisions
  pub plan_shows_log : Shows m start log p
  -- the calls determine the log
  pub log_is_one : (b c : Log) (zs : List Answer) → First m start b → Turns m start b cs zs c → c ≡ log
  -- and every answer, and what the plan holds
  pub answers_are_one : (e : Answer) (zs : List Answer) (q : View) → Run m cells e cs zs q → (e ≡ a) × (zs ≡ ys) × (q ≡ p)
  -- the decisions of the log can be made by themselves, in any order
  pub bare_run_exists : (es : List Decision) (xs : List Call) → Reorder es log.standing → Bare es xs → (e : Answer) × (zs : List Answer) × (q : View) × Run m cells e xs zs q
  -- and whoever does so has each accepted, and ends with a plan that is void if this one is and answers every question alike
  pub bare_runs_agree : (es : List Decision) (xs : List Call) (e : Answer) (zs : List Answer) (q : View) → Reorder es log.standing → Bare es xs → Run m cells e xs zs q
      → (q.void ≡ p.void) × AllDone zs × ((x : Question) → reply m q.void q.now x ≡ reply m p.void p.now x)
  -- solutions stay within the masks
  pub no_filling_lost : (duties counts : List ℕ) → Obeys m start log.standing duties counts → Lies m duties counts p.now
  -- and where rules are apart, every open duty and count is part of a solution
  pub duty_used : Apart m → (i d : ℕ) → i < 192 → In (slice_index p.now.cells i) d → (duties : List ℕ) × (counts : List ℕ) × Obeys m start log.standing duties counts × (slice_index duties i ≡ d)
  pub count_used : Apart m → (r k : ℕ) → r < m.rules → In (slice_index p.now.tallies r) k → (duties : List ℕ) × (counts : List ℕ) × Obeys m start log.standing duties counts × (slice_index counts r ≡ k)
