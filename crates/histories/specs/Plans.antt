-- A plan as it is seen from outside, what each call does to it, and runs: chains of calls.
use Rattle.std.specs.Prelude.{◌≡◌, ℕ, ◌+◌, ◌<◌, Bool, true, false, List, [], ◌∷◌, length, Some, None, slice_index_or}
use Rattle.refusals.specs.declared.PlanFault.{PlanFault}
use Rattle.families.specs.Meaning.{Meaning}
use Rattle.settling.specs.Masks.{Masks, Sized}
use Rattle.settling.specs.Rounds.{Place, well, fails, Settles}
use Rattle.histories.specs.Decisions.{Decision, narrow, named}
use Rattle.histories.specs.Calls.{Call, try, mark, back, ask, Question, Answer, done, failed, level, refused, refusal, reply}
use Rattle.histories.specs.Log.{Log, Starts, Has, First, Turn, nothing}

-- the present masks, those at the mark of each open level, the newest first, and whether the plan is void
pub record View : Type 0 where
  pub now : Masks
  pub below : List Masks
  pub void : Bool

-- the plan is as the log has it
pub record Shows (m : Meaning) (start : Masks) (b : Log) (p : View) : Type 0 where
  pub same_void : p.void ≡ b.void
  pub masks_now : Has m start b.void b.standing p.now
  pub same_levels : length p.below ≡ length b.levels
  pub masks_below : (i : ℕ) → i < length b.levels → Has m start false (slice_index_or b.levels i []) (slice_index_or p.below i p.now)

-- the call is not refused
abbrev pub Free : Meaning → View → Call → Type 0
Free m p c = refusal m p.void (length p.below) c ≡ None

-- What one call does: a refusal and a failed try leave the plan as it was; a try narrows the mask that it names and settles.
pub data Step (m : Meaning) (p : View) : Call → Answer → View → Type 0 where
  refuses : (c : Call) (e : PlanFault) → refusal m p.void (length p.below) c ≡ Some e → Step m p c (refused e) p
  empties : (d : Decision) (w : ℕ) → Free m p (try d w) → named d (narrow d p.now) ≡ 0 → Step m p (try d w) (failed None 0 0) p
  settles : (d : Decision) (w : ℕ) (t : Masks) (n k : ℕ) → Free m p (try d w) → 0 < named d (narrow d p.now) → Settles m t well 0 0 (narrow d p.now) n k
      → Step m p (try d w) (done n k) (record { now = t; below = p.below; void = p.void })
  breaks : (d : Decision) (w : ℕ) (u : Masks) (r : ℕ) (x : Place) (n k : ℕ) → Free m p (try d w) → 0 < named d (narrow d p.now) → Settles m u (fails r x) 0 0 (narrow d p.now) n k
      → Step m p (try d w) (failed (Some (r, x)) n k) p
  marks : Free m p mark → Step m p mark (level (length p.below + 1)) (record { now = p.now; below = p.now ∷ p.below; void = p.void })
  backs : (s : Masks) (ss : List Masks) → Free m p back → p.below ≡ s ∷ ss → Step m p back (level (length ss)) (record { now = s; below = ss; void = p.void })
  tells : (q : Question) (w : ℕ) → Free m p (ask q w) → Step m p (ask q w) (reply m p.void p.now q) p

-- The contract of one call: what it does, and that whatever log the plan shows, it shows the log after the call.
pub record Called (m : Meaning) (c : Call) (a : Answer) (p q : View) : Type 0 where
  pub step : Step m p c a q
  pub log_kept : (start : Masks) (b : Log) → Sized start → Shows m start b p → (e : Log) × Turn m start b c a e × Shows m start e q

-- a void plan
abbrev pub voided : View
voided = record { now = nothing; below = []; void = true }

-- What a start on enough workspace does: it settles the start masks; where that fails the plan is void, with nothing open.
pub data Begins (m : Meaning) (start : Masks) : Answer → View → Type 0 where
  settles : (t : Masks) (n k : ℕ) → Settles m t well 0 0 start n k → Begins m start (done n k) (record { now = t; below = []; void = false })
  breaks : (u : Masks) (r : ℕ) (x : Place) (n k : ℕ) → Settles m u (fails r x) 0 0 start n k → Begins m start (failed (Some (r, x)) n k) voided

-- the contract of a start
pub record Begun (m : Meaning) (cells : List ℕ) (a : Answer) (p : View) : Type 0 where
  pub start : Masks
  pub starts : Starts m cells start
  pub step : Begins m start a p
  pub log : Log
  pub first : First m start log
  pub shows : Shows m start log p

-- any list of calls, each under its contract
pub data Ran (m : Meaning) : View → List Call → List Answer → View → Type 0 where
  end : (p : View) → Ran m p [] [] p
  more : (p q r : View) (c : Call) (cs : List Call) (a : Answer) (ys : List Answer) → Called m c a p q → Ran m q cs ys r → Ran m p (c ∷ cs) (a ∷ ys) r

-- a start that answers a, and then the calls cs, answered ys, which leave q
abbrev pub Run : Meaning → List ℕ → Answer → List Call → List Answer → View → Type 0
Run m cells a cs ys q = (p : View) × Begun m cells a p × Ran m p cs ys q
