-- What a frame after the start does: which call it makes, and what that leaves.
use Rattle.std.specs.Prelude.{ℕ, ◌<◌, ◌≤◌, Bool, true, false, List, Ok, Err, Result}
use Rattle.std.specs.Borrow.{Bor}
use Rattle.refusals.specs.declared.PlanFault.{PlanFault}
use Rattle.refusals.specs.declared.PlanFault.TheVariants.{Cell}
use Rattle.refusals.specs.declared.FrameFault.{FrameFault}
use Rattle.refusals.specs.declared.FrameFault.TheVariants.{Order}
use Rattle.families.specs.Meaning.{Meaning}
use Rattle.histories.specs.Decisions.{on_cell, on_tally}
use Rattle.histories.specs.Calls.{try, mark, back}
use Rattle.histories.specs.Plans.{View, Called}
use Rattle.planning.specs.declared.plan.Try.{Try}
use Rattle.planning.specs.Views.{tried, leveled}
use Rattle.wire.specs.declared.frame.Frame.{Frame}
use Rattle.wire.specs.declared.frame.Frame.TheVariants as frame
use Rattle.interpreter.specs.declared.file.Told.{Told}
use Rattle.interpreter.specs.declared.file.Told.TheVariants.{Started, Decided, Bounded, Marked, Backed, Publish}

-- A decision on a cell of the file's, which has so many, is the plan's call. On any other cell it is refused, and no call is made.
pub data Decides (m : Meaning) (size w : ℕ) (p : View) (cell mask : ℕ) : Result Try PlanFault → View → Type 0 where
  decides : cell < size → (r : Result Try PlanFault) (q : View) → Called m (try (on_cell cell mask) w) (tried r) p q → Decides m size w p cell mask r q
  beyond : size ≤ cell → Decides m size w p cell mask (Err Cell) p

-- each frame, what it came to, and what it leaves, on a workspace of w numbers
pub data Tells (m : Meaning) (size w : ℕ) (p : View) : Frame → Told → View → Type 0 where
  decided : (cell mask : ℕ) (r : Result Try PlanFault) (q : View) → Decides m size w p cell mask r q → Tells m size w p (frame.Decide cell mask) (Decided cell r) q
  bounded : (rule tally : ℕ) (r : Result Try PlanFault) (q : View) → Called m (try (on_tally rule tally) w) (tried r) p q → Tells m size w p (frame.Bound rule tally) (Bounded rule r) q
  marked : (r : Result ℕ PlanFault) (q : View) → Called m mark (leveled r) p q → Tells m size w p frame.Mark (Marked r) q
  backed : (r : Result ℕ PlanFault) (q : View) → Called m back (leveled r) p q → Tells m size w p frame.Back (Backed r) q
  publishes : Tells m size w p frame.Publish Publish p

-- the frames that may not come to a running plan
pub data NoCall : Frame → FrameFault → Type 0 where
  size : (cells : ℕ) → NoCall (frame.Size cells) Order
  masks : (first number mask : ℕ) → NoCall (frame.Masks first number mask) Order
  among : (set : ℕ) → NoCall (frame.Among set) Order
  word : (duties : Bor (List ℕ)) → NoCall (frame.Word duties) Order
  table : (states : ℕ) (steps : Bor (List ℕ)) → NoCall (frame.Table states steps) Order
  map : (classes : Bor (List ℕ)) → NoCall (frame.Map classes) Order
  rule : (automaton sense tally : ℕ) (cells : Bor (List ℕ)) → NoCall (frame.Rule automaton sense tally cells) Order
  start : NoCall frame.Start Order

-- the answers after which the lent workspace is as it was: all but those of a try that is not refused
abbrev pub leaves_workspace : {E : Type 0} → Result Told E → Bool
leaves_workspace (Ok (Decided n (Ok t))) = false
leaves_workspace (Ok (Decided n (Err e))) = true
leaves_workspace (Ok (Bounded n (Ok t))) = false
leaves_workspace (Ok (Bounded n (Err e))) = true
leaves_workspace (Ok (Started s)) = true
leaves_workspace (Ok (Marked r)) = true
leaves_workspace (Ok (Backed r)) = true
leaves_workspace (Ok Publish) = true
leaves_workspace (Err e) = true
