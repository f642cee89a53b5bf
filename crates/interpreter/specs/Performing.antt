-- Whole lists of frames: the draft that they make, the calls that they are, and the law.
use Rattle.std.specs.Prelude.{◌≡◌, ℕ, ◌<◌, ◌≤◌, Bool, true, false, ◌⊎◌, List, [], ◌∷◌, ◌++◌, length, take, Ok, Err, Result, slice_index_or}
use Rattle.refusals.specs.declared.PlanFault.{PlanFault}
use Rattle.refusals.specs.declared.PlanFault.TheVariants.{Cell}
use Rattle.refusals.specs.declared.FrameFault.TheVariants.{Order, Cells}
use Rattle.refusals.specs.Posting.{FrameError}
use Rattle.refusals.specs.declared.Stopped.TheVariants.{Fault}
use Rattle.families.specs.Meaning.{Meaning, workspace_needed}
use Rattle.histories.specs.Decisions.{on_cell, on_tally}
use Rattle.histories.specs.Calls as law
use Rattle.histories.specs.Calls.{try}
use Rattle.histories.specs.Law.{History}
use Rattle.histories.specs.Plans.{View, Ran, voided}
use Rattle.planning.specs.declared.plan.Try.{Try}
use Rattle.planning.specs.declared.plan.Start.{Start}
use Rattle.planning.specs.declared.plan.Start.TheVariants.{Short}
use Rattle.planning.specs.Views.{started, tried, leveled}
use Rattle.wire.specs.declared.frame.Frame.{Frame}
use Rattle.wire.specs.declared.frame.Frame.TheVariants as frame
use Rattle.posting.specs.Families.{meaning_of}
use Rattle.posting.specs.Posts as posts
use Rattle.posting.specs.Sheets.{Sheet, new_sheet}
use Rattle.interpreter.specs.declared.file.Told.{Told}
use Rattle.interpreter.specs.declared.file.Told.TheVariants.{Decided, Bounded, Marked, Backed}

-- one frame after the other is posted
pub data Drafts : Sheet → List Frame → Sheet → Type 0 where
  end : (s : Sheet) → Drafts s [] s
  more : (s t u : Sheet) (f : Frame) (fs : List Frame) → posts.Posts f s t → Drafts t fs u → Drafts s (f ∷ fs) u

-- the frames before number k are posted, and that one is refused; a start is out of order here
pub record NotPosted (s : Sheet) (fs : List Frame) (t : Sheet) (e : FrameError) : Type 0 where
  pub k : ℕ
  pub inside : k < length fs
  pub before : Drafts s (take k fs) t
  pub refused : posts.Refused (slice_index_or fs k (frame.Size 0)) t e ⊎ ((slice_index_or fs k (frame.Size 0) ≡ frame.Start) × (e ≡ Fault Order))

-- the frames that ask for a call
abbrev pub is_call : Frame → Bool
is_call (frame.Decide cell mask) = true
is_call (frame.Bound rule tally) = true
is_call frame.Mark = true
is_call frame.Back = true
is_call (frame.Size cells) = false
is_call (frame.Masks first number mask) = false
is_call (frame.Among set) = false
is_call (frame.Word duties) = false
is_call (frame.Table states steps) = false
is_call (frame.Map classes) = false
is_call (frame.Rule automaton sense tally cells) = false
is_call frame.Start = false
is_call frame.Publish = false

-- The call that a frame is, on a workspace of w numbers, and its answer. A decision on a cell that is none of the file's, which has so many, is
-- refused, and is no call.
pub data Is (size w : ℕ) : Frame → Told → List law.Call → List law.Answer → Type 0 where
  decide : (cell mask : ℕ) (r : Result Try PlanFault) → cell < size → Is size w (frame.Decide cell mask) (Decided cell r) (try (on_cell cell mask) w ∷ []) (tried r ∷ [])
  beyond : (cell mask : ℕ) → size ≤ cell → Is size w (frame.Decide cell mask) (Decided cell (Err Cell)) [] []
  bound : (rule tally : ℕ) (r : Result Try PlanFault) → Is size w (frame.Bound rule tally) (Bounded rule r) (try (on_tally rule tally) w ∷ []) (tried r ∷ [])
  mark : (r : Result ℕ PlanFault) → Is size w frame.Mark (Marked r) (law.mark ∷ []) (leveled r ∷ [])
  back : (r : Result ℕ PlanFault) → Is size w frame.Back (Backed r) (law.back ∷ []) (leveled r ∷ [])

-- the calls that a list of frames is
pub data Are (size w : ℕ) : List Frame → List Told → List law.Call → List law.Answer → Type 0 where
  end : Are size w [] [] [] []
  more : (f : Frame) (fs : List Frame) (t : Told) (ts : List Told) (cs ds : List law.Call) (ys zs : List law.Answer) → Is size w f t cs ys → Are size w fs ts ds zs → Are size w (f ∷ fs) (t ∷ ts) (cs ++ ds) (ys ++ zs)

-- the frames are these calls, and the plan makes them, each under its contract
pub record Makes (m : Meaning) (size w : ℕ) (p : View) (fs : List Frame) (ts : List Told) (q : View) : Type 0 where
  pub calls : List law.Call
  pub answers : List law.Answer
  pub are : Are size w fs ts calls answers
  pub ran : Ran m p calls answers q

-- n frames of a list were carried out: as many as are calls, and as there is room for answers
pub record Stops (fs : List Frame) (room n : ℕ) : Type 0 where
  pub in_list : n ≤ length fs
  pub in_room : n ≤ room
  pub at_end : n < length fs → n < room → is_call (slice_index_or fs n (frame.Size 0)) ≡ false

-- The law, of a file. The frames before the start make the sheet s, for a plan of so many cells; the start goes so; the frames after it are calls,
-- and what they came to their answers. Of these calls, with the sheet's masks and its family of rules, the law says all that it says, and q is what
-- the plan then shows. (On a workspace that is too short the plan is void from the start.)
pub record Performed (size w : ℕ) (before : List Frame) (st : Start) (after : List Frame) (told : List Told) (q : View) : Type 0 where
  pub s : Sheet
  pub drafts : Drafts (new_sheet size) before s
  pub calls : List law.Call
  pub answers : List law.Answer
  pub are : Are s.size w after told calls answers
  pub history : workspace_needed ≤ w → History (meaning_of s) s.masks (started st) calls answers q
  pub short : w < workspace_needed → (st ≡ Short) × Ran (meaning_of s) voided calls answers q

-- the number of cells is none, or a frame before the start is refused
pub data NotPerformed (size : ℕ) (before : List Frame) : FrameError → Type 0 where
  no_size : (size ≡ 0) ⊎ (193 ≤ size) → NotPerformed size before (Fault Cells)
  not_posted : (t : Sheet) (e : FrameError) → NotPosted (new_sheet size) before t e → NotPerformed size before e

-- how many calls were made: none of a file that is refused before its start
abbrev pub calls_made : {P S E : Type 0} → Result (P × S × ℕ) E → ℕ
calls_made (Ok x) = x.2
calls_made (Err e) = 0
