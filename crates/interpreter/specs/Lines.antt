-- What a line does: the frame that it spells, carried out.
use Rattle.std.specs.Prelude.{◌≡◌, ℕ, Bool, List}
use Rattle.refusals.specs.declared.FrameFault.{FrameFault}
use Rattle.refusals.specs.declared.LineFault.{LineFault}
use Rattle.refusals.specs.declared.LineFault.TheVariants.{Frame as InFrame}
use Rattle.refusals.specs.Posting.{LineError}
use Rattle.refusals.specs.declared.Stopped.TheVariants.{Fault, Memory}
use Rattle.families.specs.Meaning.{Meaning}
use Rattle.histories.specs.Plans.{View}
use Rattle.wire.specs.declared.frame.Frame.{Frame}
use Rattle.wire.specs.declared.frame.Frame.TheVariants.{Size}
use Rattle.wire.specs.declared.order.Phase.{Phase}
use Rattle.wire.specs.declared.order.Phase.TheVariants.{Fresh, Draft, Running}
use Rattle.wire.specs.Digits.{Spelt, bytes_of}
use Rattle.wire.specs.Reading.{Reads, LineRefused}
use Rattle.posting.specs.declared.drafting.Drafted.{Drafted}
use Rattle.posting.specs.Posts as posts
use Rattle.posting.specs.Sheets.{Sheet, new_sheet}
use Rattle.interpreter.specs.declared.file.Told.{Told}
use Rattle.interpreter.specs.Calls.{Tells}

-- at this phase the line spells a frame, and that may come
pub record Spells (phase : Phase) (text : List ℕ) (ended : Bool) (frame : Frame) : Type 0 where
  pub spelt : Spelt text ended
  pub after : Phase
  pub reads : Reads phase (bytes_of text) after frame

-- the line opens a file: it says how many cells there are
pub record Opens (text : List ℕ) (ended : Bool) (s : Sheet) : Type 0 where
  pub cells : ℕ
  pub spells : Spells Fresh text ended (Size cells)
  pub new : s ≡ new_sheet cells

abbrev pub NotOpened : List ℕ → Bool → LineFault → Type 0
NotOpened text ended e = LineRefused Fresh text ended e

-- the line's frame is posted, or asks for the start
pub record DraftLine (text : List ℕ) (ended : Bool) (s t : Sheet) (d : Drafted) : Type 0 where
  pub frame : Frame
  pub spells : Spells Draft text ended frame
  pub taken : posts.Taken frame s t d

-- the line spells no frame that may come, or what it posts is at fault, or there is no memory for it
pub data NoDraftLine (text : List ℕ) (ended : Bool) (s : Sheet) : LineError → Type 0 where
  not_read : (e : LineFault) → LineRefused Draft text ended e → NoDraftLine text ended s (Fault e)
  not_posted : (frame : Frame) → Spells Draft text ended frame → (e : FrameFault) → posts.Refused frame s (Fault e) → NoDraftLine text ended s (Fault (InFrame e))
  no_memory : (frame : Frame) → Spells Draft text ended frame → posts.Refused frame s Memory → NoDraftLine text ended s Memory

-- the line's frame makes its call
pub record CallLine (text : List ℕ) (ended : Bool) (m : Meaning) (size w : ℕ) (p : View) (t : Told) (q : View) : Type 0 where
  pub frame : Frame
  pub spells : Spells Running text ended frame
  pub tells : Tells m size w p frame t q

abbrev pub NoCallLine : List ℕ → Bool → LineFault → Type 0
NoCallLine text ended e = LineRefused Running text ended e
