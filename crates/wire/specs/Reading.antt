-- What a frame and a line are read as, and what is refused of them.
use Rattle.std.specs.Prelude.{◌≡◌, ℕ, ◌≤◌, Bool, List, length, drop, Some, None, Ok, Err, Result, slice_index}
use Rattle.refusals.specs.declared.FileFault.{FileFault}
use Rattle.refusals.specs.declared.FrameFault.{FrameFault}
use Rattle.refusals.specs.declared.FrameFault.TheVariants as faults
use Rattle.refusals.specs.declared.LineFault.{LineFault}
use Rattle.refusals.specs.declared.LineFault.TheVariants.{Frame as InFrame}
use Rattle.wire.specs.declared.frame.Frame.{Frame}
use Rattle.wire.specs.declared.kind.Kind.{Kind}
use Rattle.wire.specs.declared.order.Phase.{Phase}
use Rattle.wire.specs.Digits.{Spelt, TextFault, bytes_of}
use Rattle.wire.specs.Frames.{Body, BodyFault}
use Rattle.wire.specs.Kinds.{kind_number}
use Rattle.wire.specs.Order.{phase_after}

-- the first byte is the number of the kind
pub record Begins (bytes : List ℕ) (kind : Kind) : Type 0 where
  pub some : 1 ≤ length bytes
  pub first : kind_number kind ≡ slice_index bytes 0

abbrev pub NoKind : List ℕ → Type 0
NoKind bytes = (kind : Kind) → Begins bytes kind → ⊥

-- the bytes are a frame of a kind that may come at this phase: what it shows, and the phase after it
pub record Reads (phase : Phase) (bytes : List ℕ) (after : Phase) (frame : Frame) : Type 0 where
  pub kind : Kind
  pub begins : Begins bytes kind
  pub order : phase_after phase kind ≡ Some after
  pub body : Body kind (drop 1 bytes) frame

-- A frame is judged by its kind, then by its order, then by the bytes after the kind.
pub data Refused (phase : Phase) (bytes : List ℕ) : FrameFault → Type 0 where
  no_kind : NoKind bytes → Refused phase bytes faults.Kind
  out_of_order : (kind : Kind) → Begins bytes kind → phase_after phase kind ≡ None → Refused phase bytes faults.Order
  body : (kind : Kind) (after : Phase) → Begins bytes kind → phase_after phase kind ≡ Some after → (e : FrameFault) → BodyFault kind (drop 1 bytes) e → Refused phase bytes e

-- A line is judged by its text, and then by the frame that it spells.
pub data LineRefused (phase : Phase) (text : List ℕ) (ended : Bool) : LineFault → Type 0 where
  by_text : (e : LineFault) → TextFault text ended e → LineRefused phase text ended e
  by_frame : Spelt text ended → (e : FrameFault) → Refused phase (bytes_of text) e → LineRefused phase text ended (InFrame e)

-- a refusal with the number of its line
abbrev pub numbered : {T : Type 0} → ℕ → Result T LineFault → Result T FileFault
numbered line (Ok read) = Ok read
numbered line (Err fault) = Err (record { line = line; fault = fault })
