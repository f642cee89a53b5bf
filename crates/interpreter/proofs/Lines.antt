-- A line whose frame is not posted.
use Rattle.std.proofs.Common.{ℕ, Bool, List}
use Rattle.refusals.specs.Posting.{FrameError}
use Rattle.refusals.specs.declared.Stopped.TheVariants.{Fault, Memory}
use Rattle.refusals.specs.Posting.{line_error}
use Rattle.wire.specs.declared.frame.Frame.{Frame}
use Rattle.wire.specs.declared.order.Phase.TheVariants.{Draft}
use Rattle.posting.specs.Posts.{Refused}
use Rattle.posting.specs.Sheets.{Sheet}
use Rattle.interpreter.specs.Lines.{Spells, NoDraftLine, not_posted, no_memory}

pub line_refused : (text : List ℕ) (ended : Bool) (s : Sheet) (frame : Frame) → Spells Draft text ended frame → (e : FrameError) → Refused frame s e → NoDraftLine text ended s (line_error e)
line_refused text ended s frame spells (Fault f) h = not_posted frame spells f h
line_refused text ended s frame spells Memory h = no_memory frame spells h
