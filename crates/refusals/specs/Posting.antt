-- Why posting, a frame or a line did not go through.
use Rattle.refusals.specs.declared.Stopped.{Stopped}
use Rattle.refusals.specs.declared.Stopped.TheVariants.{Fault, Memory}
use Rattle.refusals.specs.declared.PostFault.{PostFault}
use Rattle.refusals.specs.declared.FrameFault.{FrameFault}
use Rattle.refusals.specs.declared.FrameFault.TheVariants.{Post}
use Rattle.refusals.specs.declared.LineFault.{LineFault}
use Rattle.refusals.specs.declared.LineFault.TheVariants.{Frame}

abbrev pub PostError : Type 0
PostError = Stopped PostFault

abbrev pub FrameError : Type 0
FrameError = Stopped FrameFault

abbrev pub LineError : Type 0
LineError = Stopped LineFault

-- a fault P, or want of memory where nothing else is wrong
abbrev pub Refusing : (PostFault → Type 0) → Type 0 → PostError → Type 0
Refusing P good (Fault f) = P f
Refusing P good Memory = good

-- the same, told of a frame
abbrev pub frame_error : PostError → FrameError
frame_error (Fault f) = Fault (Post f)
frame_error Memory = Memory

-- and that, told of a line
abbrev pub line_error : FrameError → LineError
line_error (Fault f) = Fault (Frame f)
line_error Memory = Memory
