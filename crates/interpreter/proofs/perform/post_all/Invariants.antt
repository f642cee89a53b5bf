use Rattle.std.proofs.Common.{take}
use Rattle.posting.specs.Sheets.{sheet_of}
use Rattle.interpreter.specs.Performing.{Drafts}
use Rattle.interpreter.proofs.perform.post_all.Given as goal

abbrev pub invariant-loop-frame : goal.invariant-loop-frame
invariant-loop-frame l = Drafts (sheet_of l.initial.draft) (take l.frame-index l.posts) (sheet_of l.draft)
