-- The number, layer and place of each refusal. No number of a refusal is written anywhere else in specs/.
use Rattle.std.specs.Prelude.{ℕ}
use Rattle.refusals.specs.declared.Layer.{Layer}
use Rattle.refusals.specs.declared.Layer.TheVariants.{Line, Frame, Post, Plan}
use Rattle.refusals.specs.declared.Report.{Report}
use Rattle.refusals.specs.declared.PostFault.{PostFault}
use Rattle.refusals.specs.declared.PostFault.TheVariants.{Length, Cell, Range, EmptyMask, States, NextState, Duty, Repeated, Sense, Automaton, EmptyTally, TooManyRules, GivenBefore, NotGiven, FamilyFull}
use Rattle.refusals.specs.declared.PlanFault.{PlanFault}
use Rattle.refusals.specs.declared.PlanFault.TheVariants as plan
use Rattle.refusals.specs.declared.FrameFault.{FrameFault}
use Rattle.refusals.specs.declared.FrameFault.TheVariants as frame
use Rattle.refusals.specs.declared.LineFault.{LineFault}
use Rattle.refusals.specs.declared.LineFault.TheVariants as line
use Rattle.refusals.specs.declared.FileFault.{FileFault}

abbrev pub refusal : ℕ → Layer → ℕ → Report
refusal number layer place = record { number = number; layer = layer; place = place }

abbrev pub post_report : PostFault → Report
post_report (Length place) = refusal 4 Post place
post_report (Cell place) = refusal 6 Post place
post_report Range = refusal 6 Post 0
post_report EmptyMask = refusal 7 Post 0
post_report States = refusal 8 Post 0
post_report (NextState place) = refusal 8 Post place
post_report (Duty place) = refusal 9 Post place
post_report (Repeated place) = refusal 10 Post place
post_report Sense = refusal 11 Post 0
post_report Automaton = refusal 11 Post 0
post_report EmptyTally = refusal 12 Post 0
post_report TooManyRules = refusal 15 Post 0
post_report GivenBefore = refusal 22 Post 0
post_report NotGiven = refusal 23 Post 0
post_report FamilyFull = refusal 24 Post 0

abbrev pub plan_report : PlanFault → Report
plan_report plan.Cell = refusal 6 Plan 0
plan_report plan.EmptyMask = refusal 7 Plan 0
plan_report plan.EmptyTally = refusal 12 Plan 0
plan_report plan.Rule = refusal 13 Plan 0
plan_report plan.Workspace = refusal 14 Plan 0
plan_report plan.Void = refusal 25 Plan 0
plan_report plan.LevelsFull = refusal 26 Plan 0
plan_report plan.NoLevel = refusal 27 Plan 0

abbrev pub frame_report : FrameFault → Report
frame_report frame.Kind = refusal 3 Frame 0
frame_report frame.Fixed = refusal 4 Frame 0
frame_report frame.Cells = refusal 5 Frame 0
frame_report frame.Order = refusal 21 Frame 0
frame_report (frame.Post fault) = post_report fault
frame_report (frame.Plan fault) = plan_report fault

abbrev pub line_report : LineFault → Report
line_report line.Line = refusal 1 Line 0
line_report (line.Digit place) = refusal 2 Line place
line_report (line.Frame fault) = frame_report fault

-- the number of the line stands beside the report
abbrev pub file_report : FileFault → Report
file_report f = line_report f.fault
