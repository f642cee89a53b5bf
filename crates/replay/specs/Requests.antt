-- A list of calls and its answers, in the terms of the law.
use Rattle.std.specs.Prelude.{ℕ, min, Ok, Err, Result}
use Rattle.refusals.specs.declared.PlanFault.{PlanFault}
use Rattle.histories.specs.Decisions.{on_cell, on_tally}
use Rattle.histories.specs.Calls as law
use Rattle.histories.specs.Calls.{try, mark, back, ask, of_cell, of_tally, of_figures, level, holds, figures, refused}
use Rattle.planning.specs.Views.{tried}
use Rattle.replay.specs.declared.Request.{Request}
use Rattle.replay.specs.declared.Request.TheVariants.{Decide, Bound, Mark, Back, Cell, Tally, Figures}
use Rattle.replay.specs.declared.Call.{Call}
use Rattle.replay.specs.declared.Answer.{Answer}
use Rattle.replay.specs.declared.Answer.TheVariants as answer

-- a request on a workspace of w numbers
abbrev pub request_of : ℕ → Request → law.Call
request_of w (Decide cell mask) = try (on_cell cell mask) w
request_of w (Bound rule tally) = try (on_tally rule tally) w
request_of w Mark = mark
request_of w Back = back
request_of w (Cell cell) = ask (of_cell cell) w
request_of w (Tally rule) = ask (of_tally rule) w
request_of w (Figures rule) = ask (of_figures rule) w

-- a call where w numbers are lent: it has as many of them as it asks for
abbrev pub call_of : ℕ → Call → law.Call
call_of w c = request_of (min c.workspace w) c.request

abbrev pub answer_of : Result Answer PlanFault → law.Answer
answer_of (Ok (answer.Tried t)) = tried (Ok t)
answer_of (Ok (answer.Level n)) = level n
answer_of (Ok (answer.Mask x)) = holds x
answer_of (Ok (answer.Told o)) = figures o
answer_of (Err e) = refused e
