use Rattle.std.proofs.Common.{◌<◌, length, arith}
use Rattle.std.proofs.lemmas.Result.{err_from_is_err_and}
use Rattle.refusals.specs.declared.PlanFault.TheVariants.{Cell, EmptyMask}
use Rattle.histories.specs.Decisions.{on_cell}
use Rattle.histories.specs.Calls.{try}
use Rattle.histories.specs.Plans.{Step}
use Rattle.histories.proofs.Refusals.{try_from}
use Rattle.histories.proofs.Logs.{called}
use Rattle.planning.specs.Views.{view}
use Rattle.planning.proofs.Refusing.{decide_outside, decide_empty, decide_past}
use Rattle.planning.proofs.plan.Plan.decide.Goals as goal

pub returns-then-cell-ge192-clause-called : goal.returns-then-cell-ge192-clause-called
returns-then-cell-ge192-clause-called g c =
    let p = c.args.self.now in
    let m = g.F.Family.meaning p.held.family in
    let law = g.F.Family.lawful p.held.family in
    let w = length c.args.workspace.now in
    let d = on_cell c.args.cell c.args.mask in
    let n = length (view p).below in
    called m law (try d w) _ _ _ (Step.refuses (try d w) Cell (decide_outside m p.held.void n c.args.cell c.args.mask w (omega arith)))

pub returns-then-mask-eq0-clause-called : goal.returns-then-mask-eq0-clause-called
returns-then-mask-eq0-clause-called g c =
    let p = c.args.self.now in
    let m = g.F.Family.meaning p.held.family in
    let law = g.F.Family.lawful p.held.family in
    let w = length c.args.workspace.now in
    let d = on_cell c.args.cell c.args.mask in
    let n = length (view p).below in
    called m law (try d w) _ _ _ (Step.refuses (try d w) EmptyMask (decide_empty m p.held.void n c.args.cell c.args.mask w (omega arith) (omega arith)))

pub returns-in_err-check_try-clause-called : goal.returns-in_err-check_try-clause-called
returns-in_err-check_try-clause-called g c =
    let p = c.args.self.now in
    let m = g.F.Family.meaning p.held.family in
    let law = g.F.Family.lawful p.held.family in
    let w = length c.args.workspace.now in
    let d = on_cell c.args.cell c.args.mask in
    let n = length (view p).below in
    let o : 0 < c.args.mask = omega arith in
    let e = err_from_is_err_and c.from_residual.result c.from_residual.ensures.1 in
    rw (e.1, e.2) (called m law (try d w) _ _ _ (Step.refuses (try d w) _ (decide_past m p.held.void n c.args.cell c.args.mask w _ (omega arith) o c.in_err-check_try.ensures)))

pub returns-clause-called : goal.returns-clause-called
returns-clause-called g c =
    let p = c.args.self.now in
    let m = g.F.Family.meaning p.held.family in
    let law = g.F.Family.lawful p.held.family in
    let w = length c.args.workspace.now in
    let d = on_cell c.args.cell c.args.mask in
    let n = length (view p).below in
    let o : 0 < c.args.mask = omega arith in
    called m law (try d w) _ _ _ (c.try_cell.ensures.step (view p).below w (try_from m _ n d w (omega arith, o) c.in_ok-check_try.ensures.0 c.in_ok-check_try.ensures.1))
