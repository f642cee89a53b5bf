use Rattle.std.proofs.Common.{◌<◌, length, arith}
use Rattle.std.proofs.lemmas.Result.{err_from_is_err_and}
use Rattle.refusals.specs.declared.PlanFault.TheVariants.{EmptyTally, Rule}
use Rattle.histories.specs.Decisions.{on_tally}
use Rattle.histories.specs.Calls.{try}
use Rattle.histories.specs.Plans.{Step}
use Rattle.histories.proofs.Refusals.{try_from}
use Rattle.histories.proofs.Logs.{called}
use Rattle.planning.specs.Views.{view}
use Rattle.planning.proofs.Refusing.{bound_empty, bound_outside, bound_past}
use Rattle.planning.proofs.plan.Plan.bound.Goals as goal

pub returns-then-tally-eq0-clause-called : goal.returns-then-tally-eq0-clause-called
returns-then-tally-eq0-clause-called g c =
    let p = c.args.self.now in
    let m = g.F.Family.meaning p.held.family in
    let law = g.F.Family.lawful p.held.family in
    let w = length c.args.workspace.now in
    let d = on_tally c.args.rule c.args.tally in
    let n = length (view p).below in
    called m law (try d w) _ _ _ (Step.refuses (try d w) EmptyTally (bound_empty m p.held.void n c.args.rule c.args.tally w (omega arith)))

pub returns-then-rule-rule_count-clause-called : goal.returns-then-rule-rule_count-clause-called
returns-then-rule-rule_count-clause-called g c =
    let p = c.args.self.now in
    let m = g.F.Family.meaning p.held.family in
    let law = g.F.Family.lawful p.held.family in
    let w = length c.args.workspace.now in
    let d = on_tally c.args.rule c.args.tally in
    let n = length (view p).below in
    let o : 0 < c.args.tally = omega arith in
    called m law (try d w) _ _ _ (Step.refuses (try d w) Rule (bound_outside m p.held.void n c.args.rule c.args.tally w o (omega arith)))

pub returns-in_err-check_try-clause-called : goal.returns-in_err-check_try-clause-called
returns-in_err-check_try-clause-called g c =
    let p = c.args.self.now in
    let m = g.F.Family.meaning p.held.family in
    let law = g.F.Family.lawful p.held.family in
    let w = length c.args.workspace.now in
    let d = on_tally c.args.rule c.args.tally in
    let n = length (view p).below in
    let o : 0 < c.args.tally = omega arith in
    let e = err_from_is_err_and c.from_residual.result c.from_residual.ensures.1 in
    rw (e.1, e.2) (called m law (try d w) _ _ _ (Step.refuses (try d w) _ (bound_past m p.held.void n c.args.rule c.args.tally w _ o (omega arith) c.in_err-check_try.ensures)))

pub returns-clause-called : goal.returns-clause-called
returns-clause-called g c =
    let p = c.args.self.now in
    let m = g.F.Family.meaning p.held.family in
    let law = g.F.Family.lawful p.held.family in
    let w = length c.args.workspace.now in
    let d = on_tally c.args.rule c.args.tally in
    let n = length (view p).below in
    let o : 0 < c.args.tally = omega arith in
    let h : c.args.rule < m.rules = omega arith in
    called m law (try d w) _ _ _ (c.try_tally.ensures.step (view p).below w (try_from m _ n d w (h, o) c.in_ok-check_try.ensures.0 c.in_ok-check_try.ensures.1))
