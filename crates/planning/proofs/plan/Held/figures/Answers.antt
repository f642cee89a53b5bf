use Rattle.std.proofs.Common.{length, arith}
use Rattle.std.proofs.lemmas.Result.{err_from_is_err_and}
use Rattle.histories.proofs.Logs.{called}
use Rattle.planning.specs.Views.{shown}
use Rattle.planning.proofs.Asking.{no_figures, short_figures, figures_void, figures_told}
use Rattle.planning.proofs.plan.Held.figures.Goals as goal

pub returns-then-rule-rule_count-clause-called : goal.returns-then-rule-rule_count-clause-called
returns-then-rule-rule_count-clause-called g c below =
    let p = c.args.self.now in
    called _ (g.F.Family.lawful p.family) _ _ _ _ (no_figures (g.F.Family.meaning p.family) (shown p below) c.args.rule (length c.args.workspace.now) (omega arith))

pub returns-in_err-check_workspace-clause-called : goal.returns-in_err-check_workspace-clause-called
returns-in_err-check_workspace-clause-called g c below =
    let p = c.args.self.now in
    let w = length c.args.workspace.now in
    let short = c.in_err-check_workspace.ensures in
    let e = err_from_is_err_and c.from_residual.result c.from_residual.ensures.1 in
    rw (e.1, e.2, short.0) (called _ (g.F.Family.lawful p.family) _ _ _ _ (short_figures (g.F.Family.meaning p.family) (shown p below) c.args.rule w (omega arith) short.1))

pub returns-then-self-clause-called : goal.returns-then-self-clause-called
returns-then-self-clause-called g c below =
    let p = c.args.self.now in
    called _ (g.F.Family.lawful p.family) _ _ _ _ (figures_void (g.F.Family.meaning p.family) (shown p below) c.args.rule (length c.args.workspace.now) (omega arith) c.in_ok-check_workspace.ensures c.if-self.true)

pub returns-clause-called : goal.returns-clause-called
returns-clause-called g c below =
    let p = c.args.self.now in
    called _ (g.F.Family.lawful p.family) _ _ _ _ (figures_told (g.F.Family.meaning p.family) (shown p below) c.args.rule (length c.args.workspace.now) c.figures.result (omega arith) c.in_ok-check_workspace.ensures c.if-self.false c.figures.ensures.figures)
