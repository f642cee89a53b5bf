use Rattle.std.proofs.Common.{length, refl, inl}
use Rattle.planning.specs.Views.{read}
use Rattle.posting.specs.Families.{rules_meaning}
use Rattle.interpreter.proofs.Asking.{tally_answer, tally_refused, figures_answer}
use Rattle.interpreter.proofs.file.FileRoster.rule.Goals as goal

pub returns-in_err-tally-clause-told : goal.returns-in_err-tally-clause-told
returns-in_err-tally-clause-told c =
    let m = rules_meaning c.args.self.now.roster.held.family in
    let p = read c.args.self.now.roster in
    rw c.from_residual.ensures (inl (tally_refused m p c.args.rule 0 c.tally.result c.in_err-tally.ensures.value (c.tally.ensures 0).step))

pub returns-clause-told : goal.returns-clause-told
returns-clause-told c =
    let m = rules_meaning c.args.self.now.roster.held.family in
    let p = read c.args.self.now.roster in
    let r = c.args.rule in
    let tally = tally_answer m p r 0 c.in_ok-tally.tally c.tally.result c.in_ok-tally.ensures.value (c.tally.ensures 0).step in
    (tally.0, refl, tally.1, figures_answer m p r (length c.args.workspace.now) c.in_ok-figures.figures c.figures.result c.in_ok-figures.ensures.value tally.0 c.figures.ensures.called.step)
