use Rattle.std.proofs.Common.{refl, subst}
use Rattle.std.proofs.lemmas.Result.{err_from_is_err_and}
use Rattle.families.specs.Laws.{Lawful}
use Rattle.histories.proofs.Histories.{history_of_run}
use Rattle.planning.specs.Views.{view}
use Rattle.posting.specs.Families.{meaning_of}
use Rattle.posting.specs.Sheets.{sheet_of}
use Rattle.interpreter.specs.Performing.{Performed, no_size, not_posted}
use Rattle.interpreter.proofs.Performing.{rules_lawful, makes_as, not_posted_from, drafts_from, ran_from}
use Rattle.interpreter.proofs.perform.perform.Goals as goal

pub returns-in_err-draft : goal.returns-in_err-draft
returns-in_err-draft c =
    let p = err_from_is_err_and c.from_residual.result c.from_residual.ensures.1 in
    let e = c.in_err-draft.ensures in
    rw (p.1, p.2, e.0) (record { beyond = λ k d h. refl; performed = no_size e.1 })

pub returns-in_err-post_all : goal.returns-in_err-post_all
returns-in_err-post_all c =
    let p = err_from_is_err_and c.from_residual-in_err-post_all.result c.from_residual-in_err-post_all.ensures.1 in
    let new = c.in_ok-draft.ensures.2 in
    rw (p.1, p.2) (record { beyond = λ k d h. refl; performed = not_posted _ _ (not_posted_from new c.in_err-post_all.ensures) })

pub returns : goal.returns
returns c =
    let s = sheet_of c.post_all.new.draft in
    let rules = c.start-plan.ensures.rules in
    let same = c.start-plan.auto.workspace in
    let made = makes_as rules.1 rules.0 same c.call_all-made.ensures.made in
    let law : Lawful (meaning_of s) = subst Lawful rules.1 (rules_lawful c.start-plan.result.0.plan.held.family) in
    let performed : Performed _ _ _ _ _ _ _ = record {
      s = s;
      drafts = drafts_from c.in_ok-draft.ensures.2 c.in_ok-post_all.ensures;
      calls = made.calls;
      answers = made.answers;
      are = made.are;
      history = λ h. history_of_run (meaning_of s) law s.masks c.start-plan.ensures.cells _ made.calls made.answers _ (view c.start-plan.result.0.plan, c.start-plan.ensures.begun h, made.ran);
      short = λ h. let e = c.start-plan.ensures.short h in (e.0, ran_from e.1 made.ran);
    } in
    record { beyond = c.call_all-made.ensures.beyond; performed = (c.call_all-made.ensures.stops, performed) }
