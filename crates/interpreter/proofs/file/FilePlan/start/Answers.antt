use Rattle.std.proofs.Common.{ℕ, List, ap, ◌∙◌, subst}
use Rattle.families.specs.Meaning.{Meaning}
use Rattle.histories.specs.Plans.{Begun}
use Rattle.planning.specs.Views.{view, started}
use Rattle.posting.specs.Families.{rules_meaning, meaning_of}
use Rattle.posting.specs.Sheets.{sheet_of}
use Rattle.posting.specs.declared.sizes.PlanSize.{PlanSize}
use Rattle.interpreter.proofs.file.FilePlan.start.Goals as goal

pub returns-clause-rules : goal.returns-clause-rules
returns-clause-rules c =
    let made = c.finish-rules.ensures in (ap (λ (x : PlanSize). x.cells) made.masks.0, ap rules_meaning c.start-plan.ensures.family ∙ made.rules)

pub returns-clause-begun : goal.returns-clause-begun
returns-clause-begun c =
    let made = c.finish-rules.ensures in
    let s = sheet_of c.args.draft in
    let a = started c.start-plan.result.1 in
    let p = view c.start-plan.result.0 in
    λ h. subst (λ (xs : List ℕ). Begun (meaning_of s) xs a p) made.masks.1 (subst (λ (m : Meaning). Begun m c.finish-rules.result.draft.cells a p) made.rules (c.start-plan.ensures.begun h))
