use Rattle.std.proofs.Common.{sym, ◌∙◌, rules}
use Rattle.std.proofs.lemmas.Bool.{not-false}
use denote.Enum.Bare.{same_true}
use Rattle.rules.specs.contracts.Sense.{the_type}
use Rattle.runs.proofs.Sides.{both_as, needed_both}
use Rattle.runs.proofs.run.Goals as goal
use Rattle.runs.proofs.run.Goals.{then-ne+in_ok-sweep, else-ne, then-ne-2+in_ok-sweep-2, else-ne-2}

pub new-swept-requires-clause-swept : goal.new-swept-requires-clause-swept
new-swept-requires-clause-swept g c =
    let l = c.new-least.ensures in
    let k = c.new-greatest.ensures in
    needed_both c.sense-sense.result _ _ _ _
    (λ ne. elim c.if-ne.branch [
      | then-ne+in_ok-sweep w ↦ both_as w.in_ok-sweep.ensures (l.forth ∙ w.least_forth-is) (l.back ∙ w.least_back-is)
      | else-ne w ↦ absurd (ne (same_true the_type (search rules) _ _ (not-false _ (sym c.ne.ensures ∙ w.if-ne.false))))
    ])
    (λ ne. elim c.if-ne-2.branch [
      | then-ne-2+in_ok-sweep-2 w ↦ both_as w.in_ok-sweep-2.ensures (k.forth ∙ w.greatest_forth-is) (k.back ∙ w.greatest_back-is)
      | else-ne-2 w ↦ absurd (ne (same_true the_type (search rules) _ _ (not-false _ (sym c.ne-2.ensures ∙ w.if-ne-2.false))))
    ])
