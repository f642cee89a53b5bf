use Rattle.std.proofs.Common.{◌≡◌, ◌+◌, length, get_or, Decides, ap, ◌∙◌, arith, rules}
use Rattle.words.proofs.Steps.{increase_is}
use Rattle.words.proofs.WordCounterAutomaton.step.Goals as goal
use Rattle.words.proofs.WordCounterAutomaton.step.Goals.{then-state-word-2, else-state-word-2}

pub returns-clause-increase : goal.returns-clause-increase
returns-clause-increase c =
    let w = c.args.self.now.duties.items in
    let q = c.args.state in
    let d = c.args.duty in
    let last : Decides c.if-state-word-2.occurs ((q + 1 ≡ length w) × (d ≡ get_or w q 0)) =
    elim c.if-state-word-2.branch [
      | then-state-word-2 v ↦ search rules
      | else-state-word-2 v ↦ search rules
    ] in
    c.from.ensures ∙ increase_is w q d (omega (arith, ap length c.as_slice-word.ensures.value)) (omega arith) _ last
