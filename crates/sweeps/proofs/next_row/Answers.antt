use Rattle.std.proofs.Common.{ℕ, get_or, sym, ap, ◌∙◌, subst, arith}
use Rattle.std.proofs.lemmas.List.{get_or-take}
use Rattle.sweeps.specs.Place.{Neutral, up_to, passed}
use Rattle.sweeps.proofs.Overs.{over_neutral}
use Rattle.sweeps.proofs.Turns.{push_more, push_none}
use Rattle.sweeps.proofs.next_row.Goals as goal
use Rattle.sweeps.proofs.next_row.Goals.{then-code-none, else-code-none}

pub pass-requires : goal.pass-requires
pass-requires g c q h =
    let m = g.M.Measure.kind in
    let a = g.C.CounterAutomaton.meaning c.args.automaton.now in
    subst (Neutral m) (sym (c.loop-state.invariant q h)) (over_neutral g.M.Measure.laws (λ p. passed m a c.args.mask q p (get_or c.args.row.now p 0)) (up_to c.loop-state.state))

pub loop-state-preserved : goal.loop-state-preserved
loop-state-preserved g c q h =
    let laws = g.M.Measure.laws in
    let a = g.C.CounterAutomaton.meaning c.args.automaton.now in
    let x : ℕ → ℕ = λ p. get_or c.args.row.now p 0 in
    let p = c.loop-state.state in
    let old = get_or c.loop-state.new q 0 in
    let here = get_or-take c.states.result c.args.row.now p 0 (omega arith) in
    elim c.if-code-none.branch [
      | then-code-none w ↦ simp w.new-is (push_more laws a c.args.mask x q p (get_or w.pass.new.row q 0) old (c.loop-state.invariant q h) (w.pass.ensures q h ∙ ap (λ v. g.M.Measure.kind.join old (passed g.M.Measure.kind a c.args.mask q p v)) here))
      | else-code-none w ↦ simp w.new-is (push_none laws a c.args.mask x q p old (sym here ∙ w.if-code-none.false ∙ c.none.ensures) (c.loop-state.invariant q h))
    ]
