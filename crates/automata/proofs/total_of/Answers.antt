use Rattle.std.proofs.Common.{◌≡◌, ℕ, ◌+◌, get_or, drop, ap, arith}
use Rattle.std.proofs.lemmas.List.{at_drop_more, at_drop_all}
use Rattle.automata.specs.Reading.{total}
use Rattle.automata.proofs.total_of.Goals as goal

pub loop-duty-preserved : goal.loop-duty-preserved
loop-duty-preserved g c =
    let a = g.C.CounterAutomaton.meaning c.args.automaton.now in
    let i = c.loop-duty.duty-index in
    let ds = c.args.duties.now in
    let q = c.loop-duty.state in
    let here : total a q (drop i ds) ≡ a.increase q (get_or ds i 0) + total a (a.next q (get_or ds i 0)) (drop (i + 1) ds) = at_drop_more (total a q) ds i 0 (omega arith) in
    let next : total a c.step-next.result.0 (drop (i + 1) ds) ≡ total a (a.next q (get_or ds i 0)) (drop (i + 1) ds) = ap (λ (p : ℕ). total a p (drop (i + 1) ds)) c.step-next.ensures.next in
    (omega arith, omega (arith, here, next, c.step-next.ensures.increase, c.loop-duty.invariant.1))

pub returns : goal.returns
returns g c =
    let a = g.C.CounterAutomaton.meaning c.args.automaton.now in
    let none : total a c.loop-duty.state (drop c.loop-duty.duty-index c.args.duties.now) ≡ 0 = at_drop_all (total a c.loop-duty.state) c.args.duties.now c.loop-duty.duty-index (omega arith) in
    omega (arith, none, c.loop-duty.invariant.1)
