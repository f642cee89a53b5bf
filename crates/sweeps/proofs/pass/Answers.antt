use Rattle.std.proofs.Common.{ℕ, ◌<◌, get_or, ap, ◌∙◌, arith, length-set, rules}
use Rattle.masks.specs.Members.{members}
use Rattle.sweeps.specs.Joining.{over}
use Rattle.sweeps.specs.Place.{given}
use Rattle.sweeps.proofs.Turns.{pass_more, joined_all, duties_wider}
use Rattle.sweeps.proofs.pass.Goals as goal

pub bounds-row-next : goal.bounds-row-next
bounds-row-next g c =
    let l = g.C.CounterAutomaton.lawful c.args.automaton.now in
    omega (arith, c.step-next.ensures.next, l.next_below c.args.state c.in-Some.duty, l.few)

pub offset_bounds-row-next : goal.offset_bounds-row-next
offset_bounds-row-next g c =
    let l = g.C.CounterAutomaton.lawful c.args.automaton.now in
    let h : c.step-next.result.0 < 16 = omega (arith, c.step-next.ensures.next, l.next_below c.args.state c.in-Some.duty, l.few) in
    search rules

pub bounds-row-next-in-loop-duty : goal.bounds-row-next-in-loop-duty
bounds-row-next-in-loop-duty g c =
    let l = g.C.CounterAutomaton.lawful c.args.automaton.now in
    omega (arith, c.step-next.ensures.next, l.next_below c.args.state c.in-Some.duty, l.few)

pub offset_bounds-row-next-in-loop-duty : goal.offset_bounds-row-next-in-loop-duty
offset_bounds-row-next-in-loop-duty g c =
    let l = g.C.CounterAutomaton.lawful c.args.automaton.now in
    let h : c.step-next.result.0 < 16 = omega (arith, c.step-next.ensures.next, l.next_below c.args.state c.in-Some.duty, l.few) in
    search rules

pub loop-duty-preserved : goal.loop-duty-preserved
loop-duty-preserved g c =
    let m = g.M.Measure.kind in
    let a = g.C.CounterAutomaton.meaning c.args.automaton.now in
    let l = g.C.CounterAutomaton.lawful c.args.automaton.now in
    let row = c.loop-duty.row in
    let d = c.in-Some.duty in
    let next = c.step-next.result.0 in
    let v = c.join.result in
    let inv = c.loop-duty.invariant in
    let within : next < 16 = omega (arith, c.step-next.ensures.next, l.next_below c.args.state d, l.few) in
    let new =
    pass_more g.M.Measure.laws a c.args.state c.args.code (λ q. get_or c.args.row.now q 0) (members 64 c.args.mask) (members 64 c.loop-duty.duty-iterator.rest)
    (members 64 c.next.new.self.rest) row d next v c.in-Some.ensures.steps inv.2 within c.step-next.ensures.next
    (c.join.ensures ∙ ap (m.join (get_or row next 0)) (c.increase.ensures ∙ ap (m.increase c.args.code) c.step-next.ensures.increase)) inv.3 inv.4 in
    (tt, tt, length-set row next v ∙ inv.2, new.0, new.1)

pub returns : goal.returns
returns g c q h =
    let m = g.M.Measure.kind in
    let a = g.C.CounterAutomaton.meaning c.args.automaton.now in
    let f : ℕ → ℕ = given m a q c.args.state c.args.code in
    let mask = c.args.mask in
    let x = get_or c.args.row.now q 0 in
    joined_all g.M.Measure.laws f (get_or c.loop-duty.row q 0) (m.join x (over m f (members 64 mask))) (members 64 c.loop-duty.duty-iterator.rest) c.in-None.ensures.steps (c.loop-duty.invariant.3 q h) (c.loop-duty.invariant.4 q h)
    ∙ ap (λ ds. m.join x (over m f ds)) (duties_wider mask (omega arith))
