use Rattle.std.proofs.Common.{◌≡◌, ℕ, ◌<◌, get_or, sym, ap, ◌∙◌, subst, ap₂, arith, rules}
use Rattle.masks.specs.Members.{members}
use Rattle.sweeps.specs.Joining.{over}
use Rattle.sweeps.specs.Place.{Neutral}
use Rattle.sweeps.proofs.Overs.{neutral_none, neutral_join, over_neutral}
use Rattle.sweeps.proofs.Turns.{joined_more, joined_all, duties_wider}
use Rattle.sweeps.proofs.pull.Goals as goal

pub loop-duty-init : goal.loop-duty-init
loop-duty-init g c =
    let m = g.M.Measure.kind in
    let laws = g.M.Measure.laws in
    let a = g.C.CounterAutomaton.meaning c.args.automaton.now in
    let f : ℕ → ℕ = λ d. m.increase (get_or c.args.row.now (a.next c.args.state d) 0) (a.increase c.args.state d) in
    let whole : c.into_iter-duty-iterator.result.rest ≡ c.args.mask = cc in (
      tt,
      tt,
      subst (Neutral m) (sym c.none-code.ensures) (neutral_none laws),
      ap₂ (λ x (r : ℕ). m.join x (over m f (members 64 r))) c.none-code.ensures whole ∙ over_neutral laws f (members 64 c.args.mask),
    )

pub bounds-row-next : goal.bounds-row-next
bounds-row-next g c =
    let l = g.C.CounterAutomaton.lawful c.args.automaton.now in
    omega (arith, c.step-next.ensures.next, l.next_below c.args.state c.in-Some.duty, l.few)

pub offset_bounds-row-next : goal.offset_bounds-row-next
offset_bounds-row-next g c =
    let l = g.C.CounterAutomaton.lawful c.args.automaton.now in
    let h : c.step-next.result.0 < 16 = omega (arith, c.step-next.ensures.next, l.next_below c.args.state c.in-Some.duty, l.few) in
    search rules

pub loop-duty-preserved : goal.loop-duty-preserved
loop-duty-preserved g c =
    let m = g.M.Measure.kind in
    let laws = g.M.Measure.laws in
    let a = g.C.CounterAutomaton.meaning c.args.automaton.now in
    let row = c.args.row.now in
    let f : ℕ → ℕ = λ d. m.increase (get_or row (a.next c.args.state d) 0) (a.increase c.args.state d) in
    let x = c.loop-duty.code in
    let d = c.in-Some.duty in
    let new : c.join-code.result ≡ m.join x (f d) =
    c.join-code.ensures ∙ ap (m.join x) (c.increase.ensures ∙ ap₂ (λ n i. m.increase (get_or row n 0) i) c.step-next.ensures.next c.step-next.ensures.increase) in (
      tt,
      tt,
      subst (Neutral m) (sym new) (neutral_join laws x (f d) c.loop-duty.invariant.2),
      joined_more laws f x c.join-code.result d (over m f (members 64 c.args.mask)) (members 64 c.loop-duty.duty-iterator.rest) (members 64 c.next.new.self.rest)
          c.in-Some.ensures.steps new c.loop-duty.invariant.3,
    )

pub returns : goal.returns
returns g c =
    let m = g.M.Measure.kind in
    let a = g.C.CounterAutomaton.meaning c.args.automaton.now in
    let f : ℕ → ℕ = λ d. m.increase (get_or c.args.row.now (a.next c.args.state d) 0) (a.increase c.args.state d) in
    let mask = c.args.mask in
    joined_all g.M.Measure.laws f c.loop-duty.code (over m f (members 64 mask)) (members 64 c.loop-duty.duty-iterator.rest) c.in-None.ensures.steps c.loop-duty.invariant.2 c.loop-duty.invariant.3
    ∙ ap (over m f) (duties_wider mask (omega arith))
