use Rattle.std.proofs.Common.{◌≡◌, ℕ, ◌+◌, ◌*◌, ◌<◌, ◌≤◌, [], length, get_or, take, sym, refl, ap, ◌∙◌, subst, ⊎_elim, arith, rules}
use Rattle.std.proofs.Math.Seq.{take-length}
use Rattle.std.proofs.lemmas.Bool.{cases_lt}
use Rattle.sweeps.specs.Place.{pulled}
use Rattle.sweeps.specs.Sweep.{backward_at}
use Rattle.sweeps.proofs.BackwardPlace.{backward_last, backward_next}
use Rattle.sweeps.proofs.Turns.{back_turn}
use Rattle.sweeps.proofs.backward.Goals as goal

pub loop-i-init : goal.loop-i-init
loop-i-init g c =
    let m = g.M.Measure.kind in
    let a = g.C.CounterAutomaton.meaning c.args.automaton.now in
    let few = (g.C.CounterAutomaton.lawful c.args.automaton.now).few in
    let ms = c.args.masks.now in
    let at : ℕ → ℕ → ℕ = backward_at m a ms in
    let last = c.last_row-row.ensures in
    let stored = c.store.ensures in
    let states : c.states.result ≡ a.states = c.states.ensures in
    let row : (q : ℕ) → q < a.states → get_or c.last_row-row.result q 0 ≡ at (length ms) q =
    λ q h. last.each q (omega arith) ∙ sym (backward_last g.M.Measure.laws a ms (length ms) q (omega arith)) in
    let whole : c.into_iter-i-iterator.result.iter.iter.rest.now ≡ ms = cc in
    let long : length c.into_iter-i-iterator.result.iter.iter.rest.now ≡ length ms = ap length whole in (
      whole ∙ sym (take-length ms) ∙ ap (λ n. take n ms) (sym long),
      (cc),
      λ q h. row q h ∙ ap (λ n. at n q) (sym long),
      λ i q h l k.
          let here : i ≡ length ms = omega arith in
          subst (λ (n : ℕ). get_or c.store.new.codes (16 * n + q) 0 ≡ at n q) (sym here) (stored.here q (omega arith) ∙ row q k),
      λ i q h l k s.
          let here : i ≡ length ms = omega arith in
          subst (λ (n : ℕ). get_or c.store.new.codes (16 * n + q) 0 ≡ m.none) (sym here) (stored.here q s ∙ last.absent q (omega arith) s),
      λ k h. refl,
    )

pub loop-i-preserved : goal.loop-i-preserved
loop-i-preserved g c =
    let m = g.M.Measure.kind in
    let a = g.C.CounterAutomaton.meaning c.args.automaton.now in
    let lawful = g.C.CounterAutomaton.lawful c.args.automaton.now in
    let few = lawful.few in
    let ms = c.args.masks.now in
    let at : ℕ → ℕ → ℕ = backward_at m a ms in
    let inv = c.loop-i.invariant in
    let steps = c.in-Some.ensures.steps in
    let left = c.next.new.self.iter.iter.rest.now in
    let n = length c.loop-i.i-iterator.iter.iter.rest.now in
    let j = length left in
    let turn = back_turn ms c.loop-i.i-iterator.iter.iter.rest.now left c.in-Some.mask.now inv.0 steps.1.0 in
    let place : c.in-Some.i ≡ j = omega (arith, steps.1.1, inv.1) in
    let codes = c.store-in-loop-i.new.codes in
    let stored = c.store-in-loop-i.ensures in
    let previous = c.previous_row-row.ensures in
    let row : (q : ℕ) → q < a.states → get_or c.previous_row-row.result q 0 ≡ at j q =
    λ q h. subst (λ (x : ℕ). get_or c.previous_row-row.result q 0 ≡ pulled m a x (λ p. get_or c.loop-i.row p 0) q) turn.3 (previous.each q h) ∙ backward_next g.M.Measure.laws a lawful ms j q (λ p. get_or c.loop-i.row p 0) turn.1 (λ p l. inv.2 p l ∙ ap (λ k. at k p) turn.0) in
    let here : (q : ℕ) → q < 16 → get_or codes (16 * j + q) 0 ≡ get_or c.previous_row-row.result q 0 =
    λ q h. subst (λ (x : ℕ). get_or codes (16 * x + q) 0 ≡ get_or c.previous_row-row.result q 0) place (stored.here q h) in (
      turn.2,
      steps.0 ∙ inv.1,
      row,
      λ i q h l k. ⊎_elim
          (λ (b : i < n).
          let is : i ≡ j = omega (arith, turn.0) in
          subst (λ (x : ℕ). get_or codes (16 * x + q) 0 ≡ at x q) (sym is) (here q (omega arith) ∙ row q k))
          (λ (b : n ≤ i). stored.after (16 * i + q) (omega (arith, turn.0)) ∙ inv.3 i q b l k)
          (cases_lt i n),
      λ i q h l k s. ⊎_elim
          (λ (b : i < n).
          let is : i ≡ j = omega (arith, turn.0) in
          subst (λ (x : ℕ). get_or codes (16 * x + q) 0 ≡ m.none) (sym is) (here q s ∙ previous.absent q k s))
          (λ (b : n ≤ i). stored.after (16 * i + q) (omega (arith, turn.0)) ∙ inv.4 i q b l k s)
          (cases_lt i n),
      λ k h. stored.after k (omega (arith, turn.0, turn.1)) ∙ inv.5 k h,
    )

pub returns : goal.returns
returns g c =
    let inv = c.loop-i.invariant in
    let empty : c.loop-i.i-iterator.iter.iter.rest.now ≡ [] = search rules in
    let none : length c.loop-i.i-iterator.iter.iter.rest.now ≡ 0 = ap length empty in
    record {
      enough = search rules;
      each = λ i q h l. inv.3 i q (omega arith) h l;
      absent = λ i q h l k. inv.4 i q (omega arith) h l k;
      beyond = λ k h. inv.5 k h ∙ c.store.ensures.after k (omega arith);
    }
