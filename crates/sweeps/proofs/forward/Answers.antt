use Rattle.std.proofs.Common.{◌≡◌, ℕ, ◌+◌, ◌*◌, ◌<◌, ◌≤◌, get_or, sym, refl, ◌∙◌, subst, ⊎_elim, arith, rules}
use Rattle.std.proofs.lemmas.Bool.{cases_lt}
use Rattle.sweeps.specs.Sweep.{forward_at}
use Rattle.sweeps.proofs.ForwardPlace.{first_row, forward_next, forward_absent}
use Rattle.sweeps.proofs.forward.Goals as goal

pub loop-i-init : goal.loop-i-init
loop-i-init g c =
    let a = g.C.CounterAutomaton.meaning c.args.automaton.now in
    let ms = c.args.masks.now in
    let at : ℕ → ℕ → ℕ = forward_at g.M.Measure.kind a ms in
    let row = first_row g.M.Measure.laws a (g.C.CounterAutomaton.lawful c.args.automaton.now) ms c.start.result c.none-row.result c.start.ensures c.none-row.ensures in (
      row,
      λ i q h k.
          let none : i ≡ 0 = omega arith in
          subst (λ (n : ℕ). get_or c.store.new.codes (16 * n + q) 0 ≡ at n q) (sym none) (c.store.ensures.here q k ∙ row q k),
      λ k h. refl,
    )

pub loop-i-preserved : goal.loop-i-preserved
loop-i-preserved g c =
    let a = g.C.CounterAutomaton.meaning c.args.automaton.now in
    let ms = c.args.masks.now in
    let at : ℕ → ℕ → ℕ = forward_at g.M.Measure.kind a ms in
    let inv = c.loop-i.invariant in
    let n = c.loop-i.i in
    let stored = c.store-in-loop-i.ensures in
    let row : (q : ℕ) → q < 16 → get_or c.next_row-row.result q 0 ≡ at (n + 1) q =
    λ q h. c.next_row-row.ensures q h ∙ forward_next g.M.Measure.laws a (g.C.CounterAutomaton.lawful c.args.automaton.now) ms n q (λ p. get_or c.loop-i.row p 0) (omega arith) inv.0 in (
      row,
      λ i q h k. ⊎_elim
          (λ (l : i < n + 1). stored.before (16 * i + q) (omega arith) ∙ inv.1 i q (omega arith) k)
          (λ (l : n + 1 ≤ i).
          let last : i ≡ n + 1 = omega arith in
          subst (λ (n : ℕ). get_or c.store-in-loop-i.new.codes (16 * n + q) 0 ≡ at n q) (sym last) (stored.here q k ∙ row q k))
          (cases_lt i (n + 1)),
      λ k h. stored.after k (omega arith) ∙ inv.2 k h,
    )

pub returns : goal.returns
returns g c =
    let a = g.C.CounterAutomaton.meaning c.args.automaton.now in
    let lawful = g.C.CounterAutomaton.lawful c.args.automaton.now in
    let ms = c.args.masks.now in
    let inv = c.loop-i.invariant in
    record {
      enough = search rules;
      each = λ i q h l. inv.1 i q (omega arith) (omega (arith, lawful.few));
      absent = λ i q h l k. inv.1 i q (omega arith) k ∙ forward_absent g.M.Measure.laws a lawful ms i q l;
      beyond = λ k h. inv.2 k h ∙ c.store.ensures.after k (omega arith);
    }
