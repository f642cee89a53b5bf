use Rattle.std.proofs.Common.{◌≡◌, ℕ, ◌<◌, Bool, true, false, length, get_or, zero-le, refl, sym, subst, arith, rules}
use Rattle.std.proofs.lemmas.Bool.{false≢true}
use Rattle.std.proofs.lemmas.Iterator.{cases_from_any, YieldsList-from_range}
use Rattle.std.proofs.lemmas.List.FromFn.{length-range_with_len, get_or-range_with_len}
use Rattle.std.specs.List.{range_with_len, HoldsAt, AllWithin}
use Rattle.std.specs.Bool.{MatchBool}
use Rattle.masks.specs.Bit.{In}
use Rattle.runs.specs.Codes.{MetThrough}
use Rattle.runs.proofs.Judged.{duty_met}
use Rattle.runs.proofs.Swept.duty_stays.Goals as goal

-- a test that is true just where one of the numbers below n has P
some_below : (r : Bool) (n : ℕ) (P : ℕ → Type 0)
    → MatchBool r ((k : ℕ) × (k < length (range_with_len 0 n)) × HoldsAt P (range_with_len 0 n) k) (AllWithin (λ q. P q → ⊥) (range_with_len 0 n) 0 (length (range_with_len 0 n)))
    → (r ≡ true → (q : ℕ) × (q < n) × P q) × ((q : ℕ) → q < n → P q → r ≡ true)
some_below true n P w =
    let k = w.0 in
    let below : k < n = omega (arith, w.1, length-range_with_len 0 n) in
    let same : get_or (range_with_len 0 n) k 0 ≡ k = omega (arith, get_or-range_with_len 0 n k 0 below) in
    (λ e. (k, below, subst P same (w.2 0)), λ q l h. refl)
some_below false n P w = (
  λ e. absurd (false≢true e),
  λ q l h.
      let same : get_or (range_with_len 0 n) q 0 ≡ q = omega (arith, get_or-range_with_len 0 n q 0 l) in
      absurd (w q 0 (zero-le) (omega (arith, l, length-range_with_len 0 n)) (subst P (sym same) h)),
)

pub returns : goal.returns
returns g c =
    let s = c.args.self.now in
    let a = g.C.CounterAutomaton.meaning s.automaton.now in
    let lawful = g.C.CounterAutomaton.lawful s.automaton.now in
    let n : ℕ = c.states.result in
    let Met : ℕ → Type 0 = λ q. (k : ℕ) × (k < 64) × In c.args.tally k × MetThrough s.sense a s.masks.now c.args.place q c.args.duty k in
    let judged = duty_met a lawful s.masks.now s.sense c.args.tally c.args.place c.args.duty c.requires.place c.requires.duty c.requires.held in
    let found = some_below c.any.result n Met (cases_from_any _ _ c.any.result Met (λ q. Met q → ⊥) c.any.ensures.ran (YieldsList-from_range 0 n n refl (omega arith))
    (λ x q k. let met : Met x = search rules in met)
    (λ x q k. (search rules, λ h. let f : Met x → false ≡ true = search rules in false≢true (f h)))) in (
      λ e. let w = found.0 e in judged.1 (w.0, omega (arith, w.1, c.states.ensures), w.2),
      λ d. let w = judged.0 d in found.1 w.0 (omega (arith, w.1, c.states.ensures)) w.2,
    )
