use Rattle.std.proofs.Common.{◌≡◌, ℕ, ◌≤◌, List, Some, None, Option, MatchOption, length, get_or, vec_items, ltb, sym, ap, ◌∙◌, subst, cond}
use Rattle.std.specs.Option.{IfSome, is_some}
use Rattle.std.specs.Borrow.{Bor}
use Rattle.std.proofs.lemmas.Bool.{le-ltb, ltb-true, ltb-false}
use Rattle.automata.specs.Automaton.{Automaton}
use Rattle.families.specs.Meaning.{start_of}
use Rattle.rules.specs.declared.Rule.{Rule}
use Rattle.counting.specs.Family.{family_of}
use Rattle.counting.proofs.Found.{found_start}
use Rattle.counting.proofs.CountingFamily.start_tally.Goals as goal

told : (a : Automaton) (rules found : List Rule) → found ≡ rules → (r n : ℕ) (o : Option (Bor Rule)) → is_some o ≡ ltb r (length found) → IfSome o (λ x. x.now ≡ get_or found r x.now)
    → MatchOption o (n ≡ 0) (λ x. n ≡ x.now.tally) → n ≡ start_of (family_of a rules) r
told a rs found at r n None h k e =
    let past : length rs ≤ r = subst (λ (l : List Rule). length l ≤ r) at (ltb-false r (length found) (sym h)) in
    e ∙ sym (ap (λ b. cond b ((family_of a rs).rule r).start 0) (le-ltb r (length rs) past))
told a rs found at r n (Some x) h k e = e ∙ sym (found_start a rs found at r x.now (ltb-true r (length found) (sym h)) k)

pub returns : goal.returns
returns g c =
    let h = c.get.ensures.lookup in
    told (g.C.CounterAutomaton.meaning c.args.self.now.automaton) (vec_items c.args.self.now.rules) c.deref.result.now c.deref.ensures.value c.args.rule c.map_or.result c.get.result h.0 h.1 c.map_or.ensures
