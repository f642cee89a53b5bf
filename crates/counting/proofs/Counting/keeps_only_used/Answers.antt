use Rattle.std.proofs.Common.{◌≡◌, ℕ, ◌≤◌, false, Bool, List, Option, Some, None, MatchOption, length, get_or, ltb, vec_items, sym, ◌∙◌, subst, rules}
use Rattle.std.specs.Option.{IfSome, is_some}
use Rattle.std.specs.Borrow.{Bor}
use Rattle.std.proofs.lemmas.Bool.{ltb-true, ltb-false}
use Rattle.automata.specs.Automaton.{Automaton}
use Rattle.rules.specs.declared.Rule.{Rule}
use Rattle.counting.specs.Family.{one_sided, one_sided_at}
use Rattle.counting.proofs.Found.{found_sense, past_sense, one_sided_keeps}
use Rattle.counting.proofs.Counting.keeps_only_used.Goals as goal

told : (a : Automaton) (rules found : List Rule) → found ≡ rules → (r : ℕ) (b : Bool) (o : Option (Bor Rule)) → is_some o ≡ ltb r (length found) → IfSome o (λ x. x.now ≡ get_or found r x.now)
    → MatchOption o (b ≡ false) (λ x. b ≡ one_sided x.now.sense) → b ≡ one_sided_at rules r
told a rs found at r b None h k e = e ∙ sym (past_sense rs r (subst (λ (l : List Rule). length l ≤ r) at (ltb-false r (length found) (sym h))))
told a rs found at r b (Some x) h k e = e ∙ sym (found_sense a rs found at r x.now (ltb-true r (length found) (sym h)) k)

pub returns-clause-tells : goal.returns-clause-tells
returns-clause-tells g c =
    let h = c.get.ensures.lookup in
    let each : MatchOption c.get.result (c.is_some_and.result ≡ false) (λ (x : Bor Rule). c.is_some_and.result ≡ one_sided x.now.sense) = search rules in
    told (g.C.CounterAutomaton.meaning c.args.self.now.automaton) (vec_items c.args.self.now.rules) c.deref.result.now c.deref.ensures.value c.args.rule c.is_some_and.result c.get.result h.0 h.1 each

pub returns-clause-keeps : goal.returns-clause-keeps
returns-clause-keeps g c = λ e. one_sided_keeps (g.C.CounterAutomaton.meaning c.args.self.now.automaton) (vec_items c.args.self.now.rules) c.args.rule (sym (returns-clause-tells g c) ∙ e)
