-- What a run has at hand once it has made the sweeps that its sense needs.
use Rattle.std.proofs.Common.{◌≡◌, ℕ, List, sym, subst}
use Rattle.automata.specs.Automaton.{Automaton}
use Rattle.measures.specs.Measuring.{Measuring}
use Rattle.measures.specs.Kinds.{least, greatest}
use Rattle.rules.specs.declared.Sense.{Sense}
use Rattle.rules.specs.declared.Sense.TheVariants.{AtMost, AtLeast, Exactly}
use Rattle.runs.specs.declared.Ways.{Ways}
use Rattle.runs.specs.Codes.{BothWays, Needed}

pub both_as : {m : Measuring} {a : Automaton} {masks forth back x y : List ℕ} → BothWays m a masks forth back → x ≡ forth → y ≡ back → BothWays m a masks x y
both_as {m} {a} {masks} {forth} {back} {x} {y} h p q = subst (λ (z : List ℕ). BothWays m a masks x z) (sym q) (subst (λ (z : List ℕ). BothWays m a masks z back) (sym p) h)

pub needed_both : (s : Sense) (a : Automaton) (masks : List ℕ) (l g : Ways) → ((s ≡ AtLeast → ⊥) → BothWays least a masks l.forth.now l.back.now) → ((s ≡ AtMost → ⊥) → BothWays greatest a masks g.forth.now g.back.now)
    → Needed s a masks l g
needed_both AtMost a masks l g p q = p (λ e. cc)
needed_both AtLeast a masks l g p q = q (λ e. cc)
needed_both Exactly a masks l g p q = (p (λ e. cc), q (λ e. cc))
