-- A pair of lawful families is lawful.
use Rattle.std.specs.Prelude.{ℕ, ◌-◌, ◌<◌, ◌≤◌, nat_lt}
use Rattle.std.proofs.Common.{arith}
use Rattle.std.proofs.lemmas.Bool.{cond_both, ltb-true, ltb-false}
use Rattle.families.specs.Meaning.{Meaning, Rule, pair}
use Rattle.families.specs.Laws.{LawfulRule, Lawful}

-- what holds of each rule of both families holds of each rule of the pair
pub pair_each : (P : Rule → Type 0) (a b : Meaning) → ((r : ℕ) → r < a.rules → P (a.rule r)) → ((r : ℕ) → r < b.rules → P (b.rule r)) → (r : ℕ) → r < (pair a b).rules → P ((pair a b).rule r)
pair_each P a b pa pb r h =
    cond_both (nat_lt r a.rules) (a.rule r) (b.rule (r - a.rules)) P
    (λ e. pa r (ltb-true _ _ e))
    (λ e. let o : a.rules ≤ r = ltb-false _ _ e in pb (r - a.rules) (omega arith))

pub pair_lawful : (a b : Meaning) → Lawful a → Lawful b → Lawful (pair a b)
pair_lawful a b la lb = record { few = omega arith; each = pair_each LawfulRule a b la.each lb.each }
