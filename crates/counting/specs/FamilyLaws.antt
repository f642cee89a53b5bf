-- A family of counting rules is lawful, and its at-most and at-least rules keep only what a sequence uses.
use Rattle.std.specs.Prelude.{◌≡◌, ℕ, zero, suc, ◌-◌, ◌<◌, ◌≤◌, ◌⊎◌, List, [], ◌∷◌, map, length, vec_items, nat_lt, slice_index_or}
use Rattle.std.proofs.Common.{sym, ap, ◌∙◌, subst, arith}
use Rattle.std.proofs.lemmas.List.{get_or-map}
use Rattle.std.proofs.lemmas.Bool.{cond-true, cond-false, lt-ltb, le-ltb}
use Rattle.automata.specs.Automaton as automata
use Rattle.automata.specs.Automaton.{Automaton}
use Rattle.families.specs.Laws.{LawfulRule, Lawful}
use Rattle.families.specs.Meaning.{Meaning, pair}
use Rattle.families.specs.Pairs.{pair_each}
use Rattle.rules.specs.declared.Rule.{Rule}
use Rattle.rules.specs.declared.Sense.TheVariants.{AtMost, AtLeast}
use Rattle.rules.specs.Rows.{GoodRow}
use Rattle.counting.specs.Laws.{counting_lawful}
use Rattle.counting.specs.Used.{KeepsOnlyUsed, counting_keeps_only_used}
use Rattle.counting.specs.Family.{rule_of, no_rule, family_of}

-- what a rule keeps in its type, of its row
pub rule_row : (x : Rule) → GoodRow 192 (vec_items x.row.cells)
rule_row x = record { some = x.row.some; few = x.row.few; below = x.row.below; different = x.row.different }

pub rule_lawful : (a : Automaton) → automata.Lawful a → (x : Rule) → LawfulRule (rule_of a x)
rule_lawful a lawful x = counting_lawful a lawful x.sense (vec_items x.row.cells) x.tally (rule_row x) x.open x.fits

pub rule_keeps_only_used : (a : Automaton) (x : Rule) → (x.sense ≡ AtMost) ⊎ (x.sense ≡ AtLeast) → KeepsOnlyUsed (rule_of a x)
rule_keeps_only_used a x one_way = counting_keeps_only_used a x.sense one_way (vec_items x.row.cells) x.tally (rule_row x)

pub family_lawful : (a : Automaton) → automata.Lawful a → (rules : List Rule) → length rules ≤ 24 → Lawful (family_of a rules)
family_lawful a lawful rules few = record { few = omega arith; each = each rules }
  where
    each : (xs : List Rule) (r : ℕ) → r < length xs → LawfulRule (slice_index_or (map (rule_of a) xs) r no_rule)
    each [] r h = absurd (omega arith)
    each (x ∷ xs) zero h = rule_lawful a lawful x
    each (x ∷ xs) (suc r) h = each xs r (omega arith)

-- rule number r of the family is the one at index r of the list
pub rule_at : (a : Automaton) (rules : List Rule) (r : ℕ) (x : Rule) → r < length rules → slice_index_or rules r x ≡ x → (family_of a rules).rule r ≡ rule_of a x
rule_at a rules r x h e = get_or-map (rule_of a) rules r x no_rule h ∙ ap (rule_of a) e

pub family_keeps_only_used : (a : Automaton) (rules : List Rule) (r : ℕ) (x : Rule) → r < length rules → slice_index_or rules r x ≡ x → (x.sense ≡ AtMost) ⊎ (x.sense ≡ AtLeast) → KeepsOnlyUsed ((family_of a rules).rule r)
family_keeps_only_used a rules r x h e one_way = subst KeepsOnlyUsed (sym (rule_at a rules r x h e)) (rule_keeps_only_used a x one_way)

-- a pair keeps only what is used in the rules of either family that do
pub pair_keeps : (a b : Meaning) → ((r : ℕ) → r < a.rules → KeepsOnlyUsed (a.rule r)) → ((r : ℕ) → r < b.rules → KeepsOnlyUsed (b.rule r)) → (r : ℕ) → r < (pair a b).rules → KeepsOnlyUsed ((pair a b).rule r)
pair_keeps = pair_each KeepsOnlyUsed

pub pair_keeps_first : (a b : Meaning) (r : ℕ) → r < a.rules → KeepsOnlyUsed (a.rule r) → KeepsOnlyUsed ((pair a b).rule r)
pair_keeps_first a b r h k = subst KeepsOnlyUsed (sym (cond-true (nat_lt r a.rules) (a.rule r) (b.rule (r - a.rules)) (lt-ltb r a.rules h))) k

pub pair_keeps_second : (a b : Meaning) (r : ℕ) → a.rules ≤ r → KeepsOnlyUsed (b.rule (r - a.rules)) → KeepsOnlyUsed ((pair a b).rule r)
pair_keeps_second a b r h k = subst KeepsOnlyUsed (sym (cond-false (nat_lt r a.rules) (a.rule r) (b.rule (r - a.rules)) (le-ltb r a.rules h))) k
