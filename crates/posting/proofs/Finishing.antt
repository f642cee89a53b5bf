-- What a file's draft comes to: the family of its sheet.
use Rattle.std.proofs.Common.{◌≡◌, ℕ, List, [], ◌∷◌, map, vec_items, unwrap_or, refl, ap, ◌∙◌}
use Rattle.std.proofs.lemmas.List.{length-map}
use Rattle.automata.specs.Automaton.{Automaton}
use Rattle.automata.specs.Kinds.{among, mapped, table}
use Rattle.automata.specs.declared.Among.{Among}
use Rattle.automata.specs.declared.Map.{Map}
use Rattle.automata.specs.declared.Table.{Table}
use Rattle.words.specs.Search.{counting}
use Rattle.words.specs.declared.Word.{Word}
use Rattle.families.specs.Meaning.{Meaning, pair}
use Rattle.rules.specs.declared.Rule.{Rule}
use Rattle.counting.specs.Family.{family_of, rule_of}
use Rattle.counting.specs.declared.Counting.{Counting}
use Rattle.posting.specs.Sheets.{Sheet, Written, written, duties_of}
use Rattle.posting.specs.Families.{written_rule, written_family, own_classes, blank_steps, rules_meaning, meaning_of}

-- a rule means what is written of it
pub rules_as_written : (a : Automaton) (rules : List Rule) → map (rule_of a) rules ≡ map (written_rule a) (map written rules)
rules_as_written a [] = refl
rules_as_written a (r ∷ rs) = ap (λ xs. rule_of a r ∷ xs) (rules_as_written a rs)

pub family_as_written : (a : Automaton) (rules : List Rule) → family_of a rules ≡ written_family a (map written rules)
family_as_written a rules = rw (rules_as_written a rules, length-map rules written) refl

pub same_family : {a b : Automaton} (rules : List Rule) {ws : List Written} → a ≡ b → map written rules ≡ ws → family_of a rules ≡ written_family b ws
same_family {a} {b} rules {ws} p q =
    family_as_written a rules ∙ (ap (λ (x : Automaton). written_family x (map written rules)) p ∙ ap (λ (y : List Written). written_family b y) q)

pub three : {a b c x y z : Meaning} → a ≡ x → b ≡ y → c ≡ z → pair (pair a b) c ≡ pair (pair x y) z
three {a} {b} {c} {x} {y} {z} p q r =
    ap (λ (m : Meaning). pair (pair m b) c) p ∙ (ap (λ (m : Meaning). pair (pair x m) c) q ∙ ap (λ (m : Meaning). pair (pair x y) m) r)

-- the three parts of the family, one by one
pub parts_mean : (f : Counting Among) (g : Counting (Map Word)) (h : Counting Table) (s : Sheet) → f.automaton.set ≡ unwrap_or s.set 0
    → g.automaton.classes ≡ unwrap_or s.classes own_classes → duties_of g.automaton.below ≡ unwrap_or s.word (0 ∷ [])
    → h.automaton.states ≡ (unwrap_or s.table blank_steps).states → h.automaton.steps.now ≡ (unwrap_or s.table blank_steps).bytes
    → map written (vec_items f.rules) ≡ s.set_rules → map written (vec_items g.rules) ≡ s.word_rules → map written (vec_items h.rules) ≡ s.table_rules
    → rules_meaning (record { first = record { first = f; second = g }; second = h }) ≡ meaning_of s
parts_mean f g h s set classes word states steps set_rules word_rules table_rules =
    three
    (same_family (vec_items f.rules) (ap among set) set_rules)
    (same_family (vec_items g.rules)
    (ap (λ (x : List ℕ). mapped x (counting (duties_of g.automaton.below))) classes ∙ ap (λ (x : List ℕ). mapped (unwrap_or s.classes own_classes) (counting x)) word) word_rules)
    (same_family (vec_items h.rules)
    (ap (λ (x : ℕ). table x h.automaton.steps.now) states ∙ ap (λ (x : List ℕ). table (unwrap_or s.table blank_steps).states x) steps) table_rules)
