-- The family of rules that a file makes.
use Rattle.std.specs.Prelude.{ℕ, List, [], ◌∷◌, map, length, replicate, vec_items, slice_index_or}
use Rattle.std.specs.Option.{unwrap_or}
use Rattle.automata.specs.Automaton.{Automaton}
use Rattle.automata.specs.Kinds.{among, mapped, table}
use Rattle.automata.specs.declared.Among.{Among}
use Rattle.automata.specs.declared.Map.{Map}
use Rattle.automata.specs.declared.Table.{Table}
use Rattle.words.specs.Search.{counting}
use Rattle.words.specs.declared.Word.{Word}
use Rattle.families.specs.Meaning as families
use Rattle.families.specs.Meaning.{Meaning, pair}
use Rattle.families.specs.declared.Pair.{Pair}
use Rattle.runs.specs.Run.{counting_rule}
use Rattle.counting.specs.declared.Counting.{Counting}
use Rattle.counting.specs.Family.{family_of, no_rule}
use Rattle.posting.specs.Sheets.{Sheet, Written, Steps, duties_of}

-- the meaning of a rule, read with an automaton
abbrev pub written_rule : Automaton → Written → families.Rule
written_rule a w = counting_rule a w.sense w.cells w.tally

-- the rules of one automaton
abbrev pub written_family : Automaton → List Written → Meaning
written_family a rules = record { rules = length rules; rule = λ r. slice_index_or (map (written_rule a) rules) r no_rule }

-- each duty is its own class
abbrev pub own_classes : List ℕ
own_classes = 0 ∷ 1 ∷ 2 ∷ 3 ∷ 4 ∷ 5 ∷ 6 ∷ 7 ∷ 8 ∷ 9 ∷ 10 ∷ 11 ∷ 12 ∷ 13 ∷ 14 ∷ 15 ∷ []

-- one state, and nothing counts
abbrev pub blank_steps : Steps
blank_steps = record { states = 1; bytes = replicate 16 0 }

-- What counts the rules of each kind. (An automaton that is not given has no rules, and it does not matter which stands in for it.)
abbrev pub set_automaton : Sheet → Automaton
set_automaton s = among (unwrap_or s.set 0)

abbrev pub word_automaton : Sheet → Automaton
word_automaton s = mapped (unwrap_or s.classes own_classes) (counting (unwrap_or s.word (0 ∷ [])))

abbrev pub table_automaton : Sheet → Automaton
table_automaton s = table (unwrap_or s.table blank_steps).states (unwrap_or s.table blank_steps).bytes

-- the set's rules first, then the word's, then the table's
abbrev pub meaning_of : Sheet → Meaning
meaning_of s = pair (pair (written_family (set_automaton s) s.set_rules) (written_family (word_automaton s) s.word_rules)) (written_family (table_automaton s) s.table_rules)

-- the same of the family that a plan is started with
abbrev pub rules_meaning : Pair (Pair (Counting Among) (Counting (Map Word))) (Counting Table) → Meaning
rules_meaning p =
    pair
    (pair
    (family_of (among p.first.first.automaton.set) (vec_items p.first.first.rules))
    (family_of (mapped p.first.second.automaton.classes (counting (duties_of p.first.second.automaton.below))) (vec_items p.first.second.rules)))
    (family_of (table p.second.automaton.states p.second.automaton.steps.now) (vec_items p.second.rules))
