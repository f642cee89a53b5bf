-- The counting family: one automaton, and a list of rules over it.
use Rattle.std.specs.Prelude.{◌≡◌, ℕ, ◌<◌, ◌≤◌, Bool, true, false, List, [], ◌∷◌, ◌++◌, map, length, None, vec_items, slice_index_or}
use Rattle.refusals.specs.Posting.{PostError}
use Rattle.refusals.specs.declared.PostFault.TheVariants.{FamilyFull}
use Rattle.refusals.specs.Posting.{Refusing}
use Rattle.automata.specs.Automaton.{Automaton}
use Rattle.families.specs.Meaning as families
use Rattle.families.specs.Meaning.{Meaning}
use Rattle.rules.specs.declared.Rule.{Rule}
use Rattle.rules.specs.declared.Sense.{Sense}
use Rattle.rules.specs.declared.Sense.TheVariants.{AtMost, AtLeast, Exactly}
use Rattle.runs.specs.Run.{counting_rule}

-- the meaning of one rule
abbrev pub rule_of : Automaton → Rule → families.Rule
rule_of a r = counting_rule a r.sense (vec_items r.row.cells) r.tally

-- what stands past the last rule: nothing asks for it
abbrev pub no_rule : families.Rule
no_rule = record { scope = []; start = 1; allows = λ f k. false; leaves = λ c t. record { cells = c; tally = t }; figures = λ c. None }

abbrev pub family_of : Automaton → List Rule → Meaning
family_of a rules = record { rules = length rules; rule = λ r. slice_index_or (map (rule_of a) rules) r no_rule }

-- the senses that hold a total on one side only
abbrev pub one_sided : Sense → Bool
one_sided AtMost = true
one_sided AtLeast = true
one_sided Exactly = false

-- whether rule number r has one of these senses; no, where there is no such rule
abbrev pub one_sided_at : List Rule → ℕ → Bool
one_sided_at rules r = slice_index_or (map (λ x. one_sided x.sense) rules) r false

-- the rule is there, behind the others
abbrev pub PostedTo : Rule → List Rule → List Rule → Type 0
PostedTo rule old new = (length old < 24) × (new ≡ old ++ (rule ∷ []))

-- the rules are as they were: 24 were there, or there was no memory
abbrev pub NotPosted : List Rule → List Rule → PostError → Type 0
NotPosted old new e = (new ≡ old) × Refusing (λ f. (f ≡ FamilyFull) × (24 ≤ length old)) (length old < 24) e
