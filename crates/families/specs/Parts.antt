-- Which part of a pair has a rule of it.
use Rattle.std.specs.Prelude.{◌≡◌, ℕ, ◌-◌, ◌<◌, ◌≤◌}
use Rattle.families.specs.declared.Part.{Part}
use Rattle.families.specs.declared.Part.TheVariants.{First, Second, Neither}
use Rattle.families.specs.Meaning.{Meaning, most_rules}

-- the part, for a pair whose first family has this meaning, and the rule's number there
abbrev pub PartOf : Meaning → ℕ → Part → Type 0
PartOf a rule (First n) = (rule < most_rules) × (rule < a.rules) × (n ≡ rule)
PartOf a rule (Second n) = (rule < most_rules) × (a.rules ≤ rule) × (n ≡ rule - a.rules)
PartOf a rule Neither = most_rules ≤ rule
