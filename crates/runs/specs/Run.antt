-- A counting rule by its meaning: what it allows, what one run leaves, its figures.
use Rattle.std.specs.Prelude.{◌≡◌, ℕ, suc, ◌+◌, ◌<◌, ◌≤◌, List, [], ◌∷◌, map, length, vec_items, slice_index, slice_set}
use Rattle.masks.specs.Members.{lost}
use Rattle.refusals.specs.declared.PlanFault.{PlanFault}
use Rattle.refusals.specs.declared.PlanFault.TheVariants.{Workspace}
use Rattle.automata.specs.Automaton.{Automaton}
use Rattle.automata.specs.Reading.{total}
use Rattle.sweeps.specs.Figures.{figures_of}
use Rattle.families.specs.Masks.{values_lost}
use Rattle.families.specs.Meaning.{Left, Rule, workspace_needed}
use Rattle.rules.specs.declared.Rule as written
use Rattle.rules.specs.declared.Sense.{Sense}
use Rattle.rules.specs.Senses.{meets}
use Rattle.runs.specs.Choosing.{sieve}
use Rattle.runs.specs.Stays.{duty_stays, count_stays}

-- what stands in the cells of a row, in the row's order
abbrev pub along : List ℕ → List ℕ → List ℕ
along row cells = map (λ i. slice_index cells i) row

-- the cells with new masks at those of a row: f i at the row's place i
abbrev pub put : List ℕ → (ℕ → ℕ) → List ℕ → List ℕ
put [] f cells = cells
put (x ∷ row) f cells = slice_set (put row (λ i. f (suc i)) cells) x (f 0)

-- what stays at place i of the masks along a row
abbrev pub kept : Automaton → Sense → ℕ → List ℕ → ℕ → ℕ
kept a sense tally masks i = sieve 16 (slice_index masks i) (duty_stays a masks sense tally i)

-- What one run leaves: every place and the tally are sieved by the same masks, those that the run found.
abbrev pub leaves : Automaton → Sense → List ℕ → List ℕ → ℕ → Left
leaves a sense row cells tally = record {
  cells = put row (kept a sense tally (along row cells)) cells;
  tally = sieve 64 tally (count_stays a (along row cells) sense);
}

abbrev pub counting_rule : Automaton → Sense → List ℕ → ℕ → Rule
counting_rule a sense row start = record {
  scope = row;
  start = start;
  allows = λ filling count. meets sense (total a 0 (along row filling)) count;
  leaves = leaves a sense row;
  figures = λ cells. figures_of a (along row cells);
}

-- On a workspace w, the run of a rule takes the cells c to d and the tally t to u, and answers n.
abbrev pub RuleRan : Automaton → written.Rule → List ℕ → List ℕ → List ℕ → ℕ → ℕ → ℕ → Type 0
RuleRan a rule w c d t u n =
    (workspace_needed ≤ length w)
    × (d ≡ (leaves a rule.sense (vec_items rule.row.cells) c t).cells)
    × (u ≡ (leaves a rule.sense (vec_items rule.row.cells) c t).tally)
    × (n ≡ values_lost c d + length (lost 64 t u))

-- a workspace that is too short: refused, with cells, tally and workspace as they were
abbrev pub NotRun : List ℕ → List ℕ → List ℕ → List ℕ → ℕ → ℕ → PlanFault → Type 0
NotRun w v c d t u e = (e ≡ Workspace) × (length w < workspace_needed) × (d ≡ c) × (u ≡ t) × (v ≡ w)
