-- The figures of a row: the smallest and the largest total of its sequences, and which totals below 64 they have.
use Rattle.std.specs.Prelude.{◌≡◌, ℕ, ◌-◌, ◌<◌, ◌≤◌, cond, ◌↔◌, List, length, Some, None, Option, ◌==◌}
use Rattle.masks.specs.Bit.{In}
use Rattle.automata.specs.Automaton.{Automaton}
use Rattle.automata.specs.Reading.{total}
use Rattle.measures.specs.Kinds.{least, greatest, totals}
use Rattle.measures.specs.Measuring.{Measuring}
use Rattle.measures.specs.declared.Figures.{Figures}
use Rattle.sweeps.specs.Sequences.{From}
use Rattle.sweeps.specs.Sweep.{backward_at, needed}

-- some sequence has the total t
abbrev pub Reached : Automaton → List ℕ → ℕ → Type 0
Reached a masks t = (ds : List ℕ) × From masks ds × (total a 0 ds ≡ t)

pub record FiguresOf (a : Automaton) (masks : List ℕ) (f : Figures) : Type 0 where
  pub least_reached : Reached a masks f.least
  pub none_less : (t : ℕ) → Reached a masks t → f.least ≤ t
  pub greatest_reached : Reached a masks f.greatest
  pub none_greater : (t : ℕ) → Reached a masks t → t ≤ f.greatest
  pub totals_reached : (t : ℕ) → t < 64 → In f.totals t ↔ Reached a masks t

-- the joining over all sequences of a row
abbrev pub figure : Measuring → Automaton → List ℕ → ℕ
figure m a masks = backward_at m a masks 0 0

-- the figures by the three measures, absent where there is no sequence
abbrev pub figures_of : Automaton → List ℕ → Option Figures
figures_of a masks =
    cond (figure least a masks == least.none)
    None
    (Some (record { least = figure least a masks; greatest = figure greatest a masks - 1; totals = figure totals a masks }))

-- absent where there is no sequence, else what the words say
abbrev pub Shown : Automaton → List ℕ → Option Figures → Type 0
Shown a masks None = (t : ℕ) → Reached a masks t → ⊥
Shown a masks (Some f) = FiguresOf a masks f

-- what is told on enough codes
abbrev pub FiguresTold : Automaton → List ℕ → List ℕ → Option Figures → Type 0
FiguresTold a masks codes o = (needed masks ≤ length codes) × (o ≡ figures_of a masks) × Shown a masks o
