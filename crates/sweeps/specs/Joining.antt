-- The joining of a measure over a list.
use Rattle.std.specs.Prelude.{ℕ, List, [], ◌∷◌}
use Rattle.automata.specs.Automaton.{Automaton}
use Rattle.automata.specs.Reading.{total}
use Rattle.measures.specs.Measuring.{Measuring}

-- the codes f x, for each x of the list, joined
abbrev pub over : {X : Type 0} → Measuring → (X → ℕ) → List X → ℕ
over m f [] = m.none
over m f (x ∷ xs) = m.join (f x) (over m f xs)

-- the code of one sequence, read from state q
abbrev pub code : Measuring → Automaton → ℕ → List ℕ → ℕ
code m a q ds = m.increase m.start (total a q ds)
