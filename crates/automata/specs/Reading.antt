-- What an automaton makes of a sequence of duties.
use Rattle.std.specs.Prelude.{ℕ, ◌+◌, List, [], ◌∷◌}
use Rattle.automata.specs.Automaton.{Automaton}

-- the state after reading a sequence from state q
abbrev pub end : Automaton → ℕ → List ℕ → ℕ
end a q [] = q
end a q (d ∷ ds) = end a (a.next q d) ds

-- the sum of the increases along a sequence that is read from state q
abbrev pub total : Automaton → ℕ → List ℕ → ℕ
total a q [] = 0
total a q (d ∷ ds) = a.increase q d + total a (a.next q d) ds
