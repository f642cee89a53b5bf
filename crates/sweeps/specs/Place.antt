-- One place of a sweep from its neighbour.
use Rattle.std.specs.Prelude.{◌≡◌, ℕ, zero, suc, cond, List, [], ◌∷◌, ◌++◌, ◌==◌}
use Rattle.automata.specs.Automaton.{Automaton}
use Rattle.measures.specs.Measuring.{Measuring}
use Rattle.sweeps.specs.Sequences.{duties}
use Rattle.sweeps.specs.Joining.{over}

-- none drops out of the code x
abbrev pub Neutral : Measuring → ℕ → Type 0
Neutral m x = m.join m.none x ≡ x

-- the numbers below n
abbrev pub up_to : ℕ → List ℕ
up_to zero = []
up_to (suc n) = up_to n ++ (n ∷ [])

-- what state p of code x gives to state q by duty d
abbrev pub given : Measuring → Automaton → ℕ → ℕ → ℕ → ℕ → ℕ
given m a q p x d = cond (a.next p d == q) (m.increase x (a.increase p d)) m.none

-- what it gives by all open duties of a mask
abbrev pub passed : Measuring → Automaton → ℕ → ℕ → ℕ → ℕ → ℕ
passed m a mask q p x = over m (given m a q p x) (duties mask)

-- what the states below n, of the codes x, pass to state q
abbrev pub pushed : Measuring → Automaton → ℕ → (ℕ → ℕ) → ℕ → ℕ → ℕ
pushed m a mask x q n = over m (λ p. passed m a mask q p (x p)) (up_to n)

-- what state q has from the codes x of the next place, by all open duties of a mask
abbrev pub pulled : Measuring → Automaton → ℕ → (ℕ → ℕ) → ℕ → ℕ
pulled m a mask x q = over m (λ d. m.increase (x (a.next q d)) (a.increase q d)) (duties mask)
