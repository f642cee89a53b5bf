-- What a counter automaton means: it reads duties one after the other, moves from state to state, and adds to a total.
use Rattle.std.specs.Prelude.{◌≡◌, ℕ, ◌<◌, ◌≤◌, ◌⊎◌}

-- States are numbered from 0, and reading starts at state 0. At a state and a duty: the next state, and the increase of the total.
pub record Automaton : Type 0 where
  pub states : ℕ
  pub next : ℕ → ℕ → ℕ
  pub increase : ℕ → ℕ → ℕ

-- What every counter automaton keeps to. Outside, at a state or a duty that there is not, both answers are 0.
pub record Lawful (a : Automaton) : Type 0 where
  pub some : 1 ≤ a.states
  pub few : a.states ≤ 16
  pub next_below : (q d : ℕ) → a.next q d < a.states
  pub increase_small : (q d : ℕ) → a.increase q d ≤ 15
  pub outside : (q d : ℕ) → (a.states ≤ q) ⊎ (16 ≤ d) → (a.next q d ≡ 0) × (a.increase q d ≡ 0)
