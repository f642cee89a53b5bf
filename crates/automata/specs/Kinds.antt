-- The kinds of automaton that are given by data: a set of duties, a table of steps, and classes before another automaton.
use Rattle.std.specs.Prelude.{◌≡◌, ℕ, ◌+◌, ◌*◌, ◌/◌, ◌%◌, ◌<◌, ◌≤◌, min, max, cond, List, length, nat_lt, slice_index}
use Rattle.masks.specs.Bit.{bit}
use Rattle.automata.specs.Automaton.{Automaton}

-- x at a state below s and a duty below 16, else 0
abbrev pub inside : ℕ → ℕ → ℕ → ℕ → ℕ
inside s q d x = cond (nat_lt q s) (cond (nat_lt d 16) x 0) 0

-- one state; each member of the set adds 1
abbrev pub among : ℕ → Automaton
among set = record { states = 1; next = λ q d. 0; increase = λ q d. inside 1 q d (bit set d) }

-- each duty is read as its class
abbrev pub mapped : List ℕ → Automaton → Automaton
mapped classes a = record {
  states = a.states;
  next = λ q d. inside a.states q d (a.next q (slice_index classes d));
  increase = λ q d. inside a.states q d (a.increase q (slice_index classes d));
}

-- the steps of s states: byte 16 * q + d is 16 times a next state, which is one of them, plus an increase
pub record GoodTable (s : ℕ) (steps : List ℕ) : Type 0 where
  pub some : 1 ≤ s
  pub few : s ≤ 16
  pub whole : length steps ≡ 16 * s
  pub below : (k : ℕ) → k < length steps → slice_index steps k / 16 < s

-- the automaton takes its steps from the bytes
pub record Reads (s : ℕ) (steps : List ℕ) (a : Automaton) : Type 0 where
  pub states : a.states ≡ s
  pub next : (q d : ℕ) → q < s → d < 16 → a.next q d ≡ slice_index steps (16 * q + d) / 16
  pub increase : (q d : ℕ) → q < s → d < 16 → a.increase q d ≡ slice_index steps (16 * q + d) % 16

-- a number of states, brought into 1 to 16
abbrev pub clamped : ℕ → ℕ
clamped s = max 1 (min s 16)

-- Any number and any bytes as a table: a missing byte is 0, and so is a next state that is none of the states. A good table is read as it stands.
abbrev pub table : ℕ → List ℕ → Automaton
table s steps = record {
  states = clamped s;
  next = λ q d. inside (clamped s) q d (cond (nat_lt (slice_index steps (16 * q + d) / 16) (clamped s)) (slice_index steps (16 * q + d) / 16) 0);
  increase = λ q d. inside (clamped s) q d (slice_index steps (16 * q + d) % 16);
}
