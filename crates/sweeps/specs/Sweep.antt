-- What a sweep over a row of masks finds, at each place and state.
use Rattle.std.specs.Prelude.{◌≡◌, ℕ, ◌+◌, ◌*◌, ◌<◌, ◌≤◌, List, length, take, drop, slice_index}
use Rattle.refusals.specs.declared.PlanFault.{PlanFault}
use Rattle.refusals.specs.declared.PlanFault.TheVariants.{Workspace}
use Rattle.automata.specs.Automaton.{Automaton}
use Rattle.measures.specs.Measuring.{Measuring}
use Rattle.sweeps.specs.Sequences.{sequences, leading}
use Rattle.sweeps.specs.Joining.{over, code}

-- forward at place i and state q: the sequences over the i masks before the place which end in q, joined
abbrev pub forward_at : Measuring → Automaton → List ℕ → ℕ → ℕ → ℕ
forward_at m a masks i q = over m (code m a 0) (leading a q (sequences (take i masks)))

-- backward at place i and state q: the sequences over the other masks, read from q, joined
abbrev pub backward_at : Measuring → Automaton → List ℕ → ℕ → ℕ → ℕ
backward_at m a masks i q = over m (code m a q) (sequences (drop i masks))

-- how many codes a sweep over a row writes: sixteen for each place, one past the last included
abbrev pub needed : List ℕ → ℕ
needed masks = 16 * (length masks + 1)

-- Code 16 * i + q is that of place i and state q, and none where the automaton has no state q. Codes beyond are as they were.
pub record Swept (m : Measuring) (a : Automaton) (masks : List ℕ) (at : ℕ → ℕ → ℕ) (old new : List ℕ) : Type 0 where
  pub enough : needed masks ≤ length old
  pub each : (i q : ℕ) → i ≤ length masks → q < a.states → slice_index new (16 * i + q) ≡ at i q
  pub absent : (i q : ℕ) → i ≤ length masks → a.states ≤ q → q < 16 → slice_index new (16 * i + q) ≡ m.none
  pub beyond : (k : ℕ) → needed masks ≤ k → slice_index new k ≡ slice_index old k

abbrev pub SweptForward : Measuring → Automaton → List ℕ → List ℕ → List ℕ → Type 0
SweptForward m a masks old new = Swept m a masks (forward_at m a masks) old new

abbrev pub SweptBackward : Measuring → Automaton → List ℕ → List ℕ → List ℕ → Type 0
SweptBackward m a masks old new = Swept m a masks (backward_at m a masks) old new

-- codes that are too short for a row: refused, and left as they were
abbrev pub TooShort : List ℕ → List ℕ → List ℕ → PlanFault → Type 0
TooShort masks old new e = (e ≡ Workspace) × (length old < needed masks) × (new ≡ old)

-- codes beyond those that a row needs are left as they were
abbrev pub BeyondKept : List ℕ → List ℕ → List ℕ → Type 0
BeyondKept masks old new = (k : ℕ) → needed masks ≤ k → slice_index new k ≡ slice_index old k
