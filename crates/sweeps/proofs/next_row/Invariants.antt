use Rattle.std.proofs.Common.{◌≡◌, ℕ, ◌<◌, get_or}
use Rattle.sweeps.specs.Place.{pushed}
use Rattle.sweeps.proofs.next_row.Given as goal

abbrev pub invariant-loop-state : goal.invariant-loop-state
invariant-loop-state g l =
    (q : ℕ) → q < 16 → get_or l.new q 0 ≡ pushed g.M.Measure.kind (g.C.CounterAutomaton.meaning l.automaton) l.mask (λ p. get_or l.row p 0) q l.state
