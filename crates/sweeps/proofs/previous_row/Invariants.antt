use Rattle.std.proofs.Common.{◌≡◌, ℕ, ◌<◌, get_or}
use Rattle.sweeps.specs.Place.{pulled}
use Rattle.sweeps.proofs.previous_row.Given as goal

abbrev pub invariant-loop-state : goal.invariant-loop-state
invariant-loop-state g l =
    (q : ℕ) → q < l.state → get_or l.code-items q 0 ≡ pulled g.M.Measure.kind (g.C.CounterAutomaton.meaning l.automaton) l.mask (λ p. get_or l.row p 0) q
