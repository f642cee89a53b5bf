use Rattle.std.proofs.Common.{◌≡◌, ℕ, ◌+◌, ◌*◌, ◌<◌, ◌≤◌, get_or}
use Rattle.sweeps.specs.Sweep.{forward_at, needed}
use Rattle.sweeps.proofs.forward.Given as goal

abbrev pub invariant-loop-i : goal.invariant-loop-i
invariant-loop-i g l =
    let at = forward_at g.M.Measure.kind (g.C.CounterAutomaton.meaning l.automaton) l.masks in
    ((q : ℕ) → q < 16 → get_or l.row q 0 ≡ at l.i q)
    × ((i q : ℕ) → i ≤ l.i → q < 16 → get_or l.codes (16 * i + q) 0 ≡ at i q)
    × ((k : ℕ) → needed l.masks ≤ k → get_or l.codes k 0 ≡ get_or l.initial.codes k 0)
