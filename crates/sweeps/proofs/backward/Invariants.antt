use Rattle.std.proofs.Common.{◌≡◌, ℕ, ◌+◌, ◌*◌, ◌<◌, ◌≤◌, length, get_or, take}
use Rattle.sweeps.specs.Sweep.{backward_at, needed}
use Rattle.sweeps.proofs.backward.Given as goal

abbrev pub invariant-loop-i : goal.invariant-loop-i
invariant-loop-i g l =
    let m = g.M.Measure.kind in
    let a = g.C.CounterAutomaton.meaning l.automaton in
    let n = length l.i-iterator.iter.iter.rest.now in
    let at = backward_at m a l.masks in
    (l.i-iterator.iter.iter.rest.now ≡ take n l.masks)
    × (l.i-iterator.iter.count ≡ 0)
    × ((q : ℕ) → q < a.states → get_or l.row q 0 ≡ at n q)
    × ((i q : ℕ) → n ≤ i → i ≤ length l.masks → q < a.states → get_or l.codes (16 * i + q) 0 ≡ at i q)
    × ((i q : ℕ) → n ≤ i → i ≤ length l.masks → a.states ≤ q → q < 16 → get_or l.codes (16 * i + q) 0 ≡ m.none)
    × ((k : ℕ) → needed l.masks ≤ k → get_or l.codes k 0 ≡ get_or l.initial.codes k 0)
