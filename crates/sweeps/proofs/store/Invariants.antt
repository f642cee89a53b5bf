use Rattle.std.proofs.Common.{◌≡◌, ℕ, ◌+◌, ◌*◌, ◌<◌, ◌≤◌, get_or}
use Rattle.sweeps.proofs.store.Given as goal

abbrev pub invariant-loop-q : goal.invariant-loop-q
invariant-loop-q l =
    ((k : ℕ) → k < l.q → get_or l.codes (16 * l.place + k) 0 ≡ get_or l.row k 0)
    × ((k : ℕ) → k < 16 * l.place → get_or l.codes k 0 ≡ get_or l.initial.codes k 0)
    × ((k : ℕ) → 16 * l.place + l.q ≤ k → get_or l.codes k 0 ≡ get_or l.initial.codes k 0)
