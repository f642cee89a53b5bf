use Rattle.std.proofs.Common.{◌≡◌, ℕ, ◌<◌, length, get_or}
use Rattle.masks.specs.Members.{members}
use Rattle.sweeps.specs.Joining.{over}
use Rattle.sweeps.specs.Place.{Neutral, given as gives}
use Rattle.sweeps.proofs.pass.Given as goal

-- what is joined already, with what the duties still to come give, is what was there with what all give
abbrev pub invariant-loop-duty : goal.invariant-loop-duty
invariant-loop-duty g l =
    let m = g.M.Measure.kind in
    let a = g.C.CounterAutomaton.meaning l.automaton in
    (goal.iterator-loop-duty g).can_next l.duty-iterator
    × (goal.iterator-loop-duty g).is_finite l.duty-iterator
    × (length l.row ≡ 16)
    × ((q : ℕ) → q < 16 → Neutral m (get_or l.row q 0))
    × ((q : ℕ) → q < 16 → m.join (get_or l.row q 0) (over m (gives m a q l.state l.code) (members 64 l.duty-iterator.rest)) ≡ m.join (get_or l.initial.row q 0) (over m (gives m a q l.state l.code) (members 64 l.mask)))
