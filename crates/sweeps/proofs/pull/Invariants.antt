use Rattle.std.proofs.Common.{◌≡◌, ℕ, get_or}
use Rattle.masks.specs.Members.{members}
use Rattle.sweeps.specs.Joining.{over}
use Rattle.sweeps.specs.Place.{Neutral}
use Rattle.sweeps.proofs.pull.Given as goal

-- what is joined already, with what the duties still to come give, is what all give
abbrev pub invariant-loop-duty : goal.invariant-loop-duty
invariant-loop-duty g l =
    let m = g.M.Measure.kind in
    let a = g.C.CounterAutomaton.meaning l.automaton in
    let f : ℕ → ℕ = λ d. m.increase (get_or l.row (a.next l.state d) 0) (a.increase l.state d) in
    (goal.iterator-loop-duty g).can_next l.duty-iterator
    × (goal.iterator-loop-duty g).is_finite l.duty-iterator
    × Neutral m l.code
    × (m.join l.code (over m f (members 64 l.duty-iterator.rest)) ≡ over m f (members 64 l.mask))
