use Rattle.std.proofs.Common.{arith}
use Rattle.sweeps.proofs.figure.Goals as goal

pub returns : goal.returns
returns g c =
    let swept = c.in_ok-backward.ensures in
    (swept.enough, swept.each 0 0 (omega arith) (g.C.CounterAutomaton.lawful c.args.automaton.now).some, swept.beyond)
