use Rattle.std.proofs.Common.{arith, rules}
use Rattle.automata.specs.Faults.{wrong_length, no_such_number, no_such_state}
use Rattle.automata.proofs.Table.new.Goals as goal

pub returns-then-steps-states-clause-made : goal.returns-then-steps-states-clause-made
returns-then-steps-states-clause-made c = rw c.min.ensures (wrong_length c.if-steps-states.true)

pub returns-then-states-lt1-clause-made : goal.returns-then-states-lt1-clause-made
returns-then-states-lt1-clause-made c = no_such_number (omega arith) (search rules)

pub returns-in-Some-clause-made : goal.returns-in-Some-clause-made
returns-in-Some-clause-made c = no_such_state (omega arith) (omega arith) (omega arith) c.in-Some.place (search rules)
