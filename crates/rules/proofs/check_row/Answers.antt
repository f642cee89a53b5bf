use Rattle.std.proofs.Common.{arith, rules}
use Rattle.rules.specs.Rows.{wrong_length, no_cell, repeats}
use Rattle.rules.proofs.check_row.Goals as goal

pub returns-then-cells-lt1 : goal.returns-then-cells-lt1
returns-then-cells-lt1 c = rw c.min.ensures (wrong_length (search rules))

pub returns-in-Some : goal.returns-in-Some
returns-in-Some c = no_cell (omega arith) (omega arith) c.in-Some.place (search rules)

pub returns-in-Some-first_repeat : goal.returns-in-Some-first_repeat
returns-in-Some-first_repeat c =
    let repeat = c.in-Some-first_repeat.ensures in
    repeats (omega arith) (omega arith) (search rules) c.in-Some-first_repeat.place repeat.0 repeat.1 repeat.2
