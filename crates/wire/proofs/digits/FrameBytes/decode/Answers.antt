use Rattle.std.proofs.Common.{inl, inr, arith, rules}
use Rattle.wire.specs.Digits.{no_line, no_digit, left_over}
use Rattle.wire.proofs.digits.FrameBytes.decode.Goals as goal
use Rattle.wire.proofs.digits.FrameBytes.decode.Goals.{then-not-line-via-then-not-line, then-not-line-via-else-not-line+then-is_empty, then-not-line-via-else-not-line+else-is_empty+then-text-gt-LONGEST}

pub returns-then-not-line : goal.returns-then-not-line
returns-then-not-line c = no_line
    (elim c.then-not-line.branch [
      | then-not-line-via-then-not-line w ↦ inl w.if-not-line.true
      | then-not-line-via-else-not-line+then-is_empty w ↦ inr (inl (search rules))
      | then-not-line-via-else-not-line+else-is_empty+then-text-gt-LONGEST w ↦ inr (inr (omega arith))
    ])

pub returns-in-Some : goal.returns-in-Some
returns-in-Some c = no_digit (search rules) c.in-Some.place c.in-Some.ensures

pub returns-then-text-eq1 : goal.returns-then-text-eq1
returns-then-text-eq1 c = left_over (search rules) (search rules) (search rules)
