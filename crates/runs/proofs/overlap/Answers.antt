use Rattle.std.proofs.Common.{eqb, arith}
use lib.Bits.{bit_and, and_le_r}
use Rattle.std.proofs.lemmas.Bool.{not-true, not_from_false, eqb-false, ne_eqb}
use Rattle.runs.proofs.Spans.{shared_some, shared_none}
use Rattle.runs.proofs.overlap.Goals as goal

pub returns : goal.returns
returns c =
    let x = c.args.counts in
    let y = c.args.tally in (
      λ t. shared_some x y (eqb-false (bit_and x y) 0 (not-true (eqb (bit_and x y) 0) t)) (omega (arith, and_le_r x y, c.ranges.tally)),
      λ w. not_from_false (eqb (bit_and x y) 0) (ne_eqb (bit_and x y) 0 (λ z. shared_none x y w.0 z w.2 w.3)),
    )
