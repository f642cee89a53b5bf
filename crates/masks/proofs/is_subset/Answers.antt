use lib.Bits.{bit_and}
use Rattle.std.proofs.lemmas.Bool.{eqb-true, eq-eqb}
use Rattle.masks.proofs.Bits.{within_and, and_within}
use Rattle.masks.proofs.is_subset.Goals as goal

pub returns : goal.returns
returns c =
    let a = c.args.part in
    let b = c.args.whole in
    (λ t. and_within a b (eqb-true (bit_and a b) a t), λ w. eq-eqb (bit_and a b) a (within_and a b w))
