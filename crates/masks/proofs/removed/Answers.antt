use Rattle.std.proofs.Common.{◌-◌, ◌^◌, sym, arith}
use lib.Bits.{and_le_l}
use Rattle.masks.proofs.Counting.{length_lost}
use Rattle.masks.proofs.removed.Goals as goal

pub returns : goal.returns
returns c =
    let b = c.args.before in
    let a = c.args.after in
    sym (length_lost 64 b a (omega arith) (omega arith) (omega (arith, and_le_l b (2 ^ 64 - 1 - a))))
