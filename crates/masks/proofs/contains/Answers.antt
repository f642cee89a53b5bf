use Rattle.std.proofs.Common.{ℕ, ◌/◌, ◌^◌, eqb, sym, ap, ◌∙◌, arith}
use lib.Bits.{and_mask}
use Rattle.std.proofs.lemmas.Bool.{le-ltb}
use Rattle.masks.proofs.Bits.{bit_past}
use Rattle.masks.proofs.contains.Goals as goal

pub returns-then-member-lt64 : goal.returns-then-member-lt64
returns-then-member-lt64 c = ap (λ (x : ℕ). eqb x 1) (and_mask (c.args.mask / 2 ^ c.args.member) 1)

pub returns-else-member-lt64 : goal.returns-else-member-lt64
returns-else-member-lt64 c =
    le-ltb c.args.member 64 c.if-member-lt64.false
    ∙ sym (ap (λ (x : ℕ). eqb x 1) (bit_past 64 c.args.mask c.args.member (omega arith) c.if-member-lt64.false))
