use Rattle.std.proofs.Common.{ℕ, ◌-◌, ap, arith}
use Rattle.std.proofs.lemmas.Nat.{one_shl}
use Rattle.runs.proofs.Spans.{below_decided, decides_same}
use Rattle.runs.proofs.counts_up_to.Goals as goal

pub returns-then-greatest-lt64 : goal.returns-then-greatest-lt64
returns-then-greatest-lt64 c k h = below_decided c.args.greatest _ k (ap (λ (x : ℕ). x - 1) (one_shl c.args.greatest 64 c.if-greatest-lt64.true))

pub returns-else-greatest-lt64 : goal.returns-else-greatest-lt64
returns-else-greatest-lt64 c k h =
    let o = c.if-greatest-lt64.false in
    let n : ℕ = 18446744073709551615 in
    decides_same n k (below_decided 64 n k (omega arith)) (λ l. omega arith, λ l. h)
