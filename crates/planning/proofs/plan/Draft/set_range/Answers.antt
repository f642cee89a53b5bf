use Rattle.std.proofs.Common.{◌≡◌, ◌+◌, ◌<◌, ◌⊎◌, refl, inl, inr, arith}
use Rattle.planning.specs.Drafts.{no_range, no_duty}
use Rattle.planning.proofs.plan.Draft.set_range.Goals as goal
use Rattle.planning.proofs.plan.Draft.set_range.Goals.{then-number-eq0-via-then-number-eq0, then-number-eq0-via-else-number-eq0+then-first-gt192, then-number-eq0-via-else-number-eq0+else-first-gt192+then-number-first}

pub returns-then-number-eq0 : goal.returns-then-number-eq0
returns-then-number-eq0 c =
    let bad : (c.args.number ≡ 0) ⊎ (192 < c.args.first + c.args.number) =
    elim c.then-number-eq0.branch [
      | then-number-eq0-via-then-number-eq0 w ↦ inl w.if-number-eq0.true
      | then-number-eq0-via-else-number-eq0+then-first-gt192 w ↦ inr (omega (arith, w.if-first-gt192.true))
      | then-number-eq0-via-else-number-eq0+else-first-gt192+then-number-first w ↦ inr (omega (arith, w.if-number-first.true, w.if-first-gt192.false))
    ] in
    (no_range bad, refl)

pub returns-then-mask-eq0 : goal.returns-then-mask-eq0
returns-then-mask-eq0 c = (no_duty (omega (arith, c.if-number-eq0.false), omega (arith, c.if-number-first.false, c.if-first-gt192.false, c.if-number-eq0.false)) c.if-mask-eq0.true, refl)
