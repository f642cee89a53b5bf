use Rattle.std.proofs.Common.{◌<◌, length, sym, refl, ap, ◌∙◌, arith}
use Rattle.std.proofs.lemmas.List.{get_or-set_other, get_or-take, length-take}
use Rattle.posting.specs.Families.{rules_meaning}
use Rattle.posting.specs.declared.sizes.PlanSize.{PlanSize}
use Rattle.wire.specs.declared.frame.Frame.TheVariants as frame
use Rattle.interpreter.proofs.Performing.{makes_none, makes_next, makes_at, tells_as, no_call_is_none}
use Rattle.interpreter.proofs.perform.call_all.Goals as goal

pub loop-i-init : goal.loop-i-init
loop-i-init c = (refl, refl, makes_none _ _ _ _, λ k d h. refl)

pub returns-in_default-clause-stops : goal.returns-in_default-clause-stops
returns-in_default-clause-stops c =
    let n = c.min-number.result in
    let fs = c.args.calls.now in
    let before : c.loop-i.i < n = omega (arith, c.loop-i-test.true, length-take n fs) in record {
      in_list = omega (arith, before, c.min-number.ensures);
      in_room = omega (arith, before, c.min-number.ensures);
      at_end = λ h k. rw (get_or-take n fs c.loop-i.i (frame.Size 0) before) at (no_call_is_none c.in_default.ensures.tells.0);
    }

pub returns-in_default-clause-made : goal.returns-in_default-clause-made
returns-in_default-clause-made c = makes_at (sym c.in_default.ensures.tells.1) c.loop-i.invariant.2

pub loop-i-preserved : goal.loop-i-preserved
loop-i-preserved c =
    let inv = c.loop-i.invariant in
    let same = c.take.ensures.same in
    let fs = c.args.calls.now in
    let i = c.loop-i.i in
    let n = c.min-number.result in
    let before : i < n = omega (arith, c.loop-i-test.true, length-take n fs) in
    let same_frame = get_or-take n fs i (frame.Size 0) before in
    let in-calls : i < length fs = omega (arith, before, c.min-number.ensures) in
    let in_told : i < length c.loop-i.told = omega (arith, before, c.min-number.ensures, c.loop-i.auto.told) in (
      same.0 ∙ inv.0,
      same.1 ∙ inv.1,
      makes_next _ _ _ fs c.loop-i.told i (frame.Size 0) _ _ _ _ in-calls in_told inv.2
          (tells_as (ap rules_meaning inv.1) (ap (λ (x : PlanSize). x.cells) inv.0) c.loop-i.auto.workspace (rw same_frame at c.in-Ok.ensures.tells)) (sym (rw same_frame at c.if-not-asks_call.ensures)),
      λ k d h. get_or-set_other c.loop-i.told i k _ d (λ e. omega arith) ∙ inv.3 k d (omega arith),
    )
