use Rattle.std.proofs.Common.{◌≡◌, Some, None, sym, refl, ap, ◌∙◌, ◌-◌, length, List}
use Rattle.std.specs.List.{slice_get}
use Rattle.std.specs.Option.{option_copied}
use Rattle.refusals.specs.declared.PlanFault.TheVariants.{Void}
use Rattle.settling.specs.declared.Snapshot.{Snapshot}
use Rattle.histories.specs.Calls.{back}
use Rattle.histories.specs.Plans.{Step}
use Rattle.histories.proofs.Logs.{called}
use Rattle.planning.proofs.Refusing.{back_void}
use Rattle.planning.proofs.Stacks.{backed, no_back_level, last_found, last_missing}
use Rattle.planning.proofs.plan.Plan.back.Goals as goal

pub returns-then-self-clause-called : goal.returns-then-self-clause-called
returns-then-self-clause-called g c =
    let h = c.args.self.now.held in
    let m = g.F.Family.meaning h.family in
    called m (g.F.Family.lawful h.family) back _ _ _ (Step.refuses back Void (back_void m h.void _ c.if-self.true))

pub returns-in_default-clause-called : goal.returns-in_default-clause-called
returns-in_default-clause-called g c =
    let h = c.args.self.now.held in
    let m = g.F.Family.meaning h.family in
    let xs = c.args.self.now.stack.items in
    let none : slice_get xs (length xs - 1) ≡ None = ap (λ (ys : List Snapshot). slice_get ys (length ys - 1)) (sym c.as_slice.ensures.value) ∙ sym c.last.ensures.value ∙ ap option_copied c.in_default.is in
    called m (g.F.Family.lawful h.family) back _ _ _ (no_back_level m h.masks xs h.void c.if-self.false (last_missing xs none))

pub returns-clause-called : goal.returns-clause-called
returns-clause-called g c =
    let h = c.args.self.now.held in
    let m = g.F.Family.meaning h.family in
    let xs = c.args.self.now.stack.items in
    let found : slice_get xs (length xs - 1) ≡ Some c.in-Some.masks.now = ap (λ (ys : List Snapshot). slice_get ys (length ys - 1)) (sym c.as_slice.ensures.value) ∙ sym c.last.ensures.value ∙ ap option_copied c.in-Some.is in
    called m (g.F.Family.lawful h.family) back _ _ _
    (backed m h.masks xs h.void c.truncate.new.self.items (Some c.in-Some.masks.now) c.in-Some.masks.now c.len-2.result c.if-self.false
    (last_found xs c.truncate.new.self.items c.len.result c.in-Some.masks.now found c.len.ensures.value c.truncate.ensures.items) refl c.len-2.ensures.value)
