use Rattle.std.proofs.Common.{◌≡◌, ◌<◌, length, sym, ◌∙◌, arith}
use Rattle.std.proofs.lemmas.Bool.{eqb-true, eqb-false}
use Rattle.refusals.specs.declared.PlanFault.TheVariants.{Void, LevelsFull}
use Rattle.histories.specs.Calls.{mark}
use Rattle.histories.specs.Plans.{Step}
use Rattle.histories.proofs.Logs.{called}
use Rattle.planning.proofs.Refusing.{mark_void, mark_full}
use Rattle.planning.proofs.Stacks.{length_levels, marked}
use Rattle.planning.proofs.plan.Plan.mark.Goals as goal

pub returns-then-self-clause-called : goal.returns-then-self-clause-called
returns-then-self-clause-called g c =
    let h = c.args.self.now.held in
    let m = g.F.Family.meaning h.family in
    called m (g.F.Family.lawful h.family) mark _ _ _ (Step.refuses mark Void (mark_void m h.void _ c.if-self.true))

pub returns-then-is_full-clause-called : goal.returns-then-is_full-clause-called
returns-then-is_full-clause-called g c =
    let h = c.args.self.now.held in
    let m = g.F.Family.meaning h.family in
    let xs = c.args.self.now.stack.items in
    let full : length xs ≡ 16 = eqb-true (length xs) 16 (sym c.is_full.ensures.value ∙ c.if-is_full.true) in
    called m (g.F.Family.lawful h.family) mark _ _ _ (Step.refuses mark LevelsFull (mark_full m h.void _ c.if-self.false (omega (arith, full, length_levels xs))))

pub returns-clause-called : goal.returns-clause-called
returns-clause-called g c =
    let h = c.args.self.now.held in
    let m = g.F.Family.meaning h.family in
    let xs = c.args.self.now.stack.items in
    let room : length xs ≡ 16 → ⊥ = eqb-false (length xs) 16 (sym c.is_full.ensures.value ∙ c.if-is_full.false) in
    let few : length xs < 16 = omega (arith, room, c.is_full.ensures.fits) in
    called m (g.F.Family.lawful h.family) mark _ _ _ (marked m h.masks xs h.void c.push.new.self.items c.len.result c.if-self.false few c.push.ensures.items c.len.ensures.value)
