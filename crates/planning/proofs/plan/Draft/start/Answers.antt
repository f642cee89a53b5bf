use Rattle.std.proofs.Common.{◌≡◌, ℕ, ◌^◌, ◌<◌, length, get_or, arith, rules}
use Rattle.settling.specs.Masks.{of}
use Rattle.settling.specs.Rounds.{well, fails, Settles}
use Rattle.settling.specs.Told.{place_of}
use Rattle.histories.specs.Law.{DraftCells}
use Rattle.planning.specs.Views.{view}
use Rattle.planning.proofs.Starting.{start_settled, start_void}
use Rattle.planning.proofs.plan.Draft.start.Goals as goal

pub returns-in-Ok-Ok : goal.returns-in-Ok-Ok
returns-in-Ok-Ok g c =
    let long : length c.args.self.cells ≡ 192 = search rules in
    let narrow : (i : ℕ) → get_or c.args.self.cells i 0 < 2 ^ 16 = search rules in
    let draft : DraftCells c.args.self.cells = record { size = long; narrow = narrow; open_all = c.args.self.some } in
    let m = g.F.Family.meaning c.args.family in
    let s = of c.start_masks-masks.result in
    let t = of c.settle.new.masks in
    let rounds : Settles m t well 0 0 s c.in-Ok-Ok.work.runs c.in-Ok-Ok.work.removed = search rules in
    record {
      family = c.begun.ensures.family;
      begun = λ h.
          start_settled m (g.F.Family.lawful c.args.family) c.args.self.cells draft s c.start_masks-masks.ensures t c.in-Ok-Ok.work.runs c.in-Ok-Ok.work.removed
          (view c.begun.result) rounds c.begun.ensures.view;
      short = λ h. absurd (omega (arith, c.in-Ok-Ok.ensures.0, h));
    }

pub returns-in-Ok-Err : goal.returns-in-Ok-Err
returns-in-Ok-Err g c =
    let long : length c.args.self.cells ≡ 192 = search rules in
    let narrow : (i : ℕ) → get_or c.args.self.cells i 0 < 2 ^ 16 = search rules in
    let draft : DraftCells c.args.self.cells = record { size = long; narrow = narrow; open_all = c.args.self.some } in
    let m = g.F.Family.meaning c.args.family in
    let s = of c.start_masks-masks.result in
    let t = of c.settle.new.masks in
    let f = c.in-Ok-Err.failure in
    let rounds : Settles m t (fails f.rule (place_of f.spot)) 0 0 s f.work.runs f.work.removed = search rules in
    record {
      family = search rules;
      begun = λ h.
          start_void m (g.F.Family.lawful c.args.family) c.args.self.cells draft s c.start_masks-masks.ensures t f.work.runs f.work.removed
          _ f.rule (place_of f.spot) rounds (search rules);
      short = λ h. absurd (omega (arith, c.in-Ok-Err.ensures.0, h));
    }
