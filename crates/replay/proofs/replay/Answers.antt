use Rattle.std.proofs.Common.{◌≡◌, ℕ, ◌^◌, ◌<◌, map, length, get_or, take, refl, ap, ◌∙◌, subst, arith, rules}
use Rattle.std.proofs.lemmas.List.{length-take, get_or-take}
use Rattle.families.specs.Meaning.{Meaning}
use Rattle.histories.specs.Law.{DraftCells}
use Rattle.histories.specs.Plans.{View, Called, Ran, voided}
use Rattle.histories.proofs.Histories.{history_of_run}
use Rattle.histories.proofs.Steps.{ran_void}
use Rattle.planning.specs.Views.{view, started}
use Rattle.replay.specs.Requests.{call_of, answer_of}
use Rattle.replay.specs.declared.Call.{Call}
use Rattle.replay.specs.declared.Request.TheVariants.{Decide}
use Rattle.replay.proofs.Chains.{ran_next, behind_kept}
use Rattle.replay.proofs.replay.Goals as goal

pub loop-i-init : goal.loop-i-init
loop-i-init g c = (refl, Ran.end (view c.start-plan.result.0), (λ l. refl), λ k d h. refl)

pub loop-i-preserved : goal.loop-i-preserved
loop-i-preserved g c =
    let m = g.F.Family.meaning in
    let f = c.start-plan.result.0.held.family in
    let w = length c.start-plan.new.workspace in
    let v = length c.loop-i.workspace in
    let i = c.loop-i.i in
    let xs = c.args.calls.now in
    let ys = c.loop-i.answers in
    let n = c.min-number.result in
    let d : Call = record { request = Decide 0 0; workspace = 0 } in
    let x = get_or xs i d in
    let a = c.make.result in
    let p = view c.start-plan.result.0 in
    let q = view c.loop-i.plan in
    let r = view c.make.new.plan in
    let long : length (take n xs) ≡ n = simp length-take (omega (arith, c.min-number.ensures)) in
    let here : i < n = omega (arith, c.loop-i-test.true, long) in
    let one : Called (m c.loop-i.plan.held.family) (call_of v x) (answer_of a) q r = subst (λ (y : Call). Called (m c.loop-i.plan.held.family) (call_of v y) (answer_of a) q r) (get_or-take n xs i d here) c.make.ensures.called in
    let two : Called (m f) (call_of v x) (answer_of a) q r = subst (λ (y : Meaning). Called y (call_of v x) (answer_of a) q r) (ap m c.loop-i.invariant.0) one in
    let three : Called (m f) (call_of w x) (answer_of a) q r = subst (λ (n : ℕ). Called (m f) (call_of n x) (answer_of a) q r) c.loop-i.auto.workspace two in
    let in-calls : i < length xs = omega (arith, here, c.min-number.ensures) in
    let in-answers : i < length ys = omega (arith, here, c.min-number.ensures, c.loop-i.auto.answers) in (
      c.make.ensures.family ∙ c.loop-i.invariant.0,
      ran_next (m f) w xs ys i d a p q r in-calls in-answers c.loop-i.invariant.1 three,
      (λ l. c.make.ensures.short (omega (arith, c.loop-i.auto.workspace, l)) ∙ c.loop-i.invariant.2 l),
      λ k e h. behind_kept ys i a k e h ∙ c.loop-i.invariant.3 k e (omega arith),
    )

pub returns : goal.returns
returns g c =
    let m = g.F.Family.meaning in
    let f = c.args.family in
    let cells = c.args.draft.cells in
    let long : length cells ≡ 192 = search rules in
    let narrow : (i : ℕ) → get_or cells i 0 < 2 ^ 16 = search rules in
    let draft : DraftCells cells = record { size = long; narrow = narrow; open_all = c.args.draft.some } in
    let xs = c.args.calls.now in
    let ys = c.loop-i.answers in
    let n = c.min-number.result in
    let w = length c.start-plan.new.workspace in
    let v = length c.args.workspace.now in
    let p = view c.start-plan.result.0 in
    let q = view c.loop-i.plan in
    let count : length (take n xs) ≡ n = simp length-take (omega (arith, c.min-number.ensures)) in
    let end : c.loop-i.i ≡ n = omega (arith, c.loop-i-test.false, count, c.loop-i.auto.i-end) in
    let one : Ran (m c.start-plan.result.0.held.family) p (map (call_of w) (take n xs)) (map answer_of (take n ys)) q =
    subst (λ (k : ℕ). Ran (m c.start-plan.result.0.held.family) p (map (call_of w) (take k xs)) (map answer_of (take k ys)) q) end c.loop-i.invariant.1 in
    let two : Ran (m f) p (map (call_of w) (take n xs)) (map answer_of (take n ys)) q =
    subst (λ (y : Meaning). Ran y p (map (call_of w) (take n xs)) (map answer_of (take n ys)) q) (ap m c.start-plan.ensures.family) one in
    let three : Ran (m f) p (map (call_of v) (take n xs)) (map answer_of (take n ys)) q =
    subst (λ (k : ℕ). Ran (m f) p (map (call_of k) (take n xs)) (map answer_of (take n ys)) q) c.start-plan.auto.workspace two in
    let stays : p ≡ voided → q ≡ voided = λ e. ran_void three (ap (λ (x : View). x.void) e) ∙ e in
    record {
      made = c.min-number.ensures;
      history = λ h.
          history_of_run (m f) (g.F.Family.lawful f) cells draft (started c.start-plan.result.1) (map (call_of v) (take n xs)) (map answer_of (take n ys)) q
          (p, c.start-plan.ensures.begun h, three);
      short = λ l.
          let s = c.start-plan.ensures.short l in
          (s.0, stays s.1, c.loop-i.invariant.2 (omega (arith, c.start-plan.auto.workspace, l)) ∙ s.2);
      short_answers = λ l.
          let e = (c.start-plan.ensures.short l).1 in
          subst (λ (x : View). Ran (m f) voided (map (call_of v) (take n xs)) (map answer_of (take n ys)) x) (stays e)
          (subst (λ (x : View). Ran (m f) x (map (call_of v) (take n xs)) (map answer_of (take n ys)) q) e three);
      beyond = λ k d h. c.loop-i.invariant.3 k d (omega (arith, end));
    }
