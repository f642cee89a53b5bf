use Rattle.std.proofs.Common.{◌≡◌, Option, MatchOption, ◌+◌, ◌-◌, ◌*◌, ◌<◌, ◌≤◌, sym, refl, ap, subst, mul-le-mul_left, mul-add, arith}
use Rattle.std.proofs.lemmas.Nat.{mul-le}
use Rattle.settling.specs.Masks.{of, Sized}
use Rattle.settling.specs.Rounds.{Names, Full, run, taken, fails, well, Settles}
use Rattle.settling.specs.Told.{place_of}
use Rattle.settling.specs.declared.Spot.{Spot}
use Rattle.settling.proofs.Spots.{tally_named}
use Rattle.settling.proofs.Order.{room, room_few}
use Rattle.settling.proofs.Runs.{run_room, run_sized, cells_kept}
use Rattle.settling.proofs.Rounds.{settles_outcome}
use Rattle.settling.proofs.Halfway.{recount, carries_rule, carries_empty, carries_end, carries_round, carries_join}
use Rattle.settling.proofs.settle.Goals as goal
use Rattle.settling.proofs.settle.Goals.{then-runs-gt1+then-taken-eq0, else-runs-gt1}

pub rounds-init : goal.rounds-init
rounds-init g c =
    let sized : Sized (of c.args.masks.now) = record {
      cells = omega arith;
      narrow = c.note_widths.ensures.cells;
      tallies = omega arith;
      fit = c.note_widths.ensures.tallies;
    } in (
      λ t e n k w. recount w refl refl (omega arith) (omega arith),
      omega arith,
      omega arith,
      sized,
      λ h. absurd (omega (arith, h)),
      sized,
    )

pub overflow_add-runs : goal.overflow_add-runs
overflow_add-runs g c =
    let few = (g.F.Family.lawful c.args.family.now).few in
    let top : room (of c.args.masks.now) ≤ 7680 =
    room_few (of c.args.masks.now) c.rounds.invariant.5 in
    let small : c.rule_count-count.result ≤ 72 = omega (arith, few, c.rule_count-count.ensures) in
    let sofar : c.rounds.removed ≤ 7680 = omega (arith, c.rounds.invariant.2, top) in
    let prod : c.rule_count-count.result * c.rounds.removed ≤ 72 * 7680 = mul-le _ _ 72 7680 small sofar in
    omega (arith, prod, small, c.rounds.invariant.1, c.loop-rule.invariant.2, c.loop-rule-test.true)

pub overflow_add-removed : goal.overflow_add-removed
overflow_add-removed g c =
    let m = g.F.Family.meaning c.args.family.now in
    let s = of c.loop-rule.masks in
    let h : c.loop-rule.rule < m.rules = omega (arith, c.loop-rule-test.true, c.rule_count-count.ensures) in
    let sum : room (run m c.loop-rule.rule s) + taken m c.loop-rule.rule s ≡ room s = run_room m (g.F.Family.lawful c.args.family.now) c.loop-rule.rule s h c.loop-rule.invariant.4 in
    let top : room (of c.args.masks.now) ≤ 7680 =
    room_few (of c.args.masks.now) c.rounds.invariant.5 in
    omega (arith, top, sum, c.rounds.invariant.2, c.loop-rule.invariant.3, c.run_rule-taken.ensures.removed)

pub empty_tally-emptied-requires : goal.empty_tally-emptied-requires
empty_tally-emptied-requires g c =
    let law = g.F.Family.lawful c.args.family.now in
    omega (arith, c.loop-rule-test.true, c.rule_count-count.ensures, law.few)

pub empty_spot-emptied-requires : goal.empty_spot-emptied-requires
empty_spot-emptied-requires g c =
    let law = g.F.Family.lawful c.args.family.now in
    omega (arith, c.loop-rule-test.true, c.rule_count-count.ensures, law.few)

pub loop-rule-preserved : goal.loop-rule-preserved
loop-rule-preserved g c =
    let m = g.F.Family.meaning c.args.family.now in
    let law = g.F.Family.lawful c.args.family.now in
    let r = c.loop-rule.rule in
    let s = of c.loop-rule.masks in
    let t = of c.run_rule-taken.new.masks in
    let h : r < m.rules = omega (arith, c.loop-rule-test.true, c.rule_count-count.ensures) in
    let found : MatchOption c.if-runs-gt1.emptied (Full t r) (λ p. Names t r (place_of p)) =
    elim c.if-runs-gt1.branch [
      | then-runs-gt1+then-taken-eq0 w ↦
          let all = cells_kept m law r s t c.run_rule-taken.result h c.loop-rule.invariant.4 c.run_rule-taken.ensures.after c.run_rule-taken.ensures.removed w.if-taken-eq0.true (c.loop-rule.invariant.5 (omega (arith, w.if-runs-gt1.true))) in
          rw w.emptied-is (tally_named t r w.empty_tally-emptied.result all w.empty_tally-emptied.ensures)
      | else-runs-gt1 w ↦ rw w.emptied-is w.empty_spot-emptied.ensures
    ] in
    let full : Full t r = subst (λ (o : Option Spot). MatchOption o (Full t r) (λ p. Names t r (place_of p))) c.in_default.is found in
    let after : t ≡ run m r s = c.run_rule-taken.ensures.after in
    let gone : c.run_rule-taken.result ≡ taken m r s = c.run_rule-taken.ensures.removed in
    let same : room t ≡ room (run m r s) = ap room after in
    let sum : room (run m r s) + taken m r s ≡ room s = run_room m law r s h c.loop-rule.invariant.4 in
    let up : c.rounds.removed ≤ c.loop-rule.removed = c.loop-rule.invariant.1 in
    let d = c.loop-rule.removed - c.rounds.removed in (
      carries_rule m r d s (of c.rounds.masks) r d c.loop-rule.invariant.0
          t c.run_rule-taken.result _ _ h after gone full (omega (arith, up)) (omega (arith, up)),
      omega (arith, up),
      omega (arith, c.loop-rule.invariant.2),
      omega (arith, same, sum, gone, c.loop-rule.invariant.3),
      subst Sized (sym after) (run_sized m law r s h c.loop-rule.invariant.4),
      λ _. full.cells,
    )

pub rounds-preserved : goal.rounds-preserved
rounds-preserved g c =
    let m = g.F.Family.meaning c.args.family.now in
    let r = c.loop-rule.rule in
    let s = of c.loop-rule.masks in
    let s1 = of c.rounds.masks in
    let s0 = of c.args.masks.now in
    let d = c.loop-rule.removed - c.rounds.removed in
    let count = c.rule_count-count.result in
    let up : c.rounds.removed ≤ c.loop-rule.removed = c.loop-rule.invariant.1 in
    let over : m.rules ≤ r = omega (arith, c.loop-rule-test.false, c.rule_count-count.ensures) in
    let more : c.rounds.removed + 1 ≤ c.loop-rule.removed = omega (arith, up, c.if-removed-before.false) in
    let turn = carries_round m r d s s1 r d c.loop-rule.invariant.0 over (omega (arith, more)) in
    let p : count * (c.rounds.removed + 1) ≤ count * c.loop-rule.removed = mul-le-mul_left count more in
    let q : count * (c.rounds.removed + 1) ≡ count * c.rounds.removed + count * 1 = mul-add count c.rounds.removed 1 in (
      carries_join m s s1 s0 r d c.rounds.runs c.rounds.removed _ _ turn c.rounds.invariant.0 (omega (arith, c.loop-rule.invariant.2)) (omega (arith, up)),
      omega (arith, p, q, c.rounds.invariant.1, c.loop-rule.invariant.2, c.loop-rule.auto.rule-end),
      omega (arith, c.rounds.invariant.2, c.loop-rule.invariant.3),
      c.loop-rule.invariant.4,
      c.loop-rule.invariant.5,
      c.rounds.invariant.5,
    )

pub returns-in-Some : goal.returns-in-Some
returns-in-Some g c =
    let m = g.F.Family.meaning c.args.family.now in
    let law = g.F.Family.lawful c.args.family.now in
    let r = c.loop-rule.rule in
    let s = of c.loop-rule.masks in
    let s1 = of c.rounds.masks in
    let s0 = of c.args.masks.now in
    let t = of c.run_rule-taken.new.masks in
    let d = c.loop-rule.removed - c.rounds.removed in
    let up : c.rounds.removed ≤ c.loop-rule.removed = c.loop-rule.invariant.1 in
    let h : r < m.rules = omega (arith, c.loop-rule-test.true, c.rule_count-count.ensures) in
    let found : MatchOption c.if-runs-gt1.emptied (Full t r) (λ p. Names t r (place_of p)) =
    elim c.if-runs-gt1.branch [
      | then-runs-gt1+then-taken-eq0 w ↦
          let all = cells_kept m law r s t c.run_rule-taken.result h c.loop-rule.invariant.4 c.run_rule-taken.ensures.after c.run_rule-taken.ensures.removed w.if-taken-eq0.true (c.loop-rule.invariant.5 (omega (arith, w.if-runs-gt1.true))) in
          rw w.emptied-is (tally_named t r w.empty_tally-emptied.result all w.empty_tally-emptied.ensures)
      | else-runs-gt1 w ↦ rw w.emptied-is w.empty_spot-emptied.ensures
    ] in
    let named : Names t r (place_of c.in-Some.spot) = subst (λ (o : Option Spot). MatchOption o (Full t r) (λ p. Names t r (place_of p))) c.in-Some.is found in
    let e = fails r (place_of c.in-Some.spot) in
    let w : Settles m t e 0 0 s1 (r + 1) (d + c.run_rule-taken.result) =
    carries_empty m r d s s1 r d c.loop-rule.invariant.0 t (place_of c.in-Some.spot) c.run_rule-taken.result _ _ h
    c.run_rule-taken.ensures.after c.run_rule-taken.ensures.removed named refl refl in
    let v : Settles m t e 0 0 s0 (c.loop-rule.runs + 1) (c.loop-rule.removed + c.run_rule-taken.result) =
    recount (c.rounds.invariant.0 t e _ _ w) refl refl (omega (arith, c.loop-rule.invariant.2)) (omega (arith, up)) in
    (omega arith, record { rounds = v; outcome = λ a. settles_outcome m law c.rounds.invariant.5 a v })

pub returns-then-removed-before : goal.returns-then-removed-before
returns-then-removed-before g c =
    let m = g.F.Family.meaning c.args.family.now in
    let law = g.F.Family.lawful c.args.family.now in
    let r = c.loop-rule.rule in
    let s = of c.loop-rule.masks in
    let s1 = of c.rounds.masks in
    let s0 = of c.args.masks.now in
    let d = c.loop-rule.removed - c.rounds.removed in
    let over : m.rules ≤ r = omega (arith, c.loop-rule-test.false, c.rule_count-count.ensures) in
    let w : Settles m s well 0 0 s1 r d = carries_end m r d s s1 r d c.loop-rule.invariant.0 over (omega (arith, c.if-removed-before.true)) in
    let v : Settles m s well 0 0 s0 c.loop-rule.runs c.loop-rule.removed =
    recount (c.rounds.invariant.0 s well _ _ w) refl refl (omega (arith, c.loop-rule.invariant.2)) (omega (arith, c.if-removed-before.true)) in
    (omega arith, record { rounds = v; outcome = λ a. settles_outcome m law c.rounds.invariant.5 a v })
