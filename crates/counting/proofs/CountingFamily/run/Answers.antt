use Rattle.std.proofs.Common.{◌≡◌, ◌≤◌, length, vec_items, sym, refl, ap, ⊎_elim, arith}
use Rattle.std.proofs.lemmas.Bool.{ltb-false}
use Rattle.families.specs.Meaning.{Left}
use Rattle.counting.specs.Family.{family_of}
use Rattle.counting.proofs.Found.{outside, found_inside, run_told, none_lost}
use Rattle.counting.proofs.CountingFamily.run.Goals as goal

pub returns-in_default : goal.returns-in_default
returns-in_default g c =
    let a = g.C.CounterAutomaton.meaning c.args.self.now.automaton in
    let rules = vec_items c.args.self.now.rules in
    let w = length c.args.workspace.now in
    let cells = c.args.cells.now in
    let tally = c.args.tally.now in
    let left : Left = record { cells = cells; tally = tally } in
    let at : length c.deref.result.now ≡ length rules = ap length c.deref.ensures.value in
    let beyond : length c.deref.result.now ≤ c.args.rule = ltb-false c.args.rule (length c.deref.result.now) (sym c.in_default.ensures.lookup.0) in
    let out : length rules ≤ c.args.rule = omega arith in
    let same = sym (outside (family_of a rules) w c.args.rule (((family_of a rules).rule c.args.rule).leaves cells tally) left out) in
    record {
      cells = ap (λ (l : Left). l.cells) same;
      tally = ap (λ (l : Left). l.tally) same;
      removed = sym (none_lost cells tally cells tally refl refl);
      left_alone = λ _. refl;
    }

pub returns : goal.returns
returns g c =
    let a = g.C.CounterAutomaton.meaning c.args.self.now.automaton in
    let rules = vec_items c.args.self.now.rules in
    let h = c.in-Some.ensures.lookup in
    let x = c.in-Some.rule.now in
    let inside = found_inside a rules c.deref.result.now c.deref.ensures.value c.args.rule x h.3.0 h.1 in
    let told = run_told a rules c.deref.result.now c.deref.ensures.value c.args.rule x h.3.0 h.1 c.args.workspace.now c.run.new.workspace c.args.cells.now c.run.new.cells c.args.tally.now c.run.new.tally
    c.unwrap_or.result c.run.result c.unwrap_or.ensures c.run.ensures in
    record {
      cells = told.0;
      tally = told.1;
      removed = told.2;
      left_alone = ⊎_elim (λ (out : length rules ≤ c.args.rule). absurd (omega arith)) told.3;
    }
