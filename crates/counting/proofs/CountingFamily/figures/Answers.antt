use Rattle.std.proofs.Common.{◌<◌, ◌≤◌, length, None, vec_items, sym, ap, ◌∙◌, ⊎_elim, arith}
use Rattle.std.proofs.lemmas.Bool.{cases_lt}
use Rattle.sweeps.specs.Figures.{figures_of}
use Rattle.families.specs.Meaning.{workspace_needed}
use Rattle.rules.specs.declared.Row.{Row}
use Rattle.runs.specs.Run.{along}
use Rattle.counting.specs.Family.{family_of}
use Rattle.counting.proofs.Found.{short, found_inside, found_figured}
use Rattle.counting.proofs.CountingFamily.figures.Goals as goal

pub returns : goal.returns
returns g c =
    let a = g.C.CounterAutomaton.meaning c.args.self.now.automaton in
    let rules = vec_items c.args.self.now.rules in
    let w = length c.args.workspace.now in
    let cells = c.args.cells.now in
    let h = c.in_ok-rule.ensures.lookup in
    let x = c.in_ok-rule.rule.now in
    let told = c.row_figures.ensures in
    record {
      figures = ⊎_elim
          (λ (k : w < workspace_needed). (told.short k).0 ∙ sym (short (family_of a rules) w c.args.rule (((family_of a rules).rule c.args.rule).figures cells) None k))
          (λ (k : workspace_needed ≤ w).
          told.figures k ∙ ap (λ (row : Row). figures_of a (along (vec_items row.cells) cells)) c.row.ensures
          ∙ sym (found_figured a rules c.deref.result.now c.deref.ensures.value c.args.rule x h.3.0 h.1 w cells k))
          (cases_lt w workspace_needed);
      left_alone = ⊎_elim
          (λ (out : length rules ≤ c.args.rule). absurd (omega (arith, found_inside a rules c.deref.result.now c.deref.ensures.value c.args.rule x h.3.0 h.1)))
          (λ (k : w < workspace_needed). (told.short k).1);
    }
