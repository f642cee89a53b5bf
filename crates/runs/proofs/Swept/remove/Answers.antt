use Rattle.std.proofs.Common.{ℕ, ◌≤◌, List, vec_items, sym, ap, ◌∙◌, subst, arith}
use lib.Bits.{and_le_r}
use Rattle.runs.specs.Choosing.{sieve}
use Rattle.runs.specs.Run.{put, kept}
use Rattle.runs.specs.Stays.{count_stays}
use Rattle.runs.proofs.Judged.{counts_kept}
use Rattle.runs.proofs.Putting.{lost_few, values_lost_few}
use Rattle.runs.proofs.Swept.remove.Goals as goal

pub overflow_add-result : goal.overflow_add-result
overflow_add-result g c =
    let few : c.removed.result ≤ 64 = subst (λ (n : ℕ). n ≤ 64) (sym c.removed.ensures) (lost_few 64 _ _) in
    omega (arith, c.told-cells, c.narrow.ensures.removed, values_lost_few c.args.cells.now c.narrow.new.cells)

pub returns : goal.returns
returns g c =
    let a = g.C.CounterAutomaton.meaning c.args.self.now.automaton.now in
    let lawful = g.C.CounterAutomaton.lawful c.args.self.now.automaton.now in
    let s = c.args.self.now in
    let row : List ℕ = vec_items c.args.row.now.cells in
    let cells : List ℕ = c.args.cells.now in
    let tally : ℕ = c.args.tally.now in
    let met : ℕ = c.met_counts.result in
    record {
      cells = c.narrow.ensures.cells ∙ ap (λ (ms : List ℕ). put row (kept a s.sense tally ms) cells) c.requires.masks;
      tally = counts_kept a lawful s.masks.now s.sense tally met (omega (arith, and_le_r tally met, c.met_counts.type_inv)) c.met_counts.ensures
          ∙ ap (λ (ms : List ℕ). sieve 64 tally (count_stays a ms s.sense)) c.requires.masks;
      removed = omega (arith, c.narrow.ensures.removed, c.removed.ensures);
    }
