use Rattle.std.proofs.Common.{◌≡◌, ℕ, ◌<◌, ◌≤◌, List, length, get_or, vec_items, sym, refl, ap, ◌∙◌, arith}
use Rattle.std.proofs.lemmas.List.{length-map, get_or-map, take_all}
use Rattle.masks.specs.Members.{lost}
use Rattle.families.proofs.Losses.{values_lost_none}
use Rattle.runs.specs.Run.{put, kept}
use Rattle.runs.proofs.Putting.{lost_few, narrow_more}
use Rattle.runs.proofs.Swept.narrow.Goals as goal

pub loop-i-init : goal.loop-i-init
loop-i-init g c = (refl, sym (values_lost_none c.args.cells.now), omega arith)

pub kept_duties-kept-requires : goal.kept_duties-kept-requires
kept_duties-kept-requires g c =
    let row : List ℕ = vec_items c.args.row.now.cells in
    let cells : List ℕ = c.args.cells.now in
    record {
      place = omega (arith, ap length c.requires.masks, length-map row (λ (j : ℕ). get_or cells j 0), ap length c.cells-cell-items.ensures, c.loop-i-test.true);
    }

pub bounds-self-i : goal.bounds-self-i
bounds-self-i g c =
    let row : List ℕ = vec_items c.args.row.now.cells in
    let cells : List ℕ = c.args.cells.now in
    omega (arith, ap length c.requires.masks, length-map row (λ (j : ℕ). get_or cells j 0), ap length c.cells-cell-items.ensures, c.loop-i-test.true)

pub overflow_add-removed : goal.overflow_add-removed
overflow_add-removed g c =
    omega (
      arith,
      c.args.row.now.few,
      ap length c.cells-cell-items.ensures,
      c.loop-i-test.true,
      c.loop-i.invariant.2,
      c.removed-removed.ensures,
      lost_few 64 c.from.result c.from-in-loop-i.result,
    )

pub loop-i-preserved : goal.loop-i-preserved
loop-i-preserved g c =
    let a = g.C.CounterAutomaton.meaning c.args.self.now.automaton.now in
    let s = c.args.self.now in
    let masks : List ℕ = s.masks.now in
    let row : List ℕ = vec_items c.args.row.now.cells in
    let cells : List ℕ = c.args.cells.now in
    let i : ℕ = c.loop-i.i in
    let f : ℕ → ℕ = kept a s.sense c.args.tally masks in
    let within : i < length row = omega (arith, ap length c.cells-cell-items.ensures, c.loop-i-test.true) in
    let cell : ℕ = get_or c.cells-cell-items.result.now i 0 in
    let mask : c.from.result ≡ get_or cells (get_or row i 0) 0 = c.from.ensures ∙ ap (λ (l : List ℕ). get_or l i 0) c.requires.masks ∙ get_or-map (λ (j : ℕ). get_or cells j 0) row i 0 0 within in
    narrow_more row c.args.row.now.different i within f cells c.loop-i.cells cell c.from.result c.kept_duties-kept.result c.loop-i.removed c.removed-removed.result
    (omega (arith, c.args.row.now.below i within, c.told-cells)) (ap (λ (l : List ℕ). get_or l i 0) c.cells-cell-items.ensures) mask c.kept_duties-kept.ensures
    (c.removed-removed.ensures ∙ ap (λ (m : ℕ). length (lost 64 c.from.result m)) c.from-in-loop-i.ensures)
    c.loop-i.invariant.0 c.loop-i.invariant.1 c.loop-i.invariant.2

pub returns : goal.returns
returns g c =
    let a = g.C.CounterAutomaton.meaning c.args.self.now.automaton.now in
    let s = c.args.self.now in
    let row : List ℕ = vec_items c.args.row.now.cells in
    let all : length row ≤ c.loop-i.i = omega (arith, ap length c.cells-cell-items.ensures, c.loop-i-test.false) in
    record {
      cells = c.loop-i.invariant.0 ∙ ap (λ (l : List ℕ). put l (kept a s.sense c.args.tally s.masks.now) c.args.cells.now) (take_all c.loop-i.i row all);
      removed = c.loop-i.invariant.1;
    }
