use Rattle.std.proofs.Common.{length, refl, ap, rules}
use Rattle.planning.specs.Views.{view, tried, held, figured}
use Rattle.histories.specs.Decisions.{on_cell, on_tally}
use Rattle.replay.specs.Requests.{request_of}
use Rattle.replay.proofs.Short.{tried_short, figured_short}
use Rattle.replay.proofs.Chains.{called_as, mapped}
use Rattle.replay.proofs.ask.Goals as goal

pub returns-in-Decide : goal.returns-in-Decide
returns-in-Decide g c =
    let m = g.F.Family.meaning c.args.plan.now.held.family in
    let w = length c.args.workspace.now in
    let r = c.decide.result in
    record {
      family = c.decide.ensures.family;
      called = called_as m _ _ _ _ _ _ (ap (request_of w) c.in-Decide.is) (mapped tried _ _ c.map.ensures.cases (λ x y h. search rules) (λ e. refl)) c.decide.ensures.called;
      short = λ l.
          let e = tried_short m (view c.args.plan.now) (on_cell c.in-Decide.cell c.in-Decide.mask) w r (view c.decide.new.self) c.decide.ensures.called.step l in
          c.decide.ensures.refused_leaves_workspace e.0 e.1;
    }

pub returns-in-Bound : goal.returns-in-Bound
returns-in-Bound g c =
    let m = g.F.Family.meaning c.args.plan.now.held.family in
    let w = length c.args.workspace.now in
    let r = c.bound.result in
    record {
      family = c.bound.ensures.family;
      called = called_as m _ _ _ _ _ _ (ap (request_of w) c.in-Bound.is) (mapped tried _ _ c.map-in-Bound.ensures.cases (λ x y h. search rules) (λ e. refl)) c.bound.ensures.called;
      short = λ l.
          let e = tried_short m (view c.args.plan.now) (on_tally c.in-Bound.rule c.in-Bound.tally) w r (view c.bound.new.self) c.bound.ensures.called.step l in
          c.bound.ensures.refused_leaves_workspace e.0 e.1;
    }

pub returns-in-Cell : goal.returns-in-Cell
returns-in-Cell g c =
    let m = g.F.Family.meaning c.args.plan.now.held.family in
    let w = length c.args.workspace.now in
    record {
      family = refl {a = c.args.plan.now.held.family};
      called = called_as m _ _ _ _ _ _ (ap (request_of w) c.in-Cell.is) (mapped held _ _ c.map-in-Cell.ensures.cases (λ x y h. search rules) (λ e. refl)) (c.cell.ensures w);
      short = λ l. refl {a = c.args.workspace.now};
    }

pub returns-in-Tally : goal.returns-in-Tally
returns-in-Tally g c =
    let m = g.F.Family.meaning c.args.plan.now.held.family in
    let w = length c.args.workspace.now in
    record {
      family = refl {a = c.args.plan.now.held.family};
      called = called_as m _ _ _ _ _ _ (ap (request_of w) c.in-Tally.is) (mapped held _ _ c.map-in-Tally.ensures.cases (λ x y h. search rules) (λ e. refl)) (c.tally.ensures w);
      short = λ l. refl {a = c.args.workspace.now};
    }

pub returns-in-Figures : goal.returns-in-Figures
returns-in-Figures g c =
    let m = g.F.Family.meaning c.args.plan.now.held.family in
    let w = length c.args.workspace.now in
    let r = c.figures.result in
    record {
      family = refl {a = c.args.plan.now.held.family};
      called = called_as m _ _ _ _ _ _ (ap (request_of w) c.in-Figures.is) (mapped figured _ _ c.map-in-Figures.ensures.cases (λ x y h. search rules) (λ e. refl)) c.figures.ensures.called;
      short = λ l.
          let e = figured_short m (view c.args.plan.now) c.in-Figures.rule w r (view c.args.plan.now) c.figures.ensures.called.step l in
          c.figures.ensures.refused_leaves_workspace e.0 e.1;
    }
