use Rattle.std.proofs.Common.{◌≡◌, ℕ, ◌<◌, min, List, ◌++◌, length, take, drop, refl, ap, ◌∙◌, arith}
use Rattle.std.proofs.lemmas.List.{length-take, take-append-drop}
use Rattle.families.specs.Meaning.{workspace_needed}
use Rattle.replay.specs.Requests.{request_of}
use Rattle.replay.proofs.Chains.{called_as}
use Rattle.replay.proofs.make.Goals as goal

pub returns : goal.returns
returns g c =
    let m = g.F.Family.meaning c.args.plan.now.held.family in
    let xs = c.args.workspace.now in
    let room = c.min-room.result in
    let long : min c.args.call.workspace (length xs) ≡ length (take room xs) = simp length-take (omega (arith, c.min-room.ensures)) in
    record {
      family = c.ask.ensures.family;
      called = called_as m _ _ _ _ _ _ (ap (λ (w : ℕ). request_of w c.args.call.request) long) refl c.ask.ensures.called;
      short = λ l.
          let few : length (take room xs) < workspace_needed = omega (arith, long) in
          ap (λ (ys : List ℕ). ys ++ drop room xs) (c.ask.ensures.short few) ∙ take-append-drop room xs;
    }
