use Rattle.std.proofs.Common.{◌≡◌, ℕ, ◌<◌, get_or, arith, rules}
use Rattle.families.specs.Meaning.{start_of}
use Rattle.planning.proofs.Starting.{made_at, starts_made}
use Rattle.planning.proofs.plan.drafts.start_masks.Goals as goal

pub returns : goal.returns
returns g c =
    let ys = c.from_fn.result in
    let each : (r : ℕ) → r < 72 → get_or ys r 0 ≡ start_of (g.F.Family.meaning c.args.family.now) r =
    λ r h. made_at _ (λ p i y. y ≡ start_of (g.F.Family.meaning p.0.now) i) (λ p i y q k. search rules) _ ys 0 72 r 0 c.from_fn.ensures.items.each (omega arith) (omega arith) in
    starts_made _ (g.F.Family.lawful c.args.family.now) c.args.cells ys c.from_fn.ensures.items.long each
