-- Tries, from what settling leaves.
use Rattle.std.proofs.Common.{◌≡◌, ℕ, zero, suc, ◌<◌, Bool, List, [], ◌∷◌, get_or, set, None, Ok, sym, refl, ◌∙◌, subst, arith}
use lib.Bits.{bit_and}
use Rattle.families.specs.Meaning.{Meaning}
use Rattle.settling.specs.Masks.{Masks}
use Rattle.settling.specs.Told.{place_of}
use Rattle.histories.specs.Decisions.{Decision, on_cell, on_tally, narrow, named}
use Rattle.histories.specs.Calls.{try, failed}
use Rattle.histories.specs.Plans.{View, Free, Step}
use Rattle.planning.specs.declared.plan.Try.{Try}
use Rattle.planning.specs.declared.plan.Try.TheVariants.{Settled, Failed, Own}
use Rattle.planning.specs.Views.{tried, Tried}

narrowed_at : (xs : List ℕ) (i x : ℕ) → get_or (set xs i (bit_and (get_or xs i 0) x)) i 0 ≡ bit_and (get_or xs i 0) x
narrowed_at [] i x = refl
narrowed_at (y ∷ ys) zero x = refl
narrowed_at (y ∷ ys) (suc i) x = narrowed_at ys i x

-- what the mask that a decision names becomes
pub named_cell : (s : Masks) (i x : ℕ) → named (on_cell i x) (narrow (on_cell i x) s) ≡ bit_and (get_or s.cells i 0) x
named_cell s i x = narrowed_at s.cells i x

pub named_tally : (s : Masks) (r x : ℕ) → named (on_tally r x) (narrow (on_tally r x) s) ≡ bit_and (get_or s.tallies r 0) x
named_tally s r x = narrowed_at s.tallies r x

module _ (m : Meaning) (p : View) (d : Decision) (w : ℕ) (free : Free m p (try d w)) where
  pub try_empties : (v : ℕ) → named d (narrow d p.now) ≡ v → v ≡ 0 → Step m p (try d w) (failed None 0 0) p
  try_empties v e z = Step.empties d w free (e ∙ z)

  open_named : (v : ℕ) → named d (narrow d p.now) ≡ v → 0 < v → 0 < named d (narrow d p.now)
  open_named v e h = omega (arith, e, h)

  abbrev with_masks : Masks → View
  with_masks t = record { now = t; below = p.below; void = p.void }

  settled : (v : ℕ) (t : Masks) (r : Try) → named d (narrow d p.now) ≡ v → 0 < v → Tried m (narrow d p.now) p.now t r → Step m p (try d w) (tried (Ok r)) (with_masks t)
  settled v t (Settled x) e h k = Step.settles d w t x.runs x.removed free (open_named v e h) k
  settled v t (Failed f) e h k =
      subst (λ (u : Masks). Step m p (try d w) (tried (Ok (Failed f))) (with_masks u)) (sym k.0)
      (Step.breaks d w k.1.0 f.rule (place_of f.spot) f.work.runs f.work.removed free (open_named v e h) k.1.1)
  settled v t Own e h k = absurd k

  pub try_settles : (v : ℕ) (t : Masks) (r : Try) (void : Bool) → named d (narrow d p.now) ≡ v → 0 < v → Tried m (narrow d p.now) p.now t r → void ≡ p.void
      → Step m p (try d w) (tried (Ok r)) (record { now = t; below = p.below; void = void })
  try_settles v t r void e h k same =
      subst (λ (b : Bool). Step m p (try d w) (tried (Ok r)) (record { now = t; below = p.below; void = b })) (sym same) (settled v t r e h k)
