-- What asks for workspace is refused where the workspace is too short.
use Rattle.std.proofs.Common.{◌≡◌, ℕ, ◌<◌, ltb, leb, length, None, Ok, Err, Option, Result, refl, arith}
use Rattle.std.proofs.lemmas.Bool.{ltb-false}
use Rattle.measures.specs.declared.Figures.{Figures}
use Rattle.refusals.specs.declared.PlanFault.{PlanFault}
use Rattle.refusals.specs.declared.PlanFault.TheVariants.{Rule, Workspace}
use Rattle.families.specs.Meaning.{Meaning, workspace_needed}
use Rattle.histories.specs.Decisions.{Decision}
use Rattle.histories.specs.Calls.{Answer, try, ask, of_figures, refused, else}
use Rattle.histories.specs.Plans.{View, Step}
use Rattle.histories.proofs.Refusals.{else_free, try_free}
use Rattle.planning.specs.Views.{tried, figured}
use Rattle.planning.specs.declared.plan.Try.{Try}
use Rattle.planning.specs.declared.plan.Try.TheVariants.{Settled, Failed, Own}

-- only a refusal is told as one
tried_refused : (r : Result Try PlanFault) (e : PlanFault) → tried r ≡ refused e → r ≡ Err e
tried_refused (Ok (Settled w)) e p = let z : ◌≡◌ {A = ℕ} 0 1 = cc in absurd (omega arith)
tried_refused (Ok (Failed f)) e p = let z : ◌≡◌ {A = ℕ} 0 1 = cc in absurd (omega arith)
tried_refused (Ok Own) e p = let z : ◌≡◌ {A = ℕ} 0 1 = cc in absurd (omega arith)
tried_refused (Err f) e p = cc

figured_refused : (r : Result (Option Figures) PlanFault) (e : PlanFault) → figured r ≡ refused e → r ≡ Err e
figured_refused (Ok o) e p = let z : ◌≡◌ {A = ℕ} 0 1 = cc in absurd (omega arith)
figured_refused (Err f) e p = cc

module _ (m : Meaning) (p : View) where
  try_short : {d : Decision} {w : ℕ} {a : Answer} {q : View} → Step m p (try d w) a q → w < workspace_needed → (e : PlanFault) × (a ≡ refused e)
  try_short (Step.refuses c e h) l = (e, refl)
  try_short (Step.empties d w h z) l = absurd (omega (arith, (try_free m p.void (length p.below) d w h).1))
  try_short (Step.settles d w t n k h o s) l = absurd (omega (arith, (try_free m p.void (length p.below) d w h).1))
  try_short (Step.breaks d w u r x n k h o s) l = absurd (omega (arith, (try_free m p.void (length p.below) d w h).1))

  figures_short : {r w : ℕ} {a : Answer} {q : View} → Step m p (ask (of_figures r) w) a q → w < workspace_needed → (e : PlanFault) × (a ≡ refused e)
  figures_short (Step.refuses c e h) l = (e, refl)
  figures_short {r} (Step.tells q w h) l =
      let a = else_free (leb m.rules r) Rule (else (ltb w workspace_needed) Workspace None) h in
      absurd (omega (arith, ltb-false w workspace_needed (else_free (ltb w workspace_needed) Workspace None a.1).0))

  -- a decision on too little workspace is refused
  pub tried_short : (d : Decision) (w : ℕ) (r : Result Try PlanFault) (q : View) → Step m p (try d w) (tried r) q → w < workspace_needed → (e : PlanFault) × (r ≡ Err e)
  tried_short d w r q s l = let a = try_short s l in (a.0, tried_refused r a.0 a.1)

  -- so is a question for figures
  pub figured_short : (i w : ℕ) (r : Result (Option Figures) PlanFault) (q : View) → Step m p (ask (of_figures i) w) (figured r) q → w < workspace_needed → (e : PlanFault) × (r ≡ Err e)
  figured_short i w r q s l = let a = figures_short s l in (a.0, figured_refused r a.0 a.1)
