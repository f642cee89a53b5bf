-- What a plan shows, and what its answers say, in the terms of the law.
use Rattle.std.specs.Prelude.{◌≡◌, ℕ, List, [], map, reverse, Some, None, Ok, Err, Option, Result}
use Rattle.measures.specs.declared.Figures.{Figures}
use Rattle.refusals.specs.declared.PlanFault.{PlanFault}
use Rattle.families.specs.Meaning.{Meaning}
use Rattle.settling.specs.Masks.{Masks, of}
use Rattle.settling.specs.Rounds.{well, fails, Settles}
use Rattle.settling.specs.Told.{place_of}
use Rattle.histories.specs.Calls.{Answer, done, failed, level, holds, figures, refused}
use Rattle.histories.specs.Plans.{View}
use Rattle.planning.specs.declared.plan.Held.{Held}
use Rattle.planning.specs.declared.plan.Plan.{Plan}
use Rattle.planning.specs.declared.plan.Roster.{Roster}
use Rattle.planning.specs.declared.plan.Start.{Start}
use Rattle.planning.specs.declared.plan.Start.TheVariants as start
use Rattle.planning.specs.declared.plan.Try.{Try}
use Rattle.planning.specs.declared.plan.Try.TheVariants.{Settled, Failed, Own}

-- what is held, with the masks at the mark of each open level, the newest first
abbrev pub shown : {F : Type 0} → Held F → List Masks → View
shown h below = record { now = of h.masks; below = below; void = h.void }

abbrev pub view : {F : Type 0} → Plan F → View
view p = shown p.held (map of (reverse p.stack.items))

-- a roster as a plan with no open level
abbrev pub read : {F : Type 0} → Roster F → View
read r = shown r.held []

-- how a start is told where the workspace sufficed
abbrev pub started : Start → Answer
started (start.Settled w) = done w.runs w.removed
started (start.Void f) = failed (Some (f.rule, place_of f.spot)) f.work.runs f.work.removed
started start.Short = failed None 0 0

abbrev pub tried : Result Try PlanFault → Answer
tried (Ok (Settled w)) = done w.runs w.removed
tried (Ok (Failed f)) = failed (Some (f.rule, place_of f.spot)) f.work.runs f.work.removed
tried (Ok Own) = failed None 0 0
tried (Err e) = refused e

abbrev pub leveled : Result ℕ PlanFault → Answer
leveled (Ok n) = level n
leveled (Err e) = refused e

abbrev pub held : Result ℕ PlanFault → Answer
held (Ok x) = holds x
held (Err e) = refused e

abbrev pub figured : Result (Option Figures) PlanFault → Answer
figured (Ok o) = figures o
figured (Err e) = refused e

-- settling s, which was made from the masks before, leaves t and answers so: a failure leaves the masks before
abbrev pub Tried : Meaning → Masks → Masks → Masks → Try → Type 0
Tried m s before t (Settled w) = Settles m t well 0 0 s w.runs w.removed
Tried m s before t (Failed f) = (t ≡ before) × ((u : Masks) × Settles m u (fails f.rule (place_of f.spot)) 0 0 s f.work.runs f.work.removed)
Tried m s before t Own = ⊥
