-- What a settling answers.
use Rattle.std.specs.Prelude.{◌≡◌, ℕ, ◌<◌, List, Ok, Err, Result, length}
use Rattle.refusals.specs.declared.PlanFault.{PlanFault}
use Rattle.refusals.specs.declared.PlanFault.TheVariants.{Workspace}
use Rattle.families.specs.Meaning.{Meaning, workspace_needed}
use Rattle.settling.specs.declared.Failure.{Failure}
use Rattle.settling.specs.declared.Snapshot.{Snapshot}
use Rattle.settling.specs.declared.Spot.{Spot}
use Rattle.settling.specs.declared.Spot.TheVariants.{Cell, Tally}
use Rattle.settling.specs.declared.Work.{Work}
use Rattle.settling.specs.Masks.{Masks, AllOpen}
use Rattle.settling.specs.Rounds.{Place, cell, tally, End, well, fails, Settles}
use Rattle.settling.specs.Largest.{Outcome}

abbrev pub place_of : Spot → Place
place_of (Cell i) = cell i
place_of Tally = tally

abbrev pub end_of : Result Work Failure → End
end_of (Ok w) = well
end_of (Err f) = fails f.rule (place_of f.spot)

abbrev pub work_of : Result Work Failure → Work
work_of (Ok w) = w
work_of (Err f) = f.work

-- The answer x of a settling from s that leaves t: these are its rounds, whatever the masks; and where no mask at entry is empty, this is what
-- came of it.
pub record Told (m : Meaning) (s t : Masks) (x : Result Work Failure) : Type 0 where
  pub rounds : Settles m t (end_of x) 0 0 s (work_of x).runs (work_of x).removed
  pub outcome : AllOpen m s → Outcome m s t (end_of x) (work_of x).runs (work_of x).removed

-- a workspace w that is too short: refused, with masks and workspace as they were
abbrev pub NotSettled : Snapshot → Snapshot → List ℕ → List ℕ → PlanFault → Type 0
NotSettled s t w v e = (e ≡ Workspace) × (length w < workspace_needed) × (t ≡ s) × (v ≡ w)
