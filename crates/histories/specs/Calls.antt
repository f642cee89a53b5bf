-- The calls on a running plan, their answers, and which of them are refused.
use Rattle.std.specs.Prelude.{ℕ, Bool, cond, Some, None, Option, ◌==◌, nat_le, nat_lt, slice_index}
use Rattle.measures.specs.declared.Figures.{Figures}
use Rattle.refusals.specs.declared.PlanFault.{PlanFault}
use Rattle.refusals.specs.declared.PlanFault.TheVariants.{Cell, EmptyMask, EmptyTally, Rule, Workspace, Void, LevelsFull, NoLevel}
use Rattle.families.specs.Meaning.{Meaning, workspace_needed}
use Rattle.settling.specs.Masks.{Masks}
use Rattle.settling.specs.Rounds.{Place}
use Rattle.histories.specs.Decisions.{Decision, on_cell, on_tally}

pub data Question : Type 0 where
  of_cell : ℕ → Question
  of_tally : ℕ → Question
  of_figures : ℕ → Question

-- A call with its arguments; of a lent workspace, its length w alone.
pub data Call : Type 0 where
  try : Decision → (w : ℕ) → Call
  mark : Call
  back : Call
  ask : Question → (w : ℕ) → Call

-- An answer in full. A failure names the rule and the mask, or neither where the decision itself empties the mask that it names.
pub data Answer : Type 0 where
  done : (runs removed : ℕ) → Answer
  failed : (at : Option (ℕ × Place)) (runs removed : ℕ) → Answer
  level : ℕ → Answer
  holds : ℕ → Answer
  figures : Option Figures → Answer
  refused : PlanFault → Answer

-- a fault where a test is true, else what the tests after it say
abbrev pub else : Bool → PlanFault → Option PlanFault → Option PlanFault
else b e rest = cond b (Some e) rest

-- the refusal of a call, the first that applies, where the plan is void or not and has so many open levels
abbrev pub refusal : Meaning → Bool → ℕ → Call → Option PlanFault
refusal m void levels (try (on_cell i x) w) = else (nat_le 192 i) Cell (else (x == 0) EmptyMask (else (nat_lt w workspace_needed) Workspace (else void Void None)))
refusal m void levels (try (on_tally r x) w) = else (x == 0) EmptyTally (else (nat_le m.rules r) Rule (else (nat_lt w workspace_needed) Workspace (else void Void None)))
refusal m void levels mark = else void Void (else (nat_le 16 levels) LevelsFull None)
refusal m void levels back = else void Void (else (levels == 0) NoLevel None)
refusal m void levels (ask (of_cell i) w) = else (nat_le 192 i) Cell None
refusal m void levels (ask (of_tally r) w) = else (nat_le m.rules r) Rule None
refusal m void levels (ask (of_figures r) w) = else (nat_le m.rules r) Rule (else (nat_lt w workspace_needed) Workspace None)

-- what a question that is not refused answers; a void plan has no figures
abbrev pub reply : Meaning → Bool → Masks → Question → Answer
reply m void s (of_cell i) = holds (slice_index s.cells i)
reply m void s (of_tally r) = holds (slice_index s.tallies r)
reply m void s (of_figures r) = figures (cond void None ((m.rule r).figures s.cells))
