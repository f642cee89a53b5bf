-- What a question answers.
use Rattle.std.proofs.Common.{◌≡◌, ℕ, ◌<◌, ◌≤◌, cond, length, get_or, Some, None, Ok, Err, Option, Result, unwrap_or, ap, ◌∙◌, ⊎_elim}
use Rattle.std.specs.Result.{result_ok}
use Rattle.std.proofs.lemmas.Bool.{cases_lt}
use Rattle.measures.specs.declared.Figures.{Figures}
use Rattle.refusals.specs.declared.PlanFault.{PlanFault}
use Rattle.families.specs.Meaning.{Meaning, workspace_needed}
use Rattle.histories.specs.Calls.{Answer, done, failed, level, holds, figures, refused, ask, of_cell, of_tally, of_figures}
use Rattle.histories.specs.Plans.{View, Step}
use Rattle.histories.proofs.Steps.{step_one}
use Rattle.planning.specs.Views.{held, figured}
use Rattle.planning.proofs.Asking.{no_tally, short_figures, cell_held, tally_held}
use Rattle.planning.proofs.Refusing.{figures_free}

-- what an answer says
abbrev value : Answer → ℕ
value (holds x) = x
value (refused e) = 0
value (done n k) = 0
value (failed o n k) = 0
value (level n) = 0
value (figures o) = 0

abbrev shown : Answer → Option Figures
shown (figures o) = o
shown (holds x) = None
shown (refused e) = None
shown (done n k) = None
shown (failed o n k) = None
shown (level n) = None

module _ (m : Meaning) (p : View) where
  pub cell_answer : (i w : ℕ) (r : Result ℕ PlanFault) → i < 192 → Step m p (ask (of_cell i) w) (held r) p → r ≡ Ok (get_or p.now.cells i 0)
  cell_answer i w (Ok x) h s = ap Ok (ap value (step_one m p s (cell_held m p i w h)).0)
  cell_answer i w (Err e) h s = cc (step_one m p s (cell_held m p i w h)).0

  pub tally_answer : (r w x : ℕ) (a : Result ℕ PlanFault) → Some x ≡ result_ok a → Step m p (ask (of_tally r) w) (held a) p → (r < m.rules) × (x ≡ get_or p.now.tallies r 0)
  tally_answer r w x (Ok y) e s =
      ⊎_elim (λ h. (h, ap (λ o. unwrap_or o 0) e ∙ ap value (step_one m p s (tally_held m p r w h)).0)) (λ h. cc (step_one m p (no_tally m p r w h) s).0) (cases_lt r m.rules)
  tally_answer r w x (Err f) e s = cc e

  pub tally_refused : (r w : ℕ) (a : Result ℕ PlanFault) → None ≡ result_ok a → Step m p (ask (of_tally r) w) (held a) p → m.rules ≤ r
  tally_refused r w (Ok y) e s = cc e
  tally_refused r w (Err f) e s = ⊎_elim (λ h. cc (step_one m p s (tally_held m p r w h)).0) (λ h. h) (cases_lt r m.rules)

  pub figures_answer : (r w : ℕ) (o : Option Figures) (a : Result (Option Figures) PlanFault) → Some o ≡ result_ok a → r < m.rules
      → Step m p (ask (of_figures r) w) (figured a) p → o ≡ cond p.void None ((m.rule r).figures p.now.cells)
  figures_answer r w o (Ok q) e h s =
      ⊎_elim (λ k. cc (step_one m p (short_figures m p r w h k) s).0)
      (λ k. ap (λ s. unwrap_or s None) e ∙ ap shown (step_one m p s (Step.tells (of_figures r) w (figures_free m p.void (length p.below) r w h k))).0) (cases_lt w workspace_needed)
  figures_answer r w o (Err f) e h s = cc e

  pub figures_refused : (r w : ℕ) (a : Result (Option Figures) PlanFault) → None ≡ result_ok a → r < m.rules → Step m p (ask (of_figures r) w) (figured a) p → w < workspace_needed
  figures_refused r w (Ok q) e h s = cc e
  figures_refused r w (Err f) e h s =
      ⊎_elim (λ k. k) (λ k. cc (step_one m p s (Step.tells (of_figures r) w (figures_free m p.void (length p.below) r w h k))).0) (cases_lt w workspace_needed)
