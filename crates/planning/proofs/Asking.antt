-- Questions, over the masks that a plan or a roster shows.
use Rattle.std.proofs.Common.{◌≡◌, ℕ, ◌<◌, ◌≤◌, Bool, true, false, cond, ltb, leb, length, get_or, None, Option, sym, ap, ◌∙◌, subst}
use Rattle.std.proofs.lemmas.Bool.{cond-true, lt-ltb, le-leb}
use Rattle.measures.specs.declared.Figures.{Figures}
use Rattle.refusals.specs.declared.PlanFault.TheVariants.{Cell, Rule, Workspace}
use Rattle.families.specs.Meaning.{Meaning, workspace_needed, figured}
use Rattle.histories.specs.Calls.{ask, of_cell, of_tally, of_figures, holds, figures, refused}
use Rattle.histories.specs.Plans.{View, Step}
use Rattle.planning.proofs.Refusing.{cell_outside, cell_free, tally_outside, tally_free, figures_outside, figures_short, figures_free}

module _ (m : Meaning) (p : View) where
  pub no_cell : (i w : ℕ) → 192 ≤ i → Step m p (ask (of_cell i) w) (refused Cell) p
  no_cell i w h = Step.refuses (ask (of_cell i) w) Cell (cell_outside m p.void (length p.below) i w h)

  pub no_tally : (r w : ℕ) → m.rules ≤ r → Step m p (ask (of_tally r) w) (refused Rule) p
  no_tally r w h = Step.refuses (ask (of_tally r) w) Rule (tally_outside m p.void (length p.below) r w h)

  pub no_figures : (r w : ℕ) → m.rules ≤ r → Step m p (ask (of_figures r) w) (refused Rule) p
  no_figures r w h = Step.refuses (ask (of_figures r) w) Rule (figures_outside m p.void (length p.below) r w h)

  pub short_figures : (r w : ℕ) → r < m.rules → w < workspace_needed → Step m p (ask (of_figures r) w) (refused Workspace) p
  short_figures r w h k = Step.refuses (ask (of_figures r) w) Workspace (figures_short m p.void (length p.below) r w h k)

  pub cell_held : (i w : ℕ) → i < 192 → Step m p (ask (of_cell i) w) (holds (get_or p.now.cells i 0)) p
  cell_held i w h = Step.tells (of_cell i) w (cell_free m p.void (length p.below) i w h)

  pub tally_held : (r w : ℕ) → r < m.rules → Step m p (ask (of_tally r) w) (holds (get_or p.now.tallies r 0)) p
  tally_held r w h = Step.tells (of_tally r) w (tally_free m p.void (length p.below) r w h)

  told : (r w : ℕ) (o : Option Figures) → r < m.rules → workspace_needed ≤ w → cond p.void None ((m.rule r).figures p.now.cells) ≡ o → Step m p (ask (of_figures r) w) (figures o) p
  told r w o h k e =
      subst (λ (x : Option Figures). Step m p (ask (of_figures r) w) (figures x) p) e
      (Step.tells (of_figures r) w (figures_free m p.void (length p.below) r w h k))

  pub figures_void : (r w : ℕ) → r < m.rules → workspace_needed ≤ w → p.void ≡ true → Step m p (ask (of_figures r) w) (figures None) p
  figures_void r w h k v = told r w None h k (ap (λ (b : Bool). cond b None ((m.rule r).figures p.now.cells)) v)

  pub figures_told : (r w : ℕ) (o : Option Figures) → r < m.rules → workspace_needed ≤ w → p.void ≡ false → o ≡ figured m w r p.now.cells → Step m p (ask (of_figures r) w) (figures o) p
  figures_told r w o h k v e =
      let x = (m.rule r).figures p.now.cells in
      let one : cond (leb workspace_needed w) x None ≡ x = cond-true (leb workspace_needed w) x None (le-leb workspace_needed w k) in
      let two : figured m w r p.now.cells ≡ cond (leb workspace_needed w) x None = cond-true (ltb r m.rules) (cond (leb workspace_needed w) x None) None (lt-ltb r m.rules h) in
      told r w o h k (ap (λ (b : Bool). cond b None ((m.rule r).figures p.now.cells)) v ∙ sym (e ∙ (two ∙ one)))
