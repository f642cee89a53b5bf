-- The refusals, each where its test is the first that is true.
use Rattle.std.proofs.Common.{◌≡◌, ℕ, ◌<◌, ◌≤◌, Bool, true, false, eqb, ltb, leb, Some, None, Option, refl, arith}
use Rattle.std.proofs.lemmas.Bool.{le-leb, lt-leb, lt-ltb, le-ltb, eq-eqb, ne_eqb}
use Rattle.refusals.specs.declared.PlanFault.{PlanFault}
use Rattle.refusals.specs.declared.PlanFault.TheVariants.{Cell, EmptyMask, EmptyTally, Rule, Workspace, Void, LevelsFull, NoLevel}
use Rattle.families.specs.Meaning.{Meaning, workspace_needed}
use Rattle.histories.specs.Decisions.{on_cell, on_tally}
use Rattle.histories.specs.Calls.{try, mark, back, ask, of_cell, of_tally, of_figures, else, refusal}
use Rattle.histories.proofs.Refusals.{else_from}

else_first : (b : Bool) (e : PlanFault) (rest : Option PlanFault) → b ≡ true → else b e rest ≡ Some e
else_first true e rest p = refl
else_first false e rest p = let z : ◌≡◌ {A = ℕ} 0 1 = cc in absurd (omega arith)

else_later : (b : Bool) (e f : PlanFault) (rest : Option PlanFault) → b ≡ false → rest ≡ Some f → else b e rest ≡ Some f
else_later true e f rest p q = let z : ◌≡◌ {A = ℕ} 0 1 = cc in absurd (omega arith)
else_later false e f rest p q = q

module _ (m : Meaning) (void : Bool) (levels : ℕ) where
  pub cell_outside : (i w : ℕ) → 192 ≤ i → refusal m void levels (ask (of_cell i) w) ≡ Some Cell
  cell_outside i w h = else_first (leb 192 i) Cell None (le-leb 192 i h)

  pub cell_free : (i w : ℕ) → i < 192 → refusal m void levels (ask (of_cell i) w) ≡ None
  cell_free i w h = else_from (leb 192 i) Cell None (lt-leb 192 i h) refl

  pub tally_outside : (r w : ℕ) → m.rules ≤ r → refusal m void levels (ask (of_tally r) w) ≡ Some Rule
  tally_outside r w h = else_first (leb m.rules r) Rule None (le-leb m.rules r h)

  pub tally_free : (r w : ℕ) → r < m.rules → refusal m void levels (ask (of_tally r) w) ≡ None
  tally_free r w h = else_from (leb m.rules r) Rule None (lt-leb m.rules r h) refl

  abbrev short : ℕ → Option PlanFault → Option PlanFault
  short w rest = else (ltb w workspace_needed) Workspace rest

  pub figures_outside : (r w : ℕ) → m.rules ≤ r → refusal m void levels (ask (of_figures r) w) ≡ Some Rule
  figures_outside r w h = else_first (leb m.rules r) Rule (short w None) (le-leb m.rules r h)

  pub figures_short : (r w : ℕ) → r < m.rules → w < workspace_needed → refusal m void levels (ask (of_figures r) w) ≡ Some Workspace
  figures_short r w h k =
      else_later (leb m.rules r) Rule Workspace (short w None) (lt-leb m.rules r h) (else_first (ltb w workspace_needed) Workspace None (lt-ltb w workspace_needed k))

  pub figures_free : (r w : ℕ) → r < m.rules → workspace_needed ≤ w → refusal m void levels (ask (of_figures r) w) ≡ None
  figures_free r w h k =
      else_from (leb m.rules r) Rule (short w None) (lt-leb m.rules r h) (else_from (ltb w workspace_needed) Workspace None (le-ltb w workspace_needed k) refl)

  abbrev voided : Option PlanFault
  voided = else void Void None

  pub decide_outside : (i x w : ℕ) → 192 ≤ i → refusal m void levels (try (on_cell i x) w) ≡ Some Cell
  decide_outside i x w h = else_first (leb 192 i) Cell (else (eqb x 0) EmptyMask (short w voided)) (le-leb 192 i h)

  pub decide_empty : (i x w : ℕ) → i < 192 → x ≡ 0 → refusal m void levels (try (on_cell i x) w) ≡ Some EmptyMask
  decide_empty i x w h e =
      else_later (leb 192 i) Cell EmptyMask (else (eqb x 0) EmptyMask (short w voided)) (lt-leb 192 i h) (else_first (eqb x 0) EmptyMask (short w voided) (eq-eqb x 0 e))

  pub decide_past : (i x w : ℕ) (f : PlanFault) → i < 192 → 0 < x → short w voided ≡ Some f → refusal m void levels (try (on_cell i x) w) ≡ Some f
  decide_past i x w f h p q =
      else_later (leb 192 i) Cell f (else (eqb x 0) EmptyMask (short w voided)) (lt-leb 192 i h)
      (else_later (eqb x 0) EmptyMask f (short w voided) (ne_eqb x 0 (λ e. omega arith)) q)

  pub bound_empty : (r x w : ℕ) → x ≡ 0 → refusal m void levels (try (on_tally r x) w) ≡ Some EmptyTally
  bound_empty r x w e = else_first (eqb x 0) EmptyTally (else (leb m.rules r) Rule (short w voided)) (eq-eqb x 0 e)

  pub bound_outside : (r x w : ℕ) → 0 < x → m.rules ≤ r → refusal m void levels (try (on_tally r x) w) ≡ Some Rule
  bound_outside r x w p h =
      else_later (eqb x 0) EmptyTally Rule (else (leb m.rules r) Rule (short w voided)) (ne_eqb x 0 (λ e. omega arith))
      (else_first (leb m.rules r) Rule (short w voided) (le-leb m.rules r h))

  pub bound_past : (r x w : ℕ) (f : PlanFault) → 0 < x → r < m.rules → short w voided ≡ Some f → refusal m void levels (try (on_tally r x) w) ≡ Some f
  bound_past r x w f p h q =
      else_later (eqb x 0) EmptyTally f (else (leb m.rules r) Rule (short w voided)) (ne_eqb x 0 (λ e. omega arith))
      (else_later (leb m.rules r) Rule f (short w voided) (lt-leb m.rules r h) q)

  pub mark_void : void ≡ true → refusal m void levels mark ≡ Some Void
  mark_void v = else_first void Void (else (leb 16 levels) LevelsFull None) v

  pub mark_full : void ≡ false → 16 ≤ levels → refusal m void levels mark ≡ Some LevelsFull
  mark_full v h = else_later void Void LevelsFull (else (leb 16 levels) LevelsFull None) v (else_first (leb 16 levels) LevelsFull None (le-leb 16 levels h))

  pub mark_goes : void ≡ false → levels < 16 → refusal m void levels mark ≡ None
  mark_goes v h = else_from void Void (else (leb 16 levels) LevelsFull None) v (else_from (leb 16 levels) LevelsFull None (lt-leb 16 levels h) refl)

  pub back_void : void ≡ true → refusal m void levels back ≡ Some Void
  back_void v = else_first void Void (else (eqb levels 0) NoLevel None) v

  pub back_none : void ≡ false → levels ≡ 0 → refusal m void levels back ≡ Some NoLevel
  back_none v e = else_later void Void NoLevel (else (eqb levels 0) NoLevel None) v (else_first (eqb levels 0) NoLevel None (eq-eqb levels 0 e))

  pub back_goes : void ≡ false → 0 < levels → refusal m void levels back ≡ None
  back_goes v h = else_from void Void (else (eqb levels 0) NoLevel None) v (else_from (eqb levels 0) NoLevel None (ne_eqb levels 0 (λ e. omega arith)) refl)
