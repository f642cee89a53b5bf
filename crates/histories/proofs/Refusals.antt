-- What a call that is not refused says of its arguments and of the plan.
use Rattle.std.proofs.Common.{◌≡◌, ℕ, ◌<◌, ◌≤◌, Bool, true, false, eqb, ltb, leb, ◌⊎◌, Some, None, Option, refl, inl, inr, arith}
use Rattle.std.proofs.lemmas.Bool.{leb-false, ltb-false, eqb-false, lt-leb, le-ltb, ne_eqb}
use Rattle.refusals.specs.declared.PlanFault.{PlanFault}
use Rattle.refusals.specs.declared.PlanFault.TheVariants.{Cell, EmptyMask, EmptyTally, Rule, Workspace, Void, LevelsFull, NoLevel}
use Rattle.families.specs.Meaning.{Meaning, workspace_needed}
use Rattle.histories.specs.Decisions.{Decision, on_cell, on_tally}
use Rattle.histories.specs.Calls.{try, mark, back, else, refusal}

pub refused_not_free : (o : Option PlanFault) (e : PlanFault) → o ≡ Some e → o ≡ None → ⊥
refused_not_free o e p q = let z : ◌≡◌ {A = ℕ} 0 1 = cc in omega arith

pub refused_one : (o : Option PlanFault) (e f : PlanFault) → o ≡ Some e → o ≡ Some f → e ≡ f
refused_one o e f p q = cc

pub refused_or_free : (o : Option PlanFault) → ((e : PlanFault) × (o ≡ Some e)) ⊎ (o ≡ None)
refused_or_free (Some e) = inl (e, refl)
refused_or_free None = inr refl

-- a test that refuses nothing is false, and so are those after it
pub else_free : (b : Bool) (e : PlanFault) (rest : Option PlanFault) → else b e rest ≡ None → (b ≡ false) × (rest ≡ None)
else_free true e rest p = absurd (refused_not_free (Some e) e refl p)
else_free false e rest p = (refl, p)

pub else_from : (b : Bool) (e : PlanFault) (rest : Option PlanFault) → b ≡ false → rest ≡ None → else b e rest ≡ None
else_from true e rest p q = let z : ◌≡◌ {A = ℕ} 0 1 = cc in absurd (omega arith)
else_from false e rest p q = q

-- a decision that a plan can be asked for
abbrev pub Fair : Meaning → Decision → Type 0
Fair m (on_cell i x) = (i < 192) × (0 < x)
Fair m (on_tally r x) = (r < m.rules) × (0 < x)

module _ (m : Meaning) (void : Bool) (levels : ℕ) where
  abbrev after : ℕ → Option PlanFault
  after w = else (ltb w workspace_needed) Workspace (else void Void None)

  after_free : (w : ℕ) → after w ≡ None → (workspace_needed ≤ w) × (void ≡ false)
  after_free w p =
      let a = else_free (ltb w workspace_needed) Workspace (else void Void None) p in
      (ltb-false w workspace_needed a.0, (else_free void Void None a.1).0)

  -- a try that is not refused
  pub try_free : (d : Decision) (w : ℕ) → refusal m void levels (try d w) ≡ None → Fair m d × (workspace_needed ≤ w) × (void ≡ false)
  try_free (on_cell i x) w p =
      let a = else_free (leb 192 i) Cell (else (eqb x 0) EmptyMask (after w)) p in
      let b = else_free (eqb x 0) EmptyMask (after w) a.1 in
      let c = after_free w b.1 in
      let ne : x ≡ 0 → ⊥ = eqb-false x 0 b.0 in
      ((leb-false 192 i a.0, omega arith), c.0, c.1)
  try_free (on_tally r x) w p =
      let a = else_free (eqb x 0) EmptyTally (else (leb m.rules r) Rule (after w)) p in
      let b = else_free (leb m.rules r) Rule (after w) a.1 in
      let c = after_free w b.1 in
      let ne : x ≡ 0 → ⊥ = eqb-false x 0 a.0 in
      ((leb-false m.rules r b.0, omega arith), c.0, c.1)

  pub try_from : (d : Decision) (w : ℕ) → Fair m d → workspace_needed ≤ w → void ≡ false → refusal m void levels (try d w) ≡ None
  try_from (on_cell i x) w f h v =
      let p : 0 < x = f.1 in
      else_from (leb 192 i) Cell (else (eqb x 0) EmptyMask (after w)) (lt-leb 192 i f.0)
      (else_from (eqb x 0) EmptyMask (after w) (ne_eqb x 0 (λ e. omega arith))
      (else_from (ltb w workspace_needed) Workspace (else void Void None) (le-ltb w workspace_needed h) (else_from void Void None v refl)))
  try_from (on_tally r x) w f h v =
      let p : 0 < x = f.1 in
      else_from (eqb x 0) EmptyTally (else (leb m.rules r) Rule (after w)) (ne_eqb x 0 (λ e. omega arith))
      (else_from (leb m.rules r) Rule (after w) (lt-leb m.rules r f.0)
      (else_from (ltb w workspace_needed) Workspace (else void Void None) (le-ltb w workspace_needed h) (else_from void Void None v refl)))

  pub mark_free : refusal m void levels mark ≡ None → (void ≡ false) × (levels < 16)
  mark_free p = let a = else_free void Void (else (leb 16 levels) LevelsFull None) p in (a.0, leb-false 16 levels (else_free (leb 16 levels) LevelsFull None a.1).0)

  pub back_free : refusal m void levels back ≡ None → (void ≡ false) × (0 < levels)
  back_free p =
      let a = else_free void Void (else (eqb levels 0) NoLevel None) p in
      let ne : levels ≡ 0 → ⊥ = eqb-false levels 0 (else_free (eqb levels 0) NoLevel None a.1).0 in
      (a.0, omega arith)
