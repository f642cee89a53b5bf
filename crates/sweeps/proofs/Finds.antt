-- What a property of codes says of the two sweeps, for every measure.
use Rattle.std.proofs.Common.{◌≡◌, ℕ, true, false, cond, eqb, List, take, drop, sym, subst, ⊎_elim}
use Rattle.std.proofs.lemmas.Bool.{cases_Bool, eqb-true, eq-eqb}
use Rattle.automata.specs.Automaton.{Automaton}
use Rattle.automata.specs.Reading.{end}
use Rattle.measures.specs.Measuring.{Measuring, Laws}
use Rattle.sweeps.specs.Sequences.{sequences, From}
use Rattle.sweeps.specs.Joining.{code}
use Rattle.sweeps.specs.Sweep.{forward_at, backward_at}
use Rattle.sweeps.proofs.Overs.{over_leading}
use Rattle.sweeps.proofs.Sees.{Sees, some_sequence, each_sequence}

module _ {m : Measuring} (laws : Laws m) {P : ℕ → Type 0} (sees : Sees m P) (a : Automaton) (masks : List ℕ) (i q : ℕ) where
  abbrev leads : List ℕ → ℕ
  leads ds = cond (eqb (end a 0 ds) q) (code m a 0 ds) m.none

  pub forward_some : P (forward_at m a masks i q) → (ds : List ℕ) × From (take i masks) ds × (end a 0 ds ≡ q) × P (code m a 0 ds)
  forward_some h =
      let w = some_sequence laws sees (take i masks) leads (subst P (over_leading laws a q (code m a 0) (sequences (take i masks))) h) in
      ⊎_elim
      (λ (e : eqb (end a 0 w.0) q ≡ true). (w.0, w.1, eqb-true (end a 0 w.0) q e, subst (λ b. P (cond b (code m a 0 w.0) m.none)) e w.2))
      (λ (e : eqb (end a 0 w.0) q ≡ false). absurd (sees.never (subst (λ b. P (cond b (code m a 0 w.0) m.none)) e w.2)))
      (cases_Bool (eqb (end a 0 w.0) q))

  pub forward_each : {ds : List ℕ} → From (take i masks) ds → end a 0 ds ≡ q → P (code m a 0 ds) → P (forward_at m a masks i q)
  forward_each {ds} f e p =
      subst P (sym (over_leading laws a q (code m a 0) (sequences (take i masks))))
      (each_sequence laws sees leads f (subst (λ b. P (cond b (code m a 0 ds) m.none)) (sym (eq-eqb (end a 0 ds) q e)) p))

  pub backward_some : P (backward_at m a masks i q) → (ds : List ℕ) × From (drop i masks) ds × P (code m a q ds)
  backward_some h = some_sequence laws sees (drop i masks) (code m a q) h

  pub backward_each : {ds : List ℕ} → From (drop i masks) ds → P (code m a q ds) → P (backward_at m a masks i q)
  backward_each f p = each_sequence laws sees (code m a q) f p
