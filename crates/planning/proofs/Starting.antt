-- The start of a plan, from what settling leaves.
use Rattle.std.proofs.Common.{◌≡◌, ℕ, zero, suc, ◌+◌, ◌<◌, ◌≤◌, false, List, [], ltb, length, get_or, replicate, Some, sym, refl, ◌∙◌, subst, ⊎_elim, arith}
use Rattle.std.proofs.lemmas.Bool.{cases_eq, cases_lt, cond-true, cond-false, lt-ltb, le-ltb}
use Rattle.std.proofs.Math.ListN.{get_or-eq_default}
use Rattle.std.proofs.lemmas.List.{same_lists, length-replicate, get_or-replicate}
use Rattle.std.specs.Array.{IsFromFnResultFrom, AllOfLen}
use Rattle.std.specs.Fn.{Mut, Called}
use Rattle.families.specs.Meaning.{Meaning, start_of}
use Rattle.families.specs.Laws.{Lawful}
use Rattle.settling.specs.Masks.{Masks, masks}
use Rattle.settling.specs.Rounds.{Place, well, fails, Settles}
use Rattle.histories.specs.Calls.{done, failed}
use Rattle.histories.specs.Log.{Starts}
use Rattle.histories.specs.Plans.{View, voided, Begins, Begun}
use Rattle.histories.specs.Law.{DraftCells}
use Rattle.histories.proofs.Starting.{begins_begun}

module _ {F B : Type 0} (g : Mut F (ℕ × Unit {0}) B) (P : F → ℕ → B → Type 0) (one : (p : F) (i : ℕ) (y : B) (q : F) → Called g p (i, tt) y q → P p i y × (q ≡ p)) where
  -- what holds of each answer of a closure that keeps its state holds of the array made with it
  pub made_at : (f : F) (ys : List B) (i n k : ℕ) (d : B) → IsFromFnResultFrom g f ys i n → i ≤ k → k < i + n → P f k (get_or ys k d)
  made_at f ys i zero k d r a b = absurd (omega arith)
  made_at f ys i (suc n) k d r a b =
      let o = one f i r.1 r.0 r.3 in
      ⊎_elim
      (λ (e : k ≡ i). subst (λ (x : ℕ). P f x (get_or ys x d)) (sym e) (subst (λ (y : B). P f i y) (sym (r.2.1 d)) o.0))
      (λ (ne : k ≡ i → ⊥). made_at f ys (i + 1) n k d (subst (λ (x : F). IsFromFnResultFrom g x ys (i + 1) n) o.1 r.4) (omega arith) (omega arith))
      (cases_eq k i)

pub zeros : (xs : List ℕ) (n : ℕ) → AllOfLen (λ x. x ≡ 0) xs n → xs ≡ replicate n 0
zeros xs n a = same_lists xs (replicate n 0) (a.long ∙ sym (length-replicate n 0)) (λ k d h. let l : k < n = omega (arith, a.long) in a.at k d l ∙ sym (get_or-replicate n k 0 d l))

pub starts_made : (m : Meaning) → Lawful m → (cells ys : List ℕ) → length ys ≡ 72 → ((r : ℕ) → r < 72 → get_or ys r 0 ≡ start_of m r) → Starts m cells (masks cells ys)
starts_made m law cells ys long each =
    let few : m.rules ≤ 72 = law.few in
    record {
      cells_are = refl;
      size = long;
      of_rules = λ r h. each r (omega arith) ∙ cond-true (ltb r m.rules) _ _ (lt-ltb r m.rules h);
      beyond = λ r h. ⊎_elim
          (λ (k : r < 72). each r k ∙ cond-false (ltb r m.rules) _ _ (le-ltb r m.rules h))
          (λ (k : 72 ≤ r). get_or-eq_default ys 0 (omega arith))
          (cases_lt r 72);
    }

module _ (m : Meaning) (law : Lawful m) (cells : List ℕ) (draft : DraftCells cells) (s : Masks) (st : Starts m cells s) (t : Masks) (n k : ℕ) (v : View) where
  pub start_settled : Settles m t well 0 0 s n k → v ≡ record { now = t; below = []; void = false } → Begun m cells (done n k) v
  start_settled h e = subst (λ (p : View). Begun m cells (done n k) p) (sym e) (begins_begun m cells law draft s st (Begins.settles t n k h))

  pub start_void : (r : ℕ) (x : Place) → Settles m t (fails r x) 0 0 s n k → v ≡ voided → Begun m cells (failed (Some (r, x)) n k) v
  start_void r x h e = subst (λ (p : View). Begun m cells (failed (Some (r, x)) n k) p) (sym e) (begins_begun m cells law draft s st (Begins.breaks t r x n k h))
