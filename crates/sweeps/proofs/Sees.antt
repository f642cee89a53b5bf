-- What a property of codes says of a joining over all sequences.
use Rattle.std.proofs.Common.{◌≡◌, ℕ, zero, suc, ◌<◌, Bool, true, false, cond, ◌⊎◌, List, [], ◌∷◌, ◌++◌, map, sym, ◌∙◌, subst, inl, inr, ⊎_elim, arith}
use Rattle.std.proofs.lemmas.Bool.{cases_Bool, cases_order, eqb-true, eq-eqb}
use Rattle.masks.specs.Bit.{has, In, bit}
use Rattle.masks.specs.Members.{members}
use Rattle.measures.specs.Measuring.{Measuring, Laws}
use Rattle.sweeps.specs.Sequences.{duties, sequences, From, ends, takes}
use Rattle.sweeps.specs.Joining.{over}
use Rattle.sweeps.proofs.Overs.{over_append, over_map, over_flat, over_cong}

-- P holds of a joining where it holds of a part, and never of none
pub record Sees (m : Measuring) (P : ℕ → Type 0) : Type 0 where
  pub never : P m.none → ⊥
  pub left : (x y : ℕ) → P x → P (m.join x y)
  pub right : (x y : ℕ) → P y → P (m.join x y)
  pub either : (x y : ℕ) → P (m.join x y) → P x ⊎ P y

module _ {m : Measuring} (laws : Laws m) {P : ℕ → Type 0} (sees : Sees m P) where
  last_in : (f : ℕ → ℕ) (xs : List ℕ) (x : ℕ) → P (over m f (xs ++ (x ∷ []))) → P (over m f xs) ⊎ P (f x)
  last_in f xs x h =
      ⊎_elim inl (λ r. ⊎_elim inr (λ n. absurd (sees.never n)) (sees.either (f x) m.none r))
      (sees.either (over m f xs) (m.join (f x) m.none) (subst P (over_append laws f xs (x ∷ [])) h))

  last_here : (f : ℕ → ℕ) (xs : List ℕ) (x : ℕ) → P (f x) → P (over m f (xs ++ (x ∷ [])))
  last_here f xs x h = subst P (sym (over_append laws f xs (x ∷ []))) (sees.right (over m f xs) (m.join (f x) m.none) (sees.left (f x) m.none h))

  last_before : (f : ℕ → ℕ) (xs : List ℕ) (x : ℕ) → P (over m f xs) → P (over m f (xs ++ (x ∷ [])))
  last_before f xs x h = subst P (sym (over_append laws f xs (x ∷ []))) (sees.left (over m f xs) (m.join (f x) m.none) h)

  pub some_duty : (mask n : ℕ) (f : ℕ → ℕ) → P (over m f (members n mask)) → (d : ℕ) × (d < n) × In mask d × P (f d)
  unfolding members
  some_duty mask zero f h = absurd (sees.never h)
  some_duty mask (suc n) f h = ⊎_elim
      (λ (e : has mask n ≡ true).
      ⊎_elim (λ p. up (some_duty mask n f p)) (λ p. (n, omega arith, eqb-true (bit mask n) 1 e, p))
      (last_in f (members n mask) n (subst (λ b. P (over m f (cond b (members n mask ++ (n ∷ [])) (members n mask)))) e h)))
      (λ (e : has mask n ≡ false). up (some_duty mask n f (subst (λ b. P (over m f (cond b (members n mask ++ (n ∷ [])) (members n mask)))) e h)))
      (cases_Bool (has mask n))
    where
      up : (d : ℕ) × (d < n) × In mask d × P (f d) → (d : ℕ) × (d < suc n) × In mask d × P (f d)
      up w = (w.0, omega (arith, w.1), w.2, w.3)

  pub each_duty : (mask n d : ℕ) (f : ℕ → ℕ) → d < n → In mask d → P (f d) → P (over m f (members n mask))
  unfolding members
  each_duty mask zero d f h i p = absurd (omega arith)
  each_duty mask (suc n) d f h i p = ⊎_elim
      (λ (e : d ≡ n).
      subst (λ b. P (over m f (cond b (members n mask ++ (n ∷ [])) (members n mask)))) (sym (eq-eqb (bit mask n) 1 (subst (λ k. In mask k) e i)))
      (last_here f (members n mask) n (subst (λ k. P (f k)) e p)))
      (λ o. ⊎_elim
      (λ (l : d < n). earlier (has mask n) (each_duty mask n d f l i p))
      (λ (g : n < d). absurd (omega arith)) o)
      (cases_order d n)
    where
      earlier : (b : Bool) → P (over m f (members n mask)) → P (over m f (cond b (members n mask ++ (n ∷ [])) (members n mask)))
      earlier true r = last_before f (members n mask) n r
      earlier false r = r

  nested : (mask : ℕ) (ms : List ℕ) (f : List ℕ → ℕ) → over m f (sequences (mask ∷ ms)) ≡ over m (λ d. over m (λ ds. f (d ∷ ds)) (sequences ms)) (duties mask)
  nested mask ms f =
      over_flat laws f (λ d. map (λ ds. d ∷ ds) (sequences ms)) (duties mask)
      ∙ over_cong laws (λ d. over m f (map (λ ds. d ∷ ds) (sequences ms))) (λ d. over m (λ ds. f (d ∷ ds)) (sequences ms)) (λ d. over_map laws f (λ ds. d ∷ ds) (sequences ms)) (duties mask)

  -- where P holds of the joining, it holds of some sequence
  pub some_sequence : (masks : List ℕ) (f : List ℕ → ℕ) → P (over m f (sequences masks)) → (ds : List ℕ) × From masks ds × P (f ds)
  some_sequence [] f h = ([], ends, ⊎_elim (λ p. p) (λ n. absurd (sees.never n)) (sees.either (f []) m.none h))
  some_sequence (mask ∷ ms) f h =
      let first = some_duty mask 16 (λ d. over m (λ ds. f (d ∷ ds)) (sequences ms)) (subst P (nested mask ms f) h) in
      let rest = some_sequence ms (λ ds. f (first.0 ∷ ds)) first.3 in
      (first.0 ∷ rest.0, takes first.1 first.2 rest.1, rest.2)

  -- where it holds of a sequence, it holds of the joining
  pub each_sequence : {masks ds : List ℕ} (f : List ℕ → ℕ) → From masks ds → P (f ds) → P (over m f (sequences masks))
  each_sequence f ends p = sees.left (f []) m.none p
  each_sequence f (takes {m = mask} {d = d} {ms = ms} {ds = ds} h i r) p =
      subst P (sym (nested mask ms f)) (each_duty mask 16 d (λ e. over m (λ es. f (e ∷ es)) (sequences ms)) h i (each_sequence (λ es. f (d ∷ es)) r p))
