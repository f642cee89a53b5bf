-- The lowest member of a mask, and the mask without it.
use Rattle.std.proofs.Common.{◌≡◌, ℕ, zero, suc, ◌-◌, ◌/◌, ◌%◌, ◌^◌, ◌<◌, ◌≤◌, min, Bool, true, false, cond, eqb, [], ◌∷◌, ◌++◌, sym, refl, ap, ◌∙◌, subst, ap₂, ⊎_elim, pow-suc, arith}
use lib.Bits.{bit_and}
use lib.Count.{count_trailing_zeros, under}
use lib.Dec.{eqb-zero-suc, eqb-suc-zero, eqb-suc-suc}
use Rattle.std.proofs.lemmas.Bool.{cases_eq, cases_lt, eq-eqb, ne_eqb}
use Rattle.masks.specs.Bit.{bit, has}
use Rattle.masks.specs.Members.{members}
use Rattle.masks.proofs.Bits.{bit_lt, bit_zero, bit_half, bit-bit_and, bit_past}

-- t is the lowest member of m, and r is m without it
pub record Lowest (m r t : ℕ) : Type 0 where
  pub here : bit m t ≡ 1
  pub below : (j : ℕ) → j < t → bit m j ≡ 0
  pub rest : (j : ℕ) → bit r j ≡ cond (eqb t j) 0 (bit m j)

half_rest : (m j : ℕ) → bit (bit_and m (m - 1)) (suc j) ≡ min (bit (m / 2) j) (bit ((m - 1) / 2) j)
half_rest m j = bit-bit_and m (m - 1) (suc j) ∙ ap₂ min (bit_half m j) (bit_half (m - 1) j)

zeroth : (m : ℕ) → bit m 0 ≡ m % 2
zeroth m = ap (λ (x : ℕ). x % 2) (omega arith)

odd : (m : ℕ) → m % 2 ≡ 1 → Lowest m (bit_and m (m - 1)) 0
odd m e = record { here = zeroth m ∙ e; below = λ j h. absurd (omega arith); rest = at }
  where
    at : (j : ℕ) → bit (bit_and m (m - 1)) j ≡ cond (eqb 0 j) 0 (bit m j)
    at zero = bit-bit_and m (m - 1) 0 ∙ ap (min (bit m 0)) (zeroth (m - 1)) ∙ omega arith
    at (suc j) =
        let same : (m - 1) / 2 ≡ m / 2 = omega arith in
        rw (eqb-zero-suc j) (half_rest m j ∙ ap (λ x. min (bit (m / 2) j) (bit x j)) same ∙ twice (bit (m / 2) j) ∙ sym (bit_half m j))
      where
        twice : (x : ℕ) → min x x ≡ x
        twice x = omega arith

even : (m t : ℕ) → m % 2 ≡ 0 → Lowest (m / 2) (bit_and (m / 2) (m / 2 - 1)) t → Lowest m (bit_and m (m - 1)) (suc t)
even m t e l = record { here = bit_half m t ∙ l.here; below = low; rest = at }
  where
    low : (j : ℕ) → j < suc t → bit m j ≡ 0
    low zero h = zeroth m ∙ e
    low (suc j) h = bit_half m j ∙ l.below j (omega arith)

    at : (j : ℕ) → bit (bit_and m (m - 1)) j ≡ cond (eqb (suc t) j) 0 (bit m j)
    at zero = rw (eqb-suc-zero t) (bit-bit_and m (m - 1) 0 ∙ (let z = zeroth m ∙ e in omega arith))
    at (suc j) =
        let less : (m - 1) / 2 ≡ m / 2 - 1 = omega arith in
        rw (eqb-suc-suc t j)
        (half_rest m j ∙ ap (λ x. min (bit (m / 2) j) (bit x j)) less ∙ sym (bit-bit_and (m / 2) (m / 2 - 1) j) ∙ l.rest j
        ∙ ap (cond (eqb t j) 0) (sym (bit_half m j)))

-- `trailing_zeros` finds it
pub lowest : (k m : ℕ) → 0 < m → m < 2 ^ k → Lowest m (bit_and m (m - 1)) (count_trailing_zeros k m)
unfolding count_trailing_zeros
lowest zero m some small = absurd (omega arith)
lowest (suc k) m some small = ⊎_elim
    (λ (e : m % 2 ≡ 0).
    let p = pow-suc 2 k in
    let ih = lowest k (m / 2) (omega arith) (omega arith) in
    subst (λ (b : ℕ). Lowest m (bit_and m (m - 1)) (under b (count_trailing_zeros k (m / 2)))) (sym e) (even m (count_trailing_zeros k (m / 2)) e ih))
    (λ (n : m % 2 ≡ 0 → ⊥).
    let o : m % 2 ≡ 1 = one n in
    subst (λ (b : ℕ). Lowest m (bit_and m (m - 1)) (under b (count_trailing_zeros k (m / 2)))) (sym o) (odd m o))
    (cases_eq (m % 2) 0)
  where
    one : (m % 2 ≡ 0 → ⊥) → m % 2 ≡ 1
    one n = let z = bit_lt m 0 in let y = zeroth m in ⊎_elim (λ (l : m % 2 < 1). absurd (n (omega arith))) (λ (g : 1 ≤ m % 2). omega arith) (cases_lt (m % 2) 1)

pub lowest_within : (k m r t : ℕ) → Lowest m r t → m < 2 ^ k → t < k
lowest_within k m r t l small = ⊎_elim (λ (h : t < k). h) (λ (h : k ≤ t). absurd (omega (arith, l.here, bit_past k m t small h))) (cases_lt t k)

-- no member, no list
pub members_zero : (n : ℕ) → members n 0 ≡ []
unfolding members
members_zero zero = refl
members_zero (suc n) = ap (λ b. cond b (members n 0 ++ (n ∷ [])) (members n 0)) (ap (λ (x : ℕ). eqb x 1) (bit_zero n)) ∙ members_zero n

-- the lowest member comes first
module _ (m r t : ℕ) (l : Lowest m r t) where
  early : (n : ℕ) → n ≤ t → (members n m ≡ []) × (members n r ≡ [])
  unfolding members
  early zero h = (refl, refl)
  early (suc n) h =
      let ih = early n (omega arith) in
      let z : bit m n ≡ 0 = l.below n (omega arith) in
      let y : bit r n ≡ 0 = l.rest n ∙ ap (λ b. cond b 0 (bit m n)) (ne_eqb t n (λ e. omega arith)) ∙ z in (
        ap (λ (x : ℕ). cond (eqb x 1) (members n m ++ (n ∷ [])) (members n m)) z ∙ ih.0,
        ap (λ (x : ℕ). cond (eqb x 1) (members n r ++ (n ∷ [])) (members n r)) y ∙ ih.1,
      )

  pub lowest_first : (n : ℕ) → t < n → members n m ≡ t ∷ members n r
  unfolding members
  lowest_first zero h = absurd (omega arith)
  lowest_first (suc n) h = ⊎_elim at_last (λ ne. later ne (lowest_first n (less ne))) (cases_eq t n)
    where
      at_last : t ≡ n → members (suc n) m ≡ t ∷ members (suc n) r
      at_last e =
          let ends = early n (omega arith) in
          let o : bit m n ≡ 1 = subst (λ (k : ℕ). bit m k ≡ 1) e l.here in
          let z : bit r n ≡ 0 = l.rest n ∙ ap (λ b. cond b 0 (bit m n)) (eq-eqb t n e) in
          ap (λ (x : ℕ). cond (eqb x 1) (members n m ++ (n ∷ [])) (members n m)) o
          ∙ ap (λ xs. xs ++ (n ∷ [])) ends.0
          ∙ ap₂ (λ (k : ℕ) xs. k ∷ xs) (sym e) (sym ends.1)
          ∙ ap (λ xs. t ∷ xs) (sym (ap (λ (x : ℕ). cond (eqb x 1) (members n r ++ (n ∷ [])) (members n r)) z))

      less : (t ≡ n → ⊥) → t < n
      less ne = ⊎_elim (λ (l : t < n). l) (λ (g : n ≤ t). absurd (ne (omega arith))) (cases_lt t n)

      later : (t ≡ n → ⊥) → members n m ≡ t ∷ members n r → members (suc n) m ≡ t ∷ members (suc n) r
      later ne ih =
          let same : bit r n ≡ bit m n = l.rest n ∙ ap (λ b. cond b 0 (bit m n)) (ne_eqb t n ne) in
          at (has m n) ih ∙ ap (λ (x : ℕ). t ∷ cond (eqb x 1) (members n r ++ (n ∷ [])) (members n r)) (sym same)
        where
          at : (b : Bool) → members n m ≡ t ∷ members n r → cond b (members n m ++ (n ∷ [])) (members n m) ≡ t ∷ cond b (members n r ++ (n ∷ [])) (members n r)
          at true ih = ap (λ xs. xs ++ (n ∷ [])) ih
          at false ih = ih
