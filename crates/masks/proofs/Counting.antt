-- How many members a mask has, and how many of them another mask lacks.
use Rattle.std.proofs.Common.{◌≡◌, ℕ, zero, suc, ◌+◌, ◌-◌, ◌*◌, ◌%◌, ◌^◌, ◌<◌, ◌≤◌, min, Bool, true, false, cond, not, ◌&&◌, eqb, ◌⊎◌, List, [], ◌∷◌, ◌++◌, length, sym, refl, ap, ◌∙◌, subst, ap₂, inl, inr, ⊎_elim, mod-lt, mod-eq_of_lt, one-add, arith, length-append, pow_pos}
use native.Mathlib.Nat.{mod-one}
use lib.Bits.{bit_and}
use lib.Count.{ones, ones_cat}
use lib.Pow.{mod-pow-add}
use Rattle.masks.specs.Bit.{bit, has, In}
use Rattle.masks.specs.Members.{members, lost}
use Rattle.masks.proofs.Bits.{bit_lt, bit-bit_and, bit_not, bit_past}

zero_or_one : (x : ℕ) → x < 2 → (x ≡ 0) ⊎ (x ≡ 1)
zero_or_one zero h = inl refl
zero_or_one (suc x) h = inr (omega arith)

pub length_members : (n m : ℕ) → length (members n m) ≡ ones (m % 2 ^ n)
unfolding members ones
length_members zero m = sym (ap ones (mod-one m))
length_members (suc n) m =
    at ∙ ap₂ (λ (x y : ℕ). x + y) (sym one_bit) (length_members n m)
    ∙ sym (ones_cat n (bit m n) (m % 2 ^ n) (mod-lt m (pow_pos n)))
    ∙ ap ones (sym (subst (λ (k : ℕ). m % 2 ^ k ≡ bit m n * 2 ^ n + m % 2 ^ n) (one-add n) (mod-pow-add m 1 n)))
  where
    one_bit : ones (bit m n) ≡ bit m n
    one_bit = ⊎_elim (λ (e : bit m n ≡ 0). ap ones e ∙ sym e) (λ (e : bit m n ≡ 1). ap ones e ∙ sym e) (zero_or_one (bit m n) (bit_lt m n))

    at : length (cond (has m n) (members n m ++ (n ∷ [])) (members n m)) ≡ bit m n + length (members n m)
    at = ⊎_elim
        (λ (e : bit m n ≡ 0). ap (λ (x : ℕ). length (cond (eqb x 1) (members n m ++ (n ∷ [])) (members n m))) e ∙ omega arith)
        (λ (e : bit m n ≡ 1). ap (λ (x : ℕ). length (cond (eqb x 1) (members n m ++ (n ∷ [])) (members n m))) e ∙ length-append (members n m) (n ∷ []) ∙ omega arith)
        (zero_or_one (bit m n) (bit_lt m n))

-- what is lost is what the first mask has of the other's complement
pub lost_members : (w before after n : ℕ) → after < 2 ^ w → n ≤ w → lost n before after ≡ members n (bit_and before (2 ^ w - 1 - after))
unfolding members lost
lost_members w before after zero h le = refl
lost_members w before after (suc n) h le =
    ap (λ xs. cond (has before n && not (has after n)) (xs ++ (n ∷ [])) xs) (lost_members w before after n h (omega arith))
    ∙ ap (λ b. cond b (members n kept ++ (n ∷ [])) (members n kept)) test
  where
    kept : ℕ
    kept = bit_and before (2 ^ w - 1 - after)

    both : (x y : ℕ) → (x ≡ 0) ⊎ (x ≡ 1) → (y ≡ 0) ⊎ (y ≡ 1) → (eqb x 1 && not (eqb y 1)) ≡ eqb (min x (1 - y)) 1
    both x y p q = ⊎_elim
        (λ (e : x ≡ 0). ⊎_elim (λ (f : y ≡ 0). simp (e, f)) (λ (f : y ≡ 1). simp (e, f)) q)
        (λ (e : x ≡ 1). ⊎_elim (λ (f : y ≡ 0). simp (e, f)) (λ (f : y ≡ 1). simp (e, f)) q) p

    test : (has before n && not (has after n)) ≡ has kept n
    test =
        both (bit before n) (bit after n) (zero_or_one (bit before n) (bit_lt before n)) (zero_or_one (bit after n) (bit_lt after n))
        ∙ ap (λ (x : ℕ). eqb x 1) (sym (bit-bit_and before (2 ^ w - 1 - after) n ∙ ap (min (bit before n)) (bit_not w after n h (omega arith))))

pub length_lost : (w before after : ℕ) → before < 2 ^ w → after < 2 ^ w → bit_and before (2 ^ w - 1 - after) < 2 ^ w → length (lost w before after) ≡ ones (bit_and before (2 ^ w - 1 - after))
length_lost w before after hb ha small =
    ap length (lost_members w before after w ha (omega arith)) ∙ length_members w (bit_and before (2 ^ w - 1 - after)) ∙ ap ones (mod-eq_of_lt small)

-- a mask of fewer bits has the same members at any larger width
pub members_wider : (n k m : ℕ) → m < 2 ^ n → members (n + k) m ≡ members n m
unfolding members
members_wider n zero m h = ap (λ (x : ℕ). members x m) (omega arith)
members_wider n (suc k) m h =
    ap (λ (x : ℕ). members x m) (shift n k)
    ∙ ap (λ (x : ℕ). cond (eqb x 1) (members (n + k) m ++ ((n + k) ∷ [])) (members (n + k) m)) (bit_past n m (n + k) h (omega arith))
    ∙ members_wider n k m h
  where
    shift : (n k : ℕ) → n + suc k ≡ suc (n + k)
    shift n k = omega arith

-- nothing is lost where nothing changed
pub lost_nothing : (n m : ℕ) → lost n m m ≡ []
unfolding lost
lost_nothing zero m = refl
lost_nothing (suc n) m = ap (λ b. cond b (lost n m m ++ (n ∷ [])) (lost n m m)) (never (has m n)) ∙ lost_nothing n m
  where
    never : (b : Bool) → (b && not b) ≡ false
    never true = refl
    never false = refl

-- what is kept and what is lost are the whole
pub kept_and_lost : (n before after : ℕ) → ((k : ℕ) → k < n → In after k → In before k) → length (members n after) + length (lost n before after) ≡ length (members n before)
unfolding members lost
kept_and_lost zero before after part = refl
kept_and_lost (suc n) before after part =
    let ih = kept_and_lost n before after (λ k h. part k (omega arith)) in
    at (bit before n) (bit after n) (zero_or_one (bit before n) (bit_lt before n)) (zero_or_one (bit after n) (bit_lt after n)) (part n (omega arith)) ih
  where
    M : ℕ → List ℕ
    M m = members n m

    L : List ℕ
    L = lost n before after

    grown : (xs : List ℕ) → length (xs ++ (n ∷ [])) ≡ length xs + 1
    grown xs = length-append xs (n ∷ [])

    at : (x y : ℕ) → (x ≡ 0) ⊎ (x ≡ 1) → (y ≡ 0) ⊎ (y ≡ 1) → (y ≡ 1 → x ≡ 1) → length (M after) + length L ≡ length (M before)
        → length (cond (eqb y 1) (M after ++ (n ∷ [])) (M after)) + length (cond (eqb x 1 && not (eqb y 1)) (L ++ (n ∷ [])) L) ≡ length (cond (eqb x 1) (M before ++ (n ∷ [])) (M before))
    at x y p q h ih = ⊎_elim
        (λ (e : x ≡ 0). ⊎_elim (λ (f : y ≡ 0). simp (e, f) ih) (λ (f : y ≡ 1). absurd (omega (arith, h f))) q)
        (λ (e : x ≡ 1). ⊎_elim
        (λ (f : y ≡ 0). simp (e, f) (let a = grown L in let b = grown (M before) in omega arith))
        (λ (f : y ≡ 1). simp (e, f) (let a = grown (M after) in let b = grown (M before) in omega arith)) q) p
