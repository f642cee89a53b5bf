-- The members of a sieved mask are those that pass.
use Rattle.std.proofs.Common.{◌≡◌, ℕ, zero, suc, ◌+◌, ◌*◌, ◌^◌, ◌<◌, ◌≤◌, max, Bool, true, false, cond, ◌&&◌, eqb, ◌⊎◌, sym, refl, ap, ◌∙◌, subst, inl, inr, ⊎_elim, one-mul, pow-suc, arith}
use lib.Bits.{or_shifted}
use Rattle.std.proofs.lemmas.Bool.{cases_Bool, cases_lt, cases_eq, eqb-true, eq-eqb, ne_eqb, false≢true}
use Rattle.masks.specs.Bit.{bit, has, In, Within}
use Rattle.masks.proofs.Bits.{bit_lt, bit-bit_or, bit_one, bit_zero, same_mask}
use Rattle.runs.specs.Choosing.{sieve}
use Rattle.runs.proofs.Tests.{and_both, both_and}

-- a higher member put on top
top_bit : (n x k : ℕ) → x < 2 ^ n → bit (x + 2 ^ n) k ≡ max (cond (eqb n k) 1 0) (bit x k)
top_bit n x k h =
    ap (λ (y : ℕ). bit y k) (shift ∙ sym (or_shifted 1 n x h))
    ∙ bit-bit_or (1 * 2 ^ n) x k ∙ ap (λ (y : ℕ). max y (bit x k)) (ap (λ (y : ℕ). bit y k) (one-mul (2 ^ n)) ∙ bit_one n k)
  where
    shift : x + 2 ^ n ≡ 1 * 2 ^ n + x
    shift = let e = one-mul (2 ^ n) in omega arith

pub sieve_lt : (n mask : ℕ) (p : ℕ → Bool) → sieve n mask p < 2 ^ n
unfolding sieve
sieve_lt zero mask p = omega arith
sieve_lt (suc n) mask p = at (has mask n && p n) (sieve_lt n mask p)
  where
    at : (b : Bool) → sieve n mask p < 2 ^ n → sieve n mask p + cond b (2 ^ n) 0 < 2 ^ suc n
    at true h = let e = pow-suc 2 n in omega arith
    at false h = let e = pow-suc 2 n in omega arith

-- k is a member exactly if it is one of the mask, below n, that passes
pub sieve_in : (n mask : ℕ) (p : ℕ → Bool) (k : ℕ) → In (sieve n mask p) k → (k < n) × In mask k × (p k ≡ true)
unfolding sieve
sieve_in zero mask p k h = let z = bit_zero k in absurd (omega arith)
sieve_in (suc n) mask p k h = at (cases_Bool (has mask n && p n)) (sieve_in n mask p k)
  where
    up : (k < n) × In mask k × (p k ≡ true) → (k < suc n) × In mask k × (p k ≡ true)
    up w = (omega (arith, w.0), w.1, w.2)

    at : ((has mask n && p n) ≡ true) ⊎ ((has mask n && p n) ≡ false) → (In (sieve n mask p) k → (k < n) × In mask k × (p k ≡ true)) → (k < suc n) × In mask k × (p k ≡ true)
    at (inl e) ih =
        let s = subst (λ b. In (sieve n mask p + cond b (2 ^ n) 0) k) e h in
        let t = top_bit n (sieve n mask p) k (sieve_lt n mask p) in
        ⊎_elim
        (λ (same : n ≡ k).
        let both = and_both (has mask n) (p n) e in
        (omega arith, subst (λ (j : ℕ). In mask j) same (eqb-true (bit mask n) 1 both.0), subst (λ (j : ℕ). p j ≡ true) same both.1))
        (λ (ne : n ≡ k → ⊥). let u = ap (λ b. max (cond b 1 0) (bit (sieve n mask p) k)) (ne_eqb n k ne) in up (ih (omega arith)))
        (cases_eq n k)
    at (inr e) ih =
        let s = subst (λ b. In (sieve n mask p + cond b (2 ^ n) 0) k) e h in
        let z : sieve n mask p + 0 ≡ sieve n mask p = omega arith in
        up (ih (subst (λ (x : ℕ). In x k) z s))

pub in_sieve : (n mask : ℕ) (p : ℕ → Bool) (k : ℕ) → k < n → In mask k → p k ≡ true → In (sieve n mask p) k
unfolding sieve
in_sieve zero mask p k l i e = absurd (omega arith)
in_sieve (suc n) mask p k l i e = at (cases_Bool (has mask n && p n)) (λ h. in_sieve n mask p k h i e)
  where
    at : ((has mask n && p n) ≡ true) ⊎ ((has mask n && p n) ≡ false) → (k < n → In (sieve n mask p) k) → In (sieve n mask p + cond (has mask n && p n) (2 ^ n) 0) k
    at (inl f) ih =
        subst (λ b. In (sieve n mask p + cond b (2 ^ n) 0) k) (sym f)
        (top_bit n (sieve n mask p) k (sieve_lt n mask p)
        ∙ ⊎_elim
        (λ (same : n ≡ k). let u = ap (λ b. max (cond b 1 0) (bit (sieve n mask p) k)) (eq-eqb n k same) in let v = bit_lt (sieve n mask p) k in omega arith)
        (λ (ne : n ≡ k → ⊥). let u = ap (λ b. max (cond b 1 0) (bit (sieve n mask p) k)) (ne_eqb n k ne) in let v = ih (less ne) in omega arith)
        (cases_eq n k))
      where
        less : (n ≡ k → ⊥) → k < n
        less ne = ⊎_elim (λ (h : k < n). h) (λ (g : n ≤ k). absurd (ne (omega arith))) (cases_lt k n)
    at (inr f) ih =
        let z : sieve n mask p ≡ sieve n mask p + 0 = omega arith in
        subst (λ b. In (sieve n mask p + cond b (2 ^ n) 0) k) (sym f) (subst (λ (x : ℕ). In x k) z (ih (less (cases_eq n k))))
      where
        less : (n ≡ k) ⊎ (n ≡ k → ⊥) → k < n
        less (inl same) = absurd (false≢true (sym f ∙ subst (λ (j : ℕ). (has mask j && p j) ≡ true) (sym same) (both_and (has mask k) (p k) (eq-eqb (bit mask k) 1 i) e)))
        less (inr ne) = ⊎_elim (λ (h : k < n). h) (λ (g : n ≤ k). absurd (ne (omega arith))) (cases_lt k n)

pub sieve_within : (n mask : ℕ) (p : ℕ → Bool) → Within (sieve n mask p) mask
sieve_within n mask p k i = (sieve_in n mask p k i).1

-- a mask of n bits whose members are just those is the sieved one
pub sieve_is : (n mask r : ℕ) (p : ℕ → Bool) → r < 2 ^ n → ((k : ℕ) → k < n → In r k → In mask k × (p k ≡ true)) → ((k : ℕ) → k < n → In mask k → p k ≡ true → In r k) → r ≡ sieve n mask p
sieve_is n mask r p small only each = same_mask n r (sieve n mask p) small (sieve_lt n mask p) bits
  where
    bits : (k : ℕ) → k < n → bit r k ≡ bit (sieve n mask p) k
    bits k h = ⊎_elim
        (λ (i : bit r k ≡ 1). let w = only k h i in i ∙ sym (in_sieve n mask p k h w.0 w.1))
        (λ (o : bit r k ≡ 1 → ⊥). ⊎_elim
        (λ (j : bit (sieve n mask p) k ≡ 1). let w = sieve_in n mask p k j in absurd (o (each k h w.1 w.2)))
        (λ (q : bit (sieve n mask p) k ≡ 1 → ⊥). zero_both (bit r k) (bit (sieve n mask p) k) (bit_lt r k) (bit_lt (sieve n mask p) k) o q)
        (cases_eq (bit (sieve n mask p) k) 1))
        (cases_eq (bit r k) 1)
      where
        zero_both : (x y : ℕ) → x < 2 → y < 2 → (x ≡ 1 → ⊥) → (y ≡ 1 → ⊥) → x ≡ y
        zero_both zero zero a b o q = refl
        zero_both zero (suc y) a b o q = absurd (q (omega arith))
        zero_both (suc x) y a b o q = absurd (o (omega arith))
