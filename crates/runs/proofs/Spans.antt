-- The counts from a number on, those below a number, and those that two masks share.
use Rattle.std.proofs.Common.{◌≡◌, ℕ, ◌+◌, ◌-◌, ◌*◌, ◌%◌, ◌^◌, ◌<◌, ◌≤◌, Bool, true, false, ◌≢◌, ◌↔◌, Decides, sym, refl, ap, ◌∙◌, subst, ⊎_elim, mod-eq_of_lt, arith, pow_pos}
use native.Mathlib.Nat.{add-mul-mod_self_right}
use lib.Bits.{bit_and, bit_or}
use lib.Count.{count_trailing_zeros}
use lib.Pow.{pow-lt}
use Rattle.std.proofs.lemmas.Bool.{cases_lt, cases_eq, eqb-true, eq-eqb}
use Rattle.masks.specs.Bit.{bit, has, In}
use Rattle.masks.proofs.Bits.{bit_lt, bit_zero, bit_not, bit_past, bit-bit_and, bit-bit_or}
use Rattle.masks.proofs.Lowest.{lowest, lowest_within}

-- a test of one thing is one of another where each gives the other
pub decides_same : {P Q : Type 0} (r k : ℕ) → Decides (has r k) P → P ↔ Q → Decides (has r k) Q
decides_same r k d e = (λ t. e.0 (d.0 t), λ q. d.1 (e.1 q))

-- two tests of one thing are the same
pub same_tests : {P : Type 0} (b c : Bool) → Decides b P → Decides c P → b ≡ c
same_tests true c d e = sym (e.1 (d.0 refl))
same_tests false true d e = d.1 (e.0 refl)
same_tests false false d e = refl

ones_below : (n k : ℕ) → k < n → bit (2 ^ n - 1) k ≡ 1
ones_below n k h = ap (λ (x : ℕ). bit x k) (omega arith) ∙ bit_not n 0 k (pow_pos n) h ∙ ap (λ (x : ℕ). 1 - x) (bit_zero k)

ones_past : (n k : ℕ) → n ≤ k → bit (2 ^ n - 1) k ≡ 0
ones_past n k h = bit_past n (2 ^ n - 1) k (let p = pow_pos n in omega arith) h

-- the counts below n
pub below_decided : (n r k : ℕ) → r ≡ 2 ^ n - 1 → Decides (has r k) (k < n)
below_decided n r k e = (
  λ t. ⊎_elim
      (λ (l : k < n). l)
      (λ (g : n ≤ k). let o = eqb-true (bit r k) 1 t in let f = ap (λ (x : ℕ). bit x k) e in let z = ones_past n k g in absurd (omega arith))
      (cases_lt k n),
  λ l. eq-eqb (bit r k) 1 (ap (λ (x : ℕ). bit x k) e ∙ ones_below n k l),
)

-- the counts from n on
pub from_decided : (n k : ℕ) → n < 64 → k < 64 → Decides (has ((18446744073709551615 * 2 ^ n) % 18446744073709551616) k) (n ≤ k)
from_decided n k h l = (
  λ t. ⊎_elim
      (λ (b : k < n). let o = eqb-true (bit mask k) 1 t in let z = ones_below n k b in let e = bits in absurd (omega arith))
      (λ (g : n ≤ k). g)
      (cases_lt k n),
  λ g. eq-eqb (bit mask k) 1 (let z = ones_past n k g in let e = bits in omega arith),
)
  where
    mask : ℕ
    mask = (18446744073709551615 * 2 ^ n) % 18446744073709551616

    top : ℕ
    top = 18446744073709551616

    parts : 18446744073709551615 * 2 ^ n ≡ (top - 2 ^ n) + (2 ^ n - 1) * top
    parts = let p = pow_pos n in let q : 2 ^ n < 2 ^ 64 = pow-lt h in omega arith

    whole : mask ≡ 2 ^ 64 - 1 - (2 ^ n - 1)
    whole =
        ap (λ (x : ℕ). x % top) parts ∙ add-mul-mod_self_right (top - 2 ^ n) (2 ^ n - 1) top
        ∙ mod-eq_of_lt (let p = pow_pos n in omega arith) ∙ (let p = pow_pos n in let q : 2 ^ n < 2 ^ 64 = pow-lt h in omega arith)

    bits : bit mask k ≡ 1 - bit (2 ^ n - 1) k
    bits = ap (λ (x : ℕ). bit x k) whole ∙ bit_not 64 (2 ^ n - 1) k (let p = pow_pos n in let q : 2 ^ n < 2 ^ 64 = pow-lt h in omega arith) l

-- a count is in both
pub and_decided : {P Q : Type 0} (x y k : ℕ) → Decides (has x k) P → Decides (has y k) Q → Decides (has (bit_and x y) k) (P × Q)
and_decided x y k p q = (
  λ t.
      let o = eqb-true (bit (bit_and x y) k) 1 t in
      let b = bit-bit_and x y k in
      let f = bit_lt x k in
      let g = bit_lt y k in
      (p.0 (eq-eqb (bit x k) 1 (omega arith)), q.0 (eq-eqb (bit y k) 1 (omega arith))),
  λ w.
      let f = eqb-true (bit x k) 1 (p.1 w.0) in
      let g = eqb-true (bit y k) 1 (q.1 w.1) in
      eq-eqb (bit (bit_and x y) k) 1 (let b = bit-bit_and x y k in omega arith),
)

-- masks that share something share a count
pub shared_some : (x y : ℕ) → bit_and x y ≢ 0 → bit_and x y < 2 ^ 64 → (k : ℕ) × (k < 64) × In x k × In y k
shared_some x y some small =
    let l = lowest 64 (bit_and x y) (omega arith) small in
    (t, lowest_within 64 (bit_and x y) (bit_and (bit_and x y) (bit_and x y - 1)) t l small, first l.here, second l.here)
  where
    t : ℕ
    t = count_trailing_zeros 64 (bit_and x y)

    first : bit (bit_and x y) t ≡ 1 → In x t
    first o = let b = bit-bit_and x y t in let f = bit_lt x t in omega arith

    second : bit (bit_and x y) t ≡ 1 → In y t
    second o = let b = bit-bit_and x y t in let f = bit_lt y t in omega arith

pub shared_none : (x y k : ℕ) → bit_and x y ≡ 0 → In x k → In y k → ⊥
shared_none x y k z i j = let b = bit-bit_and x y k in let e = ap (λ (m : ℕ). bit m k) z in let o = bit_zero k in omega arith

-- the counts of one number more
pub or_decided : (P : ℕ → Type 0) (x y n k : ℕ) → Decides (has x k) ((q : ℕ) × (q < n) × P q) → Decides (has y k) (P n) → Decides (has (bit_or x y) k) ((q : ℕ) × (q < n + 1) × P q)
or_decided P x y n k dx dy = (
  λ t.
      let o = eqb-true (bit (bit_or x y) k) 1 t in
      let b = bit-bit_or x y k in
      ⊎_elim
      (λ (i : bit x k ≡ 1). let w = dx.0 (eq-eqb (bit x k) 1 i) in (w.0, omega (arith, w.1), w.2))
      (λ (out : bit x k ≡ 1 → ⊥).
      let ne : bit x k ≢ 1 = out in
      let l = bit_lt x k in
      (n, omega arith, dy.0 (eq-eqb (bit y k) 1 (omega arith))))
      (cases_eq (bit x k) 1),
  λ w.
      let b = bit-bit_or x y k in
      let lx = bit_lt x k in
      let ly = bit_lt y k in
      eq-eqb (bit (bit_or x y) k) 1
      (⊎_elim
      (λ (l : w.0 < n). let i = eqb-true (bit x k) 1 (dx.1 (w.0, l, w.2)) in omega arith)
      (λ (g : n ≤ w.0).
      let same : w.0 ≡ n = omega (arith, w.1) in
      let i = eqb-true (bit y k) 1 (dy.1 (subst P same w.2)) in omega arith)
      (cases_lt w.0 n)),
)
