-- The three measures: least total, greatest total, set of totals.
use Rattle.std.specs.Prelude.{◌≡◌, refl, ℕ, zero, suc, ◌+◌, ◌-◌, ◌*◌, ◌/◌, ◌%◌, ◌^◌, ◌<◌, ◌≤◌, min, max}
use Rattle.std.proofs.Common.{sym, ap, ◌∙◌, mod-eq_of_lt, mul_assoc, mod-lt, add-zero, div-add-mod', mul_comm, add-mul, mul-one, zero-mul, arith, pow-add, pow_pos}
use Rattle.std.proofs.Math.Nat.{add-mul-mod_self_right, mul-mod_left}
use Rattle.std.specs.Int.Bits.{bit_or, or_self}
use Rattle.std.proofs.lemmas.Nat.{or_comm, or_block, or_mod}
use Rattle.masks.proofs.Bits.{same_bits, bit-bit_or}
use Rattle.measures.specs.Measuring.{Measuring, Laws, Idempotent}

-- the largest code
abbrev pub top : ℕ
top = 18446744073709551615

-- the least total: a total is its own code, and the largest code says that there is none
abbrev pub least : Measuring
least = record { largest = top; none = top; start = 0; increase = λ x n. min (x + n) top; join = min }

pub least_laws : Laws least
least_laws = record {
  join_assoc = λ x y z. omega arith;
  join_comm = λ x y. omega arith;
  none_drops_out = λ x h. omega arith;
  none_stays_none = λ n. omega arith;
  increase_spreads = λ x y n. omega arith;
  increases_add = λ x a b. omega arith;
  increase_by_zero = λ x h. omega arith;
  start_fits = omega arith;
  none_fits = omega arith;
  increase_fits = λ x n. omega arith;
}

-- the greatest total: the code of a total is one more, and 0 says that there is none
abbrev pub raised : ℕ → ℕ → ℕ
raised zero n = 0
raised (suc x) n = min (suc x + n) top

abbrev pub greatest : Measuring
greatest = record { largest = top; none = 0; start = 1; increase = raised; join = max }

pub greatest_laws : Laws greatest
greatest_laws = record {
  join_assoc = λ x y z. omega arith;
  join_comm = λ x y. omega arith;
  none_drops_out = λ x h. omega arith;
  none_stays_none = λ n. refl;
  increase_spreads = spreads;
  increases_add = adds;
  increase_by_zero = by_zero;
  start_fits = omega arith;
  none_fits = omega arith;
  increase_fits = fits;
}
  where
    by_zero : (x : ℕ) → x ≤ top → raised x 0 ≡ x
    by_zero zero h = refl
    by_zero (suc x) h = omega arith

    fits : (x n : ℕ) → raised x n ≤ top
    fits zero n = omega arith
    fits (suc x) n = omega arith

    pos : (x n : ℕ) → 0 < x → raised x n ≡ min (x + n) top
    pos zero n h = omega arith
    pos (suc x) n h = refl

    spreads : (x y n : ℕ) → raised (max x y) n ≡ max (raised x n) (raised y n)
    spreads zero y n = let e : max zero y ≡ y = omega arith in ap (λ (z : ℕ). raised z n) e ∙ omega arith
    spreads (suc x) zero n = let e : max (suc x) zero ≡ suc x = omega arith in ap (λ (z : ℕ). raised z n) e ∙ omega arith
    spreads (suc x) (suc y) n = pos (max (suc x) (suc y)) n (omega arith) ∙ omega arith

    adds : (x a b : ℕ) → raised (raised x a) b ≡ raised x (a + b)
    adds zero a b = refl
    adds (suc x) a b = pos (min (suc x + a) top) b (omega arith) ∙ omega arith

-- the set of totals 0 to 63: larger totals fall away
abbrev pub shifted : ℕ → ℕ → ℕ
shifted x n = (x * 2 ^ n) % 2 ^ 64

abbrev pub totals : Measuring
totals = record { largest = top; none = 0; start = 1; increase = shifted; join = bit_or }

pub totals_laws : Laws totals
totals_laws = record {
  join_assoc = assoc;
  join_comm = or_comm;
  none_drops_out = λ x h. refl;
  none_stays_none = λ n. ap (λ (z : ℕ). z % 2 ^ 64) (zero-mul (2 ^ n));
  increase_spreads = spreads;
  increases_add = adds;
  increase_by_zero = λ x h. by_zero x h;
  start_fits = omega arith;
  none_fits = omega arith;
  increase_fits = λ x n. omega (arith, mod-lt (x * 2 ^ n) (pow_pos 64));
}
  where
    assoc : (x y z : ℕ) → bit_or (bit_or x y) z ≡ bit_or x (bit_or y z)
    assoc x y z = same_bits (bit_or (bit_or x y) z) (bit_or x (bit_or y z)) (λ k.
        let p = bit-bit_or (bit_or x y) z k in
        let q = bit-bit_or x y k in
        let r = bit-bit_or x (bit_or y z) k in
        let s = bit-bit_or y z k in
        omega arith)

    by_zero : (x : ℕ) → x ≤ top → shifted x 0 ≡ x
    by_zero x h = ap (λ (z : ℕ). z % 2 ^ 64) (mul-one x) ∙ mod-eq_of_lt (omega arith)

    shl_or : (x y n : ℕ) → bit_or x y * 2 ^ n ≡ bit_or (x * 2 ^ n) (y * 2 ^ n)
    shl_or x y n = sym (rw (add-zero (x * 2 ^ n), add-zero (y * 2 ^ n), add-zero (bit_or x y * 2 ^ n)) at (or_block n x y 0 0 (pow_pos n) (pow_pos n)))

    spreads : (x y n : ℕ) → shifted (bit_or x y) n ≡ bit_or (shifted x n) (shifted y n)
    spreads x y n = ap (λ (z : ℕ). z % 2 ^ 64) (shl_or x y n) ∙ or_mod (x * 2 ^ n) (y * 2 ^ n) 64

    mod_times : (x m k : ℕ) → (x % m * k) % m ≡ (x * k) % m
    mod_times x m k =
        let parts : x * k ≡ x % m * k + x / m * k * m = ap (λ (z : ℕ). z * k) (sym (div-add-mod' x m)) ∙ regroup (x / m) (x % m) in
        sym (ap (λ (z : ℕ). z % m) parts ∙ add-mul-mod_self_right (x % m * k) (x / m * k) m)
      where
        regroup : (p r : ℕ) → (p * m + r) * k ≡ r * k + p * k * m
        regroup p r = add-mul (p * m) r k ∙ swap (p * m * k) (r * k) ∙ ap (λ (z : ℕ). r * k + z) (mul_assoc p m k ∙ ap (λ (z : ℕ). p * z) (mul_comm m k) ∙ sym (mul_assoc p k m))
          where
            swap : (u v : ℕ) → u + v ≡ v + u
            swap u v = omega arith

    adds : (x a b : ℕ) → shifted (shifted x a) b ≡ shifted x (a + b)
    adds x a b =
        mod_times (x * 2 ^ a) (2 ^ 64) (2 ^ b)
        ∙ ap (λ (z : ℕ). z % 2 ^ 64) (mul_assoc x (2 ^ a) (2 ^ b) ∙ ap (λ (z : ℕ). x * z) (sym (pow-add 2 a b)))

pub least_idempotent : Idempotent least
least_idempotent = record { join_self = λ x. omega arith }

pub greatest_idempotent : Idempotent greatest
greatest_idempotent = record { join_self = λ x. omega arith }

pub totals_idempotent : Idempotent totals
totals_idempotent = record { join_self = or_self }

-- `x << n`, and nothing where the shift is too far
pub shifted_far : (x n : ℕ) → 64 ≤ n → shifted x n ≡ 0
shifted_far x n h =
    ap (λ (z : ℕ). (x * z) % 2 ^ 64) (ap (λ (k : ℕ). 2 ^ k) (split n h) ∙ pow-add 2 (n - 64) 64)
    ∙ ap (λ (z : ℕ). z % 2 ^ 64) (sym (mul_assoc x (2 ^ (n - 64)) (2 ^ 64)))
    ∙ whole (x * 2 ^ (n - 64))
  where
    split : (n : ℕ) → 64 ≤ n → n ≡ n - 64 + 64
    split n h = omega arith

    whole : (y : ℕ) → (y * 2 ^ 64) % 2 ^ 64 ≡ 0
    whole y = mul-mod_left y (2 ^ 64)
