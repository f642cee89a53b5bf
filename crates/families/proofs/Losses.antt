-- How many values go.
use Rattle.std.proofs.Common.{◌≡◌, ℕ, zero, suc, ◌+◌, ◌*◌, ◌^◌, ◌<◌, ◌≤◌, List, [], ◌∷◌, length, get_or, set, sym, refl, ap, ap₂, lt_of_le_of_lt, suc-mul, suc-ne-zero, arith}
use native.Mathlib.Nat.{suc_inj}
use Rattle.masks.specs.Members.{members, lost}
use Rattle.masks.proofs.Counting.{lost_nothing, kept_and_lost}
use Rattle.masks.proofs.Parts.{within_le, members_few, members_same}
use Rattle.families.specs.Masks.{AllWithin, values_lost}

-- none where nothing changed
pub values_lost_none : (xs : List ℕ) → values_lost xs xs ≡ 0
values_lost_none [] = refl
values_lost_none (x ∷ xs) = ap₂ (λ (a b : ℕ). a + b) (ap length (lost_nothing 64 x)) (values_lost_none xs)

-- how many values a list of masks holds
abbrev pub values : List ℕ → ℕ
values [] = 0
values (x ∷ xs) = length (members 64 x) + values xs

-- what holds of two lists holds of what follows their first masks
all_within_rest : (x y : ℕ) (xs ys : List ℕ) → AllWithin (x ∷ xs) (y ∷ ys) → AllWithin xs ys
all_within_rest x y xs ys p = record { size = suc_inj p.size; each = λ i. p.each (suc i) }

-- the values that are left and those that went are those that there were
pub values_kept_and_lost : (xs ys : List ℕ) → AllWithin xs ys → values xs + values_lost ys xs ≡ values ys
values_kept_and_lost [] [] p = refl
values_kept_and_lost [] (y ∷ ys) p = absurd (suc-ne-zero (length ys) (sym p.size))
values_kept_and_lost (x ∷ xs) [] p = absurd (suc-ne-zero (length xs) p.size)
values_kept_and_lost (x ∷ xs) (y ∷ ys) p =
    let rest : values xs + values_lost ys xs ≡ values ys = values_kept_and_lost xs ys (all_within_rest x y xs ys p) in
    let here : length (members 64 x) + length (lost 64 y x) ≡ length (members 64 y) = kept_and_lost 64 y x (λ k h. p.each 0 k) in
    omega arith

-- where no value went, nothing changed
pub values_same : (xs ys : List ℕ) → ((i : ℕ) → get_or ys i 0 < 2 ^ 64) → AllWithin xs ys → values xs ≡ values ys → xs ≡ ys
values_same [] [] f p e = refl
values_same [] (y ∷ ys) f p e = absurd (suc-ne-zero (length ys) (sym p.size))
values_same (x ∷ xs) [] f p e = absurd (suc-ne-zero (length xs) p.size)
values_same (x ∷ xs) (y ∷ ys) f p e =
    let q = all_within_rest x y xs ys p in
    let rest : values xs + values_lost ys xs ≡ values ys = values_kept_and_lost xs ys q in
    let here : length (members 64 x) + length (lost 64 y x) ≡ length (members 64 y) = kept_and_lost 64 y x (λ k h. p.each 0 k) in
    let small : x < 2 ^ 64 = lt_of_le_of_lt (within_le x y (p.each 0)) (f 0) in
    ap₂ (λ (a : ℕ) (more : List ℕ). a ∷ more) (members_same 64 x y small (f 0) (p.each 0) (omega arith)) (values_same xs ys (λ i. f (suc i)) q (omega arith))

pub values_lost_same : (xs ys : List ℕ) → ((i : ℕ) → get_or ys i 0 < 2 ^ 64) → AllWithin xs ys → values_lost ys xs ≡ 0 → xs ≡ ys
values_lost_same xs ys f p e = let all : values xs + values_lost ys xs ≡ values ys = values_kept_and_lost xs ys p in values_same xs ys f p (omega arith)

-- one mask put in
pub values_set : (xs : List ℕ) (i x : ℕ) → i < length xs → values (set xs i x) + length (members 64 (get_or xs i 0)) ≡ values xs + length (members 64 x)
values_set [] i x h = absurd (omega arith)
values_set (y ∷ xs) zero x h = omega arith
values_set (y ∷ xs) (suc i) x h =
    let rest : values (set xs i x) + length (members 64 (get_or xs i 0)) ≡ values xs + length (members 64 x) = values_set xs i x (omega arith) in
    omega arith

-- masks of n bits hold at most n values each
pub values_few : (n : ℕ) (xs : List ℕ) → n ≤ 64 → ((i : ℕ) → get_or xs i 0 < 2 ^ n) → values xs ≤ length xs * n
values_few n [] le f = omega arith
values_few n (x ∷ xs) le f =
    let rest : values xs ≤ length xs * n = values_few n xs le (λ i. f (suc i)) in
    let here : length (members 64 x) ≤ n = members_few 64 n x (f 0) le in
    let sum : suc (length xs) * n ≡ length xs * n + n = suc-mul (length xs) n in
    omega arith
