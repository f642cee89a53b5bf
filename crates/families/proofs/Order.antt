-- The order of lists of masks.
use Rattle.std.proofs.Common.{◌≡◌, ℕ, ◌<◌, ◌≤◌, List, length, get_or, set, sym, refl, ◌∙◌, subst, ⊎_elim, arith, length-set, get_or-set_other, get_or-set_same, ext_get_or}
use lib.Seq.{set_out}
use Rattle.std.proofs.lemmas.Bool.{cases_eq, cases_lt}
use Rattle.masks.specs.Bit.{Within}
use Rattle.masks.proofs.Parts.{within_refl, within_trans, within_antisym}
use Rattle.families.specs.Masks.{AllWithin}

pub all_within_refl : (xs : List ℕ) → AllWithin xs xs
all_within_refl xs = record { size = refl; each = λ i. within_refl (get_or xs i 0) }

pub all_within_trans : (xs ys zs : List ℕ) → AllWithin xs ys → AllWithin ys zs → AllWithin xs zs
all_within_trans xs ys zs p q = record { size = p.size ∙ q.size; each = λ i. within_trans (get_or xs i 0) (get_or ys i 0) (get_or zs i 0) (p.each i) (q.each i) }

pub all_within_antisym : (xs ys : List ℕ) → AllWithin xs ys → AllWithin ys xs → xs ≡ ys
all_within_antisym xs ys p q = ext_get_or 0 xs ys p.size (λ i h. within_antisym (get_or xs i 0) (get_or ys i 0) (p.each i) (q.each i))

-- a mask put in at the same index of both
pub all_within_set : (xs ys : List ℕ) (r a b : ℕ) → AllWithin xs ys → Within a b → AllWithin (set xs r a) (set ys r b)
all_within_set xs ys r a b p w = record { size = length-set xs r a ∙ p.size ∙ sym (length-set ys r b); each = at }
  where
    here : (r < length xs) → Within (get_or (set xs r a) r 0) (get_or (set ys r b) r 0)
    here l = let k : r < length ys = omega (arith, p.size) in rw (get_or-set_same xs r a 0 l, get_or-set_same ys r b 0 k) w

    past : (i : ℕ) → length xs ≤ r → Within (get_or (set xs r a) i 0) (get_or (set ys r b) i 0)
    past i l = let k : length ys ≤ r = omega (arith, p.size) in rw (set_out xs r a l, set_out ys r b k) (p.each i)

    at : (i : ℕ) → Within (get_or (set xs r a) i 0) (get_or (set ys r b) i 0)
    at i =
        ⊎_elim
        (λ (e : i ≡ r). ⊎_elim (λ (l : r < length xs). subst (λ (j : ℕ). Within (get_or (set xs r a) j 0) (get_or (set ys r b) j 0)) (sym e) (here l)) (λ (l : length xs ≤ r). past i l) (cases_lt r (length xs)))
        (λ (n : i ≡ r → ⊥). rw (get_or-set_other xs r i a 0 n, get_or-set_other ys r i b 0 n) (p.each i))
        (cases_eq i r)

-- a part of one mask put in its place
pub all_within_set_part : (xs : List ℕ) (r a : ℕ) → Within a (get_or xs r 0) → AllWithin (set xs r a) xs
all_within_set_part xs r a w = record { size = length-set xs r a; each = at }
  where
    here : (r < length xs) → Within (get_or (set xs r a) r 0) (get_or xs r 0)
    here l = rw (get_or-set_same xs r a 0 l) w

    past : (i : ℕ) → length xs ≤ r → Within (get_or (set xs r a) i 0) (get_or xs i 0)
    past i l = rw (set_out xs r a l) (within_refl (get_or xs i 0))

    at : (i : ℕ) → Within (get_or (set xs r a) i 0) (get_or xs i 0)
    at i =
        ⊎_elim
        (λ (e : i ≡ r). ⊎_elim (λ (l : r < length xs). subst (λ (j : ℕ). Within (get_or (set xs r a) j 0) (get_or xs j 0)) (sym e) (here l)) (λ (l : length xs ≤ r). past i l) (cases_lt r (length xs)))
        (λ (n : i ≡ r → ⊥). rw (get_or-set_other xs r i a 0 n) (within_refl (get_or xs i 0)))
        (cases_eq i r)
