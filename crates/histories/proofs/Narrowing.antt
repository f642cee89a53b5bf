-- What decisions leave of masks: they only narrow, and their order does not matter.
use Rattle.std.proofs.Common.{◌≡◌, ℕ, ◌<◌, ◌≤◌, List, [], ◌∷◌, length, get_or, set, sym, ◌∙◌, subst, ⊎_elim, arith, length-set, get_or-set_other, get_or-set_same}
use lib.Bits.{bit_and}
use lib.Seq.{set_out}
use Rattle.std.proofs.lemmas.Bool.{cases_eq, cases_lt}
use Rattle.masks.specs.Bit.{Within}
use Rattle.masks.proofs.Parts.{within_trans, shared_left, shared_right, shared_holds}
use Rattle.families.specs.Masks.{AllWithin}
use Rattle.families.specs.Meaning.{Meaning}
use Rattle.families.proofs.Order.{all_within_refl, all_within_set, all_within_set_part}
use Rattle.settling.specs.Masks.{Masks, Sized, Inside}
use Rattle.settling.specs.Largest.{Largest}
use Rattle.settling.proofs.Order.{inside_refl, inside_trans, sized_inside}
use Rattle.settling.proofs.Largest.{Narrows}
use Rattle.histories.specs.Decisions.{Decision, on_cell, on_tally, narrow, narrowed}
use Rattle.histories.specs.Law.{Reorder, nil, keep, swap, via}

-- a smaller mask shares less with a third
shared_more : (a b x : ℕ) → Within a b → Within (bit_and a x) (bit_and b x)
shared_more a b x p = shared_holds (bit_and a x) b x (within_trans (bit_and a x) a b (shared_left a x) p) (shared_right a x)

-- what is within ys, and within xs where one mask is narrowed, is within ys where that mask is narrowed
within_meets : (us xs ys : List ℕ) (i x : ℕ) → AllWithin us (set xs i (bit_and (get_or xs i 0) x)) → AllWithin us ys → AllWithin us (set ys i (bit_and (get_or ys i 0) x))
within_meets us xs ys i x f g = record { size = g.size ∙ sym (length-set ys i (bit_and (get_or ys i 0) x)); each = at }
  where
    here : i < length ys → Within (get_or us i 0) (get_or (set ys i (bit_and (get_or ys i 0) x)) i 0)
    here l =
        let k : i < length xs = omega (arith, f.size, g.size, length-set xs i (bit_and (get_or xs i 0) x)) in
        let w : Within (get_or us i 0) (bit_and (get_or xs i 0) x) = subst (λ (y : ℕ). Within (get_or us i 0) y) (get_or-set_same xs i (bit_and (get_or xs i 0) x) 0 k) (f.each i) in
        subst (λ (y : ℕ). Within (get_or us i 0) y) (sym (get_or-set_same ys i (bit_and (get_or ys i 0) x) 0 l))
        (shared_holds (get_or us i 0) (get_or ys i 0) x (g.each i) (within_trans (get_or us i 0) (bit_and (get_or xs i 0) x) x w (shared_right (get_or xs i 0) x)))

    at : (j : ℕ) → Within (get_or us j 0) (get_or (set ys i (bit_and (get_or ys i 0) x)) j 0)
    at j =
        ⊎_elim
        (λ (e : j ≡ i). ⊎_elim
        (λ (l : i < length ys). subst (λ (y : ℕ). Within (get_or us y 0) (get_or (set ys i (bit_and (get_or ys i 0) x)) y 0)) (sym e) (here l))
        (λ (l : length ys ≤ i). subst (λ (zs : List ℕ). Within (get_or us j 0) (get_or zs j 0)) (sym (set_out ys i (bit_and (get_or ys i 0) x) l)) (g.each j))
        (cases_lt i (length ys)))
        (λ (n : j ≡ i → ⊥). subst (λ (y : ℕ). Within (get_or us j 0) y) (sym (get_or-set_other ys i j (bit_and (get_or ys i 0) x) 0 n)) (g.each j))
        (cases_eq j i)

narrow_inside : (d : Decision) (s : Masks) → Inside (narrow d s) s
narrow_inside (on_cell i x) s = record { cells = all_within_set_part s.cells i (bit_and (get_or s.cells i 0) x) (shared_left (get_or s.cells i 0) x); tallies = all_within_refl s.tallies }
narrow_inside (on_tally r x) s = record { cells = all_within_refl s.cells; tallies = all_within_set_part s.tallies r (bit_and (get_or s.tallies r 0) x) (shared_left (get_or s.tallies r 0) x) }

narrow_monotone : (d : Decision) (s t : Masks) → Inside s t → Inside (narrow d s) (narrow d t)
narrow_monotone (on_cell i x) s t p =
    record {
      cells = all_within_set s.cells t.cells i (bit_and (get_or s.cells i 0) x) (bit_and (get_or t.cells i 0) x) p.cells
          (shared_more (get_or s.cells i 0) (get_or t.cells i 0) x (p.cells.each i));
      tallies = p.tallies;
    }
narrow_monotone (on_tally r x) s t p =
    record {
      cells = p.cells;
      tallies = all_within_set s.tallies t.tallies r (bit_and (get_or s.tallies r 0) x) (bit_and (get_or t.tallies r 0) x) p.tallies
          (shared_more (get_or s.tallies r 0) (get_or t.tallies r 0) x (p.tallies.each r));
    }

narrow_meets : (d : Decision) (u s t : Masks) → Inside u (narrow d s) → Inside u t → Inside u (narrow d t)
narrow_meets (on_cell i x) u s t f g = record { cells = within_meets u.cells s.cells t.cells i x f.cells g.cells; tallies = g.tallies }
narrow_meets (on_tally r x) u s t f g = record { cells = g.cells; tallies = within_meets u.tallies s.tallies t.tallies r x f.tallies g.tallies }

pub narrow_narrows : (d : Decision) → Narrows (narrow d)
narrow_narrows d = record { inside = narrow_inside d; monotone = narrow_monotone d; meets = narrow_meets d }

pub narrow_sized : (d : Decision) (s : Masks) → Sized s → Sized (narrow d s)
narrow_sized d s z = sized_inside (narrow d s) s z (narrow_inside d s)

pub narrowed_inside : (ds : List Decision) (s : Masks) → Inside (narrowed ds s) s
narrowed_inside [] s = inside_refl s
narrowed_inside (d ∷ ds) s = inside_trans (narrow d (narrowed ds s)) (narrowed ds s) s (narrow_inside d (narrowed ds s)) (narrowed_inside ds s)

pub narrowed_sized : (ds : List Decision) (s : Masks) → Sized s → Sized (narrowed ds s)
narrowed_sized ds s z = sized_inside (narrowed ds s) s z (narrowed_inside ds s)

-- P holds of each decision of a list
abbrev pub Every : (Decision → Type 0) → List Decision → Type 0
Every P [] = Unit
Every P (d ∷ ds) = P d × Every P ds

-- u is within what each decision of a list leaves of s
abbrev pub InsideEach : Masks → Masks → List Decision → Type 0
InsideEach u s ds = Every (λ d. Inside u (narrow d s)) ds

-- to be within all decisions is to be within each
pub each_narrowed : (ds : List Decision) (u s : Masks) → Inside u (narrowed ds s) → InsideEach u s ds
each_narrowed [] u s p = tt
each_narrowed (d ∷ ds) u s p = (
  inside_trans u (narrow d (narrowed ds s)) (narrow d s) p (narrow_monotone d (narrowed ds s) s (narrowed_inside ds s)),
  each_narrowed ds u s (inside_trans u (narrow d (narrowed ds s)) (narrowed ds s) p (narrow_inside d (narrowed ds s))),
)

pub narrowed_each : (ds : List Decision) (u s : Masks) → Inside u s → InsideEach u s ds → Inside u (narrowed ds s)
narrowed_each [] u s p f = p
narrowed_each (d ∷ ds) u s p f = narrow_meets d u s (narrowed ds s) f.0 (narrowed_each ds u s p f.1)

-- what holds of each decision holds of each in another order
pub reorder_every : (P : Decision → Type 0) {ds es : List Decision} → Reorder ds es → Every P ds → Every P es
reorder_every P nil f = tt
reorder_every P (keep d ds es r) f = (f.0, reorder_every P r f.1)
reorder_every P (swap d e ds) f = (f.1.0, (f.0, f.1.1))
reorder_every P (via ds es fs r q) f = reorder_every P q (reorder_every P r f)

pub reorder_sym : {ds es : List Decision} → Reorder ds es → Reorder es ds
reorder_sym nil = nil
reorder_sym (keep d ds es r) = keep d es ds (reorder_sym r)
reorder_sym (swap d e ds) = swap e d ds
reorder_sym (via ds es fs r q) = via fs es ds (reorder_sym q) (reorder_sym r)

-- the order of decisions does not matter
pub reorder_inside : (ds es : List Decision) (u s : Masks) → Reorder ds es → Inside u (narrowed ds s) → Inside u (narrowed es s)
reorder_inside ds es u s r p =
    narrowed_each es u s (inside_trans u (narrowed ds s) s p (narrowed_inside ds s)) (reorder_every (λ d. Inside u (narrow d s)) r (each_narrowed ds u s p))

pub reorder_largest : (m : Meaning) (ds es : List Decision) (s t : Masks) → Reorder ds es → Largest m (narrowed ds s) t → Largest m (narrowed es s) t
reorder_largest m ds es s t r big =
    record {
      stable = big.stable;
      inside = reorder_inside ds es t s r big.inside;
      above = λ u st i. big.above u st (reorder_inside es ds u s (reorder_sym r) i);
    }
