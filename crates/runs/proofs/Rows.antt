-- What stands along a row, and new masks put into the cells of a row.
use Rattle.std.proofs.Common.{◌≡◌, ℕ, zero, suc, ◌<◌, ◌⊎◌, List, [], ◌∷◌, length, get_or, sym, refl, ◌∙◌, subst, ap₂, inl, inr, ⊎_elim, arith, length-set, get_or-set_other, get_or-set_same}
use Rattle.std.proofs.lemmas.List.{get_or-map, length-map}
use Rattle.std.proofs.lemmas.Bool.{cases_eq}
use Rattle.families.specs.Masks.{OneOf}
use Rattle.rules.specs.Rows.{Different}
use Rattle.runs.specs.Run.{along, put}

pub one_of_later : (x : ℕ) (xs : List ℕ) (i : ℕ) → OneOf xs i → OneOf (x ∷ xs) i
one_of_later x xs i (j, l, e) = (suc j, omega arith, e)

pub cases_one_of : (xs : List ℕ) (i : ℕ) → OneOf xs i ⊎ (OneOf xs i → ⊥)
cases_one_of [] i = inr (λ o. absurd (omega (arith, o.1)))
cases_one_of (x ∷ xs) i =
    ⊎_elim (λ (e : x ≡ i). inl (0, omega arith, e))
    (λ (n : x ≡ i → ⊥). ⊎_elim (λ (o : OneOf xs i). inl (one_of_later x xs i o)) (λ (o : OneOf xs i → ⊥). inr (neither n o)) (cases_one_of xs i))
    (cases_eq x i)
  where
    neither : (x ≡ i → ⊥) → (OneOf xs i → ⊥) → OneOf (x ∷ xs) i → ⊥
    neither n o (zero, l, e) = n e
    neither n o (suc j, l, e) = o (j, omega arith, e)

-- what holds at each place of a row holds of each of its cells
pub each_place : (P : ℕ → Type 0) (row : List ℕ) → ((j : ℕ) → j < length row → P (get_or row j 0)) → (i : ℕ) → OneOf row i → P i
each_place P row here i (j, h, e) = subst P e (here j h)

-- and of each cell at all, if it holds of the others too
pub each_cell : (P : ℕ → Type 0) (row : List ℕ) → ((j : ℕ) → j < length row → P (get_or row j 0)) → ((i : ℕ) → (OneOf row i → ⊥) → P i) → (i : ℕ) → P i
each_cell P row here beside i = ⊎_elim (each_place P row here i) (beside i) (cases_one_of row i)

pub length_along : (row cells : List ℕ) → length (along row cells) ≡ length row
length_along row cells = length-map row (λ i. get_or cells i 0)

pub along_at : (row cells : List ℕ) (j : ℕ) → j < length row → get_or (along row cells) j 0 ≡ get_or cells (get_or row j 0) 0
along_at row cells j h = get_or-map (λ i. get_or cells i 0) row j 0 0 h

-- what stands along a row depends on the row's cells alone
pub along_same : (row c d : List ℕ) → ((i : ℕ) → OneOf row i → get_or c i 0 ≡ get_or d i 0) → along row c ≡ along row d
along_same [] c d e = refl
along_same (x ∷ row) c d e =
    ap₂ (λ (y : ℕ) (ys : List ℕ). y ∷ ys) (e x (0, omega arith, refl)) (along_same row c d (λ i o. e i (one_of_later x row i o)))

pub length_put : (row : List ℕ) (f : ℕ → ℕ) (cells : List ℕ) → length (put row f cells) ≡ length cells
length_put [] f cells = refl
length_put (x ∷ row) f cells = length-set (put row (λ i. f (suc i)) cells) x (f 0) ∙ length_put row (λ i. f (suc i)) cells

-- a cell that the row does not have is as it was
pub put_other : (row : List ℕ) (f : ℕ → ℕ) (cells : List ℕ) (i : ℕ) → (OneOf row i → ⊥) → get_or (put row f cells) i 0 ≡ get_or cells i 0
put_other [] f cells i o = refl
put_other (x ∷ row) f cells i o =
    get_or-set_other (put row (λ j. f (suc j)) cells) x i (f 0) 0 (λ e. o (0, omega arith, sym e))
    ∙ put_other row (λ j. f (suc j)) cells i (λ w. o (one_of_later x row i w))

-- the cell at place j of the row has what was put there
pub put_at : (row : List ℕ) (f : ℕ → ℕ) (cells : List ℕ) (j : ℕ) → Different row → j < length row → get_or row j 0 < length cells → get_or (put row f cells) (get_or row j 0) 0 ≡ f j
put_at [] f cells j different h inside = absurd (omega arith)
put_at (x ∷ row) f cells zero different h inside =
    get_or-set_same (put row (λ i. f (suc i)) cells) x (f 0) 0 (omega (arith, length_put row (λ i. f (suc i)) cells))
put_at (x ∷ row) f cells (suc j) different h inside =
    get_or-set_other (put row (λ i. f (suc i)) cells) x (get_or row j 0) (f 0) 0 (λ e. different (suc j) h (0, omega arith, sym e))
    ∙ put_at row (λ i. f (suc i)) cells j (λ i l w. different (suc i) (omega arith) (suc w.0, omega (arith, w.1), w.2)) (omega arith) inside
