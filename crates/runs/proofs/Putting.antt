-- Masks put into the different cells of a row, one after the other, and how many values go.
use Rattle.std.proofs.Common.{◌≡◌, ℕ, zero, suc, ◌+◌, ◌*◌, ◌<◌, ◌≤◌, Bool, true, false, cond, not, ◌&&◌, ◌≢◌, List, [], ◌∷◌, ◌++◌, length, get_or, take, set, sym, refl, ap, ◌∙◌, arith, length-append}
use native.Mathlib.Nat.{suc_inj}
use Rattle.std.proofs.lemmas.List.{set_comm, take_more, get_or-take, length-take-le}
use Rattle.masks.specs.Bit.{has}
use Rattle.masks.specs.Members.{lost}
use Rattle.masks.proofs.Counting.{lost_nothing}
use Rattle.families.specs.Masks.{values_lost}
use Rattle.rules.specs.Rows.{Different}
use Rattle.runs.specs.Run.{put}
use Rattle.runs.proofs.Rows.{length_put, put_other}

-- y is none of a list
abbrev Apart : List ℕ → ℕ → Type 0
Apart row y = (j : ℕ) → j < length row → get_or row j 0 ≢ y

-- one cell more
put_last : (row : List ℕ) (y : ℕ) (f : ℕ → ℕ) (cells : List ℕ) → Apart row y → put (row ++ (y ∷ [])) f cells ≡ set (put row f cells) y (f (length row))
put_last [] y f cells out = refl
put_last (x ∷ row) y f cells out =
    ap (λ l. set l x (f 0)) (put_last row y (λ i. f (suc i)) cells (λ j h. out (suc j) (omega arith)))
    ∙ set_comm (put row (λ i. f (suc i)) cells) y x (f (suc (length row))) (f 0) (λ e. out 0 (omega arith) (sym e))

-- no more go than there are
pub lost_few : (n before after : ℕ) → length (lost n before after) ≤ n
unfolding lost
lost_few zero before after = omega arith
lost_few (suc n) before after = at (has before n && not (has after n)) (lost_few n before after)
  where
    at : (b : Bool) → length (lost n before after) ≤ n → length (cond b (lost n before after ++ (n ∷ [])) (lost n before after)) ≤ suc n
    at true h = omega (arith, length-append (lost n before after) (n ∷ []))
    at false h = omega arith

pub values_lost_few : (xs ys : List ℕ) → values_lost xs ys ≤ 64 * length xs
values_lost_few [] ys = omega arith
values_lost_few (x ∷ xs) [] = omega arith
values_lost_few (x ∷ xs) (y ∷ ys) = omega (arith, lost_few 64 x y, values_lost_few xs ys)

-- a mask that was as before is changed
lost_set : (xs ys : List ℕ) (i y : ℕ) → length xs ≡ length ys → i < length xs → get_or ys i 0 ≡ get_or xs i 0
    → values_lost xs (set ys i y) ≡ values_lost xs ys + length (lost 64 (get_or xs i 0) y)
lost_set [] ys i y e h same = absurd (omega arith)
lost_set (x ∷ xs) [] i y e h same = absurd (omega arith)
lost_set (x ∷ xs) (z ∷ ys) zero y e h same =
    let n : length (lost 64 x z) ≡ 0 = ap (λ (m : ℕ). length (lost 64 x m)) same ∙ ap length (lost_nothing 64 x) in
    omega arith
lost_set (x ∷ xs) (z ∷ ys) (suc i) y e h same =
    let r = lost_set xs ys i y (suc_inj e) (omega arith) same in
    omega arith

module _ (row : List ℕ) (different : Different row) (i : ℕ) (within : i < length row) where
  out : Apart (take i row) (get_or row i 0)
  out j h e =
      let l = length-take-le i row (omega arith) in
      different i within (j, omega arith, sym (get_or-take i row j 0 (omega arith)) ∙ e)

  pub put_more : (f : ℕ → ℕ) (cells : List ℕ) → put (take (i + 1) row) f cells ≡ set (put (take i row) f cells) (get_or row i 0) (f i)
  put_more f cells =
      ap (λ l. put l f cells) (take_more row i 0 within) ∙ put_last (take i row) (get_or row i 0) f cells out
      ∙ ap (λ (n : ℕ). set (put (take i row) f cells) (get_or row i 0) (f n)) (length-take-le i row (omega arith))

  pub lost_more : (f : ℕ → ℕ) (cells : List ℕ) → get_or row i 0 < length cells
      → values_lost cells (set (put (take i row) f cells) (get_or row i 0) (f i)) ≡ values_lost cells (put (take i row) f cells) + length (lost 64 (get_or cells (get_or row i 0) 0) (f i))
  lost_more f cells h =
      lost_set cells (put (take i row) f cells) (get_or row i 0) (f i) (sym (length_put (take i row) f cells)) h (put_other (take i row) f cells (get_or row i 0) (λ o. out o.0 o.1 o.2))

  -- what was put in and counted so far, and one cell more
  pub narrow_more : (f : ℕ → ℕ) (cells new : List ℕ) (cell mask left removed more : ℕ) → get_or row i 0 < length cells
      → cell ≡ get_or row i 0 → mask ≡ get_or cells (get_or row i 0) 0 → left ≡ f i → more ≡ length (lost 64 mask left)
      → new ≡ put (take i row) f cells → removed ≡ values_lost cells new → removed ≤ 64 * i
      → (set new cell left ≡ put (take (i + 1) row) f cells) × (removed + more ≡ values_lost cells (set new cell left)) × (removed + more ≤ 64 * (i + 1))
  narrow_more f cells new cell mask left removed more h ec em el er en old few =
      let now : set new cell left ≡ set (put (take i row) f cells) (get_or row i 0) (f i) = cc in
      let all = ap (values_lost cells) now in
      let before = ap (values_lost cells) en in
      let step = lost_more f cells h in
      let here : more ≡ length (lost 64 (get_or cells (get_or row i 0) 0) (f i)) = cc in
      let small = lost_few 64 (get_or cells (get_or row i 0) 0) (f i) in
      (now ∙ sym (put_more f cells), omega arith, omega arith)
