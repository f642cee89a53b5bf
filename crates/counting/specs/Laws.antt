-- A counting rule keeps the laws of a family's rule, in every sense.
use Rattle.std.specs.Prelude.{◌≡◌, ℕ, ◌^◌, ◌<◌, Bool, true, false, List, length, ◌≢◌, slice_index, slice_index_or, refl}
use Rattle.std.proofs.Common.{sym, ap, ◌∙◌, subst, inl, inr, ⊎_elim, arith}
use Rattle.std.proofs.lemmas.Bool.{cases_Bool, both_ways}
use Rattle.masks.specs.Bit.{In, Within}
use Rattle.masks.proofs.Bits.{bit_zero}
use Rattle.masks.proofs.Parts.{within_refl, within_empty}
use Rattle.automata.specs.Automaton.{Automaton, Lawful}
use Rattle.automata.specs.Reading.{total}
use Rattle.sweeps.specs.Sequences.{From}
use Rattle.families.specs.Masks.{Proper, AllWithin, OneOf}
use Rattle.families.specs.Laws.{Fills, Single, Emptied, LawfulRule}
use Rattle.rules.specs.declared.Sense.{Sense}
use Rattle.rules.specs.Rows.{GoodRow}
use Rattle.rules.specs.Senses.{Meets, meets}
use Rattle.runs.specs.Choosing.{sieve}
use Rattle.runs.specs.Stays.{count_stays}
use Rattle.runs.specs.Run.{along, kept, leaves, counting_rule}
use Rattle.runs.proofs.Decided.{meets_decided}
use Rattle.runs.proofs.Rows.{each_place, each_cell, length_along, along_at, along_same, length_put, put_other}
use Rattle.runs.proofs.Narrower.{along_narrower, duty_wider, count_wider}
use Rattle.runs.proofs.Uses.{used_duty, used_count}
use Rattle.runs.proofs.Fillings.{in_below, in_one, one_in, from_filling, single_fills, single_meets}
use Rattle.runs.proofs.Left.{cell_left, duty_left, leaves_duty, count_left, leaves_count}

module _ (a : Automaton) (sense : Sense) (row : List ℕ) where
  -- what a run leaves of cell i
  abbrev left : List ℕ → ℕ → ℕ → ℕ
  left c t i = slice_index (leaves a sense row c t).cells i

  -- the test that the rule allows a filling with a count
  abbrev allowed : List ℕ → ℕ → Bool
  allowed f k = meets sense (total a 0 (along row f)) k

module _ (a : Automaton) (sense : Sense) (row : List ℕ) (good : GoodRow 192 row) where
  only_scope : (c : List ℕ) (t i : ℕ) → (OneOf row i → ⊥) → left a sense row c t i ≡ slice_index c i
  only_scope c t i o = put_other row (kept a sense t (along row c)) c i o

  size_left : (c : List ℕ) (t : ℕ) → length (leaves a sense row c t).cells ≡ length c
  size_left c t = length_put row (kept a sense t (along row c)) c

  reads_scope : (c d : List ℕ) (t : ℕ) → Proper c t → Proper d t → ((j : ℕ) → OneOf row j → slice_index c j ≡ slice_index d j)
      → ((i : ℕ) → OneOf row i → left a sense row c t i ≡ left a sense row d t i) × ((leaves a sense row c t).tally ≡ (leaves a sense row d t).tally)
  reads_scope c d t p q same =
      let e = along_same row c d same in (
        each_place (λ i. left a sense row c t i ≡ left a sense row d t i) row
            (λ j h. cell_left a sense row good c t p j h ∙ ap (λ (masks : List ℕ). kept a sense t masks j) e ∙ sym (cell_left a sense row good d t q j h)),
        ap (λ (masks : List ℕ). sieve 64 t (count_stays a masks sense)) e,
      )

  removes : (c : List ℕ) (t : ℕ) → Proper c t → AllWithin (leaves a sense row c t).cells c × Within (leaves a sense row c t).tally t
  removes c t p = (
    record {
      size = size_left c t;
      each = each_cell (λ i. Within (left a sense row c t i) (slice_index c i)) row
          (λ j h d i. (duty_left a sense row good c t p j d h i).1)
          (λ i o. subst (λ (x : ℕ). Within x (slice_index c i)) (sym (only_scope c t i o)) (within_refl (slice_index c i)));
    },
    λ k i. (count_left a sense row c t k i).1,
  )

  grows : (c d : List ℕ) (t u : ℕ) → Proper c t → Proper d u → AllWithin c d → Within t u
      → AllWithin (leaves a sense row c t).cells (leaves a sense row d u).cells × Within (leaves a sense row c t).tally (leaves a sense row d u).tally
  grows c d t u p q cells tally =
      let n = along_narrower row c d cells.each in (
        record {
          size = size_left c t ∙ cells.size ∙ sym (size_left d u);
          each = each_cell (λ i. Within (left a sense row c t i) (left a sense row d u i)) row
              (λ j h x i. let w = duty_left a sense row good c t p j x h i in
              leaves_duty a sense row good d u q j x h w.0 (cells.each (slice_index row j) x w.1) (duty_wider a (along row c) (along row d) n sense t u j x tally w.2))
              (λ i o. subst (λ (x : ℕ). Within x (left a sense row d u i)) (sym (only_scope c t i o)) (subst (λ (y : ℕ). Within (slice_index c i) y) (sym (only_scope d u i o)) (cells.each i)));
        },
        λ k i. let w = count_left a sense row c t k i in leaves_count a sense row d u k w.0 (tally k w.1) (count_wider a (along row c) (along row d) n sense k w.2),
      )

  keeps : Lawful a → (c : List ℕ) (t : ℕ) (f : List ℕ) (k : ℕ) → Proper c t → Fills row f c → In t k → allowed a sense row f k ≡ true
      → Fills row f (leaves a sense row c t).cells × In (leaves a sense row c t).tally k
  keeps lawful c t f k p fills i allows =
      let from : From (along row c) (along row f) = from_filling row f c p.narrow fills in
      let met : Meets sense (total a 0 (along row f)) k = (meets_decided sense (total a 0 (along row f)) k).0 allows in
      let below : k < 64 = in_below 64 t k p.fits i in (
        each_place (λ x. In (left a sense row c t x) (slice_index f x)) row
            (λ j h. let x = slice_index_or row j 0 in let o = fills x (j, h, refl) in
            leaves_duty a sense row good c t p j (slice_index f x) h (in_below 16 (slice_index c x) (slice_index f x) (p.narrow x) o) o
            (used_duty a lawful (along row c) (along row f) from sense t j (slice_index f x) k (omega (arith, length_along row c)) (along_at row f j h) below i met)),
        leaves_count a sense row c t k below i (used_count a lawful (along row c) (along row f) from sense k met),
      )

  decides : Lawful a → (c : List ℕ) (f : List ℕ) (k : ℕ) → Proper c (2 ^ k) → Single row f c
      → (Emptied row (leaves a sense row c (2 ^ k)) → allowed a sense row f k ≡ false) × (allowed a sense row f k ≡ false → Emptied row (leaves a sense row c (2 ^ k)))
  decides lawful c f k p single =
      (λ e. ⊎_elim (λ (t : allowed a sense row f k ≡ true). absurd (full t e)) (λ (n : allowed a sense row f k ≡ false). n) (cases_Bool (allowed a sense row f k)), λ n. inr (none n))
    where
      no_member : (m x : ℕ) → In m x → m ≢ 0
      no_member m x i e = let o : In 0 x = subst (λ (y : ℕ). In y x) e i in let z = bit_zero x in omega arith

      all_kept : allowed a sense row f k ≡ true → Fills row f (leaves a sense row c (2 ^ k)).cells × In (leaves a sense row c (2 ^ k)).tally k
      all_kept = keeps lawful c (2 ^ k) f k p (single_fills row f c single) (in_one k)

      full : allowed a sense row f k ≡ true → Emptied row (leaves a sense row c (2 ^ k)) → ⊥
      full t (inl (i, o, e)) = no_member (left a sense row c (2 ^ k) i) (slice_index f i) ((all_kept t).0 i o) e
      full t (inr e) = no_member (leaves a sense row c (2 ^ k)).tally k (all_kept t).1 e

      none : allowed a sense row f k ≡ false → (leaves a sense row c (2 ^ k)).tally ≡ 0
      none n =
          within_empty (leaves a sense row c (2 ^ k)).tally 0
          (λ x i. let w = count_left a sense row c (2 ^ k) x i in let m = single_meets a sense row f c x single w.2 in
          absurd (both_ways (allowed a sense row f k) n (subst (λ (y : ℕ). allowed a sense row f y ≡ true) (one_in k x w.1) ((meets_decided sense (total a 0 (along row f)) x).1 m))))
          refl

pub counting_lawful : (a : Automaton) → Lawful a → (sense : Sense) (row : List ℕ) (start : ℕ) → GoodRow 192 row → 0 < start → start < 2 ^ 64 → LawfulRule (counting_rule a sense row start)
counting_lawful a lawful sense row start good some fits = record {
  starts_open = some;
  start_fits = fits;
  scope_inside = each_place (λ i. i < 192) row good.below;
  changes_only_scope = λ c t i p o. only_scope a sense row good c t i o;
  reads_only_scope = reads_scope a sense row good;
  only_removes = removes a sense row good;
  monotone = grows a sense row good;
  keeps_allowed = keeps a sense row good lawful;
  decides_single = decides a sense row good lawful;
}
