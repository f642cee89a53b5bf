-- One turn of each loop over the open duties of a mask, and over the states.
use Rattle.std.proofs.Common.{◌≡◌, ℕ, ◌+◌, ◌^◌, ◌<◌, cond, List, [], ◌∷◌, ◌++◌, length, get_or, take, set, min, sym, ap, ◌∙◌, ap₂, ⊎_elim, add-one, arith, get_or-set_other, get_or-set_same, length-append}
use Rattle.std.proofs.Math.Seq.{take-append_seam, get_or-append_seam}
use Rattle.std.proofs.lemmas.List.{take-take, get_or-take, length-take}
use Rattle.std.proofs.lemmas.Bool.{cases_eq, eq-eqb, ne_eqb}
use Rattle.masks.specs.Members.{members}
use Rattle.masks.proofs.Counting.{members_wider}
use Rattle.automata.specs.Automaton.{Automaton}
use Rattle.measures.specs.Measuring.{Measuring, Laws}
use Rattle.sweeps.specs.Sequences.{duties}
use Rattle.sweeps.specs.Joining.{over}
use Rattle.sweeps.specs.Place.{Neutral, up_to, given, passed, pushed}
use Rattle.sweeps.proofs.Overs.{neutral_right, neutral_join, over_neutral, over_last}
use Rattle.sweeps.proofs.ForwardPlace.{none_passed}

module _ {m : Measuring} (laws : Laws m) where
  -- the list is what is left to join: one more is joined, and the whole stays
  pub joined_more : (f : ℕ → ℕ) (x y d all : ℕ) (left rest : List ℕ) → left ≡ d ∷ rest → y ≡ m.join x (f d)
      → m.join x (over m f left) ≡ all → m.join y (over m f rest) ≡ all
  joined_more f x y d all left rest is new old =
      ap (λ z. m.join z (over m f rest)) new ∙ laws.join_assoc x (f d) (over m f rest) ∙ ap (λ l. m.join x (over m f l)) (sym is) ∙ old

  -- nothing is left
  pub joined_all : (f : ℕ → ℕ) (x all : ℕ) (left : List ℕ) → left ≡ [] → Neutral m x → m.join x (over m f left) ≡ all → x ≡ all
  joined_all f x all left is n old = sym (neutral_right laws x n) ∙ ap (λ l. m.join x (over m f l)) (sym is) ∙ old

  module _ (a : Automaton) (p x : ℕ) where
    -- state p, of code x, joins what it gives by duty d into the row
    pub pass_more : (before : ℕ → ℕ) (whole left rest row : List ℕ) (d next v : ℕ) → left ≡ d ∷ rest
        → length row ≡ 16 → next < 16 → next ≡ a.next p d → v ≡ m.join (get_or row next 0) (m.increase x (a.increase p d))
        → ((q : ℕ) → q < 16 → Neutral m (get_or row q 0))
        → ((q : ℕ) → q < 16 → m.join (get_or row q 0) (over m (given m a q p x) left) ≡ m.join (before q) (over m (given m a q p x) whole))
        → ((q : ℕ) → q < 16 → Neutral m (get_or (set row next v) q 0))
        × ((q : ℕ) → q < 16 → m.join (get_or (set row next v) q 0) (over m (given m a q p x) rest) ≡ m.join (before q) (over m (given m a q p x) whole))
    pass_more before whole left rest row d next v is long within nth value n old = (
      neutral,
      λ q h. joined_more (given m a q p x) (get_or row q 0) (get_or (set row next v) q 0) d (m.join (before q) (over m (given m a q p x) whole)) left rest is (new q h) (old q h),
    )
      where
        i : ℕ
        i = m.increase x (a.increase p d)

        new : (q : ℕ) → q < 16 → get_or (set row next v) q 0 ≡ m.join (get_or row q 0) (given m a q p x d)
        new q h = ⊎_elim
            (λ (e : q ≡ next).
            ap (λ k. get_or (set row next v) k 0) e ∙ get_or-set_same row next v 0 (omega arith) ∙ value
            ∙ ap₂ (λ k b. m.join (get_or row k 0) (cond b i m.none)) (sym e) (sym (eq-eqb (a.next p d) q (sym nth ∙ sym e))))
            (λ (ne : q ≡ next → ⊥).
            get_or-set_other row next q v 0 ne ∙ sym (neutral_right laws (get_or row q 0) (n q h))
            ∙ ap (λ b. m.join (get_or row q 0) (cond b i m.none)) (sym (ne_eqb (a.next p d) q (λ e. ne (sym e ∙ sym nth)))))
            (cases_eq q next)

        neutral : (q : ℕ) → q < 16 → Neutral m (get_or (set row next v) q 0)
        neutral q h = ap (m.join m.none) (new q h) ∙ neutral_join laws (get_or row q 0) (given m a q p x d) (n q h) ∙ sym (new q h)

  -- the state p has passed on what it has
  pub push_more : (a : Automaton) (mask : ℕ) (x : ℕ → ℕ) (q p v old : ℕ) → old ≡ pushed m a mask x q p → v ≡ m.join old (passed m a mask q p (x p)) → v ≡ pushed m a mask x q (p + 1)
  push_more a mask x q p v old inv e =
      e ∙ ap (λ l. m.join l (passed m a mask q p (x p))) inv
      ∙ sym (over_last laws (λ p. passed m a mask q p (x p)) (up_to p) p (over_neutral laws (given m a q p (x p)) (duties mask)))
      ∙ ap (λ n. pushed m a mask x q n) (sym (add-one p))

  -- a state of the code none need pass on nothing
  pub push_none : (a : Automaton) (mask : ℕ) (x : ℕ → ℕ) (q p v : ℕ) → x p ≡ m.none → v ≡ pushed m a mask x q p → v ≡ pushed m a mask x q (p + 1)
  push_none a mask x q p v z inv =
      push_more a mask x q p v v inv
      (sym (neutral_right laws v (ap (m.join m.none) inv ∙ over_neutral laws (λ p. passed m a mask q p (x p)) (up_to p) ∙ sym inv))
      ∙ ap (m.join v) (sym (ap (passed m a mask q p) z ∙ none_passed laws a mask q p)))

-- the members of a mask of 16 bits are its duties
pub duties_wider : (mask : ℕ) → mask < 2 ^ 16 → members 64 mask ≡ duties mask
duties_wider mask h = members_wider 16 48 mask h

-- a walk over a list from the back: what is left is the front of the list, and its last element stands just behind what is left then
pub back_turn : (xs rest left : List ℕ) (x : ℕ) → rest ≡ take (length rest) xs → rest ≡ left ++ (x ∷ []) → (length rest ≡ length left + 1) × (length left < length xs) × (left ≡ take (length left) xs) × (x ≡ get_or xs (length left) 0)
back_turn xs rest left x front e =
    let n : length rest ≡ length left + 1 = ap length e ∙ length-append left (x ∷ []) in
    let whole : length rest ≡ min (length rest) (length xs) = ap length front ∙ length-take (length rest) xs in (
      n,
      omega arith,
      sym (take-append_seam left (x ∷ [])) ∙ ap (take (length left)) (sym e ∙ front) ∙ take-take (length left) (length rest) xs (omega arith),
      sym (get_or-append_seam left x [] 0) ∙ ap (λ ys. get_or ys (length left) 0) (sym e ∙ front) ∙ get_or-take (length rest) xs (length left) 0 (omega arith),
    )
