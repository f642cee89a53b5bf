-- One place of the forward sweep from the place before.
use Rattle.std.proofs.Common.{◌≡◌, ℕ, zero, suc, ◌+◌, ◌<◌, ◌≤◌, Bool, true, false, cond, eqb, List, [], ◌∷◌, ◌++◌, length, get_or, take, replicate, sym, refl, ap, ◌∙◌, ap₂, ⊎_elim, arith}
use Rattle.std.proofs.lemmas.Bool.{cases_order, eq-eqb, ne_eqb}
use Rattle.std.proofs.lemmas.List.{take_more, get_or-replicate}
use Rattle.automata.specs.Automaton.{Automaton, Lawful}
use Rattle.automata.specs.Reading.{end, total}
use Rattle.automata.proofs.Readings.{end_more, total_more, end_below}
use Rattle.measures.specs.Measuring.{Measuring, Laws}
use Rattle.sweeps.specs.Sequences.{duties, sequences, leading}
use Rattle.sweeps.specs.Joining.{over, code}
use Rattle.sweeps.specs.Place.{Neutral, up_to, given, passed, pushed}
use Rattle.sweeps.specs.Sweep.{forward_at}
use Rattle.sweeps.proofs.Lists.{grown, sequences_more}
use Rattle.sweeps.proofs.Overs.{neutral_none, neutral_increase, neutral_right, neutral_cond, over_append, over_map, over_flat, over_cong, over_increase, over_none, over_swap, over_leading}

module _ {m : Measuring} (laws : Laws m) where
  pub given_neutral : (a : Automaton) (q p x d : ℕ) → Neutral m (given m a q p x d)
  given_neutral a q p x d = neutral_cond laws (eqb (a.next p d) q) (m.increase x (a.increase p d)) (neutral_increase laws x (a.increase p d))

  -- a state of the code none passes nothing on
  pub none_passed : (a : Automaton) (mask q p : ℕ) → passed m a mask q p m.none ≡ m.none
  none_passed a mask q p = over_cong laws (given m a q p m.none) (λ _. m.none) (λ d. at (eqb (a.next p d) q) (a.increase p d)) (duties mask) ∙ over_none laws (duties mask)
    where
      at : (b : Bool) (n : ℕ) → cond b (m.increase m.none n) m.none ≡ m.none
      at true n = laws.none_stays_none n
      at false n = refl

  pub pushed_cong : (a : Automaton) (mask : ℕ) (x y : ℕ → ℕ) (q n : ℕ) → ((p : ℕ) → p < n → x p ≡ y p) → pushed m a mask x q n ≡ pushed m a mask y q n
  pushed_cong a mask x y q zero e = refl
  pushed_cong a mask x y q (suc p) e =
      over_append laws (λ p. passed m a mask q p (x p)) (up_to p) (p ∷ [])
      ∙ ap₂ (λ l v. m.join l (m.join (passed m a mask q p v) m.none)) (pushed_cong a mask x y q p (λ k h. e k (omega arith))) (e p (omega arith))
      ∙ sym (over_append laws (λ p. passed m a mask q p (y p)) (up_to p) (p ∷ []))

  -- of the numbers below s, e alone counts
  absent : (g : ℕ → ℕ) (e s : ℕ) → s ≤ e → over m (λ p. cond (eqb e p) (g p) m.none) (up_to s) ≡ m.none
  absent g e zero h = refl
  absent g e (suc s) h =
      over_append laws f (up_to s) (s ∷ [])
      ∙ ap₂ m.join (absent g e s (omega arith)) (ap (λ b. m.join (cond b (g s) m.none) m.none) (ne_eqb e s (λ x. omega arith)) ∙ neutral_none laws)
      ∙ neutral_none laws
    where
      f : ℕ → ℕ
      f p = cond (eqb e p) (g p) m.none

  only : (g : ℕ → ℕ) (e s : ℕ) → e < s → Neutral m (g e) → over m (λ p. cond (eqb e p) (g p) m.none) (up_to s) ≡ g e
  only g e zero h n = absurd (omega arith)
  only g e (suc s) h n =
      over_append laws f (up_to s) (s ∷ []) ∙ ⊎_elim here (λ o. ⊎_elim (λ l. before l (only g e s l n)) (λ (l : s < e). absurd (omega arith)) o) (cases_order e s)
    where
      f : ℕ → ℕ
      f p = cond (eqb e p) (g p) m.none

      here : e ≡ s → m.join (over m f (up_to s)) (m.join (f s) m.none) ≡ g e
      here same =
          ap₂ m.join (absent g e s (omega arith)) (ap (λ b. m.join (cond b (g s) m.none) m.none) (eq-eqb e s same) ∙ ap (λ k. m.join (g k) m.none) (sym same) ∙ neutral_right laws (g e) n)
          ∙ n

      before : e < s → over m f (up_to s) ≡ g e → m.join (over m f (up_to s)) (m.join (f s) m.none) ≡ g e
      before l ih =
          ap₂ m.join ih (ap (λ b. m.join (cond b (g s) m.none) m.none) (ne_eqb e s (λ x. omega arith)) ∙ neutral_none laws)
          ∙ neutral_right laws (g e) n

  module _ (a : Automaton) (lawful : Lawful a) where
    -- a sequence's code, where it leads to p
    abbrev to : ℕ → List ℕ → ℕ
    to p ds = cond (eqb (end a 0 ds) p) (code m a 0 ds) m.none

    -- one duty more
    longer : (q : ℕ) (ds : List ℕ) (d : ℕ) → to q (ds ++ (d ∷ [])) ≡ given m a q (end a 0 ds) (code m a 0 ds) d
    longer q ds d =
        ap₂ (λ e t. cond (eqb e q) (m.increase m.start t) m.none) (end_more a 0 ds d) (total_more a 0 ds d)
        ∙ ap (λ v. cond (eqb (a.next (end a 0 ds) d) q) v m.none) (sym (laws.increases_add m.start (total a 0 ds) (a.increase (end a 0 ds) d)))

    -- the sequences with one duty more, from what the states pass on
    pub forward_more : (ms : List ℕ) (x q : ℕ)
        → over m (code m a 0) (leading a q (sequences (ms ++ (x ∷ []))))
        ≡ pushed m a x (λ p. over m (code m a 0) (leading a p (sequences ms))) q a.states
    forward_more ms x q =
        over_leading laws a q (code m a 0) (sequences (ms ++ (x ∷ [])))
        ∙ ap (over m (to q)) (sequences_more ms x)
        ∙ over_flat laws (to q) (grown x) S
        ∙ over_cong laws (λ ds. over m (to q) (grown x ds)) (λ ds. over m (given m a q (end a 0 ds) (code m a 0 ds)) D)
        (λ ds. over_map laws (to q) (λ d. ds ++ (d ∷ [])) D ∙ over_cong laws (λ d. to q (ds ++ (d ∷ []))) (given m a q (end a 0 ds) (code m a 0 ds)) (longer q ds) D) S
        ∙ sym right_side
      where
        S : List (List ℕ)
        S = sequences ms

        D : List ℕ
        D = duties x

        F : ℕ → ℕ
        F p = over m (code m a 0) (leading a p S)

        -- what sequence ds, if it leads to p, gives to q by d
        K : ℕ → ℕ → List ℕ → ℕ
        K p d ds = cond (eqb (end a 0 ds) p) (given m a q p (code m a 0 ds) d) m.none

        nested : (b c : Bool) (v n : ℕ) → cond c (m.increase (cond b v m.none) n) m.none ≡ cond b (cond c (m.increase v n) m.none) m.none
        nested true c v n = refl
        nested false true v n = laws.none_stays_none n
        nested false false v n = refl

        taken : (c : Bool) (n p : ℕ) → cond c (m.increase (over m (to p) S) n) m.none ≡ over m (λ ds. cond c (m.increase (to p ds) n) m.none) S
        taken true n p = over_increase laws (to p) n S
        taken false n p = sym (over_none laws S)

        inner : (p d : ℕ) → given m a q p (F p) d ≡ over m (K p d) S
        inner p d =
            ap (λ v. cond (eqb (a.next p d) q) (m.increase v (a.increase p d)) m.none) (over_leading laws a p (code m a 0) S)
            ∙ taken (eqb (a.next p d) q) (a.increase p d) p
            ∙ over_cong laws (λ ds. cond (eqb (a.next p d) q) (m.increase (to p ds) (a.increase p d)) m.none) (K p d)
            (λ ds. nested (eqb (end a 0 ds) p) (eqb (a.next p d) q) (code m a 0 ds) (a.increase p d)) S

        right_side : pushed m a x F q a.states ≡ over m (λ ds. over m (given m a q (end a 0 ds) (code m a 0 ds)) D) S
        right_side =
            over_cong laws (λ p. over m (given m a q p (F p)) D) (λ p. over m (λ ds. over m (λ d. K p d ds) D) S)
            (λ p. over_cong laws (given m a q p (F p)) (λ d. over m (K p d) S) (inner p) D ∙ over_swap laws (K p) D S) (up_to a.states)
            ∙ over_swap laws (λ p ds. over m (λ d. K p d ds) D) (up_to a.states) S
            ∙ over_cong laws (λ ds. over m (λ p. over m (λ d. K p d ds) D) (up_to a.states)) (λ ds. over m (given m a q (end a 0 ds) (code m a 0 ds)) D)
            (λ ds. over_swap laws (λ p d. K p d ds) (up_to a.states) D
            ∙ over_cong laws (λ d. over m (λ p. K p d ds) (up_to a.states)) (given m a q (end a 0 ds) (code m a 0 ds))
            (λ d. only (λ p. given m a q p (code m a 0 ds) d) (end a 0 ds) a.states (end_below a lawful 0 ds lawful.some) (given_neutral a q (end a 0 ds) (code m a 0 ds) d)) D)
            S

    -- place i + 1 from place i
    pub forward_next : (masks : List ℕ) (i q : ℕ) (x : ℕ → ℕ) → i < length masks → ((p : ℕ) → p < 16 → x p ≡ forward_at m a masks i p)
        → pushed m a (get_or masks i 0) x q a.states ≡ forward_at m a masks (i + 1) q
    forward_next masks i q x h row =
        pushed_cong a (get_or masks i 0) x (λ p. forward_at m a masks i p) q a.states (λ p l. row p (omega (arith, lawful.few)))
        ∙ sym (forward_more (take i masks) (get_or masks i 0) q)
        ∙ ap (λ ms. over m (code m a 0) (leading a q (sequences ms))) (sym (take_more masks i 0 h))

    -- before the first place
    pub forward_first : (masks : List ℕ) (q : ℕ) → forward_at m a masks 0 q ≡ cond (eqb 0 q) m.start m.none
    forward_first masks q = at (eqb 0 q)
      where
        at : (b : Bool) → over m (code m a 0) (cond b ([] ∷ []) []) ≡ cond b m.start m.none
        at true = neutral_right laws (m.increase m.start 0) (neutral_increase laws m.start 0) ∙ laws.increase_by_zero m.start laws.start_fits
        at false = refl

    -- the first row, as it is written
    pub first_row : (masks : List ℕ) (start none : ℕ) → start ≡ m.start → none ≡ m.none → (q : ℕ) → q < 16
        → get_or (start ∷ replicate 15 none) q 0 ≡ forward_at m a masks 0 q
    first_row masks start none es en zero h = es ∙ sym (forward_first masks 0)
    first_row masks start none es en (suc q) h = get_or-replicate 15 q none 0 (omega arith) ∙ en ∙ sym (forward_first masks (suc q) ∙ ap (λ b. cond b m.start m.none) (ne_eqb 0 (suc q) (λ e. omega arith)))

    -- no sequence leads to a state that is not there
    pub forward_absent : (masks : List ℕ) (i q : ℕ) → a.states ≤ q → forward_at m a masks i q ≡ m.none
    forward_absent masks i q h =
        over_leading laws a q (code m a 0) (sequences (take i masks))
        ∙ over_cong laws (to q) (λ _. m.none) away (sequences (take i masks))
        ∙ over_none laws (sequences (take i masks))
      where
        away : (ds : List ℕ) → to q ds ≡ m.none
        away ds = ap (λ b. cond b (code m a 0 ds) m.none) (ne_eqb (end a 0 ds) q (λ e. omega (arith, end_below a lawful 0 ds lawful.some)))
