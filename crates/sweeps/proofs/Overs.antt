-- The laws of joining over a list, from those of a measure; that a code joined with itself is that code is used nowhere.
use Rattle.std.proofs.Common.{◌≡◌, ℕ, Bool, true, false, cond, eqb, List, [], ◌∷◌, ◌++◌, map, sym, refl, ap, ◌∙◌, ap₂}
use Rattle.automata.specs.Automaton.{Automaton}
use Rattle.automata.specs.Reading.{end}
use Rattle.measures.specs.Measuring.{Measuring, Laws}
use Rattle.sweeps.specs.Sequences.{flat, leading}
use Rattle.sweeps.specs.Joining.{over}
use Rattle.sweeps.specs.Place.{Neutral}

module _ {m : Measuring} (laws : Laws m) where
  pub neutral_none : Neutral m m.none
  neutral_none = laws.none_drops_out m.none laws.none_fits

  pub neutral_start : Neutral m m.start
  neutral_start = laws.none_drops_out m.start laws.start_fits

  pub neutral_increase : (x n : ℕ) → Neutral m (m.increase x n)
  neutral_increase x n = laws.none_drops_out (m.increase x n) (laws.increase_fits x n)

  pub neutral_join : (x y : ℕ) → Neutral m x → Neutral m (m.join x y)
  neutral_join x y h = sym (laws.join_assoc m.none x y) ∙ ap (λ z. m.join z y) h

  pub neutral_right : (x : ℕ) → Neutral m x → m.join x m.none ≡ x
  neutral_right x h = laws.join_comm x m.none ∙ h

  pub neutral_cond : (c : Bool) (x : ℕ) → Neutral m x → Neutral m (cond c x m.none)
  neutral_cond true x h = h
  neutral_cond false x h = neutral_none

  middle : (a b c d : ℕ) → m.join (m.join a b) (m.join c d) ≡ m.join (m.join a c) (m.join b d)
  middle a b c d =
      laws.join_assoc a b (m.join c d)
      ∙ ap (m.join a) (sym (laws.join_assoc b c d) ∙ ap (λ z. m.join z d) (laws.join_comm b c) ∙ laws.join_assoc c b d)
      ∙ sym (laws.join_assoc a c (m.join b d))

  pub over_neutral : {X : Type 0} (f : X → ℕ) (xs : List X) → Neutral m (over m f xs)
  over_neutral f [] = neutral_none
  over_neutral f (x ∷ xs) =
      sym (laws.join_assoc m.none (f x) (over m f xs)) ∙ ap (λ z. m.join z (over m f xs)) (laws.join_comm m.none (f x))
      ∙ laws.join_assoc (f x) m.none (over m f xs) ∙ ap (m.join (f x)) (over_neutral f xs)

  pub over_append : {X : Type 0} (f : X → ℕ) (xs ys : List X) → over m f (xs ++ ys) ≡ m.join (over m f xs) (over m f ys)
  over_append f [] ys = sym (over_neutral f ys)
  over_append f (x ∷ xs) ys = ap (m.join (f x)) (over_append f xs ys) ∙ sym (laws.join_assoc (f x) (over m f xs) (over m f ys))

  pub over_last : {X : Type 0} (f : X → ℕ) (xs : List X) (x : X) → Neutral m (f x) → over m f (xs ++ (x ∷ [])) ≡ m.join (over m f xs) (f x)
  over_last f xs x h = over_append f xs (x ∷ []) ∙ ap (m.join (over m f xs)) (neutral_right (f x) h)

  pub over_map : {X Y : Type 0} (f : Y → ℕ) (g : X → Y) (xs : List X) → over m f (map g xs) ≡ over m (λ x. f (g x)) xs
  over_map f g [] = refl
  over_map f g (x ∷ xs) = ap (m.join (f (g x))) (over_map f g xs)

  pub over_flat : {X Y : Type 0} (f : Y → ℕ) (g : X → List Y) (xs : List X) → over m f (flat g xs) ≡ over m (λ x. over m f (g x)) xs
  over_flat f g [] = refl
  over_flat f g (x ∷ xs) = over_append f (g x) (flat g xs) ∙ ap (m.join (over m f (g x))) (over_flat f g xs)

  pub over_cong : {X : Type 0} (f g : X → ℕ) → ((x : X) → f x ≡ g x) → (xs : List X) → over m f xs ≡ over m g xs
  over_cong f g e [] = refl
  over_cong f g e (x ∷ xs) = ap₂ m.join (e x) (over_cong f g e xs)

  pub over_increase : {X : Type 0} (f : X → ℕ) (n : ℕ) (xs : List X) → m.increase (over m f xs) n ≡ over m (λ x. m.increase (f x) n) xs
  over_increase f n [] = laws.none_stays_none n
  over_increase f n (x ∷ xs) = laws.increase_spreads (f x) (over m f xs) n ∙ ap (m.join (m.increase (f x) n)) (over_increase f n xs)

  pub over_none : {X : Type 0} (xs : List X) → over m (λ _. m.none) xs ≡ m.none
  over_none [] = refl
  over_none (x ∷ xs) = ap (m.join m.none) (over_none xs) ∙ neutral_none

  pub over_join : {X : Type 0} (f g : X → ℕ) (xs : List X) → over m (λ x. m.join (f x) (g x)) xs ≡ m.join (over m f xs) (over m g xs)
  over_join f g [] = sym neutral_none
  over_join f g (x ∷ xs) = ap (m.join (m.join (f x) (g x))) (over_join f g xs) ∙ middle (f x) (g x) (over m f xs) (over m g xs)

  -- the order of two joinings does not matter
  pub over_swap : {X Y : Type 0} (f : X → Y → ℕ) (xs : List X) (ys : List Y) → over m (λ x. over m (f x) ys) xs ≡ over m (λ y. over m (λ x. f x y) xs) ys
  over_swap f [] ys = sym (over_none ys)
  over_swap f (x ∷ xs) ys = ap (m.join (over m (f x) ys)) (over_swap f xs ys) ∙ sym (over_join (f x) (λ y. over m (λ x. f x y) xs) ys)

  -- those that lead elsewhere count for none
  pub over_leading : (a : Automaton) (q : ℕ) (f : List ℕ → ℕ) (xs : List (List ℕ)) → over m f (leading a q xs) ≡ over m (λ ds. cond (eqb (end a 0 ds) q) (f ds) m.none) xs
  over_leading a q f [] = refl
  over_leading a q f (ds ∷ rest) = at (eqb (end a 0 ds) q) ∙ ap (m.join (cond (eqb (end a 0 ds) q) (f ds) m.none)) (over_leading a q f rest)
    where
      at : (b : Bool) → over m f (cond b (ds ∷ leading a q rest) (leading a q rest)) ≡ m.join (cond b (f ds) m.none) (over m f (leading a q rest))
      at true = refl
      at false = sym (over_neutral f (leading a q rest))
