-- Tests over lists decide whether some element, member or sequence passes.
use Rattle.std.proofs.Common.{◌≡◌, ℕ, zero, suc, ◌<◌, ◌≤◌, Bool, true, false, cond, ◌&&◌, ◌||◌, eqb, ◌⊎◌, List, [], ◌∷◌, ◌++◌, map, Decides, sym, refl, ap, ◌∙◌, subst, ap₂, inl, inr, ⊎_elim, arith}
use Rattle.std.proofs.lemmas.Bool.{cases_Bool, cases_lt, eqb-true, eq-eqb, false≢true}
use Rattle.masks.specs.Bit.{bit, has, In}
use Rattle.masks.specs.Members.{members}
use Rattle.automata.specs.Automaton.{Automaton}
use Rattle.automata.specs.Reading.{end}
use Rattle.sweeps.specs.Sequences.{From, ends, takes, duties, flat, sequences, leading}
use Rattle.sweeps.specs.Place.{up_to}
use Rattle.runs.specs.Choosing.{any}

pub or_left : (b c : Bool) → b ≡ true → (b || c) ≡ true
or_left true c e = refl
or_left false c e = absurd (false≢true e)

pub or_right : (b c : Bool) → c ≡ true → (b || c) ≡ true
or_right true c e = refl
or_right false c e = e

pub or_either : (b c : Bool) → (b || c) ≡ true → (b ≡ true) ⊎ (c ≡ true)
or_either true c e = inl refl
or_either false c e = inr e

pub and_both : (b c : Bool) → (b && c) ≡ true → (b ≡ true) × (c ≡ true)
and_both true c e = (refl, e)
and_both false c e = absurd (false≢true e)

pub both_and : (b c : Bool) → b ≡ true → c ≡ true → (b && c) ≡ true
both_and true c e f = f
both_and false c e f = absurd (false≢true e)

pub any_append : {X : Type 0} (p : X → Bool) (xs ys : List X) → any p (xs ++ ys) ≡ (any p xs || any p ys)
any_append p [] ys = refl
any_append p (x ∷ xs) ys = ap (λ b. p x || b) (any_append p xs ys) ∙ sym (assoc (p x) (any p xs) (any p ys))
  where
    assoc : (a b c : Bool) → ((a || b) || c) ≡ (a || (b || c))
    assoc true b c = refl
    assoc false b c = refl

pub any_map : {X Y : Type 0} (p : Y → Bool) (f : X → Y) (xs : List X) → any p (map f xs) ≡ any (λ x. p (f x)) xs
any_map p f [] = refl
any_map p f (x ∷ xs) = ap (λ b. p (f x) || b) (any_map p f xs)

pub any_flat : {X Y : Type 0} (p : Y → Bool) (f : X → List Y) (xs : List X) → any p (flat f xs) ≡ any (λ x. any p (f x)) xs
any_flat p f [] = refl
any_flat p f (x ∷ xs) = any_append p (f x) (flat f xs) ∙ ap (λ b. any p (f x) || b) (any_flat p f xs)

pub any_cong : {X : Type 0} (p q : X → Bool) → ((x : X) → p x ≡ q x) → (xs : List X) → any p xs ≡ any q xs
any_cong p q e [] = refl
any_cong p q e (x ∷ xs) = ap₂ (λ b c. b || c) (e x) (any_cong p q e xs)

last_passes : (p : ℕ → Bool) (xs : List ℕ) (n : ℕ) → any p (xs ++ (n ∷ [])) ≡ true → (any p xs ≡ true) ⊎ (p n ≡ true)
last_passes p xs n e = ⊎_elim inl (λ f. ⊎_elim inr (λ g. absurd (false≢true g)) (or_either (p n) false f)) (or_either (any p xs) (p n || false) (sym (any_append p xs (n ∷ [])) ∙ e))

passes_last : (p : ℕ → Bool) (xs : List ℕ) (n : ℕ) → (any p xs ≡ true) ⊎ (p n ≡ true) → any p (xs ++ (n ∷ [])) ≡ true
passes_last p xs n e =
    any_append p xs (n ∷ [])
    ∙ ⊎_elim (λ f. or_left (any p xs) (p n || false) f) (λ f. or_right (any p xs) (p n || false) (or_left (p n) false f)) e

-- some member below n passes
pub any_members : (p : ℕ → Bool) (n mask : ℕ) → Decides (any p (members n mask)) ((k : ℕ) × (k < n) × In mask k × (p k ≡ true))
unfolding members
any_members p zero mask = (λ e. absurd (false≢true e), λ w. absurd (omega (arith, w.1)))
any_members p (suc n) mask = at (cases_Bool (has mask n)) (any_members p n mask)
  where
    Goal : Bool → Type 0
    Goal b = Decides (any p (cond b (members n mask ++ (n ∷ [])) (members n mask))) ((k : ℕ) × (k < suc n) × In mask k × (p k ≡ true))

    up : (k : ℕ) × (k < n) × In mask k × (p k ≡ true) → (k : ℕ) × (k < suc n) × In mask k × (p k ≡ true)
    up w = (w.0, omega (arith, w.1), w.2, w.3)

    at : (has mask n ≡ true) ⊎ (has mask n ≡ false) → Decides (any p (members n mask)) ((k : ℕ) × (k < n) × In mask k × (p k ≡ true)) → Goal (has mask n)
    at (inl e) ih =
        subst Goal (sym e) (
          λ t. ⊎_elim (λ f. up (ih.0 f)) (λ f. (n, omega arith, eqb-true (bit mask n) 1 e, f)) (last_passes p (members n mask) n t),
          λ w. passes_last p (members n mask) n (⊎_elim
              (λ (l : w.0 < n). inl (ih.1 (w.0, l, w.2, w.3)))
              (λ (g : n ≤ w.0). let same : w.0 ≡ n = omega (arith, w.1) in inr (subst (λ (k : ℕ). p k ≡ true) same w.3))
              (cases_lt w.0 n)),
        )
    at (inr e) ih =
        subst Goal (sym e) (
          λ t. up (ih.0 t),
          λ w. ⊎_elim
              (λ (l : w.0 < n). ih.1 (w.0, l, w.2, w.3))
              (λ (g : n ≤ w.0).
              let same : w.0 ≡ n = omega (arith, w.1) in
              absurd (false≢true (sym e ∙ eq-eqb (bit mask n) 1 (subst (λ (k : ℕ). In mask k) same w.2))))
              (cases_lt w.0 n),
        )

-- some number below n passes
pub any_up_to : (p : ℕ → Bool) (n : ℕ) → Decides (any p (up_to n)) ((k : ℕ) × (k < n) × (p k ≡ true))
any_up_to p zero = (λ e. absurd (false≢true e), λ w. absurd (omega (arith, w.1)))
any_up_to p (suc n) =
    let ih = any_up_to p n in (
      λ t. ⊎_elim (λ f. let w = ih.0 f in (w.0, omega (arith, w.1), w.2)) (λ f. (n, omega arith, f)) (last_passes p (up_to n) n t),
      λ w. passes_last p (up_to n) n (⊎_elim
          (λ (l : w.0 < n). inl (ih.1 (w.0, l, w.2)))
          (λ (g : n ≤ w.0). let same : w.0 ≡ n = omega (arith, w.1) in inr (subst (λ (k : ℕ). p k ≡ true) same w.2))
          (cases_lt w.0 n)),
    )

-- some sequence passes
pub any_sequences : (masks : List ℕ) (p : List ℕ → Bool) → Decides (any p (sequences masks)) ((ds : List ℕ) × From masks ds × (p ds ≡ true))
any_sequences [] p = (λ t. ([], ends, ⊎_elim (λ e. e) (λ e. absurd (false≢true e)) (or_either (p []) false t)), λ w. none w)
  where
    none : (ds : List ℕ) × From [] ds × (p ds ≡ true) → (p [] || false) ≡ true
    none (ds, ends, e) = or_left (p []) false e
any_sequences (m ∷ ms) p =
    let heads = any_members (λ d. any (λ ds. p (d ∷ ds)) (sequences ms)) 16 m in (
      λ t. some (heads.0 (sym split ∙ t)) (λ d. any_sequences ms (λ ds. p (d ∷ ds))),
      λ w. split ∙ heads.1 (found w (λ d. any_sequences ms (λ ds. p (d ∷ ds)))),
    )
  where
    split : any p (flat (λ d. map (λ ds. d ∷ ds) (sequences ms)) (duties m)) ≡ any (λ d. any (λ ds. p (d ∷ ds)) (sequences ms)) (duties m)
    split =
        any_flat p (λ d. map (λ ds. d ∷ ds) (sequences ms)) (duties m)
        ∙ any_cong (λ d. any p (map (λ ds. d ∷ ds) (sequences ms))) (λ d. any (λ ds. p (d ∷ ds)) (sequences ms)) (λ d. any_map p (λ ds. d ∷ ds) (sequences ms)) (duties m)

    Rest : ℕ → Type 0
    Rest d = Decides (any (λ ds. p (d ∷ ds)) (sequences ms)) ((ds : List ℕ) × From ms ds × (p (d ∷ ds) ≡ true))

    some : (d : ℕ) × (d < 16) × In m d × (any (λ ds. p (d ∷ ds)) (sequences ms) ≡ true) → ((d : ℕ) → Rest d) → (ds : List ℕ) × From (m ∷ ms) ds × (p ds ≡ true)
    some (d, h, i, t) rest = let w = (rest d).0 t in (d ∷ w.0, takes h i w.1, w.2)

    found : (ds : List ℕ) × From (m ∷ ms) ds × (p ds ≡ true) → ((d : ℕ) → Rest d) → (d : ℕ) × (d < 16) × In m d × (any (λ ds. p (d ∷ ds)) (sequences ms) ≡ true)
    found (es, takes {d = d} {ds = ds} h i f, e) rest = (d, h, i, (rest d).1 (ds, f, e))

-- a sequence that leads to q passes
pub any_leading : (a : Automaton) (q : ℕ) (p : List ℕ → Bool) (xs : List (List ℕ)) → any p (leading a q xs) ≡ any (λ ds. eqb (end a 0 ds) q && p ds) xs
any_leading a q p [] = refl
any_leading a q p (ds ∷ rest) = at (eqb (end a 0 ds) q) ∙ ap (λ b. (eqb (end a 0 ds) q && p ds) || b) (any_leading a q p rest)
  where
    at : (b : Bool) → any p (cond b (ds ∷ leading a q rest) (leading a q rest)) ≡ ((b && p ds) || any p (leading a q rest))
    at true = refl
    at false = refl
