-- All sequences from masks with one mask more at the end.
use Rattle.std.proofs.Common.{◌≡◌, ℕ, List, [], ◌∷◌, ◌++◌, map, sym, refl, ap, ◌∙◌, ap₂, append_assoc, append-nil}
use Rattle.sweeps.specs.Sequences.{duties, flat, sequences}

pub flat_append : {X Y : Type 0} (f : X → List Y) (xs ys : List X) → flat f (xs ++ ys) ≡ flat f xs ++ flat f ys
flat_append f [] ys = refl
flat_append f (x ∷ xs) ys = ap (λ l. f x ++ l) (flat_append f xs ys) ∙ sym (append_assoc (f x) (flat f xs) (flat f ys))

pub flat_flat : {X Y Z : Type 0} (g : Y → List Z) (f : X → List Y) (xs : List X) → flat g (flat f xs) ≡ flat (λ x. flat g (f x)) xs
flat_flat g f [] = refl
flat_flat g f (x ∷ xs) = flat_append g (f x) (flat f xs) ∙ ap (λ l. flat g (f x) ++ l) (flat_flat g f xs)

pub flat_map : {X Y Z : Type 0} (g : Y → List Z) (f : X → Y) (xs : List X) → flat g (map f xs) ≡ flat (λ x. g (f x)) xs
flat_map g f [] = refl
flat_map g f (x ∷ xs) = ap (λ l. g (f x) ++ l) (flat_map g f xs)

pub map_append' : {Y Z : Type 0} (g : Y → Z) (xs ys : List Y) → map g (xs ++ ys) ≡ map g xs ++ map g ys
map_append' g [] ys = refl
map_append' g (x ∷ xs) ys = ap (λ l. g x ∷ l) (map_append' g xs ys)

pub map_flat : {X Y Z : Type 0} (g : Y → Z) (f : X → List Y) (xs : List X) → map g (flat f xs) ≡ flat (λ x. map g (f x)) xs
map_flat g f [] = refl
map_flat g f (x ∷ xs) = map_append' g (f x) (flat f xs) ∙ ap (λ l. map g (f x) ++ l) (map_flat g f xs)

pub map_map' : {X Y Z : Type 0} (g : Y → Z) (f : X → Y) (xs : List X) → map g (map f xs) ≡ map (λ x. g (f x)) xs
map_map' g f [] = refl
map_map' g f (x ∷ xs) = ap (λ l. g (f x) ∷ l) (map_map' g f xs)

pub flat_cong : {X Y : Type 0} (f g : X → List Y) → ((x : X) → f x ≡ g x) → (xs : List X) → flat f xs ≡ flat g xs
flat_cong f g e [] = refl
flat_cong f g e (x ∷ xs) = ap₂ (λ l r. l ++ r) (e x) (flat_cong f g e xs)

-- a sequence with each duty of the mask at its end
abbrev pub grown : ℕ → List ℕ → List (List ℕ)
grown x ds = map (λ d. ds ++ (d ∷ [])) (duties x)

single : {X Y : Type 0} (f : X → Y) (xs : List X) → flat (λ x. f x ∷ []) xs ≡ map f xs
single f [] = refl
single f (x ∷ xs) = ap (λ l. f x ∷ l) (single f xs)

pub sequences_more : (ms : List ℕ) (x : ℕ) → sequences (ms ++ (x ∷ [])) ≡ flat (grown x) (sequences ms)
sequences_more [] x = single (λ d. d ∷ []) (duties x) ∙ sym (append-nil (map (λ d. d ∷ []) (duties x)))
sequences_more (m ∷ ms) x =
    flat_cong (λ d. map (λ ds. d ∷ ds) (sequences (ms ++ (x ∷ [])))) (λ d. flat (grown x) (map (λ ds. d ∷ ds) (sequences ms)))
    (λ d. ap (map (λ ds. d ∷ ds)) (sequences_more ms x)
    ∙ map_flat (λ ds. d ∷ ds) (grown x) (sequences ms)
    ∙ flat_cong (λ ds. map (λ es. d ∷ es) (grown x ds)) (λ ds. grown x (d ∷ ds)) (λ ds. map_map' (λ es. d ∷ es) (λ e. ds ++ (e ∷ [])) (duties x)) (sequences ms)
    ∙ sym (flat_map (grown x) (λ ds. d ∷ ds) (sequences ms)))
    (duties m)
    ∙ sym (flat_flat (grown x) (λ d. map (λ ds. d ∷ ds) (sequences ms)) (duties m))
