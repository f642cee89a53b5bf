-- Lists that end lists, and the test of it.
use Rattle.std.proofs.Common.{◌≡◌, ℕ, ◌+◌, ◌-◌, ◌<◌, ◌≤◌, true, false, List, [], ◌∷◌, ◌++◌, length, get_or, take, drop, Decides, sym, refl, ap, ◌∙◌, append_assoc, arith, length-append, take-append-drop}
use mathlib.Core.List.{tail-eq_of_cons-eq}
use Rattle.std.proofs.lemmas.List.{drop_at, take_all, take_more, length-take-le, same_from_push}
use Rattle.std.proofs.lemmas.Slice.Eq.{bytes_eq-Decides}
use Rattle.std.proofs.lemmas.Bool.{both_ways}
use Rattle.words.specs.Occurrences.{Ends}
use Rattle.words.specs.Search.{ends_with, text_at}

pub ends_trans : {p t u : List ℕ} → Ends p t → Ends t u → Ends p u
ends_trans {p} (f, e) (g, h) = (g ++ f, h ∙ ap (λ x. g ++ x) e ∙ sym (append_assoc g f p))

pub ends_push : {p t : List ℕ} (d : ℕ) → Ends p t → Ends (p ++ (d ∷ [])) (t ++ (d ∷ []))
ends_push {p} d (f, e) = (f, ap (λ x. x ++ (d ∷ [])) e ∙ append_assoc f p (d ∷ []))

pub ends_length : {p t : List ℕ} → Ends p t → length p ≤ length t
ends_length {p} {t} (f, e) = omega (arith, ap length e, length-append f p)

-- of two lists that end the same one, the shorter ends the longer
pub ends_nest : (t u v p r : List ℕ) → t ≡ u ++ p → t ≡ v ++ r → length r ≤ length p → Ends r p
ends_nest t [] v p r e f l = (v, sym e ∙ f)
ends_nest t (a ∷ u) [] p r e f l = absurd (omega (arith, ap length (sym e ∙ f), length-append u p))
ends_nest t (a ∷ u) (b ∷ v) p r e f l = ends_nest (u ++ p) u v p r refl (tail-eq_of_cons-eq (sym e ∙ f)) l

-- no shorter than the whole: the whole
pub ends_whole : {p t : List ℕ} → Ends p t → length t ≤ length p → t ≡ p
ends_whole {p} ([], e) l = e
ends_whole {p} {t} (a ∷ f, e) l = absurd (omega (arith, ap length e, length-append f p))

pub ends_decided : (p t : List ℕ) → Decides (ends_with p t) (Ends p t)
ends_decided p t = (there, back)
  where
    k : ℕ
    k = length t - length p

    there : ends_with p t ≡ true → Ends p t
    there e = (take k t, sym (take-append-drop k t) ∙ ap (λ x. take k t ++ x) (sym ((bytes_eq-Decides p (drop k t)).0 e)))

    back : Ends p t → ends_with p t ≡ true
    back (f, e) =
        let n : length f ≡ k = omega (arith, ap length e, length-append f p) in
        (bytes_eq-Decides p (drop k t)).1 (sym (ap (drop k) e ∙ drop_at f p k n))

pub not_ends : (p t : List ℕ) → ends_with p t ≡ false → Ends p t → ⊥
not_ends p t false' h = both_ways (ends_with p t) false' ((ends_decided p t).1 h)

-- the whole word ends its beginning of q duties and d exactly if d is the duty that is missing
pub whole_decided : (w : List ℕ) (q d : ℕ) → q < length w → Decides (ends_with w (text_at w q d)) ((q + 1 ≡ length w) × (d ≡ get_or w q 0))
whole_decided w q d h = (there, back)
  where
    size : length (text_at w q d) ≡ q + 1
    size = omega (arith, length-append (take q w) (d ∷ []), length-take-le q w (omega arith))

    -- the word, if it is one longer than the beginning
    parts : q + 1 ≡ length w → w ≡ take q w ++ (get_or w q 0 ∷ [])
    parts e = sym (take_all (q + 1) w (omega arith)) ∙ take_more w q 0 h

    there : ends_with w (text_at w q d) ≡ true → (q + 1 ≡ length w) × (d ≡ get_or w q 0)
    there t =
        let ends = (ends_decided w (text_at w q d)).0 t in
        let last : q + 1 ≡ length w = omega (arith, ends_length ends, size) in
        let same = ends_whole ends (omega (arith, size)) in
        (last, (same_from_push (take q w) (take q w) d (get_or w q 0) (same ∙ parts last)).1)

    back : (q + 1 ≡ length w) × (d ≡ get_or w q 0) → ends_with w (text_at w q d) ≡ true
    back (last, e) = (ends_decided w (text_at w q d)).1 ([], ap (λ (x : ℕ). take q w ++ (x ∷ [])) e ∙ sym (parts last))
