-- What a buffer of 517 characters keeps when one more comes, while there is room and when there is none.
use Rattle.std.proofs.Common.{◌≡◌, ℕ, ◌+◌, ◌<◌, ◌≤◌, List, [], ◌∷◌, ◌++◌, length, take, set, sym, ◌∙◌, arith}
use Rattle.std.proofs.lemmas.List.{length_push, length-take-le, take_all, take-append-le, take_more_set}
use Rattle.wire.specs.Lines.{pushed}

pub kept_more : (text : List ℕ) (n c : ℕ) → length text ≡ 517 → n < 517 → take (n + 1) (set text n c) ≡ pushed (take n text) c
kept_more text n c long room =
    let few : length (take n text ++ (c ∷ [])) ≤ 517 = omega (arith, length_push (take n text) c, length-take-le n text (omega arith)) in
    take_more_set text n c (omega arith) ∙ sym (take_all 517 (take n text ++ (c ∷ [])) few)

pub kept_full : (text : List ℕ) (n c : ℕ) → length text ≡ 517 → 517 ≤ n → take n text ≡ pushed (take n text) c
kept_full text n c long full =
    let all : take n text ≡ text = take_all n text (omega arith) in
    rw all (sym (take-append-le 517 text (c ∷ []) (omega arith) ∙ take_all 517 text (omega arith)))
