-- Levels: what a mark and going back do to a plan.
use Rattle.std.proofs.Common.{◌≡◌, ℕ, ◌+◌, ◌-◌, ◌<◌, Bool, false, Some, None, Option, List, [], ◌∷◌, ◌++◌, map, reverse, length, get_or, take, sym, refl, ap, ◌∙◌, arith}
use Rattle.std.proofs.Math.Seq.{take-length}
use Rattle.std.proofs.lemmas.List.{reverse-append, length-map, length-reverse, length-append, take_more}
use Rattle.std.proofs.lemmas.Option.{slice_get_within, slice_get-get_or, get_or_from_slice_get}
use Rattle.std.specs.List.{slice_get}
use Rattle.std.specs.Option.{option_to_list}
use Rattle.refusals.specs.declared.PlanFault.TheVariants.{NoLevel}
use Rattle.families.specs.Meaning.{Meaning}
use Rattle.settling.specs.Masks.{Masks, of}
use Rattle.settling.specs.declared.Snapshot.{Snapshot}
use Rattle.histories.specs.Calls.{mark, back, level, refused}
use Rattle.histories.specs.Plans.{View, Step}
use Rattle.planning.proofs.Refusing.{mark_goes, back_none, back_goes}

-- the masks at the marks, the newest first
abbrev pub levels : List Snapshot → List Masks
levels xs = map of (reverse xs)

levels_pushed : (xs : List Snapshot) (x : Snapshot) → levels (xs ++ x ∷ []) ≡ of x ∷ levels xs
levels_pushed xs x = ap (map of) (reverse-append xs (x ∷ []))

pub length_levels : (xs : List Snapshot) → length (levels xs) ≡ length xs
length_levels xs = length-map (reverse xs) of ∙ length-reverse xs

module _ (m : Meaning) (s : Snapshot) (xs : List Snapshot) where
  abbrev with_void : Bool → View
  with_void v = record { now = of s; below = levels xs; void = v }

  pub marked : (void : Bool) (ys : List Snapshot) (n : ℕ) → void ≡ false → length xs < 16 → ys ≡ xs ++ s ∷ [] → n ≡ length ys
      → Step m (with_void void) mark (level n) (record { now = of s; below = levels ys; void = void })
  marked void ys n v h e k =
      let one : Step m (with_void void) mark (level (length (levels xs) + 1)) (record { now = of s; below = of s ∷ levels xs; void = void }) =
      Step.marks (mark_goes m void (length (levels xs)) v (omega (arith, length_levels xs))) in
      let two : length (levels xs) + 1 ≡ n = omega (arith, length_levels xs, k, ap length e, length-append xs (s ∷ [])) in
      let three : levels ys ≡ of s ∷ levels xs = ap levels e ∙ levels_pushed xs s in
      rw (three, ← two) one

  pub backed : (void : Bool) (ys : List Snapshot) (o : Option Snapshot) (x : Snapshot) (n : ℕ) → void ≡ false → xs ≡ ys ++ option_to_list o → o ≡ Some x → n ≡ length ys
      → Step m (with_void void) back (level n) (record { now = of x; below = levels ys; void = void })
  backed void ys o x n v p q k =
      let e : xs ≡ ys ++ x ∷ [] = p ∙ ap (λ (o' : Option Snapshot). ys ++ option_to_list o') q in
      let one : levels xs ≡ of x ∷ levels ys = ap levels e ∙ levels_pushed ys x in
      let two : length (levels ys) ≡ n = omega (arith, length_levels ys, k) in
      let three : 0 < length (levels xs) = omega (arith, ap length one) in
      rw (← two) (Step.backs (of x) (levels ys) (back_goes m void (length (levels xs)) v three) one)

  pub no_back_level : (void : Bool) → void ≡ false → length xs ≡ 0 → Step m (with_void void) back (refused NoLevel) (with_void void)
  no_back_level void v none = Step.refuses back NoLevel (back_none m void (length (levels xs)) v (omega (arith, length_levels xs, none)))

-- the last of the levels, if there is one, stands behind the others
pub last_found : (xs ys : List Snapshot) (n : ℕ) (x : Snapshot) → slice_get xs (length xs - 1) ≡ Some x → n ≡ length xs → ys ≡ take (n - 1) xs → xs ≡ ys ++ option_to_list (Some x)
last_found xs ys n x e k l =
    let within : length xs - 1 < length xs = slice_get_within xs (length xs - 1) x e in
    let whole : length xs - 1 + 1 ≡ length xs = omega (arith, within) in
    let seam : take (length xs - 1 + 1) xs ≡ take (length xs - 1) xs ++ get_or xs (length xs - 1) x ∷ [] = take_more xs (length xs - 1) x within in
    sym (take-length xs)
    ∙ ap (λ (j : ℕ). take j xs) (sym whole)
    ∙ seam
    ∙ ap (λ (y : Snapshot). take (length xs - 1) xs ++ y ∷ []) (get_or_from_slice_get xs (length xs - 1) x x e)
    ∙ ap (λ (zs : List Snapshot). zs ++ x ∷ []) (sym (l ∙ ap (λ (j : ℕ). take (j - 1) xs) k))

pub last_missing : (xs : List Snapshot) → slice_get xs (length xs - 1) ≡ None → length xs ≡ 0
last_missing [] e = refl
last_missing (x ∷ xs) e =
    let some : slice_get (x ∷ xs) (length (x ∷ xs) - 1) ≡ Some (get_or (x ∷ xs) (length (x ∷ xs) - 1) x) = slice_get-get_or (x ∷ xs) (length (x ∷ xs) - 1) x (omega arith) in
    cc (sym some ∙ e)
