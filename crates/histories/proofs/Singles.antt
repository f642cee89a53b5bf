-- The masks that hold one filling and nothing else: where every rule allows the filling, no rule changes them.
use Rattle.std.proofs.Common.{◌≡◌, ℕ, ◌-◌, ◌^◌, ◌<◌, ◌≤◌, true, List, ◌++◌, map, length, get_or, replicate, sym, ◌∙◌, subst, ⊎_elim, arith}
use Rattle.std.proofs.lemmas.List.{length-append, length-map, length-replicate, get_or_append_left, get_or-append_right, get_or-map, get_or_past, get_or-replicate, get_or-set_same, get_or-set_other}
use Rattle.std.proofs.lemmas.Bool.{cases_eq, cases_lt}
use Rattle.masks.specs.Bit.{bit, In, Within}
use Rattle.masks.proofs.Bits.{bit_zero}
use Rattle.masks.proofs.Parts.{within_refl}
use Rattle.families.specs.Masks.{OneOf}
use Rattle.families.specs.Meaning.{Meaning}
use Rattle.families.specs.Laws.{Fills, Lawful}
use Rattle.runs.proofs.Fillings.{in_one, one_in}
use Rattle.runs.proofs.Rows.{cases_one_of}
use Rattle.settling.specs.Masks.{Masks, masks, Sized, Inside}
use Rattle.settling.specs.Rounds.{left, run}
use Rattle.settling.specs.Largest.{Stable}
use Rattle.settling.proofs.Order.{proper, inside_antisym}
use Rattle.settling.proofs.Runs.{run_inside}
use Rattle.histories.specs.Law.{Lies}

-- nothing is a member of the empty mask
pub in_none : (k : ℕ) → In 0 k → ⊥
in_none k i = let z = bit_zero k in let o : bit 0 k ≡ 1 = i in omega arith

-- the mask of one member
pub one_within : (x d : ℕ) → In x d → Within (2 ^ d) x
one_within x d i k h = subst (In x) (sym (one_in d k h)) i

none_within : (x : ℕ) → Within 0 x
none_within x k h = absurd (in_none k h)

-- a list of zeros has 0 everywhere
pub zeros : (n i : ℕ) → get_or {A = ℕ} (replicate n 0) i 0 ≡ 0
zeros n i = ⊎_elim (λ (h : i < n). get_or-replicate n i 0 0 h) (λ (h : n ≤ i). get_or_past (replicate n 0) i 0 (omega (arith, length-replicate {A = ℕ} n 0))) (cases_lt i n)

module _ (m : Meaning) (duties counts : List ℕ) where
  -- each cell has the filling's duty, each rule's tally its count
  abbrev pub single : Masks
  single = masks (map (λ d. 2 ^ d) duties) (map (λ k. 2 ^ k) counts ++ replicate (72 - m.rules) 0)

  module _ (law : Lawful m) (all-cells : length duties ≡ 192) (all-rules : length counts ≡ m.rules) where
    cell_here : (i : ℕ) → i < 192 → get_or single.cells i 0 ≡ 2 ^ get_or duties i 0
    cell_here i h = get_or-map (λ d. 2 ^ d) duties i 0 0 (omega arith)

    cell_past : (i : ℕ) → 192 ≤ i → get_or single.cells i 0 ≡ 0
    cell_past i h = get_or_past (map (λ d. 2 ^ d) duties) i 0 (omega (arith, length-map duties (λ d. 2 ^ d)))

    powers : length (map (λ k. 2 ^ k) counts) ≡ m.rules
    powers = length-map counts (λ k. 2 ^ k) ∙ all-rules

    tally_here : (r : ℕ) → r < m.rules → get_or single.tallies r 0 ≡ 2 ^ get_or counts r 0
    tally_here r h =
        get_or_append_left (map (λ k. 2 ^ k) counts) (replicate (72 - m.rules) 0) 0 r (omega (arith, powers))
        ∙ get_or-map (λ k. 2 ^ k) counts r 0 0 (omega arith)

    tally_past : (r : ℕ) → m.rules ≤ r → get_or single.tallies r 0 ≡ 0
    tally_past r h =
        get_or-append_right (map (λ k. 2 ^ k) counts) (replicate (72 - m.rules) 0) m.rules r 0 powers h ∙ zeros (72 - m.rules) (r - m.rules)

    long : length single.tallies ≡ 72
    long =
        let few : m.rules ≤ 72 = law.few in
        let a = length-append (map (λ k. 2 ^ k) counts) (replicate (72 - m.rules) 0) in
        let b = length-replicate {A = ℕ} (72 - m.rules) 0 in
        let c = powers in
        omega arith

    -- they are inside masks that the filling lies within
    pub single_inside : (s : Masks) → Sized s → Lies m duties counts s → Inside single s
    single_inside s z lies =
        record {
          cells = record {
            size = length-map duties (λ d. 2 ^ d) ∙ all-cells ∙ sym z.cells;
            each = λ i. ⊎_elim
                (λ (h : i < 192). rw (cell_here i h) (one_within (get_or s.cells i 0) (get_or duties i 0) (lies.cells i h)))
                (λ (h : 192 ≤ i). rw (cell_past i h) (none_within (get_or s.cells i 0)))
                (cases_lt i 192);
          };
          tallies = record {
            size = long ∙ sym z.tallies;
            each = λ r. ⊎_elim
                (λ (h : r < m.rules). rw (tally_here r h) (one_within (get_or s.tallies r 0) (get_or counts r 0) (lies.tallies r h)))
                (λ (h : m.rules ≤ r). rw (tally_past r h) (none_within (get_or s.tallies r 0)))
                (cases_lt r m.rules);
          };
        }

    -- and the filling lies within what they are inside
    pub inside_lies : (t : Masks) → Inside single t → Lies m duties counts t
    inside_lies t ins =
        record {
          cells = λ i h. ins.cells.each i (get_or duties i 0) (rw (cell_here i h) (in_one (get_or duties i 0)));
          tallies = λ r h. ins.tallies.each r (get_or counts r 0) (rw (tally_here r h) (in_one (get_or counts r 0)));
        }

    module _ (sized : Sized single) (allowed : (r : ℕ) → r < m.rules → (m.rule r).allows duties (get_or counts r 0) ≡ true) where
      -- a run keeps the filling
      kept : (r : ℕ) → r < m.rules
          → Fills (m.rule r).scope duties (left m r single).cells × In (left m r single).tally (get_or counts r 0)
      kept r h =
          (law.each r h).keeps_allowed single.cells (get_or single.tallies r 0) duties (get_or counts r 0)
          (proper single r sized)
          (λ i o. rw (cell_here i ((law.each r h).scope_inside i o)) (in_one (get_or duties i 0)))
          (rw (tally_here r h) (in_one (get_or counts r 0)))
          (allowed r h)

      cells_stay : (r : ℕ) → r < m.rules → (i : ℕ) → Within (get_or single.cells i 0) (get_or (left m r single).cells i 0)
      cells_stay r h i =
          ⊎_elim
          (λ (o : OneOf (m.rule r).scope i).
          subst (λ (x : ℕ). Within x (get_or (left m r single).cells i 0)) (sym (cell_here i ((law.each r h).scope_inside i o)))
          (one_within (get_or (left m r single).cells i 0) (get_or duties i 0) ((kept r h).0 i o)))
          (λ (o : OneOf (m.rule r).scope i → ⊥).
          subst (λ (x : ℕ). Within (get_or single.cells i 0) x)
          (sym ((law.each r h).changes_only_scope single.cells (get_or single.tallies r 0) i (proper single r sized) o))
          (within_refl (get_or single.cells i 0)))
          (cases_one_of (m.rule r).scope i)

      own_tally_stays : (r : ℕ) → r < m.rules → Within (get_or single.tallies r 0) (left m r single).tally
      own_tally_stays r h =
          subst (λ (x : ℕ). Within x (left m r single).tally) (sym (tally_here r h))
          (one_within (left m r single).tally (get_or counts r 0) (kept r h).1)

      tallies_stay : (r : ℕ) → r < m.rules → (i : ℕ) → Within (get_or single.tallies i 0) (get_or (run m r single).tallies i 0)
      tallies_stay r h i =
          let few : m.rules ≤ 72 = law.few in
          let l : r < length single.tallies = omega (arith, long) in
          ⊎_elim
          (λ (e : i ≡ r).
          subst (λ (j : ℕ). Within (get_or single.tallies j 0) (get_or (run m r single).tallies j 0)) (sym e)
          (subst (λ (x : ℕ). Within (get_or single.tallies r 0) x) (sym (get_or-set_same single.tallies r (left m r single).tally 0 l)) (own_tally_stays r h)))
          (λ (ne : i ≡ r → ⊥).
          subst (λ (x : ℕ). Within (get_or single.tallies i 0) x) (sym (get_or-set_other single.tallies r i (left m r single).tally 0 ne))
          (within_refl (get_or single.tallies i 0)))
          (cases_eq i r)

      pub single_stable : Stable m single
      single_stable r h =
          let down = run_inside m law r single h sized in
          inside_antisym (run m r single) single down
          (record {
            cells = record { size = sym down.cells.size; each = cells_stay r h };
            tallies = record { size = sym down.tallies.size; each = tallies_stay r h };
          })
