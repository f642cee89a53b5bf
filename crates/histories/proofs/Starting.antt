-- The start of a plan: there is one, only one, and it shows the first log.
use Rattle.std.proofs.Common.{◌≡◌, ℕ, ◌^◌, ◌<◌, ◌≤◌, Bool, true, false, ltb, List, [], map, length, get_or, Some, sym, refl, ap, ◌∙◌, subst, ap₂, ⊎_elim, arith, ext_get_or}
use Rattle.std.specs.List.{range_with_len}
use Rattle.std.proofs.lemmas.List.FromFn.{length-map-range_with_len, get_or-map-range_with_len}
use Rattle.std.proofs.lemmas.List.{get_or_past}
use Rattle.std.proofs.lemmas.Bool.{cases_lt, cond-true, cond-false, lt-ltb, le-ltb}
use Rattle.families.specs.Meaning.{Meaning, start_of}
use Rattle.families.specs.Laws.{Lawful}
use Rattle.settling.specs.Masks.{Masks, masks, Sized, AllOpen}
use Rattle.settling.specs.Rounds.{End, well, fails, Settles}
use Rattle.settling.proofs.Rounds.{well_or_fails, settles_outcome}
use Rattle.settling.proofs.Determined.{settles_one, settles_exist}
use Rattle.histories.specs.Calls.{Answer, done, failed}
use Rattle.histories.specs.Log.{Log, Starts, First, nothing}
use Rattle.histories.specs.Plans.{View, Begins, Begun}
use Rattle.histories.specs.Law.{DraftCells}

abbrev begun_log : Bool → Log
begun_log void = record { void = void; standing = []; levels = [] }

abbrev begun_view : Masks → Bool → View
begun_view now void = record { now = now; below = []; void = void }

module _ (m : Meaning) (cells : List ℕ) where
  -- the start masks are determined
  pub starts_one : (s t : Masks) → Starts m cells s → Starts m cells t → s ≡ t
  starts_one s t p q =
      ap₂ masks (p.cells_are ∙ sym q.cells_are)
      (ext_get_or 0 s.tallies t.tallies (p.size ∙ sym q.size) (λ r h.
      ⊎_elim (λ (l : r < m.rules). p.of_rules r l ∙ sym (q.of_rules r l)) (λ (g : m.rules ≤ r). p.beyond r g ∙ sym (q.beyond r g)) (cases_lt r m.rules)))

  module _ (law : Lawful m) where
    pub starts_exist : (s : Masks) × Starts m cells s
    starts_exist = (
      masks cells (map (start_of m) (range_with_len 0 72)),
      record {
        cells_are = refl;
        size = length-map-range_with_len (start_of m) 0 72;
        of_rules = λ r l.
            let few : m.rules ≤ 72 = law.few in
            get_or-map-range_with_len (start_of m) 0 72 r r 0 (omega arith) (omega arith) ∙ cond-true (ltb r m.rules) (m.rule r).start 0 (lt-ltb r m.rules l);
        beyond = λ r g. ⊎_elim
            (λ (l : r < 72). get_or-map-range_with_len (start_of m) 0 72 r r 0 l (omega arith) ∙ cond-false (ltb r m.rules) (m.rule r).start 0 (le-ltb r m.rules g))
            (λ (o : 72 ≤ r). get_or_past (map (start_of m) (range_with_len 0 72)) r 0 (omega (arith, length-map-range_with_len (start_of m) 0 72)))
            (cases_lt r 72);
      },
    )

    module _ (draft : DraftCells cells) (start : Masks) (st : Starts m cells start) where
      -- they are masks as they are, and none of them is empty
      pub starts_sized : Sized start
      starts_sized =
          record {
            cells = ap length st.cells_are ∙ draft.size;
            narrow = λ i. subst (λ (xs : List ℕ). get_or xs i 0 < 2 ^ 16) (sym st.cells_are) (draft.narrow i);
            tallies = st.size;
            fit = λ r. ⊎_elim
                (λ (l : r < m.rules). subst (λ (x : ℕ). x < 2 ^ 64) (sym (st.of_rules r l)) (law.each r l).start_fits)
                (λ (g : m.rules ≤ r). subst (λ (x : ℕ). x < 2 ^ 64) (sym (st.beyond r g)) (omega arith))
                (cases_lt r m.rules);
          }

      pub starts_all_open : AllOpen m start
      starts_all_open =
          record {
            cells = λ i l. subst (λ (xs : List ℕ). 0 < get_or xs i 0) (sym st.cells_are) (draft.open_all i l);
            tallies = λ r l. subst (λ (x : ℕ). 0 < x) (sym (st.of_rules r l)) (law.each r l).starts_open;
          }

      -- the contract of a start, from what it does
      pub begins_begun : {a : Answer} {p : View} → Begins m start a p → Begun m cells a p
      begins_begun (Begins.settles t n k s) =
          let e = (settles_outcome m law starts_sized starts_all_open s).ends_with_largest refl in
          record {
            start = start;
            starts = st;
            step = Begins.settles t n k s;
            log = begun_log false;
            first = First.begins (t, e.0, e.1);
            shows = record {
              same_void = refl;
              masks_now = record { nothing_where_void = λ v. let y : ◌≡◌ {A = ℕ} 0 1 = cc in absurd (omega arith); largest_else = λ v. e };
              same_levels = refl;
              masks_below = λ i l. absurd (omega arith);
            };
          }
      begins_begun (Begins.breaks u r x n k s) =
          record {
            start = start;
            starts = st;
            step = Begins.breaks u r x n k s;
            log = begun_log true;
            first = First.cannot ((settles_outcome m law starts_sized starts_all_open s).fails_where_largest_is_empty r x refl);
            shows = record {
              same_void = refl;
              masks_now = record { nothing_where_void = λ v. refl; largest_else = λ v. let y : ◌≡◌ {A = ℕ} 0 1 = cc in absurd (omega arith) };
              same_levels = refl;
              masks_below = λ i l. absurd (omega arith);
            };
          }

      abbrev Begin : Type 0
      Begin = (a : Answer) × (p : View) × Begins m start a p

      settled : (t : Masks) (e : End) (n k : ℕ) → Settles m t e 0 0 start n k → Begin
      settled t well n k s = (done n k, begun_view t false, Begins.settles t n k s)
      settled t (fails r x) n k s = (failed (Some (r, x)) n k, begun_view nothing true, Begins.breaks t r x n k s)

      pub begins_exist : (a : Answer) × (p : View) × Begins m start a p
      begins_exist = let s = settles_exist m law start starts_sized in settled s.0 s.1 s.2 s.3 s.4

    -- a draft has a start
    pub begun_exists : DraftCells cells → (a : Answer) × (p : View) × Begun m cells a p
    begun_exists draft = let s = starts_exist in let b = begins_exist draft s.0 s.1 in (b.0, b.1, begins_begun draft s.0 s.1 b.2)

pub begins_one : (m : Meaning) (start : Masks) {a : Answer} {p : View} {e : Answer} {q : View} → Begins m start a p → Begins m start e q → (a ≡ e) × (p ≡ q)
begins_one m start (Begins.settles t1 n1 k1 s1) (Begins.settles t2 n2 k2 s2) = let o = settles_one s1 s2 in (ap₂ done o.2 o.3, ap (λ (t : Masks). begun_view t false) o.0)
begins_one m start (Begins.settles t1 n1 k1 s1) (Begins.breaks u2 r2 x2 n2 k2 s2) = absurd (well_or_fails r2 x2 (settles_one s1 s2).1)
begins_one m start (Begins.breaks u1 r1 x1 n1 k1 s1) (Begins.settles t2 n2 k2 s2) = absurd (well_or_fails r1 x1 (settles_one s2 s1).1)
begins_one m start (Begins.breaks u1 r1 x1 n1 k1 s1) (Begins.breaks u2 r2 x2 n2 k2 s2) =
    let o = settles_one s1 s2 in
    let e : fails r1 x1 ≡ fails r2 x2 = o.1 in
    let f : n1 ≡ n2 = o.2 in
    let g : k1 ≡ k2 = o.3 in
    (cc, refl)

-- and only one
pub begun_one : (m : Meaning) (cells : List ℕ) (a : Answer) (p : View) (e : Answer) (q : View) → Begun m cells a p → Begun m cells e q → (a ≡ e) × (p ≡ q)
begun_one m cells a p e q b c =
    begins_one m c.start (subst (λ (s : Masks). Begins m s a p) (starts_one m cells b.start c.start b.starts c.starts) b.step) c.step
