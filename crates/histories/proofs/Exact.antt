-- Every open duty and count is part of a solution, where rules are apart.
use Rattle.std.proofs.Common.{◌≡◌, ℕ, ◌<◌, ◌≤◌, true, false, List, map, length, get_or, set, sym, refl, ap, ◌∙◌, subst, ⊎_elim, arith}
use lib.Count.{count_trailing_zeros}
use Rattle.std.proofs.lemmas.List.{length-map, length-set, get_or-map, get_or_past, get_or-set_same, get_or-set_other}
use Rattle.std.proofs.lemmas.Bool.{cases_Bool, cases_eq, cases_lt}
use Rattle.masks.specs.Bit.{In}
use Rattle.automata.specs.Reading.{total}
use Rattle.families.specs.Masks.{OneOf}
use Rattle.families.specs.Meaning.{Meaning}
use Rattle.families.specs.Laws.{Lawful}
use Rattle.rules.specs.Senses.{Meets}
use Rattle.sweeps.specs.Sequences.{From}
use Rattle.runs.specs.Run.{along}
use Rattle.runs.proofs.Fillings.{in_below}
use Rattle.runs.proofs.Rows.{cases_one_of, length_along, along_at}
use Rattle.settling.specs.Masks.{Masks, Sized, AllOpen}
use Rattle.settling.specs.Rounds.{left, run}
use Rattle.settling.specs.Largest.{Largest}
use Rattle.settling.proofs.Order.{proper}
use Rattle.settling.proofs.Largest.{largest_sized}
use Rattle.histories.specs.Decisions.{Decision, narrowed}
use Rattle.histories.specs.Log.{Log, Starts, nothing}
use Rattle.histories.specs.Plans.{View, Shows}
use Rattle.histories.specs.Law.{DraftCells, Obeys, Apart}
use Rattle.histories.proofs.Narrowing.{narrowed_sized}
use Rattle.histories.proofs.Starting.{starts_sized}
use Rattle.histories.proofs.Singles.{in_none, zeros}
use Rattle.histories.proofs.Places.{first_member, one_place, from_length, from_at}
use Rattle.histories.proofs.Chosen.{Choice, Chosen, chosen}

-- the lowest duty that is open in each cell
abbrev lowest_duties : Masks → List ℕ
lowest_duties t = map (λ x. count_trailing_zeros 16 x) t.cells

module _ (m : Meaning) (law : Lawful m) (apart : Apart m) (t : Masks) (sized : Sized t) (stable : (r : ℕ) → r < m.rules → run m r t ≡ t) (all-open : AllOpen m t) where
  abbrev Duty : ℕ → ℕ → Type 0
  Duty i d = In (get_or t.cells i 0) d

  abbrev Count : ℕ → ℕ → Type 0
  Count r k = In (get_or t.tallies r 0) k

  -- a run leaves the masks as they are
  cells_left : (r : ℕ) → r < m.rules → (left m r t).cells ≡ t.cells
  cells_left r h = ap (λ (s : Masks). s.cells) (stable r h)

  tally_left : (r : ℕ) → r < m.rules → (left m r t).tally ≡ get_or t.tallies r 0
  tally_left r h =
      let few : m.rules ≤ 72 = law.few in
      let l : r < length t.tallies = omega (arith, sized.tallies) in
      sym (get_or-set_same t.tallies r (left m r t).tally 0 l) ∙ ap (λ (s : Masks). get_or s.tallies r 0) (stable r h)

  -- a sequence over a rule's cells that meets a given open count
  sequence : (r : ℕ) (h : r < m.rules) (k : ℕ) → Count r k
      → (ds : List ℕ) × From (along (m.rule r).scope t.cells) ds × Meets (apart.only_used r h).sense (total (apart.only_used r h).automaton 0 ds) k
  sequence r h k i =
      (apart.only_used r h).count_used t.cells (get_or t.tallies r 0) k (proper t r sized) (subst (λ (x : ℕ). In x k) (sym (tally_left r h)) i)

  -- and one that uses a given open duty and meets some open count
  sequence_through : (r : ℕ) (h : r < m.rules) (j d : ℕ) → j < length (m.rule r).scope → Duty (get_or (m.rule r).scope j 0) d
      → (ds : List ℕ) × (k : ℕ) × From (along (m.rule r).scope t.cells) ds × (get_or ds j 0 ≡ d) × (k < 64) × Count r k
      × Meets (apart.only_used r h).sense (total (apart.only_used r h).automaton 0 ds) k
  sequence_through r h j d l i =
      (apart.only_used r h).duty_used t.cells (get_or t.tallies r 0) j d (proper t r sized) l
      (subst (λ (c : List ℕ). In (get_or c (get_or (m.rule r).scope j 0) 0) d) (sym (cells_left r h)) i)

  from_open : (r : ℕ) (ds : List ℕ) → From (along (m.rule r).scope t.cells) ds → (j : ℕ) → j < length (m.rule r).scope → Duty (get_or (m.rule r).scope j 0) (get_or ds j 0)
  from_open r ds f j l =
      subst (λ (x : ℕ). In x (get_or ds j 0)) (along_at (m.rule r).scope t.cells j l)
      (from_at f j (omega (arith, length_along (m.rule r).scope t.cells)))

  some_count : (r : ℕ) → r < m.rules → Count r (count_trailing_zeros 64 (get_or t.tallies r 0))
  some_count r h = first_member 64 (get_or t.tallies r 0) (all-open.tallies r h) (sized.fit r)

  base_size : length (lowest_duties t) ≡ 192
  base_size = length-map t.cells (λ x. count_trailing_zeros 16 x) ∙ sized.cells

  base_open : (i : ℕ) → i < 192 → Duty i (get_or (lowest_duties t) i 0)
  base_open i h =
      subst (λ (d : ℕ). In (get_or t.cells i 0) d) (sym (get_or-map (λ x. count_trailing_zeros 16 x) t.cells i 0 0 (omega (arith, sized.cells))))
      (first_member 16 (get_or t.cells i 0) (all-open.cells i h) (sized.narrow i))

  -- a filling with a given duty d in cell i
  module _ (i d : ℕ) (low : i < 192) (here : Duty i d) where
    abbrev With_duty : ℕ → ℕ → Type 0
    With_duty c x = Duty c x × (c ≡ i → x ≡ d)

    with_duty : (r : ℕ) → r < m.rules → Choice m With_duty Count r
    with_duty r h = ⊎_elim inside outside (cases_one_of (m.rule r).scope i)
      where
        inside : OneOf (m.rule r).scope i → Choice m With_duty Count r
        inside (j, l, e) =
            let w = sequence_through r h j d l (subst (λ (c : ℕ). Duty c d) (sym e) here) in
            record {
              used = apart.only_used r h;
              duties = w.0;
              count = w.1;
              size = from_length w.2 ∙ length_along (m.rule r).scope t.cells;
              fits = λ q o. (from_open r w.0 w.2 q o, λ s. subst (λ (x : ℕ). get_or w.0 x 0 ≡ d) (one_place (m.rule r).scope j q (apart.only_used r h).different l o (e ∙ sym s)) w.3);
              right = w.5;
              met = w.6;
            }

        outside : (OneOf (m.rule r).scope i → ⊥) → Choice m With_duty Count r
        outside out =
            let w = sequence r h (count_trailing_zeros 64 (get_or t.tallies r 0)) (some_count r h) in
            record {
              used = apart.only_used r h;
              duties = w.0;
              count = count_trailing_zeros 64 (get_or t.tallies r 0);
              size = from_length w.1 ∙ length_along (m.rule r).scope t.cells;
              fits = λ q o. (from_open r w.0 w.1 q o, λ s. absurd (out (q, o, s)));
              right = some_count r h;
              met = w.2;
            }

    with_base : (c : ℕ) → c < 192 → With_duty c (get_or (set (lowest_duties t) i d) c 0)
    with_base c l = ⊎_elim same other (cases_eq c i)
      where
        set_here : get_or (set (lowest_duties t) i d) i 0 ≡ d
        set_here = get_or-set_same (lowest_duties t) i d 0 (omega (arith, base_size))

        same : c ≡ i → With_duty c (get_or (set (lowest_duties t) i d) c 0)
        same e = subst (λ (x : ℕ). With_duty x (get_or (set (lowest_duties t) i d) x 0)) (sym e) (subst (Duty i) (sym set_here) here, λ s. set_here)

        other : (c ≡ i → ⊥) → With_duty c (get_or (set (lowest_duties t) i d) c 0)
        other ne = (subst (Duty c) (sym (get_or-set_other (lowest_duties t) i c d 0 ne)) (base_open c l), λ s. absurd (ne s))

    filling_with_duty : (duties : List ℕ) × (counts : List ℕ) × Chosen m With_duty Count m.rules duties counts
    filling_with_duty =
        chosen m law apart.no_cell_shared With_duty Count (set (lowest_duties t) i d) (length-set (lowest_duties t) i d ∙ base_size) with_base with_duty

  -- a filling with a given count k of rule r
  module _ (r k : ℕ) (here : Count r k) where
    abbrev With_count : ℕ → ℕ → Type 0
    With_count q x = Count q x × (q ≡ r → x ≡ k)

    choice_of : (q : ℕ) → q < m.rules → (x : ℕ) → With_count q x → Choice m Duty With_count q
    choice_of q h x o =
        let w = sequence q h x o.0 in
        record {
          used = apart.only_used q h;
          duties = w.0;
          count = x;
          size = from_length w.1 ∙ length_along (m.rule q).scope t.cells;
          fits = from_open q w.0 w.1;
          right = o;
          met = w.2;
        }

    with_count : (q : ℕ) → q < m.rules → Choice m Duty With_count q
    with_count q h =
        ⊎_elim
        (λ (e : q ≡ r). choice_of q h k (subst (λ (x : ℕ). Count x k) (sym e) here, λ s. refl))
        (λ (ne : q ≡ r → ⊥). choice_of q h (count_trailing_zeros 64 (get_or t.tallies q 0)) (some_count q h, λ s. absurd (ne s)))
        (cases_eq q r)

    filling_with_count : (duties : List ℕ) × (counts : List ℕ) × Chosen m Duty With_count m.rules duties counts
    filling_with_count = chosen m law apart.no_cell_shared Duty With_count (lowest_duties t) base_size base_open with_count

  -- a filling of open duties and counts obeys all rules
  module _ (D K : ℕ → ℕ → Type 0) (duty-open : (i d : ℕ) → D i d → Duty i d) (count-open : (r k : ℕ) → K r k → Count r k)
      (duties counts : List ℕ) (c : Chosen m D K m.rules duties counts) where
    small : (i : ℕ) → get_or duties i 0 < 16
    small i =
        ⊎_elim
        (λ (h : i < 192). in_below 16 (get_or t.cells i 0) (get_or duties i 0) (sized.narrow i) (duty-open i (get_or duties i 0) (c.fits i h)))
        (λ (h : 192 ≤ i). let e : get_or duties i 0 ≡ 0 = get_or_past duties i 0 (omega (arith, c.size)) in omega arith)
        (cases_lt i 192)

    chosen_obeys : (start : Masks) (standing : List Decision) → Largest m (narrowed standing start) t → Obeys m start standing duties counts
    chosen_obeys start standing big =
        record {
          cells = c.size;
          rules = c.number;
          lies = record {
            cells = λ i h. big.inside.cells.each i (get_or duties i 0) (duty-open i (get_or duties i 0) (c.fits i h));
            tallies = λ r h. big.inside.tallies.each r (get_or counts r 0) (count-open r (get_or counts r 0) (c.right r h));
          };
          allowed = λ r h.
              let w = c.met r h in
              w.0.allowed duties (get_or counts r 0) small (in_below 64 (get_or t.tallies r 0) (get_or counts r 0) (sized.fit r) (count-open r (get_or counts r 0) (c.right r h))) w.1;
        }

module _ (m : Meaning) (law : Lawful m) (apart : Apart m) (start t : Masks) (standing : List Decision) (z : Sized start) (big : Largest m (narrowed standing start) t) (all-open : AllOpen m t) where
  t_sized : Sized t
  t_sized = largest_sized m (narrowed standing start) t (narrowed_sized standing start z) big

  pub largest_duty_used : (i d : ℕ) → i < 192 → In (get_or t.cells i 0) d → (duties : List ℕ) × (counts : List ℕ) × Obeys m start standing duties counts × (get_or duties i 0 ≡ d)
  largest_duty_used i d low here =
      let w = filling_with_duty m law apart t t_sized big.stable all-open i d low here in (
        w.0,
        w.1,
        chosen_obeys m law apart t t_sized big.stable all-open
            (λ c x. In (get_or t.cells c 0) x × (c ≡ i → x ≡ d)) (λ r k. In (get_or t.tallies r 0) k) (λ c x o. o.0) (λ r k o. o) w.0 w.1 w.2 start standing big,
        (w.2.fits i low).1 refl,
      )

  pub largest_count_used : (r k : ℕ) → r < m.rules → In (get_or t.tallies r 0) k → (duties : List ℕ) × (counts : List ℕ) × Obeys m start standing duties counts × (get_or counts r 0 ≡ k)
  largest_count_used r k h here =
      let w = filling_with_count m law apart t t_sized big.stable all-open r k here in (
        w.0,
        w.1,
        chosen_obeys m law apart t t_sized big.stable all-open
            (λ c x. In (get_or t.cells c 0) x) (λ q x. In (get_or t.tallies q 0) x × (q ≡ r → x ≡ k)) (λ c x o. o) (λ q x o. o.0) w.0 w.1 w.2 start standing big,
        (w.2.right r h).1 refl,
      )

-- nothing is open in a void plan
void_cell : (s : Masks) → s ≡ nothing → (i d : ℕ) → In (get_or s.cells i 0) d → ⊥
void_cell s e i d o = in_none d (subst (λ (x : ℕ). In x d) (ap (λ (u : Masks). get_or u.cells i 0) e ∙ zeros 192 i) o)

void_tally : (s : Masks) → s ≡ nothing → (r k : ℕ) → In (get_or s.tallies r 0) k → ⊥
void_tally s e r k o = in_none k (subst (λ (x : ℕ). In x k) (ap (λ (u : Masks). get_or u.tallies r 0) e ∙ zeros 72 r) o)

module _ (m : Meaning) (law : Lawful m) (cells : List ℕ) (start : Masks) (log : Log) (p : View) (draft : DraftCells cells) (starts : Starts m cells start) (shows : Shows m start log p) where
  pub duty_used : Apart m → (i d : ℕ) → i < 192 → In (get_or p.now.cells i 0) d → (duties : List ℕ) × (counts : List ℕ) × Obeys m start log.standing duties counts × (get_or duties i 0 ≡ d)
  duty_used apart i d low here =
      ⊎_elim
      (λ (v : log.void ≡ true). absurd (void_cell p.now (shows.masks_now.nothing_where_void v) i d here))
      (λ (v : log.void ≡ false). let b = shows.masks_now.largest_else v in
      largest_duty_used m law apart start p.now log.standing (starts_sized m cells law draft start starts) b.0 b.1 i d low here)
      (cases_Bool log.void)

  pub count_used : Apart m → (r k : ℕ) → r < m.rules → In (get_or p.now.tallies r 0) k → (duties : List ℕ) × (counts : List ℕ) × Obeys m start log.standing duties counts × (get_or counts r 0 ≡ k)
  count_used apart r k h here =
      ⊎_elim
      (λ (v : log.void ≡ true). absurd (void_tally p.now (shows.masks_now.nothing_where_void v) r k here))
      (λ (v : log.void ≡ false). let b = shows.masks_now.largest_else v in
      largest_count_used m law apart start p.now log.standing (starts_sized m cells law draft start starts) b.0 b.1 r k h here)
      (cases_Bool log.void)
