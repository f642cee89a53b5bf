-- What the three measures of a row say of its sequences, where no total reaches the largest code.
use Rattle.std.proofs.Common.{◌≡◌, ℕ, ◌+◌, ◌-◌, ◌*◌, ◌<◌, ◌≤◌, min, cond, List, length, Some, None, sym, refl, ap, ◌∙◌, subst, arith}
use Rattle.std.proofs.lemmas.Bool.{eq-eqb, ne_eqb}
use Rattle.automata.specs.Automaton.{Automaton, Lawful}
use Rattle.automata.specs.Reading.{total}
use Rattle.measures.specs.Kinds.{least, least_laws, greatest, greatest_laws, totals, totals_laws, top}
use Rattle.measures.specs.declared.Figures.{Figures}
use Rattle.sweeps.specs.Figures.{Reached, FiguresOf, figure, figures_of, Shown}
use Rattle.sweeps.specs.Sequences.{From, ends, takes}
use Rattle.sweeps.proofs.Finds.{backward_some, backward_each}
use Rattle.sweeps.proofs.KindsSee.{least_sees, greatest_sees, totals_sees, single_in, in_single}

-- each duty adds at most 15
pub total_small : (a : Automaton) → Lawful a → (q : ℕ) {masks ds : List ℕ} → From masks ds → total a q ds ≤ 15 * length masks
total_small a l q ends = omega arith
total_small a l q (takes {d = d} h i f) = omega (arith, l.increase_small q d, total_small a l (a.next q d) f)

-- the figures by the three measures
abbrev pub measured : Automaton → List ℕ → Figures
measured a masks = record { least = figure least a masks; greatest = figure greatest a masks - 1; totals = figure totals a masks }

module _ (a : Automaton) (lawful : Lawful a) (masks : List ℕ) (short : 15 * length masks < top) where
  small : (t : ℕ) → Reached a masks t → t ≤ 15 * length masks
  small t w = omega (arith, w.2, total_small a lawful 0 w.1)

  pub none_less : (t : ℕ) → Reached a masks t → figure least a masks ≤ t
  none_less t w = backward_each least_laws (least_sees t (omega (arith, small t w))) a masks 0 0 w.1 (omega (arith, w.2))

  pub least_reached : figure least a masks < top → Reached a masks (figure least a masks)
  least_reached some =
      let L = figure least a masks in
      let w = backward_some least_laws (least_sees L some) a masks 0 0 (omega arith) in
      let up : min (0 + total a 0 w.0) top ≤ L = w.2 in
      let s : total a 0 w.0 ≤ 15 * length masks = total_small a lawful 0 w.1 in
      let down : L ≤ total a 0 w.0 = none_less (total a 0 w.0) (w.0, w.1, refl) in
      (w.0, w.1, omega arith)

  -- a sequence has a total of at least one less than a code, and so has the greatest
  pub not_below : (t : ℕ) → Reached a masks t → t + 1 ≤ figure greatest a masks
  not_below t w =
      backward_each greatest_laws (greatest_sees (t + 1) (omega arith)) a masks 0 0 w.1
      (let s = small t w in let e = w.2 in let m : t + 1 ≤ min (1 + total a 0 w.0) top = omega arith in m)

  pub some_greatest : figure least a masks < top → 1 ≤ figure greatest a masks
  some_greatest some = omega (arith, not_below (figure least a masks) (least_reached some))

  pub greatest_reached : 1 ≤ figure greatest a masks → Reached a masks (figure greatest a masks - 1)
  greatest_reached some =
      let G = figure greatest a masks in
      let w = backward_some greatest_laws (greatest_sees G some) a masks 0 0 (omega arith) in
      let up : G ≤ min (1 + total a 0 w.0) top = w.2 in
      let s : total a 0 w.0 ≤ 15 * length masks = total_small a lawful 0 w.1 in
      let down : total a 0 w.0 + 1 ≤ G = not_below (total a 0 w.0) (w.0, w.1, refl) in
      (w.0, w.1, omega arith)

  pub some_shown : figure least a masks < top → FiguresOf a masks (measured a masks)
  some_shown some = record {
    least_reached = least_reached some;
    none_less = none_less;
    greatest_reached = greatest_reached (some_greatest some);
    none_greater = λ t w. omega (arith, not_below t w);
    totals_reached = λ t h. (
      λ p. let w = backward_some totals_laws (totals_sees t) a masks 0 0 p in (w.0, w.1, single_in (total a 0 w.0) t h w.2),
      λ w. backward_each totals_laws (totals_sees t) a masks 0 0 w.1 (in_single (total a 0 w.0) t h w.2),
    );
  }

  pub none_shown : figure least a masks ≡ top → Shown a masks None
  none_shown none t w = omega (arith, none_less t w, small t w)

-- a row without a sequence
pub figures_none : (a : Automaton) → Lawful a → (masks : List ℕ) → 15 * length masks < top → figure least a masks ≡ top → (None ≡ figures_of a masks) × Shown a masks None
figures_none a lawful masks short e =
    (sym (ap (λ b. cond b None (Some (measured a masks))) (eq-eqb (figure least a masks) top e)), none_shown a lawful masks short e)

-- a row with one
pub figures_some : (a : Automaton) → Lawful a → (masks : List ℕ) (l g t : ℕ) → 15 * length masks < top → l < top → l ≡ figure least a masks → g ≡ figure greatest a masks → t ≡ figure totals a masks
    → (Some (record { least = l; greatest = g - 1; totals = t }) ≡ figures_of a masks) × FiguresOf a masks (record { least = l; greatest = g - 1; totals = t })
figures_some a lawful masks l g t short some el eg et =
    (ap Some same ∙ sym (ap (λ b. cond b None (Some (measured a masks))) (ne_eqb (figure least a masks) top (λ e. omega arith))), subst (FiguresOf a masks) (sym same) (some_shown a lawful masks short (omega arith)))
  where
    same : ◌≡◌ {A = Figures} (record { least = l; greatest = g - 1; totals = t }) (measured a masks)
    same = cc
