-- One run of a rule on the masks of a plan.
use Rattle.std.proofs.Common.{◌≡◌, ℕ, ◌+◌, ◌<◌, ◌≤◌, length, get_or, set, sym, ◌∙◌, subst, ⊎_elim, arith, get_or-set_other}
use Rattle.std.proofs.lemmas.Bool.{cases_eq}
use Rattle.masks.specs.Members.{members, lost}
use Rattle.masks.proofs.Counting.{kept_and_lost}
use Rattle.families.specs.Masks.{values_lost}
use Rattle.families.specs.Meaning.{Meaning}
use Rattle.families.specs.Laws.{Lawful}
use Rattle.families.proofs.Losses.{values, values_kept_and_lost, values_set}
use Rattle.families.proofs.Order.{all_within_set, all_within_set_part}
use Rattle.settling.specs.Masks.{Masks, Sized, Inside, AllOpen}
use Rattle.settling.specs.Rounds.{left, run, taken, Full}
use Rattle.settling.specs.Largest.{Stable}
use Rattle.settling.proofs.Order.{room, proper, sized_inside, inside_same}

-- no mask is empty, if none was and the run left none of its own
pub run_open : (m : Meaning) (r : ℕ) (s : Masks) → AllOpen m s → Full (run m r s) r → AllOpen m (run m r s)
run_open m r s a f =
    record {
      cells = f.cells;
      tallies = λ j l. ⊎_elim
          (λ (e : j ≡ r). subst (λ (i : ℕ). 0 < get_or (run m r s).tallies i 0) (sym e) f.tally)
          (λ (ne : j ≡ r → ⊥). rw (get_or-set_other s.tallies r j (left m r s).tally 0 ne) (a.tallies j l))
          (cases_eq j r);
    }

module _ (m : Meaning) (law : Lawful m) where
  -- a run only removes
  pub run_inside : (r : ℕ) (s : Masks) → r < m.rules → Sized s → Inside (run m r s) s
  run_inside r s h z =
      let l = (law.each r h).only_removes s.cells (get_or s.tallies r 0) (proper s r z) in
      record { cells = l.0; tallies = all_within_set_part s.tallies r (left m r s).tally l.1 }

  pub run_sized : (r : ℕ) (s : Masks) → r < m.rules → Sized s → Sized (run m r s)
  run_sized r s h z = sized_inside (run m r s) s z (run_inside r s h z)

  -- of smaller masks it leaves smaller ones
  pub run_monotone : (r : ℕ) (s t : Masks) → r < m.rules → Sized t → Inside s t → Inside (run m r s) (run m r t)
  run_monotone r s t h z i =
      let l = (law.each r h).monotone s.cells t.cells (get_or s.tallies r 0) (get_or t.tallies r 0) (proper s r (sized_inside s t z i)) (proper t r z) i.cells (i.tallies.each r) in
      record { cells = l.0; tallies = all_within_set s.tallies t.tallies r (left m r s).tally (left m r t).tally i.tallies l.1 }

  -- it takes just the values that no longer stand open
  pub run_room : (r : ℕ) (s : Masks) → r < m.rules → Sized s → room (run m r s) + taken m r s ≡ room s
  run_room r s h z =
      let l = (law.each r h).only_removes s.cells (get_or s.tallies r 0) (proper s r z) in
      let few : m.rules ≤ 72 = law.few in
      let long : length s.tallies ≡ 72 = z.tallies in
      let in_reach : r < length s.tallies = omega arith in
      let a : values (left m r s).cells + values_lost s.cells (left m r s).cells ≡ values s.cells = values_kept_and_lost (left m r s).cells s.cells l.0 in
      let b : values (set s.tallies r (left m r s).tally) + length (members 64 (get_or s.tallies r 0)) ≡ values s.tallies + length (members 64 (left m r s).tally) =
      values_set s.tallies r (left m r s).tally in_reach in
      let c : length (members 64 (left m r s).tally) + length (lost 64 (get_or s.tallies r 0) (left m r s).tally) ≡ length (members 64 (get_or s.tallies r 0)) =
      kept_and_lost 64 (get_or s.tallies r 0) (left m r s).tally (λ k h. l.1 k) in
      omega arith

  -- a run that takes nothing changes nothing
  pub run_same : (r : ℕ) (s : Masks) → r < m.rules → Sized s → taken m r s ≡ 0 → run m r s ≡ s
  run_same r s h z e = inside_same (run m r s) s z (run_inside r s h z) (omega (arith, run_room r s h z))

  -- nor does it leave a cell empty that was not
  pub cells_kept : (r : ℕ) (s t : Masks) (n : ℕ) → r < m.rules → Sized s → t ≡ run m r s → n ≡ taken m r s → n ≡ 0
      → ((j : ℕ) → j < 192 → 0 < get_or s.cells j 0) → (j : ℕ) → j < 192 → 0 < get_or t.cells j 0
  cells_kept r s t n h z e o a full = subst (λ (x : Masks). (j : ℕ) → j < 192 → 0 < get_or x.cells j 0) (sym (e ∙ run_same r s h z (sym o ∙ a))) full

  -- masks that no rule changes stay inside
  pub run_above : (r : ℕ) (s u : Masks) → r < m.rules → Sized s → Stable m u → Inside u s → Inside u (run m r s)
  run_above r s u h z st i = subst (λ (x : Masks). Inside x (run m r s)) (st r h) (run_monotone r u s h z i)
