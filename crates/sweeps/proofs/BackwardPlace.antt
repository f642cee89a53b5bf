-- One place of the backward sweep from the place after.
use Rattle.std.proofs.Common.{◌≡◌, ℕ, ◌+◌, ◌<◌, ◌≤◌, List, ◌∷◌, map, length, get_or, drop, sym, ap, ◌∙◌, add_comm}
use Rattle.std.proofs.lemmas.List.{drop_more, drop_all}
use Rattle.automata.specs.Automaton.{Automaton, Lawful}
use Rattle.automata.specs.Reading.{total}
use Rattle.measures.specs.Measuring.{Measuring, Laws}
use Rattle.sweeps.specs.Sequences.{duties, sequences}
use Rattle.sweeps.specs.Joining.{over, code}
use Rattle.sweeps.specs.Place.{pulled}
use Rattle.sweeps.specs.Sweep.{backward_at}
use Rattle.sweeps.proofs.Overs.{neutral_increase, neutral_right, over_map, over_flat, over_cong, over_increase}

module _ {m : Measuring} (laws : Laws m) (a : Automaton) where
  -- the sequences with one duty more in front
  pub backward_more : (ms : List ℕ) (mask q : ℕ)
      → over m (code m a q) (sequences (mask ∷ ms))
      ≡ pulled m a mask (λ p. over m (code m a p) (sequences ms)) q
  backward_more ms mask q =
      over_flat laws (code m a q) (λ d. map (λ ds. d ∷ ds) (sequences ms)) (duties mask)
      ∙ over_cong laws (λ d. over m (code m a q) (map (λ ds. d ∷ ds) (sequences ms))) (λ d. m.increase (over m (code m a (a.next q d)) (sequences ms)) (a.increase q d))
      (λ d. over_map laws (code m a q) (λ ds. d ∷ ds) (sequences ms)
      ∙ over_cong laws (λ ds. code m a q (d ∷ ds)) (λ ds. m.increase (code m a (a.next q d) ds) (a.increase q d))
      (λ ds. ap (m.increase m.start) (add_comm (a.increase q d) (total a (a.next q d) ds)) ∙ sym (laws.increases_add m.start (total a (a.next q d) ds) (a.increase q d))) (sequences ms)
      ∙ sym (over_increase laws (code m a (a.next q d)) (a.increase q d) (sequences ms)))
      (duties mask)

  -- place i from place i + 1
  pub backward_next : Lawful a → (masks : List ℕ) (i q : ℕ) (x : ℕ → ℕ) → i < length masks → ((p : ℕ) → p < a.states → x p ≡ backward_at m a masks (i + 1) p)
      → pulled m a (get_or masks i 0) x q ≡ backward_at m a masks i q
  backward_next lawful masks i q x h row =
      over_cong laws (λ d. m.increase (x (a.next q d)) (a.increase q d)) (λ d. m.increase (backward_at m a masks (i + 1) (a.next q d)) (a.increase q d))
      (λ d. ap (λ v. m.increase v (a.increase q d)) (row (a.next q d) (lawful.next_below q d))) (duties (get_or masks i 0))
      ∙ sym (backward_more (drop (i + 1) masks) (get_or masks i 0) q)
      ∙ ap (λ ms. over m (code m a q) (sequences ms)) (sym (drop_more masks i 0 h))

  -- past the last place
  pub backward_last : (masks : List ℕ) (n q : ℕ) → length masks ≤ n → backward_at m a masks n q ≡ m.start
  backward_last masks n q h =
      ap (λ ms. over m (code m a q) (sequences ms)) (drop_all n masks h)
      ∙ neutral_right laws (m.increase m.start 0) (neutral_increase laws m.start 0) ∙ laws.increase_by_zero m.start laws.start_fits
