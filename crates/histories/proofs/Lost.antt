-- A filling that the standing decisions and every rule allow is never lost.
use Rattle.std.proofs.Common.{◌≡◌, ℕ, ◌<◌, true, false, List, [], length, get_or, subst, inl, inr, ⊎_elim}
use Rattle.std.proofs.lemmas.Bool.{cases_Bool}
use Rattle.masks.specs.Bit.{In}
use Rattle.families.specs.Meaning.{Meaning}
use Rattle.families.specs.Laws.{Lawful}
use Rattle.settling.specs.Masks.{Masks, Sized, SomeEmpty}
use Rattle.settling.specs.Largest.{Largest}
use Rattle.settling.proofs.Order.{sized_inside}
use Rattle.histories.specs.Decisions.{Decision, narrowed}
use Rattle.histories.specs.Log.{Log, Starts, Breaks}
use Rattle.histories.specs.Plans.{View, Shows}
use Rattle.histories.specs.Law.{DraftCells, Lies, Obeys}
use Rattle.histories.proofs.Narrowing.{narrowed_sized}
use Rattle.histories.proofs.Starting.{starts_sized}
use Rattle.histories.proofs.Singles.{in_none, single, single_inside, inside_lies, single_stable}

-- a filling lies within masks that have no empty one
pub lies_not_empty : (m : Meaning) (duties counts : List ℕ) (t : Masks) → Lies m duties counts t → SomeEmpty m t → ⊥
lies_not_empty m duties counts t lies (inl (i, h, e)) = in_none (get_or duties i 0) (subst (λ (x : ℕ). In x (get_or duties i 0)) e (lies.cells i h))
lies_not_empty m duties counts t lies (inr (r, h, e)) = in_none (get_or counts r 0) (subst (λ (x : ℕ). In x (get_or counts r 0)) e (lies.tallies r h))

module _ (m : Meaning) (law : Lawful m) where
  -- a filling within masks that every rule allows lies within the largest masks that no rule changes
  pub largest_keeps : (s t : Masks) → Sized s → Largest m s t → (duties counts : List ℕ) → length duties ≡ 192 → length counts ≡ m.rules → Lies m duties counts s
      → ((r : ℕ) → r < m.rules → (m.rule r).allows duties (get_or counts r 0) ≡ true) → Lies m duties counts t
  largest_keeps s t z big duties counts all-cells all-rules lies allowed =
      let ins = single_inside m duties counts law all-cells all-rules s z lies in
      let sized = sized_inside (single m duties counts) s z ins in
      inside_lies m duties counts law all-cells all-rules t (big.above (single m duties counts) (single_stable m duties counts law all-cells all-rules sized allowed) ins)

  pub obeys_lies : (start t : Masks) (standing : List Decision) → Sized start → Largest m (narrowed standing start) t → (duties counts : List ℕ) → Obeys m start standing duties counts
      → Lies m duties counts t
  obeys_lies start t standing z big duties counts o =
      largest_keeps (narrowed standing start) t (narrowed_sized standing start z) big duties counts o.cells o.rules o.lies o.allowed

  -- where the largest masks have an empty one there is no such filling
  pub breaks_none : (start : Masks) → Sized start → Breaks m start → (duties counts : List ℕ) → Obeys m start [] duties counts → ⊥
  breaks_none start z (t, big, empty) duties counts o = lies_not_empty m duties counts t (obeys_lies start t [] z big duties counts o) empty

  pub lost_none : (cells : List ℕ) (start : Masks) (log : Log) (p : View) → DraftCells cells → Starts m cells start → Shows m start log p
      → (log.void ≡ true → (log.standing ≡ []) × Breaks m start) → (duties counts : List ℕ) → Obeys m start log.standing duties counts → Lies m duties counts p.now
  lost_none cells start log p draft starts shows void duties counts o =
      let z = starts_sized m cells law draft start starts in
      ⊎_elim
      (λ (v : log.void ≡ true). let b = void v in absurd (breaks_none start z b.1 duties counts (subst (λ (ds : List Decision). Obeys m start ds duties counts) b.0 o)))
      (λ (v : log.void ≡ false). obeys_lies start p.now log.standing z (shows.masks_now.largest_else v).0 duties counts o)
      (cases_Bool log.void)
