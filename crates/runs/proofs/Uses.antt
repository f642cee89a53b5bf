-- A sequence over the masks whose total meets an open count: its duties and that count stay.
use Rattle.std.proofs.Common.{◌≡◌, ℕ, ◌+◌, ◌<◌, List, ◌∷◌, length, get_or, take, drop, refl, ap, ◌∙◌, arith}
use Rattle.masks.specs.Bit.{In}
use Rattle.automata.specs.Automaton.{Automaton, Lawful}
use Rattle.automata.specs.Reading.{end, total}
use Rattle.automata.proofs.Readings.{total_append, end_below}
use Rattle.sweeps.specs.Sequences.{From}
use Rattle.rules.specs.declared.Sense.{Sense}
use Rattle.rules.specs.declared.Sense.TheVariants.{AtMost, AtLeast, Exactly}
use Rattle.rules.specs.Senses.{Meets}
use Rattle.runs.specs.Stays.{joined, Around, DutyStays, CountStays}
use Rattle.runs.proofs.Apart.{apart}

module _ (a : Automaton) (lawful : Lawful a) (masks ds : List ℕ) (f : From masks ds) where
  pub used_duty : (sense : Sense) (tally i d k : ℕ) → i < length masks → get_or ds i 0 ≡ d → k < 64 → In tally k → Meets sense (total a 0 ds) k → DutyStays a masks sense tally i d
  used_duty AtMost tally i d k h e l o m = (k, l, o, (ds, f, e, m))
  used_duty AtLeast tally i d k h e l o m = (k, l, o, (ds, f, e, m))
  used_duty Exactly tally i d k h e l o m =
      let p = apart i f h in
      let pre = take i ds in
      let post = drop (i + 1) ds in
      let q = end a 0 pre in
      let r : Around a masks i q pre post = record { before = p.front; leads = refl; behind = p.back } in
      let t : total a 0 ds ≡ joined a masks q d pre post =
      ap (total a 0) p.whole ∙ total_append a 0 pre (get_or ds i 0 ∷ post) ∙ ap (λ x. total a 0 pre + (a.increase q x + total a (a.next q x) post)) e in
      (q, end_below a lawful 0 pre (omega (arith, lawful.some)), (k, l, o, ((pre, post, r, omega arith), (pre, post, r, omega arith))))

  pub used_count : (sense : Sense) (k : ℕ) → Meets sense (total a 0 ds) k → CountStays a masks sense k
  used_count AtMost k m = (ds, f, m)
  used_count AtLeast k m = (ds, f, m)
  used_count Exactly k m = (end a 0 ds, end_below a lawful 0 ds (omega (arith, lawful.some)), ((ds, f, refl, omega arith), (ds, f, refl, omega arith)))
