-- The tests of what stays decide what stays.
use Rattle.std.proofs.Common.{◌≡◌, ℕ, ◌+◌, ◌<◌, Bool, true, ◌&&◌, eqb, leb, List, get_or, take, drop, Decides, sym, ◌∙◌}
use Rattle.std.proofs.lemmas.Bool.{eqb-true, eq-eqb, leb-true, le-leb}
use Rattle.masks.specs.Bit.{In}
use Rattle.masks.specs.Members.{members}
use Rattle.automata.specs.Automaton.{Automaton}
use Rattle.automata.specs.Reading.{end, total}
use Rattle.sweeps.specs.Sequences.{From, sequences, leading}
use Rattle.rules.specs.declared.Sense.{Sense}
use Rattle.rules.specs.declared.Sense.TheVariants.{AtMost, AtLeast, Exactly}
use Rattle.rules.specs.Senses.{Meets, meets}
use Rattle.runs.specs.Choosing.{any}
use Rattle.runs.specs.Stays.{joined, Around, Through, Between, EndsBetween, DutyStays, CountStays, through, around, between, ends_between, duty_stays, count_stays}
use Rattle.runs.proofs.Tests.{and_both, both_and, any_members, any_up_to, any_sequences, any_leading}

pub meets_decided : (sense : Sense) (n k : ℕ) → Decides (meets sense n k) (Meets sense n k)
meets_decided AtMost n k = (leb-true n k, le-leb n k)
meets_decided AtLeast n k = (leb-true k n, le-leb k n)
meets_decided Exactly n k = (eqb-true n k, eq-eqb n k)

module _ (a : Automaton) (masks : List ℕ) where
  through_decided : (sense : Sense) (i d k : ℕ) → Decides (through a masks sense i d k) (Through a masks sense i d k)
  through_decided sense i d k =
      let w = any_sequences masks (λ ds. eqb (get_or ds i 0) d && meets sense (total a 0 ds) k) in (
        λ t. let f = w.0 t in let b = and_both (eqb (get_or f.0 i 0) d) (meets sense (total a 0 f.0) k) f.2 in
            (f.0, f.1, eqb-true (get_or f.0 i 0) d b.0, (meets_decided sense (total a 0 f.0) k).0 b.1),
        λ f. w.1 (f.0, f.1, both_and (eqb (get_or f.0 i 0) d) (meets sense (total a 0 f.0) k) (eq-eqb (get_or f.0 i 0) d f.2) ((meets_decided sense (total a 0 f.0) k).1 f.3)),
      )

  leading_decided : (ms : List ℕ) (q : ℕ) (p : List ℕ → Bool) → Decides (any p (leading a q (sequences ms))) ((ds : List ℕ) × From ms ds × (end a 0 ds ≡ q) × (p ds ≡ true))
  leading_decided ms q p =
      let w = any_sequences ms (λ ds. eqb (end a 0 ds) q && p ds) in (
        λ t. let f = w.0 (sym (any_leading a q p (sequences ms)) ∙ t) in let b = and_both (eqb (end a 0 f.0) q) (p f.0) f.2 in
            (f.0, f.1, eqb-true (end a 0 f.0) q b.0, b.1),
        λ f. any_leading a q p (sequences ms) ∙ w.1 (f.0, f.1, both_and (eqb (end a 0 f.0) q) (p f.0) (eq-eqb (end a 0 f.0) q f.2) f.3),
      )

  around_decided : (i q : ℕ) (p : List ℕ → List ℕ → Bool) → Decides (around a masks i q p) ((pre : List ℕ) × (post : List ℕ) × Around a masks i q pre post × (p pre post ≡ true))
  around_decided i q p =
      let w = leading_decided (take i masks) q (λ pre. any (p pre) (sequences (drop (i + 1) masks))) in (
        λ t. let f = w.0 t in let g = (any_sequences (drop (i + 1) masks) (p f.0)).0 f.3 in
            (f.0, g.0, record { before = f.1; leads = f.2; behind = g.1 }, g.2),
        λ f. w.1 (f.0, f.2.before, f.2.leads, (any_sequences (drop (i + 1) masks) (p f.0)).1 (f.1, f.2.behind, f.3)),
      )

  between_decided : (i q d k : ℕ) → Decides (between a masks i q d k) (Between a masks i q d k)
  between_decided i q d k =
      let low : List ℕ → List ℕ → Bool = λ pre post. leb (joined a masks q d pre post) k in
      let high : List ℕ → List ℕ → Bool = λ pre post. leb k (joined a masks q d pre post) in
      let l = around_decided i q low in
      let h = around_decided i q high in (
        λ t. let b = and_both (around a masks i q low) (around a masks i q high) t in let f = l.0 b.0 in let g = h.0 b.1 in (
          (f.0, f.1, f.2, leb-true (joined a masks q d f.0 f.1) k f.3),
          (g.0, g.1, g.2, leb-true k (joined a masks q d g.0 g.1) g.3),
        ),
        λ b. let f = b.0 in let g = b.1 in
            both_and (around a masks i q low) (around a masks i q high)
            (l.1 (f.0, f.1, f.2, le-leb (joined a masks q d f.0 f.1) k f.3))
            (h.1 (g.0, g.1, g.2, le-leb k (joined a masks q d g.0 g.1) g.3)),
      )

  ends_between_decided : (q k : ℕ) → Decides (ends_between a masks q k) (EndsBetween a masks q k)
  ends_between_decided q k =
      let low : List ℕ → Bool = λ ds. leb (total a 0 ds) k in
      let high : List ℕ → Bool = λ ds. leb k (total a 0 ds) in
      let l = leading_decided masks q low in
      let h = leading_decided masks q high in (
        λ t. let b = and_both (any low (leading a q (sequences masks))) (any high (leading a q (sequences masks))) t in let f = l.0 b.0 in let g = h.0 b.1 in (
          (f.0, f.1, f.2, leb-true (total a 0 f.0) k f.3),
          (g.0, g.1, g.2, leb-true k (total a 0 g.0) g.3),
        ),
        λ b. let f = b.0 in let g = b.1 in
            both_and (any low (leading a q (sequences masks))) (any high (leading a q (sequences masks)))
            (l.1 (f.0, f.1, f.2, le-leb (total a 0 f.0) k f.3))
            (h.1 (g.0, g.1, g.2, le-leb k (total a 0 g.0) g.3)),
      )

  counted_decided : (sense : Sense) (tally i d : ℕ) → Decides (any (through a masks sense i d) (members 64 tally)) ((k : ℕ) × (k < 64) × In tally k × Through a masks sense i d k)
  counted_decided sense tally i d =
      let w = any_members (through a masks sense i d) 64 tally in (
        λ t. let f = w.0 t in (f.0, f.1, f.2, (through_decided sense i d f.0).0 f.3),
        λ f. w.1 (f.0, f.1, f.2, (through_decided sense i d f.0).1 f.3),
      )

  met_decided : (sense : Sense) (k : ℕ) → Decides (any (λ ds. meets sense (total a 0 ds) k) (sequences masks)) ((ds : List ℕ) × From masks ds × Meets sense (total a 0 ds) k)
  met_decided sense k =
      let w = any_sequences masks (λ ds. meets sense (total a 0 ds) k) in (
        λ t. let f = w.0 t in (f.0, f.1, (meets_decided sense (total a 0 f.0) k).0 f.2),
        λ f. w.1 (f.0, f.1, (meets_decided sense (total a 0 f.0) k).1 f.2),
      )

  pub duty_decided : (sense : Sense) (tally i d : ℕ) → Decides (duty_stays a masks sense tally i d) (DutyStays a masks sense tally i d)
  duty_decided AtMost tally i d = counted_decided AtMost tally i d
  duty_decided AtLeast tally i d = counted_decided AtLeast tally i d
  duty_decided Exactly tally i d =
      let w = any_up_to (λ q. any (between a masks i q d) (members 64 tally)) a.states in (
        λ t. let f = w.0 t in let g = (any_members (between a masks i f.0 d) 64 tally).0 f.2 in
            (f.0, f.1, (g.0, g.1, g.2, (between_decided i f.0 d g.0).0 g.3)),
        λ f. let g = f.2 in w.1 (f.0, f.1, (any_members (between a masks i f.0 d) 64 tally).1 (g.0, g.1, g.2, (between_decided i f.0 d g.0).1 g.3)),
      )

  pub count_decided : (sense : Sense) (k : ℕ) → Decides (count_stays a masks sense k) (CountStays a masks sense k)
  count_decided AtMost k = met_decided AtMost k
  count_decided AtLeast k = met_decided AtLeast k
  count_decided Exactly k =
      let w = any_up_to (λ q. ends_between a masks q k) a.states in (
        λ t. let f = w.0 t in (f.0, f.1, (ends_between_decided f.0 k).0 f.2),
        λ f. w.1 (f.0, f.1, (ends_between_decided f.0 k).1 f.2),
      )
