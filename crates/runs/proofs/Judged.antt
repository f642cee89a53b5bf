-- What stays, by the states: a duty where some state meets an open count by way of it, a count where some state meets it at the end.
use Rattle.std.proofs.Common.{◌≡◌, ℕ, ◌^◌, ◌<◌, ◌≤◌, ◌↔◌, List, length, get_or, Decides, refl, arith}
use lib.Bits.{bit_and}
use Rattle.std.proofs.lemmas.Bool.{eqb-true, eq-eqb}
use Rattle.masks.specs.Bit.{bit, has, In}
use Rattle.masks.proofs.Bits.{bit_lt, bit-bit_and}
use Rattle.automata.specs.Automaton.{Automaton, Lawful}
use Rattle.automata.specs.Reading.{end}
use Rattle.automata.proofs.Readings.{end_below}
use Rattle.rules.specs.declared.Sense.{Sense}
use Rattle.rules.specs.declared.Sense.TheVariants.{AtMost, AtLeast, Exactly}
use Rattle.runs.specs.Codes.{MetThrough, MetAtEnd}
use Rattle.runs.specs.Choosing.{sieve}
use Rattle.runs.specs.Stays.{DutyStays, CountStays, count_stays}
use Rattle.runs.proofs.Apart.{through_parts}
use Rattle.runs.proofs.Decided.{count_decided}
use Rattle.runs.proofs.Sieves.{sieve_is}

-- some state meets an open count by way of the duty
abbrev pub MetBySome : Automaton → List ℕ → Sense → ℕ → ℕ → ℕ → Type 0
MetBySome a masks sense tally i d = (q : ℕ) × (q < a.states) × ((k : ℕ) × (k < 64) × In tally k × MetThrough sense a masks i q d k)

module _ (a : Automaton) (lawful : Lawful a) (masks : List ℕ) where
  pub duty_met : (sense : Sense) (tally i d : ℕ) → i < length masks → d < 16 → In (get_or masks i 0) d → DutyStays a masks sense tally i d ↔ MetBySome a masks sense tally i d
  duty_met AtMost tally i d within duty is_open = (
    λ w. let p = (through_parts a lawful masks i d within duty is_open (λ t. t ≤ w.0)).0 w.3 in (p.0, p.1, (w.0, w.1, w.2, p.2)),
    λ w. let v = w.2 in (v.0, v.1, v.2, (through_parts a lawful masks i d within duty is_open (λ t. t ≤ v.0)).1 (w.0, w.1, v.3)),
  )
  duty_met AtLeast tally i d within duty is_open = (
    λ w. let p = (through_parts a lawful masks i d within duty is_open (λ t. w.0 ≤ t)).0 w.3 in (p.0, p.1, (w.0, w.1, w.2, p.2)),
    λ w. let v = w.2 in (v.0, v.1, v.2, (through_parts a lawful masks i d within duty is_open (λ t. v.0 ≤ t)).1 (w.0, w.1, v.3)),
  )
  duty_met Exactly tally i d within duty is_open = (λ w. w, λ w. w)

  pub count_met : (sense : Sense) (k : ℕ) → ((q : ℕ) × (q < a.states) × MetAtEnd sense a masks q k) ↔ CountStays a masks sense k
  count_met AtMost k = (
    λ w. let v = w.2 in (v.0, v.1, v.3),
    λ w. (end a 0 w.0, end_below a lawful 0 w.0 lawful.some, (w.0, w.1, refl, w.2)),
  )
  count_met AtLeast k = (
    λ w. let v = w.2 in (v.0, v.1, v.3),
    λ w. (end a 0 w.0, end_below a lawful 0 w.0 lawful.some, (w.0, w.1, refl, w.2)),
  )
  count_met Exactly k = (λ w. w, λ w. w)

  -- the counts of a tally that are among the met ones are those that stay
  pub counts_kept : (sense : Sense) (tally met : ℕ) → bit_and tally met < 2 ^ 64 → ((k : ℕ) → k < 64 → Decides (has met k) (CountStays a masks sense k))
      → bit_and tally met ≡ sieve 64 tally (count_stays a masks sense)
  counts_kept sense tally met small decided =
      sieve_is 64 tally (bit_and tally met) (count_stays a masks sense) small
      (λ k h i.
      let b = bit-bit_and tally met k in
      let x = bit_lt tally k in
      let y = bit_lt met k in
      (omega arith, (count_decided a masks sense k).1 ((decided k h).0 (eq-eqb (bit met k) 1 (omega arith)))))
      (λ k h i t.
      let b = bit-bit_and tally met k in
      let m = eqb-true (bit met k) 1 ((decided k h).1 ((count_decided a masks sense k).0 t)) in
      omega arith)
