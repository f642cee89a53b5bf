-- What a run leaves of a row's cells and of the tally: the duties and the counts that stay.
use Rattle.std.proofs.Common.{◌≡◌, ℕ, ◌<◌, List, length, get_or, sym, subst, arith}
use Rattle.masks.specs.Bit.{In}
use Rattle.automata.specs.Automaton.{Automaton}
use Rattle.families.specs.Masks.{Proper}
use Rattle.rules.specs.declared.Sense.{Sense}
use Rattle.rules.specs.Rows.{GoodRow}
use Rattle.runs.specs.Stays.{DutyStays, CountStays, duty_stays, count_stays}
use Rattle.runs.specs.Run.{along, kept, leaves}
use Rattle.runs.proofs.Sieves.{sieve_in, in_sieve}
use Rattle.runs.proofs.Decided.{duty_decided, count_decided}
use Rattle.runs.proofs.Rows.{along_at, put_at}

module _ (a : Automaton) (sense : Sense) (row : List ℕ) (good : GoodRow 192 row) (c : List ℕ) (t : ℕ) (proper : Proper c t) where
  pub cell_left : (j : ℕ) → j < length row → get_or (leaves a sense row c t).cells (get_or row j 0) 0 ≡ kept a sense t (along row c) j
  cell_left j h = put_at row (kept a sense t (along row c)) c j good.different h (omega (arith, good.below j h, proper.size))

  pub duty_left : (j d : ℕ) → j < length row → In (get_or (leaves a sense row c t).cells (get_or row j 0) 0) d → (d < 16) × In (get_or c (get_or row j 0) 0) d × DutyStays a (along row c) sense t j d
  duty_left j d h i =
      let w = sieve_in 16 (get_or (along row c) j 0) (duty_stays a (along row c) sense t j) d (subst (λ (m : ℕ). In m d) (cell_left j h) i) in
      (w.0, subst (λ (m : ℕ). In m d) (along_at row c j h) w.1, (duty_decided a (along row c) sense t j d).0 w.2)

  pub leaves_duty : (j d : ℕ) → j < length row → d < 16 → In (get_or c (get_or row j 0) 0) d → DutyStays a (along row c) sense t j d → In (get_or (leaves a sense row c t).cells (get_or row j 0) 0) d
  leaves_duty j d h l i s =
      subst (λ (m : ℕ). In m d) (sym (cell_left j h))
      (in_sieve 16 (get_or (along row c) j 0) (duty_stays a (along row c) sense t j) d l (subst (λ (m : ℕ). In m d) (sym (along_at row c j h)) i) ((duty_decided a (along row c) sense t j d).1 s))

module _ (a : Automaton) (sense : Sense) (row c : List ℕ) (t k : ℕ) where
  pub count_left : In (leaves a sense row c t).tally k → (k < 64) × In t k × CountStays a (along row c) sense k
  count_left i = let w = sieve_in 64 t (count_stays a (along row c) sense) k i in (w.0, w.1, (count_decided a (along row c) sense k).0 w.2)

  pub leaves_count : k < 64 → In t k → CountStays a (along row c) sense k → In (leaves a sense row c t).tally k
  leaves_count l i s = in_sieve 64 t (count_stays a (along row c) sense) k l i ((count_decided a (along row c) sense k).1 s)
