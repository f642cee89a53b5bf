-- Rules that keep nothing without a sequence for it, as a property of a rule's meaning.
use Rattle.std.specs.Prelude.{◌≡◌, ℕ, ◌<◌, true, ◌⊎◌, List, length, slice_index}
use Rattle.std.proofs.Common.{inl, inr, arith}
use Rattle.masks.specs.Bit.{In}
use Rattle.automata.specs.Automaton.{Automaton}
use Rattle.automata.specs.Reading.{total}
use Rattle.families.specs.Masks.{Proper}
use Rattle.families.specs.Meaning.{Rule, Meaning}
use Rattle.rules.specs.declared.Sense.{Sense}
use Rattle.rules.specs.declared.Sense.TheVariants.{AtMost, AtLeast, Exactly}
use Rattle.rules.specs.Rows.{Different, GoodRow}
use Rattle.rules.specs.Senses.{Meets}
use Rattle.sweeps.specs.Sequences.{From}
use Rattle.runs.specs.Stays.{DutyStays, CountStays}
use Rattle.runs.specs.Run.{along, counting_rule}
use Rattle.runs.proofs.Decided.{meets_decided}
use Rattle.runs.proofs.Left.{duty_left, count_left}

-- Some automaton and one of the first two senses explain the rule: no cell stands twice in it, a filling whose total meets the count is accepted,
-- and whatever a run leaves, duty or count, occurs in a sequence over the masks before the run that meets a count open then.
pub record KeepsOnlyUsed (r : Rule) : Type 0 where
  pub automaton : Automaton
  pub sense : Sense
  pub one_way : (sense ≡ AtMost) ⊎ (sense ≡ AtLeast)
  pub different : Different r.scope
  pub allowed : (f : List ℕ) (k : ℕ) → ((i : ℕ) → slice_index f i < 16) → k < 64 → Meets sense (total automaton 0 (along r.scope f)) k → r.allows f k ≡ true
  pub duty_used : (c : List ℕ) (t j d : ℕ) → Proper c t → j < length r.scope → In (slice_index (r.leaves c t).cells (slice_index r.scope j)) d
      → (ds : List ℕ) × (k : ℕ) × From (along r.scope c) ds × (slice_index ds j ≡ d) × (k < 64) × In t k × Meets sense (total automaton 0 ds) k
  pub count_used : (c : List ℕ) (t k : ℕ) → Proper c t → In (r.leaves c t).tally k → (ds : List ℕ) × From (along r.scope c) ds × Meets sense (total automaton 0 ds) k

-- every rule of a family is of that kind
abbrev pub AllKeep : Meaning → Type 0
AllKeep m = (r : ℕ) → r < m.rules → KeepsOnlyUsed (m.rule r)

not_one_way : (Exactly ≡ AtMost) ⊎ (Exactly ≡ AtLeast) → ⊥
not_one_way (inl e) = let z : ◌≡◌ {A = ℕ} 0 1 = cc in omega arith
not_one_way (inr e) = let z : ◌≡◌ {A = ℕ} 0 1 = cc in omega arith

-- a duty that stays in a one-way rule is used by a sequence that meets an open count
stays_used : (a : Automaton) (masks : List ℕ) (sense : Sense) → (sense ≡ AtMost) ⊎ (sense ≡ AtLeast) → (t j d : ℕ) → DutyStays a masks sense t j d
    → (ds : List ℕ) × (k : ℕ) × From masks ds × (slice_index ds j ≡ d) × (k < 64) × In t k × Meets sense (total a 0 ds) k
stays_used a masks AtMost one_way t j d (k, l, o, (ds, f, e, m)) = (ds, k, f, e, l, o, m)
stays_used a masks AtLeast one_way t j d (k, l, o, (ds, f, e, m)) = (ds, k, f, e, l, o, m)
stays_used a masks Exactly one_way t j d s = absurd (not_one_way one_way)

count_met : (a : Automaton) (masks : List ℕ) (sense : Sense) → (sense ≡ AtMost) ⊎ (sense ≡ AtLeast) → (k : ℕ) → CountStays a masks sense k → (ds : List ℕ) × From masks ds × Meets sense (total a 0 ds) k
count_met a masks AtMost one_way k s = s
count_met a masks AtLeast one_way k s = s
count_met a masks Exactly one_way k s = absurd (not_one_way one_way)

pub counting_keeps_only_used : (a : Automaton) (sense : Sense) → (sense ≡ AtMost) ⊎ (sense ≡ AtLeast) → (row : List ℕ) (start : ℕ) → GoodRow 192 row → KeepsOnlyUsed (counting_rule a sense row start)
counting_keeps_only_used a sense one_way row start good = record {
  automaton = a;
  sense = sense;
  one_way = one_way;
  different = good.different;
  allowed = λ f k duties small met. (meets_decided sense (total a 0 (along row f)) k).1 met;
  duty_used = λ c t j d p h i. stays_used a (along row c) sense one_way t j d (duty_left a sense row good c t p j d h i).2;
  count_used = λ c t k p i. count_met a (along row c) sense one_way k (count_left a sense row c t k i).2;
}
