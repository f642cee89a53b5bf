-- What stays in a run of a rule, in terms of the sequences over its masks at entry.
use Rattle.std.specs.Prelude.{◌≡◌, ℕ, ◌+◌, ◌<◌, ◌≤◌, Bool, ◌&&◌, List, take, drop, ◌==◌, nat_le, slice_index}
use Rattle.masks.specs.Bit.{In}
use Rattle.masks.specs.Members.{members}
use Rattle.automata.specs.Automaton.{Automaton}
use Rattle.automata.specs.Reading.{end, total}
use Rattle.sweeps.specs.Sequences.{From, sequences, leading}
use Rattle.sweeps.specs.Place.{up_to}
use Rattle.rules.specs.declared.Sense.{Sense}
use Rattle.rules.specs.declared.Sense.TheVariants.{AtMost, AtLeast, Exactly}
use Rattle.rules.specs.Senses.{Meets, meets}
use Rattle.runs.specs.Choosing.{any}

module _ (a : Automaton) (masks : List ℕ) where
  -- the total of a sequence that has pre before place i, where it comes to state q, duty d there, and post behind it
  abbrev pub joined : ℕ → ℕ → List ℕ → List ℕ → ℕ
  joined q d pre post = total a 0 pre + (a.increase q d + total a (a.next q d) post)

  -- pre and post are sequences over the masks before and behind place i, and pre leads to state q
  pub record Around (i q : ℕ) (pre post : List ℕ) : Type 0 where
    pub before : From (take i masks) pre
    pub leads : end a 0 pre ≡ q
    pub behind : From (drop (i + 1) masks) post

  -- some sequence uses duty d at place i and has a total that meets k
  abbrev pub Through : Sense → ℕ → ℕ → ℕ → Type 0
  Through sense i d k = (ds : List ℕ) × From masks ds × (slice_index ds i ≡ d) × Meets sense (total a 0 ds) k

  -- k lies in the interval of state q: between the least and the greatest total by way of q and d at place i
  abbrev pub Between : ℕ → ℕ → ℕ → ℕ → Type 0
  Between i q d k =
      ((pre : List ℕ) × (post : List ℕ) × Around i q pre post × (joined q d pre post ≤ k))
      × ((pre : List ℕ) × (post : List ℕ) × Around i q pre post × (k ≤ joined q d pre post))

  -- k lies between the least and the greatest total of the sequences that end in state q
  abbrev pub EndsBetween : ℕ → ℕ → Type 0
  EndsBetween q k =
      ((ds : List ℕ) × From masks ds × (end a 0 ds ≡ q) × (total a 0 ds ≤ k)) × ((ds : List ℕ) × From masks ds × (end a 0 ds ≡ q) × (k ≤ total a 0 ds))

  -- Duty d stays at place i. At most and at least: some sequence through it meets an open count. Exactly: the interval of some state contains one.
  abbrev pub DutyStays : Sense → ℕ → ℕ → ℕ → Type 0
  DutyStays AtMost tally i d = (k : ℕ) × (k < 64) × In tally k × Through AtMost i d k
  DutyStays AtLeast tally i d = (k : ℕ) × (k < 64) × In tally k × Through AtLeast i d k
  DutyStays Exactly tally i d = (q : ℕ) × (q < a.states) × ((k : ℕ) × (k < 64) × In tally k × Between i q d k)

  -- Count k stays. At most and at least: some sequence meets it. Exactly: it lies between the least and the greatest total of some end state.
  abbrev pub CountStays : Sense → ℕ → Type 0
  CountStays AtMost k = (ds : List ℕ) × From masks ds × Meets AtMost (total a 0 ds) k
  CountStays AtLeast k = (ds : List ℕ) × From masks ds × Meets AtLeast (total a 0 ds) k
  CountStays Exactly k = (q : ℕ) × (q < a.states) × EndsBetween q k

  -- the same as tests, by the list of all sequences
  abbrev pub through : Sense → ℕ → ℕ → ℕ → Bool
  through sense i d k = any (λ ds. (slice_index ds i == d) && meets sense (total a 0 ds) k) (sequences masks)

  abbrev pub around : ℕ → ℕ → (List ℕ → List ℕ → Bool) → Bool
  around i q p = any (λ pre. any (p pre) (sequences (drop (i + 1) masks))) (leading a q (sequences (take i masks)))

  abbrev pub between : ℕ → ℕ → ℕ → ℕ → Bool
  between i q d k = around i q (λ pre post. nat_le (joined q d pre post) k) && around i q (λ pre post. nat_le k (joined q d pre post))

  abbrev pub ends_between : ℕ → ℕ → Bool
  ends_between q k = any (λ ds. nat_le (total a 0 ds) k) (leading a q (sequences masks)) && any (λ ds. nat_le k (total a 0 ds)) (leading a q (sequences masks))

  abbrev pub duty_stays : Sense → ℕ → ℕ → ℕ → Bool
  duty_stays AtMost tally i d = any (through AtMost i d) (members 64 tally)
  duty_stays AtLeast tally i d = any (through AtLeast i d) (members 64 tally)
  duty_stays Exactly tally i d = any (λ q. any (between i q d) (members 64 tally)) (up_to a.states)

  abbrev pub count_stays : Sense → ℕ → Bool
  count_stays AtMost k = any (λ ds. meets AtMost (total a 0 ds) k) (sequences masks)
  count_stays AtLeast k = any (λ ds. meets AtLeast (total a 0 ds) k) (sequences masks)
  count_stays Exactly k = any (λ q. ends_between q k) (up_to a.states)
