-- What each frame before the start posts, and when it is refused.
use Rattle.std.specs.Prelude.{◌≡◌, ℕ, ◌+◌, ◌<◌, ◌≤◌, Bool, true, ◌⊎◌, List, [], ◌∷◌, ◌++◌, length, is_some, Some, None, Option, slice_index}
use Rattle.refusals.specs.Posting.{PostError}
use Rattle.refusals.specs.declared.PostFault.{PostFault}
use Rattle.refusals.specs.declared.PostFault.TheVariants.{Range, EmptyMask, GivenBefore, EmptyTally}
use Rattle.refusals.specs.declared.FrameFault.TheVariants as fault
use Rattle.refusals.specs.Posting.{FrameError}
use Rattle.refusals.specs.declared.Stopped.TheVariants.{Fault, Memory}
use Rattle.refusals.specs.Posting.{Refusing}
use Rattle.automata.specs.Faults.{TableFault, ClassFault}
use Rattle.automata.specs.Kinds.{GoodTable}
use Rattle.words.specs.Faults.{GoodWord, WordFault}
use Rattle.rules.specs.declared.Sense.{Sense}
use Rattle.rules.specs.Rows.{GoodRow, RowFault}
use Rattle.rules.specs.Senses.{sense_number, SenseFault}
use Rattle.planning.specs.Drafts.{RangeSet}
use Rattle.wire.specs.declared.frame.Frame.{Frame}
use Rattle.wire.specs.declared.frame.Frame.TheVariants as frame
use Rattle.posting.specs.declared.counters.Counter.{Counter}
use Rattle.posting.specs.declared.counters.Counter.TheVariants as counter
use Rattle.posting.specs.declared.drafting.Drafted.{Drafted}
use Rattle.posting.specs.declared.drafting.Drafted.TheVariants.{Posted, Start}
use Rattle.posting.specs.Counters.{counter_number, CounterFault}
use Rattle.posting.specs.Slots.{SlotFault}
use Rattle.posting.specs.Sheets.{Sheet, Written}

-- the sheet with other masks
abbrev pub with_masks : List ℕ → Sheet → Sheet
with_masks xs s = record { size = s.size; masks = xs; set = s.set; word = s.word; table = s.table; classes = s.classes; set_rules = s.set_rules; word_rules = s.word_rules; table_rules = s.table_rules }

abbrev pub with_set : ℕ → Sheet → Sheet
with_set x s = record { size = s.size; masks = s.masks; set = Some x; word = s.word; table = s.table; classes = s.classes; set_rules = s.set_rules; word_rules = s.word_rules; table_rules = s.table_rules }

abbrev pub with_word : List ℕ → Sheet → Sheet
with_word xs s = record { size = s.size; masks = s.masks; set = s.set; word = Some xs; table = s.table; classes = s.classes; set_rules = s.set_rules; word_rules = s.word_rules; table_rules = s.table_rules }

abbrev pub with_table : ℕ → List ℕ → Sheet → Sheet
with_table n xs s = record { size = s.size; masks = s.masks; set = s.set; word = s.word; table = Some (record { states = n; bytes = xs }); classes = s.classes; set_rules = s.set_rules; word_rules = s.word_rules; table_rules = s.table_rules }

abbrev pub with_classes : List ℕ → Sheet → Sheet
with_classes xs s = record { size = s.size; masks = s.masks; set = s.set; word = s.word; table = s.table; classes = Some xs; set_rules = s.set_rules; word_rules = s.word_rules; table_rules = s.table_rules }

-- one rule more, the last of its automaton's
abbrev pub with_rule : Counter → Written → Sheet → Sheet
with_rule counter.Among r s = record { size = s.size; masks = s.masks; set = s.set; word = s.word; table = s.table; classes = s.classes; set_rules = s.set_rules ++ (r ∷ []); word_rules = s.word_rules; table_rules = s.table_rules }
with_rule counter.Word r s = record { size = s.size; masks = s.masks; set = s.set; word = s.word; table = s.table; classes = s.classes; set_rules = s.set_rules; word_rules = s.word_rules ++ (r ∷ []); table_rules = s.table_rules }
with_rule counter.Table r s = record { size = s.size; masks = s.masks; set = s.set; word = s.word; table = s.table; classes = s.classes; set_rules = s.set_rules; word_rules = s.word_rules; table_rules = s.table_rules ++ (r ∷ []) }

-- whether the automaton of a kind was given, and its rules
abbrev pub has : Counter → Sheet → Bool
has counter.Among s = is_some s.set
has counter.Word s = is_some s.word
has counter.Table s = is_some s.table

abbrev pub rules_of : Counter → Sheet → List Written
rules_of counter.Among s = s.set_rules
rules_of counter.Word s = s.word_rules
rules_of counter.Table s = s.table_rules

-- a range of the plan's own cells that is not empty
abbrev pub OwnRange : ℕ → ℕ → ℕ → Type 0
OwnRange size first number = (1 ≤ number) × (first + number ≤ size)

-- the cells of the range have the mask
pub record MasksSet (first number mask : ℕ) (s t : Sheet) : Type 0 where
  pub range : OwnRange s.size first number
  pub some : 0 < mask
  pub set : RangeSet first number mask s.masks t.masks
  pub else : t ≡ with_masks t.masks s

-- the range is judged first, then the mask
pub data NoMasks (first number mask : ℕ) (s : Sheet) : PostFault → Type 0 where
  no_range : (number ≡ 0) ⊎ (s.size < first + number) → NoMasks first number mask s Range
  no_duty : OwnRange s.size first number → mask ≡ 0 → NoMasks first number mask s EmptyMask

-- there is one already
abbrev pub NotGivenNow : {A : Type 0} → Option A → PostFault → Type 0
NotGivenNow given e = (e ≡ GivenBefore) × (is_some given ≡ true)

abbrev pub SetGiven : ℕ → Sheet → Sheet → Type 0
SetGiven x s t = (s.set ≡ None) × (t ≡ with_set x s)

abbrev pub WordGiven : List ℕ → Sheet → Sheet → Type 0
WordGiven duties s t = GoodWord duties × (s.word ≡ None) × (t ≡ with_word duties s)

-- a word is judged by itself first
abbrev pub NoWord : List ℕ → Sheet → PostFault → Type 0
NoWord duties s e = WordFault duties e ⊎ (GoodWord duties × NotGivenNow s.word e)

abbrev pub TableGiven : ℕ → List ℕ → Sheet → Sheet → Type 0
TableGiven states steps s t = GoodTable states steps × (s.table ≡ None) × (t ≡ with_table states steps s)

abbrev pub NoTable : ℕ → List ℕ → Sheet → PostFault → Type 0
NoTable states steps s e = TableFault states steps e ⊎ (GoodTable states steps × NotGivenNow s.table e)

-- sixteen classes, each 0 to 15
abbrev pub Classes : List ℕ → Type 0
Classes xs = (k : ℕ) → k < 16 → slice_index xs k < 16

abbrev pub MapGiven : List ℕ → Sheet → Sheet → Type 0
MapGiven classes s t = Classes classes × (s.classes ≡ None) × (t ≡ with_classes classes s)

abbrev pub NoMap : List ℕ → Sheet → PostFault → Type 0
NoMap classes s e = ClassFault classes e ⊎ (Classes classes × NotGivenNow s.classes e)

-- what the numbers of a rule stand for
pub record RuleIs (automaton sense : ℕ) (k : Counter) (z : Sense) : Type 0 where
  pub kind : counter_number k ≡ automaton
  pub meets : sense_number z ≡ sense

-- the rule stands behind the others of its automaton, which is given
pub record RulePosted (automaton sense tally : ℕ) (cells : List ℕ) (s t : Sheet) : Type 0 where
  pub row : GoodRow s.size cells
  pub k : Counter
  pub z : Sense
  pub is : RuleIs automaton sense k z
  pub some : 0 < tally
  pub given : has k s ≡ true
  pub room : length (rules_of k s) < 24
  pub posted : t ≡ with_rule k (record { cells = cells; sense = z; tally = tally }) s

-- A rule is judged by its row, its sense, its automaton's kind, its tally, whether its automaton is given, and whether there is room.
pub data RuleFault (automaton sense tally : ℕ) (cells : List ℕ) (s : Sheet) : PostFault → Type 0 where
  no_row : (e : PostFault) → RowFault s.size cells e → RuleFault automaton sense tally cells s e
  no_sense : GoodRow s.size cells → (e : PostFault) → SenseFault sense e → RuleFault automaton sense tally cells s e
  no_kind : GoodRow s.size cells → (z : Sense) → sense_number z ≡ sense → (e : PostFault) → CounterFault automaton e → RuleFault automaton sense tally cells s e
  no_count : GoodRow s.size cells → (k : Counter) (z : Sense) → RuleIs automaton sense k z → tally ≡ 0 → RuleFault automaton sense tally cells s EmptyTally
  no_room : GoodRow s.size cells → (k : Counter) (z : Sense) → RuleIs automaton sense k z → 0 < tally
      → (e : PostFault) → SlotFault (has k s) (length (rules_of k s)) e → RuleFault automaton sense tally cells s e

-- a fault of the rule, or want of memory where at least its row is good
abbrev pub NoRule : ℕ → ℕ → ℕ → List ℕ → Sheet → PostError → Type 0
NoRule automaton sense tally cells s e = Refusing (RuleFault automaton sense tally cells s) (GoodRow s.size cells) e

-- what a frame posts
abbrev pub Posts : Frame → Sheet → Sheet → Type 0
Posts (frame.Masks first number mask) s t = MasksSet first number mask s t
Posts (frame.Among set) s t = SetGiven set s t
Posts (frame.Word duties) s t = WordGiven duties.now s t
Posts (frame.Table states steps) s t = TableGiven states steps.now s t
Posts (frame.Map classes) s t = MapGiven classes.now s t
Posts (frame.Rule automaton sense tally cells) s t = RulePosted automaton sense tally cells.now s t
Posts (frame.Size cells) s t = ⊥
Posts frame.Start s t = ⊥
Posts (frame.Decide cell mask) s t = ⊥
Posts (frame.Bound rule tally) s t = ⊥
Posts frame.Mark s t = ⊥
Posts frame.Back s t = ⊥
Posts frame.Publish s t = ⊥

-- a frame was posted, or it asks for the start, which changes nothing here
abbrev pub Taken : Frame → Sheet → Sheet → Drafted → Type 0
Taken f s t Posted = Posts f s t
Taken f s t Start = (f ≡ frame.Start) × (t ≡ s)

-- what is wrong with a frame that posts
abbrev pub NoPost : Frame → Sheet → PostFault → Type 0
NoPost (frame.Masks first number mask) s e = NoMasks first number mask s e
NoPost (frame.Among set) s e = NotGivenNow s.set e
NoPost (frame.Word duties) s e = NoWord duties.now s e
NoPost (frame.Table states steps) s e = NoTable states steps.now s e
NoPost (frame.Map classes) s e = NoMap classes.now s e
NoPost (frame.Rule automaton sense tally cells) s e = RuleFault automaton sense tally cells.now s e
NoPost (frame.Size cells) s e = ⊥
NoPost frame.Start s e = ⊥
NoPost (frame.Decide cell mask) s e = ⊥
NoPost (frame.Bound rule tally) s e = ⊥
NoPost frame.Mark s e = ⊥
NoPost frame.Back s e = ⊥
NoPost frame.Publish s e = ⊥

-- only a rule takes memory
abbrev pub TakesMemory : Frame → Sheet → Type 0
TakesMemory (frame.Rule automaton sense tally cells) s = GoodRow s.size cells.now
TakesMemory (frame.Masks first number mask) s = ⊥
TakesMemory (frame.Among set) s = ⊥
TakesMemory (frame.Word duties) s = ⊥
TakesMemory (frame.Table states steps) s = ⊥
TakesMemory (frame.Map classes) s = ⊥
TakesMemory (frame.Size cells) s = ⊥
TakesMemory frame.Start s = ⊥
TakesMemory (frame.Decide cell mask) s = ⊥
TakesMemory (frame.Bound rule tally) s = ⊥
TakesMemory frame.Mark s = ⊥
TakesMemory frame.Back s = ⊥
TakesMemory frame.Publish s = ⊥

-- the frames that may not come before the start
pub data NoDraft : Frame → Type 0 where
  size : (cells : ℕ) → NoDraft (frame.Size cells)
  decide : (cell mask : ℕ) → NoDraft (frame.Decide cell mask)
  bound : (rule tally : ℕ) → NoDraft (frame.Bound rule tally)
  mark : NoDraft frame.Mark
  back : NoDraft frame.Back
  publish : NoDraft frame.Publish

-- why a frame is not carried out on a draft
pub data Refused (f : Frame) (s : Sheet) : FrameError → Type 0 where
  at_post : (e : PostFault) → NoPost f s e → Refused f s (Fault (fault.Post e))
  out_of_order : NoDraft f → Refused f s (Fault fault.Order)
  no_memory : TakesMemory f s → Refused f s Memory
