-- What a file has posted, in the words of the file.
use Rattle.std.specs.Prelude.{ℕ, ◌*◌, List, [], map, take, replicate, Some, None, vec_items, Option}
use Rattle.automata.specs.declared.Among.{Among}
use Rattle.words.specs.declared.Word.{Word}
use Rattle.rules.specs.declared.Rule.{Rule}
use Rattle.rules.specs.declared.Sense.{Sense}
use Rattle.posting.specs.declared.kept.KeptTable.{KeptTable}
use Rattle.posting.specs.declared.drafting.FileDraft.{FileDraft}

-- a rule as it is written down: its row, its sense and its start tally
pub record Written : Type 0 where
  pub cells : List ℕ
  pub sense : Sense
  pub tally : ℕ

-- a table as it is written down
pub record Steps : Type 0 where
  pub states : ℕ
  pub bytes : List ℕ

-- the number of cells and their masks; each automaton and the map, once given; and the rules of each automaton in their order
pub record Sheet : Type 0 where
  pub size : ℕ
  pub masks : List ℕ
  pub set : Option ℕ
  pub word : Option (List ℕ)
  pub table : Option Steps
  pub classes : Option (List ℕ)
  pub set_rules : List Written
  pub word_rules : List Written
  pub table_rules : List Written

-- nothing posted: every duty is open
abbrev pub new_sheet : ℕ → Sheet
new_sheet size = record { size = size; masks = replicate 192 65535; set = None; word = None; table = None; classes = None; set_rules = []; word_rules = []; table_rules = [] }

-- f of what was given
abbrev pub of_given : {A B : Type 0} → (A → B) → Option A → Option B
of_given f None = None
of_given f (Some x) = Some (f x)

abbrev pub written : Rule → Written
written r = record { cells = vec_items r.row.cells; sense = r.sense; tally = r.tally }

abbrev pub duties_of : Word → List ℕ
duties_of w = w.duties.items

abbrev pub steps_of : KeptTable → Steps
steps_of k = record { states = k.states; bytes = take (16 * k.states) k.bytes }

abbrev pub sheet_of : FileDraft → Sheet
sheet_of d = record {
  size = d.size.cells;
  masks = d.draft.cells;
  set = of_given (λ (a : Among). a.set) d.among.automaton;
  word = of_given duties_of d.word.automaton;
  table = of_given steps_of d.table.automaton;
  classes = d.classes;
  set_rules = map written (vec_items d.among.rules.rules);
  word_rules = map written (vec_items d.word.rules.rules);
  table_rules = map written (vec_items d.table.rules.rules);
}
