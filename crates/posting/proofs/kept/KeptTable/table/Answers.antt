use Rattle.std.proofs.Common.{Ok, Err, ℕ, List, Result, refl, MatchResult}
use Rattle.std.specs.Result.{IsOk}
use Rattle.refusals.specs.declared.PostFault.{PostFault}
use Rattle.automata.specs.Faults.{TableFault}
use Rattle.automata.specs.Kinds.{GoodTable}
use Rattle.posting.proofs.Tables.{good_has_no_fault}
use Rattle.posting.proofs.kept.KeptTable.table.Goals as goal

made : {T : Type 0} (s : ℕ) (steps : List ℕ) (r : Result T PostFault) (P : T → Type 0) → GoodTable s steps → MatchResult r P (TableFault s steps) → IsOk r
made s steps (Ok x) P g h = refl
made s steps (Err e) P g h = absurd (good_has_no_fault s steps e g h)

pub unwrap-requires : goal.unwrap-requires
unwrap-requires c = made _ _ _ _ c.args.self.now.good c.new.ensures.made
