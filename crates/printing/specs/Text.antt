-- What is printed, as lists of characters.
use Rattle.std.specs.Prelude.{ℕ, ◌/◌, ◌%◌, false, List, [], ◌∷◌, ◌++◌, Some, None, Ok, Err, codes, decimal, Option, Result}
use Rattle.std.specs.Fmt.{digit_glyph}
use Rattle.refusals.specs.declared.Layer.{Layer}
use Rattle.refusals.specs.declared.Layer.TheVariants.{Line, Frame, Post, Plan}
use Rattle.refusals.specs.declared.PlanFault.{PlanFault}
use Rattle.refusals.specs.declared.Report.{Report}
use Rattle.refusals.specs.Reports.{plan_report}
use Rattle.settling.specs.declared.Work.{Work}
use Rattle.settling.specs.declared.Spot.{Spot}
use Rattle.settling.specs.declared.Spot.TheVariants.{Cell, Tally}
use Rattle.settling.specs.declared.Failure.{Failure}
use Rattle.measures.specs.declared.Figures.{Figures}
use Rattle.planning.specs.declared.plan.Start.{Start}
use Rattle.planning.specs.declared.plan.Start.TheVariants as start
use Rattle.planning.specs.declared.plan.Try.{Try}
use Rattle.planning.specs.declared.plan.Try.TheVariants.{Settled, Failed, Own}
use Rattle.interpreter.specs.declared.file.Told.{Told}
use Rattle.interpreter.specs.declared.file.Told.TheVariants.{Started, Decided, Bounded, Marked, Backed, Publish}

abbrev pub work_text : Work → List ℕ
work_text w = codes "ok runs " ++ (decimal w.runs ++ (codes " removed " ++ decimal w.removed))

-- the mask that is empty; a tally is named by its rule
abbrev pub spot_text : ℕ → Spot → ℕ → List ℕ
spot_text rule (Cell cell) runs = codes "rule " ++ (decimal rule ++ (codes " cell " ++ (decimal cell ++ (codes " runs " ++ decimal runs))))
spot_text rule Tally runs = codes "rule " ++ (decimal rule ++ (codes " tally " ++ (decimal rule ++ (codes " runs " ++ decimal runs))))

abbrev pub failure_text : Failure → List ℕ
failure_text f = spot_text f.rule f.spot f.work.runs

abbrev pub layer_text : Layer → List ℕ
layer_text Line = codes "line"
layer_text Frame = codes "frame"
layer_text Post = codes "post"
layer_text Plan = codes "plan"

abbrev pub refusal_text : Report → List ℕ
refusal_text r = codes "refused " ++ (decimal r.number ++ (codes " " ++ (layer_text r.layer ++ (codes " " ++ decimal r.place))))

abbrev pub try_text : List ℕ → List ℕ → ℕ → Result Try PlanFault → List ℕ
try_text call mask index (Ok (Settled w)) = call ++ (codes " " ++ work_text w)
try_text call mask index (Ok (Failed f)) = call ++ (codes " fails " ++ failure_text f)
try_text call mask index (Ok Own) = call ++ (codes " fails own " ++ (mask ++ (codes " " ++ (decimal index ++ codes " runs 0"))))
try_text call mask index (Err e) = refusal_text (plan_report e)

abbrev pub start_text : Start → List ℕ
start_text (start.Settled w) = codes "start " ++ work_text w
start_text (start.Void f) = codes "start void " ++ failure_text f
start_text start.Short = codes "start void runs 0"

abbrev pub level_text : List ℕ → Result ℕ PlanFault → List ℕ
level_text call (Ok n) = call ++ (codes " ok level " ++ decimal n)
level_text call (Err e) = refusal_text (plan_report e)

abbrev pub told_text : Told → List ℕ
told_text (Started s) = start_text s
told_text (Decided cell r) = try_text (codes "decide") (codes "cell") cell r
told_text (Bounded rule r) = try_text (codes "bound") (codes "tally") rule r
told_text (Marked r) = level_text (codes "mark") r
told_text (Backed r) = level_text (codes "back") r
told_text Publish = codes "publish ok"

abbrev pub fault_text : ℕ → Report → List ℕ
fault_text line r = decimal line ++ (codes " " ++ refusal_text r)

-- want of memory has no number
abbrev pub memory_text : ℕ → List ℕ
memory_text line = decimal line ++ codes " out of memory"

abbrev pub digit_text : ℕ → List ℕ
digit_text n = digit_glyph false n ∷ []

-- four digits, the most significant first
abbrev pub hex_text : ℕ → List ℕ
hex_text n = digit_text (n / 4096) ++ (digit_text (n / 256 % 16) ++ (digit_text (n / 16 % 16) ++ digit_text (n % 16)))

-- sixteen
abbrev pub long_hex_text : ℕ → List ℕ
long_hex_text n = hex_text (n / 0x1000000000000) ++ (hex_text (n / 0x100000000 % 0x10000) ++ (hex_text (n / 0x10000 % 0x10000) ++ hex_text (n % 0x10000)))

abbrev pub cell_text : ℕ → ℕ → List ℕ
cell_text cell mask = codes "cell " ++ (decimal cell ++ (codes " " ++ hex_text mask))

abbrev pub rule_text : ℕ → ℕ → Option Figures → List ℕ
rule_text rule tally (Some f) = codes "rule " ++ (decimal rule ++ (codes " " ++ (long_hex_text tally ++ (codes " " ++ (decimal f.least ++ (codes " " ++ decimal f.greatest))))))
rule_text rule tally None = codes "rule " ++ (decimal rule ++ (codes " " ++ (long_hex_text tally ++ codes " none none")))
