-- The order of frames.
use Rattle.std.specs.Prelude.{ℕ, Bool, cond, ◌&&◌, Some, None, Option, ◌==◌, nat_le}
use Rattle.wire.specs.declared.kind.Kind.{Kind}
use Rattle.wire.specs.declared.order.Phase.{Phase}
use Rattle.wire.specs.declared.order.Phase.TheVariants.{Fresh, Draft, Running, Published}
use Rattle.wire.specs.Kinds.{kind_number}

-- whether the number of the kind is in this range
abbrev pub from_to : ℕ → ℕ → Kind → Bool
from_to low high kind = nat_le low (kind_number kind) && nat_le (kind_number kind) high

-- The plan's size opens a file and is not repeated. What a draft is made of follows, up to the start, and then the calls; publishing is the end.
abbrev pub phase_after : Phase → Kind → Option Phase
phase_after Fresh kind = cond (kind_number kind == 0x01) (Some Draft) None
phase_after Draft kind = cond (from_to 0x02 0x07 kind) (Some Draft) (cond (kind_number kind == 0x08) (Some Running) None)
phase_after Running kind = cond (from_to 0x09 0x0c kind) (Some Running) (cond (kind_number kind == 0x0d) (Some Published) None)
phase_after Published kind = None
