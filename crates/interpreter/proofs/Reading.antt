-- The frames that may come to a running plan make calls.
use Rattle.std.proofs.Common.{◌≡◌, ℕ, true, List, Some, None, Ok, Err, Result, sym, refl, ap, ◌∙◌}
use Rattle.refusals.specs.declared.FrameFault.{FrameFault}
use Rattle.refusals.specs.declared.PlanFault.{PlanFault}
use Rattle.planning.specs.declared.plan.Try.{Try}
use Rattle.wire.specs.declared.frame.Frame.{Frame}
use Rattle.wire.specs.declared.kind.Kind.{Kind}
use Rattle.wire.specs.declared.kind.Kind.TheVariants as kinds
use Rattle.wire.specs.declared.order.Phase.{Phase}
use Rattle.wire.specs.declared.order.Phase.TheVariants.{Running}
use Rattle.wire.specs.Order.{phase_after}
use Rattle.wire.specs.Reading.{Reads}
use Rattle.interpreter.specs.declared.file.Told.TheVariants.{Decided, Bounded}
use Rattle.interpreter.specs.Calls.{leaves_workspace, NoCall, size, masks, among, word, table, map, rule, start}

no_order : (kind other : Kind) (after : Phase) → phase_after Running kind ≡ Some after → kind ≡ other → phase_after Running other ≡ None → ⊥
no_order kind other after order is none = cc (sym none ∙ (ap (phase_after Running) (sym is) ∙ order))

pub read_is_call : (bytes : List ℕ) (after : Phase) (f : Frame) (e : FrameFault) → Reads Running bytes after f → NoCall f e → ⊥
read_is_call bytes after f e r (size n) = no_order r.kind kinds.Size after r.order r.body.shows.0 refl
read_is_call bytes after f e r (masks x n m) = no_order r.kind kinds.Masks after r.order r.body.shows.0 refl
read_is_call bytes after f e r (among x) = no_order r.kind kinds.Among after r.order r.body.shows.0 refl
read_is_call bytes after f e r (word x) = no_order r.kind kinds.Word after r.order r.body.shows.0 refl
read_is_call bytes after f e r (table n x) = no_order r.kind kinds.Table after r.order r.body.shows.0 refl
read_is_call bytes after f e r (map x) = no_order r.kind kinds.Map after r.order r.body.shows.0 refl
read_is_call bytes after f e r (rule a s t x) = no_order r.kind kinds.Rule after r.order r.body.shows.0 refl
read_is_call bytes after f e r start = no_order r.kind kinds.Start after r.order r.body.shows refl

-- a try that is refused leaves the workspace
pub decide_leaves : (cell : ℕ) (r : Result Try PlanFault) {xs ys : List ℕ} → ((e : PlanFault) → r ≡ Err e → xs ≡ ys) → leaves_workspace {E = FrameFault} (Ok (Decided cell r)) ≡ true → xs ≡ ys
decide_leaves cell (Ok t) f h = cc h
decide_leaves cell (Err e) f h = f e refl

pub bound_leaves : (n : ℕ) (r : Result Try PlanFault) {xs ys : List ℕ} → ((e : PlanFault) → r ≡ Err e → xs ≡ ys) → leaves_workspace {E = FrameFault} (Ok (Bounded n r)) ≡ true → xs ≡ ys
bound_leaves n (Ok t) f h = cc h
bound_leaves n (Err e) f h = f e refl
