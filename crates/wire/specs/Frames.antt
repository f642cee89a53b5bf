-- What the bytes after a kind show, and when they are refused.
use Rattle.std.specs.Prelude.{◌≡◌, ℕ, zero, suc, ◌+◌, ◌*◌, ◌<◌, ◌≤◌, Bool, true, false, ◌⊎◌, List, length, drop, ◌==◌, nat_le, slice_index}
use Rattle.refusals.specs.declared.FrameFault.{FrameFault}
use Rattle.refusals.specs.declared.FrameFault.TheVariants as faults
use Rattle.wire.specs.declared.frame.Frame.{Frame}
use Rattle.wire.specs.declared.frame.Frame.TheVariants.{Size, Masks, Among, Word, Table, Map, Rule, Start, Decide, Bound, Mark, Back, Publish}
use Rattle.wire.specs.declared.kind.Kind.{Kind}
use Rattle.wire.specs.declared.kind.Kind.TheVariants as kinds

-- whether so many bytes may follow a kind: the length of its fixed part, or that and more where a variable part comes after
abbrev pub fits : Kind → ℕ → Bool
fits kinds.Size n = n == 1
fits kinds.Masks n = n == 4
fits kinds.Among n = n == 2
fits kinds.Word n = true
fits kinds.Table n = nat_le 1 n
fits kinds.Map n = n == 16
fits kinds.Rule n = nat_le 10 n
fits kinds.Start n = n == 0
fits kinds.Decide n = n == 3
fits kinds.Bound n = n == 9
fits kinds.Mark n = n == 0
fits kinds.Back n = n == 0
fits kinds.Publish n = n == 0

-- the number that n bytes make from place i on, the most significant first
abbrev pub big : ℕ → List ℕ → ℕ → ℕ
big zero bytes i = 0
big (suc n) bytes i = 256 * big n bytes i + slice_index bytes (i + n)

-- the frame that the bytes after a kind show
abbrev pub Shows : Kind → List ℕ → Frame → Type 0
Shows kind rest (Size cells) = (kind ≡ kinds.Size) × (cells ≡ slice_index rest 0) × (1 ≤ cells) × (cells ≤ 192)
Shows kind rest (Masks first number mask) = (kind ≡ kinds.Masks) × (first ≡ slice_index rest 0) × (number ≡ slice_index rest 1) × (mask ≡ big 2 rest 2)
Shows kind rest (Among set) = (kind ≡ kinds.Among) × (set ≡ big 2 rest 0)
Shows kind rest (Word duties) = (kind ≡ kinds.Word) × (duties.now ≡ rest)
Shows kind rest (Table states steps) = (kind ≡ kinds.Table) × (states ≡ slice_index rest 0) × (steps.now ≡ drop 1 rest)
Shows kind rest (Map classes) = (kind ≡ kinds.Map) × (classes.now ≡ rest)
Shows kind rest (Rule automaton sense tally cells) =
    (kind ≡ kinds.Rule) × (automaton ≡ slice_index rest 0) × (sense ≡ slice_index rest 1) × (tally ≡ big 8 rest 2) × (cells.now ≡ drop 10 rest)
Shows kind rest Start = kind ≡ kinds.Start
Shows kind rest (Decide cell mask) = (kind ≡ kinds.Decide) × (cell ≡ slice_index rest 0) × (mask ≡ big 2 rest 1)
Shows kind rest (Bound rule tally) = (kind ≡ kinds.Bound) × (rule ≡ slice_index rest 0) × (tally ≡ big 8 rest 1)
Shows kind rest Mark = kind ≡ kinds.Mark
Shows kind rest Back = kind ≡ kinds.Back
Shows kind rest Publish = kind ≡ kinds.Publish

-- The bytes after a kind are judged by their number, and then a plan's size by its cells.
pub data BodyFault (kind : Kind) (rest : List ℕ) : FrameFault → Type 0 where
  wrong_length : fits kind (length rest) ≡ false → BodyFault kind rest faults.Fixed
  no_size : kind ≡ kinds.Size → length rest ≡ 1 → (slice_index rest 0 ≡ 0) ⊎ (192 < slice_index rest 0) → BodyFault kind rest faults.Cells

-- the frame is as long as its kind asks, and shows this
pub record Body (kind : Kind) (rest : List ℕ) (frame : Frame) : Type 0 where
  pub long : fits kind (length rest) ≡ true
  pub shows : Shows kind rest frame
