-- The order of the masks of a plan, and how many values they hold.
use Rattle.std.proofs.Common.{◌≡◌, ℕ, ◌+◌, ◌*◌, ◌^◌, ◌<◌, ◌≤◌, length, get_or, ◌∙◌, ap₂, lt_of_lt_of_le, lt_of_le_of_lt, arith, pow_mono}
use Rattle.masks.proofs.Parts.{within_le}
use Rattle.families.specs.Masks.{Proper, values_lost}
use Rattle.families.proofs.Losses.{values, values_kept_and_lost, values_same, values_few}
use Rattle.families.proofs.Order.{all_within_refl, all_within_trans, all_within_antisym}
use Rattle.settling.specs.Masks.{Masks, masks, Sized, Inside}

pub inside_refl : (s : Masks) → Inside s s
inside_refl s = record { cells = all_within_refl s.cells; tallies = all_within_refl s.tallies }

pub inside_trans : (s t u : Masks) → Inside s t → Inside t u → Inside s u
inside_trans s t u p q =
    record {
      cells = all_within_trans s.cells t.cells u.cells p.cells q.cells;
      tallies = all_within_trans s.tallies t.tallies u.tallies p.tallies q.tallies;
    }

pub inside_antisym : (s t : Masks) → Inside s t → Inside t s → s ≡ t
inside_antisym s t p q =
    ap₂ masks (all_within_antisym s.cells t.cells p.cells q.cells) (all_within_antisym s.tallies t.tallies p.tallies q.tallies)

-- what is inside masks as they are is as they are
pub sized_inside : (s t : Masks) → Sized t → Inside s t → Sized s
sized_inside s t z p =
    record {
      cells = p.cells.size ∙ z.cells;
      narrow = λ i. lt_of_le_of_lt (within_le (get_or s.cells i 0) (get_or t.cells i 0) (p.cells.each i)) (z.narrow i);
      tallies = p.tallies.size ∙ z.tallies;
      fit = λ r. lt_of_le_of_lt (within_le (get_or s.tallies r 0) (get_or t.tallies r 0) (p.tallies.each r)) (z.fit r);
    }

-- the cells, and the tally of a rule
pub proper : (s : Masks) (r : ℕ) → Sized s → Proper s.cells (get_or s.tallies r 0)
proper s r z = record { size = z.cells; narrow = z.narrow; fits = z.fit r }

-- how many values stand open
abbrev pub room : Masks → ℕ
room s = values s.cells + values s.tallies

wide : (s : Masks) → Sized s → (i : ℕ) → get_or s.cells i 0 < 2 ^ 64
wide s z i = let le : 16 ≤ 64 = omega arith in lt_of_lt_of_le (z.narrow i) (pow_mono le)

-- a part has no more values, and as many only if it is the whole
pub inside_room : (s t : Masks) → Inside s t → room s ≤ room t
inside_room s t p =
    let c : values s.cells + values_lost t.cells s.cells ≡ values t.cells = values_kept_and_lost s.cells t.cells p.cells in
    let d : values s.tallies + values_lost t.tallies s.tallies ≡ values t.tallies = values_kept_and_lost s.tallies t.tallies p.tallies in
    omega arith

pub inside_same : (s t : Masks) → Sized t → Inside s t → room s ≡ room t → s ≡ t
inside_same s t z p e =
    let c : values s.cells + values_lost t.cells s.cells ≡ values t.cells = values_kept_and_lost s.cells t.cells p.cells in
    let d : values s.tallies + values_lost t.tallies s.tallies ≡ values t.tallies = values_kept_and_lost s.tallies t.tallies p.tallies in
    ap₂ masks
    (values_same s.cells t.cells (wide t z) p.cells (omega arith))
    (values_same s.tallies t.tallies z.fit p.tallies (omega arith))

-- 192 cells of at most 16 values and 72 tallies of at most 64
pub room_few : (s : Masks) → Sized s → room s ≤ 7680
room_few s z =
    let a : values s.cells ≤ length s.cells * 16 = values_few 16 s.cells (omega arith) z.narrow in
    let b : values s.tallies ≤ length s.tallies * 64 = values_few 64 s.tallies (omega arith) z.fit in
    let c : length s.cells ≡ 192 = z.cells in
    let d : length s.tallies ≡ 72 = z.tallies in
    omega arith
