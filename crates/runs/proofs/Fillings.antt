-- Fillings of a row: one within the masks is a sequence over them, and where each mask has one duty it is the only sequence.
use Rattle.std.proofs.Common.{◌≡◌, ℕ, ◌^◌, ◌<◌, ◌≤◌, cond, List, [], ◌∷◌, get_or, sym, refl, ap, ◌∙◌, subst, ap₂, ⊎_elim, arith}
use Rattle.std.proofs.lemmas.Bool.{cases_lt, cases_eq, eq-eqb, ne_eqb}
use Rattle.masks.specs.Bit.{bit, In}
use Rattle.masks.proofs.Bits.{bit_one, bit_past}
use Rattle.automata.specs.Automaton.{Automaton}
use Rattle.automata.specs.Reading.{total}
use Rattle.sweeps.specs.Sequences.{From, ends, takes}
use Rattle.families.specs.Laws.{Fills, Single}
use Rattle.rules.specs.declared.Sense.{Sense}
use Rattle.rules.specs.declared.Sense.TheVariants.{AtMost, AtLeast, Exactly}
use Rattle.rules.specs.Senses.{Meets}
use Rattle.runs.specs.Stays.{CountStays}
use Rattle.runs.specs.Run.{along}
use Rattle.runs.proofs.Rows.{one_of_later}

-- a member of a mask of n bits is below n
pub in_below : (n m k : ℕ) → m < 2 ^ n → In m k → k < n
in_below n m k small i =
    ⊎_elim (λ (h : k < n). h) (λ (g : n ≤ k). let z : bit m k ≡ 0 = bit_past n m k small g in let o : bit m k ≡ 1 = i in absurd (omega arith)) (cases_lt k n)

-- 2 ^ d has the member d and no other
pub in_one : (d : ℕ) → In (2 ^ d) d
in_one d = bit_one d d ∙ ap (λ b. cond b 1 0) (eq-eqb d d refl)

pub one_in : (d k : ℕ) → In (2 ^ d) k → k ≡ d
one_in d k i =
    ⊎_elim (λ (e : d ≡ k). sym e)
    (λ (n : d ≡ k → ⊥). let z : bit (2 ^ d) k ≡ 0 = bit_one d k ∙ ap (λ b. cond b 1 0) (ne_eqb d k n) in let o : bit (2 ^ d) k ≡ 1 = i in absurd (omega arith))
    (cases_eq d k)

pub from_filling : (row f c : List ℕ) → ((i : ℕ) → get_or c i 0 < 2 ^ 16) → Fills row f c → From (along row c) (along row f)
from_filling [] f c narrow fills = ends
from_filling (x ∷ row) f c narrow fills =
    let i = fills x (0, omega arith, refl) in
    takes (in_below 16 (get_or c x 0) (get_or f x 0) (narrow x) i) i (from_filling row f c narrow (λ j o. fills j (one_of_later x row j o)))

pub single_fills : (row f c : List ℕ) → Single row f c → Fills row f c
single_fills row f c single i o = subst (λ (m : ℕ). In m (get_or f i 0)) (sym (single i o)) (in_one (get_or f i 0))

pub only_filling : (row f c : List ℕ) → Single row f c → {ds : List ℕ} → From (along row c) ds → ds ≡ along row f
only_filling [] f c single ends = refl
only_filling (x ∷ row) f c single (takes {d = d} h i r) =
    ap₂ (λ (y : ℕ) (ys : List ℕ). y ∷ ys)
    (one_in (get_or f x 0) d (subst (λ (m : ℕ). In m d) (single x (0, omega arith, refl)) i))
    (only_filling row f c (λ j o. single j (one_of_later x row j o)) r)

-- there a count stays only if the filling meets it
pub single_meets : (a : Automaton) (sense : Sense) (row f c : List ℕ) (k : ℕ) → Single row f c → CountStays a (along row c) sense k → Meets sense (total a 0 (along row f)) k
single_meets a AtMost row f c k single s = subst (λ ds. total a 0 ds ≤ k) (only_filling row f c single s.1) s.2
single_meets a AtLeast row f c k single s = subst (λ ds. k ≤ total a 0 ds) (only_filling row f c single s.1) s.2
single_meets a Exactly row f c k single s =
    let l = s.2.0 in
    let h = s.2.1 in
    let low : total a 0 (along row f) ≤ k = subst (λ ds. total a 0 ds ≤ k) (only_filling row f c single l.1) l.3 in
    let high : k ≤ total a 0 (along row f) = subst (λ ds. k ≤ total a 0 ds) (only_filling row f c single h.1) h.3 in
    omega arith
