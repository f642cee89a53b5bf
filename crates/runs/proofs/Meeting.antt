-- What the codes by way of a state, and at the end, say of the sequences there.
use Rattle.std.proofs.Common.{◌≡◌, ℕ, ◌+◌, ◌-◌, ◌*◌, ◌<◌, ◌≤◌, min, cond, eqb, ◌≢◌, ◌↔◌, List, length, get_or, take, sym, refl, ap, ◌∙◌, subst, ⊎_elim, arith}
use Rattle.std.proofs.lemmas.List.{take_all}
use Rattle.std.proofs.lemmas.Bool.{cases_eq, eq-eqb, ne_eqb}
use Rattle.automata.specs.Automaton.{Automaton, Lawful}
use Rattle.automata.specs.Reading.{total}
use Rattle.measures.specs.Measuring.{Measuring}
use Rattle.measures.specs.Kinds.{least, least_laws, greatest, greatest_laws, top}
use Rattle.rules.specs.declared.Sense.{Sense}
use Rattle.rules.specs.declared.Sense.TheVariants.{AtMost, AtLeast, Exactly}
use Rattle.sweeps.specs.Sequences.{From}
use Rattle.sweeps.specs.Sweep.{forward_at, backward_at}
use Rattle.sweeps.proofs.Finds.{forward_some, forward_each, backward_some, backward_each}
use Rattle.sweeps.proofs.KindsSee.{least_sees, greatest_sees}
use Rattle.runs.specs.declared.Ways.{Ways}
use Rattle.runs.specs.Codes.{BothWays, Needed, MetThrough, MetAtEnd}

-- what a run has at hand, for the sense that it has
pub needed_at : (a : Automaton) (masks : List ℕ) (l g : Ways) {s t : Sense} → s ≡ t → Needed s a masks l g → Needed t a masks l g
needed_at a masks l g e w = subst (λ (u : Sense). Needed u a masks l g) e w

-- both codes by way of a state are there to be read
pub ways_long : (a : Automaton) → Lawful a → (masks : List ℕ) (i q d next : ℕ) {m : Measuring} {forth back : List ℕ} → BothWays m a masks forth back → i < length masks → q < a.states → next ≡ a.next q d
    → (16 * i + q < length forth) × (16 * i + 16 + next < length back)
ways_long a lawful masks i q d next w within state goes = (omega (arith, lawful.few, w.forth_long), omega (arith, lawful.few, lawful.next_below q d, w.back_long))

-- the code of the greatest total by way of two codes
abbrev pub greatest_by : ℕ → ℕ → ℕ → ℕ
greatest_by first increase second = cond (eqb first 0) 0 (cond (eqb second 0) 0 (min (first + increase + (second - 1)) top))

pub some_by : (f n s k : ℕ) → k < greatest_by f n s → (1 ≤ f) × (1 ≤ s) × (k < min (f + n + (s - 1)) top)
some_by f n s k h = ⊎_elim
    (λ (z : f ≡ 0). let e = ap (λ b. cond b 0 (cond (eqb s 0) 0 (min (f + n + (s - 1)) top))) (eq-eqb f 0 z) in absurd (omega arith))
    (λ (nf : f ≡ 0 → ⊥). ⊎_elim
    (λ (z : s ≡ 0).
    let e = ap (λ b. cond b 0 (cond (eqb s 0) 0 (min (f + n + (s - 1)) top))) (ne_eqb f 0 nf) in
    let g = ap (λ b. cond b 0 (min (f + n + (s - 1)) top)) (eq-eqb s 0 z) in absurd (omega arith))
    (λ (ns : s ≡ 0 → ⊥).
    let e = ap (λ b. cond b 0 (cond (eqb s 0) 0 (min (f + n + (s - 1)) top))) (ne_eqb f 0 nf) in
    let g = ap (λ b. cond b 0 (min (f + n + (s - 1)) top)) (ne_eqb s 0 ns) in
    let x : f ≢ 0 = nf in
    let y : s ≢ 0 = ns in
    (omega arith, omega arith, omega arith))
    (cases_eq s 0))
    (cases_eq f 0)

pub by_some : (f n s k : ℕ) → 1 ≤ f → 1 ≤ s → k < min (f + n + (s - 1)) top → k < greatest_by f n s
by_some f n s k hf hs h =
    let e = ap (λ b. cond b 0 (cond (eqb s 0) 0 (min (f + n + (s - 1)) top))) (ne_eqb f 0 (λ z. omega arith)) in
    let g = ap (λ b. cond b 0 (min (f + n + (s - 1)) top)) (ne_eqb s 0 (λ z. omega arith)) in
    omega arith

module _ (a : Automaton) (lawful : Lawful a) (masks : List ℕ) (i q d k next increase : ℕ) (within : i < length masks) (state : q < a.states) (small : k < 64) (goes : next ≡ a.next q d) (adds : increase ≡ a.increase q d) where
  pub least_through : {forth back : List ℕ} → BothWays least a masks forth back
      → (min (get_or forth (16 * i + q) 0 + increase + get_or back (16 * i + 16 + next) 0) top ≤ k) ↔ MetThrough AtMost a masks i q d k
  least_through {forth} {back} w = (there, here)
    where
      F : ℕ
      F = forward_at least a masks i q

      B : ℕ
      B = backward_at least a masks (i + 1) (a.next q d)

      f : get_or forth (16 * i + q) 0 ≡ F
      f = w.forward i q (omega arith) state

      b : get_or back (16 * i + 16 + next) 0 ≡ B
      b = ap (λ (j : ℕ). get_or back j 0) (omega arith) ∙ w.backward (i + 1) (a.next q d) (omega arith) (lawful.next_below q d)

      there : min (get_or forth (16 * i + q) 0 + increase + get_or back (16 * i + 16 + next) 0) top ≤ k → MetThrough AtMost a masks i q d k
      there h =
          let fs = f in
          let bs = b in
          let pre = forward_some least_laws (least_sees F (omega arith)) a masks i q (omega arith) in
          let post = backward_some least_laws (least_sees B (omega arith)) a masks (i + 1) (a.next q d) (omega arith) in
          let x : min (0 + total a 0 pre.0) top ≤ F = pre.3 in
          let y : min (0 + total a (a.next q d) post.0) top ≤ B = post.2 in
          (pre.0, post.0, record { before = pre.1; leads = pre.2; behind = post.1 }, omega arith)

      here : MetThrough AtMost a masks i q d k → min (get_or forth (16 * i + q) 0 + increase + get_or back (16 * i + 16 + next) 0) top ≤ k
      here p =
          let fs = f in
          let bs = b in
          let t = p.3 in
          let x : F ≤ total a 0 p.0 = forward_each least_laws (least_sees (total a 0 p.0) (omega arith)) a masks i q p.2.before p.2.leads (omega arith) in
          let y : B ≤ total a (a.next q d) p.1 = backward_each least_laws (least_sees (total a (a.next q d) p.1) (omega arith)) a masks (i + 1) (a.next q d) p.2.behind (omega arith) in
          omega arith

  pub greatest_through : {forth back : List ℕ} → BothWays greatest a masks forth back
      → (k < greatest_by (get_or forth (16 * i + q) 0) increase (get_or back (16 * i + 16 + next) 0)) ↔ MetThrough AtLeast a masks i q d k
  greatest_through {forth} {back} w = (there, here)
    where
      F : ℕ
      F = forward_at greatest a masks i q

      B : ℕ
      B = backward_at greatest a masks (i + 1) (a.next q d)

      f : get_or forth (16 * i + q) 0 ≡ F
      f = w.forward i q (omega arith) state

      b : get_or back (16 * i + 16 + next) 0 ≡ B
      b = ap (λ (j : ℕ). get_or back j 0) (omega arith) ∙ w.backward (i + 1) (a.next q d) (omega arith) (lawful.next_below q d)

      there : k < greatest_by (get_or forth (16 * i + q) 0) increase (get_or back (16 * i + 16 + next) 0) → MetThrough AtLeast a masks i q d k
      there h =
          let fs = f in
          let bs = b in
          let s = some_by (get_or forth (16 * i + q) 0) increase (get_or back (16 * i + 16 + next) 0) k h in
          let pre = forward_some greatest_laws (greatest_sees F (omega (arith, s.0))) a masks i q (omega arith) in
          let post = backward_some greatest_laws (greatest_sees B (omega (arith, s.1))) a masks (i + 1) (a.next q d) (omega arith) in
          let x : F ≤ min (1 + total a 0 pre.0) top = pre.3 in
          let y : B ≤ min (1 + total a (a.next q d) post.0) top = post.2 in
          (pre.0, post.0, record { before = pre.1; leads = pre.2; behind = post.1 }, omega (arith, s.0, s.1, s.2))

      here : MetThrough AtLeast a masks i q d k → k < greatest_by (get_or forth (16 * i + q) 0) increase (get_or back (16 * i + 16 + next) 0)
      here p =
          let fs = f in
          let bs = b in
          let t = p.3 in
          let m : ℕ = min (1 + total a 0 p.0) top in
          let n : ℕ = min (1 + total a (a.next q d) p.1) top in
          let x : m ≤ F = forward_each greatest_laws (greatest_sees m (omega arith)) a masks i q p.2.before p.2.leads (omega arith) in
          let y : n ≤ B = backward_each greatest_laws (greatest_sees n (omega arith)) a masks (i + 1) (a.next q d) p.2.behind (omega arith) in
          by_some (get_or forth (16 * i + q) 0) increase (get_or back (16 * i + 16 + next) 0) k (omega arith) (omega arith) (omega arith)

module _ (a : Automaton) (masks : List ℕ) (q k : ℕ) (state : q < a.states) (small : k < 64) where
  all : take (length masks) masks ≡ masks
  all = take_all (length masks) masks (omega arith)

  pub least_at_end : {forth back : List ℕ} → BothWays least a masks forth back → (get_or forth (16 * length masks + q) 0 ≤ k) ↔ MetAtEnd AtMost a masks q k
  least_at_end {forth} w = (
    λ h.
        let fs = f in
        let s = forward_some least_laws (least_sees k (omega arith)) a masks (length masks) q (omega arith) in
        let x : min (0 + total a 0 s.0) top ≤ k = s.3 in
        (s.0, subst (λ ms. From ms s.0) all s.1, s.2, omega arith),
    λ p.
        let fs = f in
        let x : forward_at least a masks (length masks) q ≤ k =
        forward_each least_laws (least_sees k (omega arith)) a masks (length masks) q (subst (λ ms. From ms p.0) (sym all) p.1) p.2 (omega (arith, p.3)) in
        omega arith,
  )
    where
      f : get_or forth (16 * length masks + q) 0 ≡ forward_at least a masks (length masks) q
      f = w.forward (length masks) q (omega arith) state

  pub greatest_at_end : {forth back : List ℕ} → BothWays greatest a masks forth back → (k < get_or forth (16 * length masks + q) 0) ↔ MetAtEnd AtLeast a masks q k
  greatest_at_end {forth} w = (
    λ h.
        let fs = f in
        let s = forward_some greatest_laws (greatest_sees (k + 1) (omega arith)) a masks (length masks) q (omega arith) in
        let x : k + 1 ≤ min (1 + total a 0 s.0) top = s.3 in
        (s.0, subst (λ ms. From ms s.0) all s.1, s.2, omega arith),
    λ p.
        let fs = f in
        let t = p.3 in
        let m : k + 1 ≤ min (1 + total a 0 p.0) top = omega arith in
        let x : k + 1 ≤ forward_at greatest a masks (length masks) q =
        forward_each greatest_laws (greatest_sees (k + 1) (omega arith)) a masks (length masks) q (subst (λ ms. From ms p.0) (sym all) p.1) p.2 m in
        omega arith,
  )
    where
      f : get_or forth (16 * length masks + q) 0 ≡ forward_at greatest a masks (length masks) q
      f = w.forward (length masks) q (omega arith) state

-- where the forward code says that there is none, no count is met
pub unreached_least : (a : Automaton) (masks : List ℕ) (i q d k : ℕ) {forth back : List ℕ} → BothWays least a masks forth back → i < length masks → q < a.states → k < 64
    → get_or forth (16 * i + q) 0 ≡ top → MetThrough AtMost a masks i q d k → ⊥
unreached_least a masks i q d k w within state small none p =
    let t = p.3 in
    let f = w.forward i q (omega arith) state in
    let x = forward_each least_laws (least_sees (total a 0 p.0) (omega arith)) a masks i q p.2.before p.2.leads (omega arith) in
    omega arith

pub unreached_greatest : (a : Automaton) (masks : List ℕ) (i q d k : ℕ) {forth back : List ℕ} → BothWays greatest a masks forth back → i < length masks → q < a.states
    → get_or forth (16 * i + q) 0 ≡ 0 → MetThrough AtLeast a masks i q d k → ⊥
unreached_greatest a masks i q d k w within state none p =
    let f = w.forward i q (omega arith) state in
    let m : 1 ≤ min (1 + total a 0 p.0) top = omega arith in
    let x = forward_each greatest_laws (greatest_sees 1 (omega arith)) a masks i q p.2.before p.2.leads m in
    omega arith

-- the same for the senses that read the least totals
pub unreached : (sense : Sense) (a : Automaton) (masks : List ℕ) (l g : Ways) (i q d k : ℕ) → (sense ≡ AtLeast → ⊥) → Needed sense a masks l g → i < length masks → q < a.states → k < 64
    → get_or l.forth.now (16 * i + q) 0 ≡ top → MetThrough sense a masks i q d k → ⊥
unreached AtMost a masks l g i q d k ne w within state small none p = unreached_least a masks i q d k w within state small none p
unreached AtLeast a masks l g i q d k ne w within state small none p = ne refl
unreached Exactly a masks l g i q d k ne w within state small none p = unreached_least a masks i q d k w.0 within state small none p.0
