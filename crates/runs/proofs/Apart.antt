-- A sequence taken apart at a place, and put together again.
use Rattle.std.proofs.Common.{◌≡◌, ℕ, zero, suc, ◌+◌, ◌<◌, ◌↔◌, List, [], ◌∷◌, ◌++◌, length, get_or, take, drop, sym, refl, ap, ◌∙◌, subst, add-one, arith}
use Rattle.masks.specs.Bit.{In}
use Rattle.automata.specs.Automaton.{Automaton, Lawful}
use Rattle.automata.specs.Reading.{end, total}
use Rattle.automata.proofs.Readings.{total_append, end_below}
use Rattle.sweeps.specs.Sequences.{From, ends, takes}
use Rattle.runs.specs.Stays.{joined, Around}

-- a sequence falls apart at a place, as its masks do
pub record Parts (masks : List ℕ) (i : ℕ) (ds : List ℕ) : Type 0 where
  pub front : From (take i masks) (take i ds)
  pub back : From (drop (i + 1) masks) (drop (i + 1) ds)
  pub whole : ds ≡ take i ds ++ (get_or ds i 0 ∷ drop (i + 1) ds)

pub apart : (i : ℕ) {masks ds : List ℕ} → From masks ds → i < length masks → Parts masks i ds
apart i ends h = absurd (omega arith)
apart zero (takes h k r) l = record { front = ends; back = r; whole = refl }
apart (suc i) (takes {m = x} {d = d} {ms = ms} {ds = ds} h k r) l =
    let p = apart i r (omega arith) in
    let e : suc (i + 1) ≡ suc i + 1 = omega arith in
    record {
      front = takes h k p.front;
      back = shift p.back;
      whole = ap (λ es. d ∷ es) p.whole ∙ ap (λ n. d ∷ (take i ds ++ (get_or ds i 0 ∷ drop n (d ∷ ds)))) e;
    }
  where
    shift : From (drop (i + 1) ms) (drop (i + 1) ds) → From (drop (suc i + 1) (x ∷ ms)) (drop (suc i + 1) (d ∷ ds))
    shift b = subst (λ n. From (drop n (x ∷ ms)) (drop n (d ∷ ds))) (sym (add-one (suc i))) (subst (λ n. From (drop n ms) (drop n ds)) (add-one i) b)

-- sequences before and behind a duty make one
together : (i : ℕ) (masks : List ℕ) {xs ys : List ℕ} (d : ℕ) → i < length masks → d < 16 → In (get_or masks i 0) d → From (take i masks) xs → From (drop (i + 1) masks) ys
    → From masks (xs ++ (d ∷ ys)) × (get_or (xs ++ (d ∷ ys)) i 0 ≡ d)
together i [] d l h k f b = absurd (omega arith)
together zero (x ∷ ms) d l h k ends b = (takes h k b, refl)
together (suc i) (x ∷ ms) {ys = ys} d l h k (takes {ds = es} h' k' f) b =
    let r = together i ms {xs = es} {ys = ys} d (omega arith) h k f (subst (λ n. From (drop n ms) ys) (sym (add-one i)) (subst (λ n. From (drop n (x ∷ ms)) ys) (add-one (suc i)) b)) in
    (takes h' k' r.0, r.1)

-- what holds of the total of a sequence through a duty holds of the total that its parts have together, by way of some state, and the other way round
pub through_parts : (a : Automaton) → Lawful a → (masks : List ℕ) (i d : ℕ) → i < length masks → d < 16 → In (get_or masks i 0) d → (R : ℕ → Type 0)
    → ((ds : List ℕ) × From masks ds × (get_or ds i 0 ≡ d) × R (total a 0 ds))
    ↔ ((q : ℕ) × (q < a.states) × ((pre : List ℕ) × (post : List ℕ) × Around a masks i q pre post × R (joined a masks q d pre post)))
through_parts a lawful masks i d within duty is_open R = (there, back)
  where
    there : (ds : List ℕ) × From masks ds × (get_or ds i 0 ≡ d) × R (total a 0 ds)
        → (q : ℕ) × (q < a.states) × ((pre : List ℕ) × (post : List ℕ) × Around a masks i q pre post × R (joined a masks q d pre post))
    there w =
        let ds = w.0 in
        let p = apart i w.1 within in
        let pre = take i ds in
        let post = drop (i + 1) ds in
        let q = end a 0 pre in
        let t : total a 0 ds ≡ joined a masks q d pre post =
        ap (total a 0) p.whole ∙ total_append a 0 pre (get_or ds i 0 ∷ post) ∙ ap (λ e. total a 0 pre + (a.increase q e + total a (a.next q e) post)) w.2 in
        (q, end_below a lawful 0 pre lawful.some, (pre, post, record { before = p.front; leads = refl; behind = p.back }, subst R t w.3))

    back : (q : ℕ) × (q < a.states) × ((pre : List ℕ) × (post : List ℕ) × Around a masks i q pre post × R (joined a masks q d pre post))
        → (ds : List ℕ) × From masks ds × (get_or ds i 0 ≡ d) × R (total a 0 ds)
    back w =
        let q = w.0 in
        let pre = w.2.0 in
        let post = w.2.1 in
        let r = w.2.2 in
        let both = together i masks {xs = pre} {ys = post} d within duty is_open r.before r.behind in
        let t : total a 0 (pre ++ (d ∷ post)) ≡ joined a masks q d pre post =
        total_append a 0 pre (d ∷ post) ∙ ap (λ e. total a 0 pre + (a.increase e d + total a (a.next e d) post)) r.leads in
        (pre ++ (d ∷ post), both.0, both.1, subst R (sym t) w.2.3)
