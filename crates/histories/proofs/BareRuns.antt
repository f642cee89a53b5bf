-- A run that makes only the standing decisions, in any order, comes to the same plan.
use Rattle.std.proofs.Common.{◌≡◌, ℕ, zero, suc, Bool, true, false, List, [], ◌∷◌, length, get_or, sym, refl, ap, ◌∙◌, subst, ap₂, ⊎_elim, arith}
use Rattle.std.proofs.lemmas.Bool.{cases_Bool}
use Rattle.masks.proofs.Parts.{within_le}
use Rattle.families.specs.Meaning.{Meaning}
use Rattle.families.specs.Laws.{Lawful}
use Rattle.settling.specs.Masks.{Masks, Sized, Inside, AllOpen}
use Rattle.settling.specs.Largest.{Stable, Largest}
use Rattle.settling.proofs.Order.{inside_trans, inside_antisym}
use Rattle.histories.specs.Decisions.{Decision, narrow, narrowed}
use Rattle.histories.specs.Calls.{Call, try, Question, Answer, done, reply}
use Rattle.histories.specs.Log.{Log, Starts, Breaks, free, First, Turn, Turns}
use Rattle.histories.specs.Plans.{View, Shows, Ran, Run}
use Rattle.histories.specs.Law.{DraftCells, Reorder, Bare, AllDone}
use Rattle.histories.proofs.Narrowing.{narrow_narrows, narrowed_inside, Every, InsideEach, each_narrowed, narrowed_each, reorder_every, reorder_sym}
use Rattle.histories.proofs.Refusals.{Fair, refused_not_free, try_from}
use Rattle.histories.proofs.Starting.{starts_one, starts_sized}
use Rattle.histories.proofs.Turns.{open_not_empty, FairLog, first_one, first_fair, first_runs, turns_void, turns_fair}

-- masks around open ones are open
open_around : (m : Meaning) (s t : Masks) → Inside s t → AllOpen m s → AllOpen m t
open_around m s t i a =
    record {
      cells = λ j l. omega (arith, a.cells j l, within_le (get_or s.cells j 0) (get_or t.cells j 0) (i.cells.each j));
      tallies = λ r l. omega (arith, a.tallies r l, within_le (get_or s.tallies r 0) (get_or t.tallies r 0) (i.tallies.each r));
    }

-- no decisions, in any order, are none, and are made by no calls
reorder_none : {ds es : List Decision} → Reorder ds es → es ≡ [] → ds ≡ []
reorder_none Reorder.nil e = refl
reorder_none (Reorder.keep d ds es r) e = absurd (omega (arith, ap length e))
reorder_none (Reorder.swap d f ds) e = absurd (omega (arith, ap length e))
reorder_none (Reorder.via ds es fs r q) e = reorder_none r (reorder_none q e)

bare_none : {es : List Decision} {xs : List Call} → Bare es xs → es ≡ [] → xs ≡ []
bare_none Bare.nil e = refl
bare_none (Bare.cons d ds w cs h b) e = absurd (omega (arith, ap length e))

ran_none : {m : Meaning} {p : View} {xs : List Call} {ys : List Answer} {q : View} → Ran m p xs ys q → xs ≡ [] → (ys ≡ []) × (q ≡ p)
ran_none (Ran.end p) e = (refl, refl)
ran_none (Ran.more p q r c cs a ys k s) e = absurd (omega (arith, ap length e))

all_done_none : AllDone []
all_done_none j a l = absurd (omega arith)

all_done_more : (a : Answer) (ys : List Answer) (n k : ℕ) → a ≡ done n k → AllDone ys → AllDone (a ∷ ys)
all_done_more a ys n k e f zero x l = (n, k, e)
all_done_more a ys n k e f (suc j) x l = f j x (omega arith)

abbrev running : List Decision → List (List Decision) → Log
running standing levels = record { void = false; standing = standing; levels = levels }

-- a decision that is free to make and cannot break is accepted
turn_stands : (m : Meaning) (start : Masks) (b : Log) (d : Decision) (w : ℕ) (a : Answer) (e : Log) → free m b (try d w) → (Breaks m (narrowed (d ∷ b.standing) start) → ⊥) → Turn m start b (try d w) a e
    → (n : ℕ) × (k : ℕ) × (a ≡ done n k) × (e ≡ running (d ∷ b.standing) b.levels)
turn_stands m start b d w a e h never (Turn.refuses c f g) = absurd (refused_not_free _ f g h)
turn_stands m start b d w a e h never (Turn.stands d1 w1 n k g o) = (n, k, refl, refl)
turn_stands m start b d w a e h never (Turn.falls d1 w1 o n k g f) = absurd (never f)

-- where open masks, from which no rule removes anything, lie within all decisions of a bare run, it accepts each
module _ (m : Meaning) (start : Masks) (z : Sized start) (goal : Masks) (stable : Stable m goal) (open_all : AllOpen m goal) where
  -- from a log with the decisions ds standing, the decisions es made: the plan shows a log within which the goal lies, and within which only that lies which is within both
  pub record Bared (ds es : List Decision) (zs : List Answer) (q : View) : Type 0 where
    pub log : Log
    pub runs : log.void ≡ false
    pub shows : Shows m start log q
    pub around : Inside goal (narrowed log.standing start)
    pub within : (u : Masks) → Inside u (narrowed log.standing start) → Inside u (narrowed ds start) × InsideEach u start es
    pub all_done : AllDone zs

  cannot_break : (d : Decision) (ds : List Decision) → Inside goal (narrowed (d ∷ ds) start) → Breaks m (narrowed (d ∷ ds) start) → ⊥
  cannot_break d ds i b = open_not_empty m b.0 (open_around m goal b.0 (b.1.above goal stable i) open_all) b.2

  pub bare_ran : {es : List Decision} {xs : List Call} {p : View} {zs : List Answer} {q : View} → Bare es xs → Ran m p xs zs q → (ds : List Decision) (ls : List (List Decision)) → Shows m start (running ds ls) p
      → Every (Fair m) es → Inside goal (narrowed ds start) → InsideEach goal start es → Bared ds es zs q
  bare_ran Bare.nil (Ran.end p) ds ls sh fair i each =
      record { log = running ds ls; runs = refl; shows = sh; around = i; within = λ u j. (j, tt); all_done = all_done_none }
  bare_ran (Bare.cons d es w xs lent bare) (Ran.more p q r c cs a ys k s) ds ls sh fair i each =
      let n = narrow_narrows d in
      let t = k.log_kept start (running ds ls) z sh in
      let j : Inside goal (narrow d (narrowed ds start)) = n.meets goal start (narrowed ds start) each.0 i in
      let o = turn_stands m start (running ds ls) d w a t.0 (try_from m false (length ls) d w fair.0 lent refl) (cannot_break d ds j) t.1 in
      let sh2 : Shows m start (running (d ∷ ds) ls) q = subst (λ (x : Log). Shows m start x q) o.3 t.2 in
      let rest = bare_ran bare s (d ∷ ds) ls sh2 fair.1 j each.1 in
      record {
        log = rest.log;
        runs = rest.runs;
        shows = rest.shows;
        around = rest.around;
        within = λ u v.
            let g = rest.within u v in
            let x : Inside u (narrow d (narrowed ds start)) = g.0 in (
              inside_trans u (narrow d (narrowed ds start)) (narrowed ds start) x (n.inside (narrowed ds start)),
              (inside_trans u (narrow d (narrowed ds start)) (narrow d start) x (n.monotone (narrowed ds start) start (narrowed_inside ds start)), g.1),
            );
        all_done = all_done_more a ys o.0 o.1 o.2 rest.all_done;
      }

module _ (m : Meaning) (law : Lawful m) (cells : List ℕ) (draft : DraftCells cells) (start : Masks) (st : Starts m cells start) where
  abbrev Agrees : View → View → List Answer → Type 0
  Agrees p q zs = (q.void ≡ p.void) × AllDone zs × ((x : Question) → reply m q.void q.now x ≡ reply m p.void p.now x)

  module _ (first log : Log) (cs : List Call) (ys : List Answer) (p : View) (first_is : First m start first) (log_kept : Turns m start first cs ys log) (sh : Shows m start log p)
      (es : List Decision) (xs : List Call) (zs : List Answer) (q0 q : View) (order : Reorder es log.standing) (bare : Bare es xs) (began : Shows m start first q0) (ran : Ran m q0 xs zs q) where
    fair : FairLog m log
    fair = turns_fair m start log_kept (first_fair m start first_is)

    same : q.void ≡ p.void → q.now ≡ p.now → AllDone zs → Agrees p q zs
    same v n d = (v, d, λ x. ap₂ (λ (b : Bool) (s : Masks). reply m b s x) v n)

    agree_void : log.void ≡ true → Agrees p q zs
    agree_void v =
        let r = ran_none ran (bare_none bare (reorder_none order (fair.bare_where_void v))) in
        let f : first.void ≡ true = sym (turns_void m start log_kept) ∙ v in
        same
        (ap (λ (x : View). x.void) r.1 ∙ began.same_void ∙ f ∙ sym v ∙ sym sh.same_void)
        (ap (λ (x : View). x.now) r.1 ∙ began.masks_now.nothing_where_void f ∙ sym (sh.masks_now.nothing_where_void v))
        (subst AllDone (sym r.0) all_done_none)

    agree_running : log.void ≡ false → Agrees p q zs
    agree_running v =
        let f : first.void ≡ false = sym (turns_void m start log_kept) ∙ v in
        let big = sh.masks_now.largest_else v in
        let here : Shows m start (running [] []) q0 = subst (λ (x : Log). Shows m start x q0) (first_runs m start first_is f) began in
        let inner : Inside p.now start = inside_trans p.now (narrowed log.standing start) start big.0.inside (narrowed_inside log.standing start) in
        let each : InsideEach p.now start es = reorder_every (λ d. Inside p.now (narrow d start)) (reorder_sym order) (each_narrowed log.standing p.now start big.0.inside) in
        let b = bare_ran m start (starts_sized m cells law draft start st) p.now big.0.stable big.1 bare ran [] [] here (reorder_every (Fair m) (reorder_sym order) fair.standing) inner each in
        let new : Largest m (narrowed b.log.standing start) q.now = (b.shows.masks_now.largest_else b.runs).0 in
        let w = b.within q.now new.inside in
        let up : Inside q.now p.now = big.0.above q.now new.stable (narrowed_each log.standing q.now start w.0 (reorder_every (λ d. Inside q.now (narrow d start)) order w.1)) in
        let down : Inside p.now q.now = new.above p.now big.0.stable b.around in
        same (b.shows.same_void ∙ b.runs ∙ sym v ∙ sym sh.same_void) (inside_antisym q.now p.now up down) b.all_done

    agree : Agrees p q zs
    agree = ⊎_elim (λ (v : log.void ≡ true). agree_void v) (λ (v : log.void ≡ false). agree_running v) (cases_Bool log.void)

  -- every bare run of the standing decisions agrees with the plan
  pub bare_agrees : (first log : Log) (cs : List Call) (ys : List Answer) (p : View) → First m start first → Turns m start first cs ys log → Shows m start log p
      → (es : List Decision) (xs : List Call) (e : Answer) (zs : List Answer) (q : View) → Reorder es log.standing → Bare es xs → Run m cells e xs zs q
      → (q.void ≡ p.void) × AllDone zs × ((x : Question) → reply m q.void q.now x ≡ reply m p.void p.now x)
  bare_agrees first log cs ys p f t sh es xs e zs q order bare run =
      let b = run.1 in
      let same_start : b.start ≡ start = starts_one m cells b.start start b.starts st in
      let g : First m start b.log = subst (λ (s : Masks). First m s b.log) same_start b.first in
      let sh0 : Shows m start b.log run.0 = subst (λ (s : Masks). Shows m s b.log run.0) same_start b.shows in
      let began : Shows m start first run.0 = subst (λ (x : Log). Shows m start x run.0) (first_one m start g f) sh0 in
      agree first log cs ys p f t sh es xs zs run.0 q order bare began run.2
