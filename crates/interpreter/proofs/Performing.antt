-- Frames one after the other: one more, and its place in the list.
use Rattle.std.proofs.Common.{◌≡◌, ℕ, ◌+◌, ◌<◌, true, false, List, [], ◌∷◌, ◌++◌, length, get_or, take, set, vec_items, sym, refl, subst, append_assoc, append-nil}
use Rattle.std.proofs.lemmas.List.{take_more, take_more_set}
use Rattle.refusals.specs.declared.FrameFault.{FrameFault}
use Rattle.refusals.specs.Posting.{FrameError}
use Rattle.automata.specs.declared.Among.{Among}
use Rattle.automata.specs.declared.Map.{Map}
use Rattle.automata.specs.declared.Table.{Table}
use Rattle.automata.specs.Laws.{among_lawful, mapped_lawful, table_lawful}
use Rattle.words.specs.declared.Word.{Word}
use Rattle.words.specs.Laws.{counting_lawful}
use Rattle.families.specs.declared.Pair.{Pair}
use Rattle.families.specs.Laws.{Lawful}
use Rattle.families.specs.Pairs.{pair_lawful}
use Rattle.families.specs.Meaning.{Meaning}
use Rattle.counting.specs.declared.Counting.{Counting}
use Rattle.counting.specs.FamilyLaws.{family_lawful}
use Rattle.histories.specs.Calls as law
use Rattle.histories.specs.Plans.{View, Called, Ran}
use Rattle.wire.specs.declared.frame.Frame.{Frame}
use Rattle.posting.specs.Families.{rules_meaning}
use Rattle.posting.specs.Posts as posts
use Rattle.posting.specs.Sheets.{Sheet, duties_of}
use Rattle.interpreter.specs.declared.file.Told.{Told}
use Rattle.interpreter.specs.Calls.{Tells, decides, beyond, decided, bounded, marked, backed, publishes, NoCall}
use Rattle.interpreter.specs.Performing.{Drafts, NotPosted, Is, Are, Makes, is_call}

drafts_more : (f : Frame) {s t u : Sheet} {fs : List Frame} → Drafts s fs t → posts.Posts f t u → Drafts s (fs ++ f ∷ []) u
drafts_more f {u = u} (Drafts.end s) h = Drafts.more s u u f [] h (Drafts.end u)
drafts_more f {u = u} (Drafts.more s t v g fs k rest) h = Drafts.more s t u g (fs ++ f ∷ []) k (drafts_more f rest h)

-- the frames so far and the next one
pub drafts_next : (s t u : Sheet) (fs : List Frame) (i : ℕ) (d : Frame) → i < length fs → Drafts s (take i fs) t → posts.Posts (get_or fs i d) t u → Drafts s (take (i + 1) fs) u
drafts_next s t u fs i d h k p = subst (λ (xs : List Frame). Drafts s xs u) (sym (take_more fs i d h)) (drafts_more (get_or fs i d) k p)

ran_all : {m : Meaning} {p q r : View} {cs ds : List law.Call} {ys zs : List law.Answer} → Ran m p cs ys q → Ran m q ds zs r → Ran m p (cs ++ ds) (ys ++ zs) r
ran_all (Ran.end p) k = k
ran_all {r = r} {ds = ds} {zs = zs} (Ran.more p q s c cs a ys h rest) k = Ran.more p q r c (cs ++ ds) a (ys ++ zs) h (ran_all rest k)

are_more : {size w : ℕ} {fs : List Frame} {ts : List Told} {cs ds : List law.Call} {ys zs : List law.Answer} {f : Frame} {t : Told}
    → Are size w fs ts cs ys → Is size w f t ds zs → Are size w (fs ++ f ∷ []) (ts ++ t ∷ []) (cs ++ ds) (ys ++ zs)
are_more {size} {w} {ds = ds} {zs = zs} {f = f} {t = t} Are.end h =
    subst (λ (xs : List law.Call). Are size w (f ∷ []) (t ∷ []) xs zs) (append-nil ds)
    (subst (λ (xs : List law.Answer). Are size w (f ∷ []) (t ∷ []) (ds ++ []) xs) (append-nil zs) (Are.more f [] t [] ds [] zs [] h Are.end))
are_more {size} {w} {ds = ds} {zs = zs} {f = f} {t = t} (Are.more g gs u us bs cs xs ys k rest) h =
    subst (λ (l : List law.Call). Are size w (g ∷ (gs ++ f ∷ [])) (u ∷ (us ++ t ∷ [])) l ((xs ++ ys) ++ zs)) (sym (append_assoc bs cs ds))
    (subst (λ (l : List law.Answer). Are size w (g ∷ (gs ++ f ∷ [])) (u ∷ (us ++ t ∷ [])) (bs ++ (cs ++ ds)) l) (sym (append_assoc xs ys zs))
    (Are.more g (gs ++ f ∷ []) u (us ++ t ∷ []) bs (cs ++ ds) xs (ys ++ zs) k (are_more rest h)))

abbrev One : Meaning → ℕ → ℕ → View → Frame → Told → View → Type 0
One m size w p f t q = (cs : List law.Call) × (ys : List law.Answer) × Is size w f t cs ys × Ran m p cs ys q

one_call : {m : Meaning} {p q : View} {c : law.Call} {a : law.Answer} → Called m c a p q → Ran m p (c ∷ []) (a ∷ []) q
one_call {m} {p} {q} {c} {a} h = Ran.more p q q c [] a [] h (Ran.end q)

one_of : {m : Meaning} {size w : ℕ} {p q : View} {f : Frame} {t : Told} → Tells m size w p f t q → is_call f ≡ true → One m size w p f t q
one_of (decided cell mask r q (decides l r2 q2 h)) e = (_, _, Is.decide cell mask r l, one_call h)
one_of {p = p} (decided cell mask r q (beyond l)) e = ([], [], Is.beyond cell mask l, Ran.end p)
one_of (bounded rule tally r q h) e = (_, _, Is.bound rule tally r, one_call h)
one_of (marked r q h) e = (_, _, Is.mark r, one_call h)
one_of (backed r q h) e = (_, _, Is.back r, one_call h)
one_of publishes e = cc e

pub makes_none : (m : Meaning) (size w : ℕ) (p : View) → Makes m size w p [] [] p
makes_none m size w p = record { calls = []; answers = []; are = Are.end; ran = Ran.end p }

makes_more : {m : Meaning} {size w : ℕ} {p q r : View} {fs : List Frame} {ts : List Told} {f : Frame} {t : Told} → Makes m size w p fs ts q → One m size w q f t r
    → Makes m size w p (fs ++ f ∷ []) (ts ++ t ∷ []) r
makes_more k o = record { calls = k.calls ++ o.0; answers = k.answers ++ o.1; are = are_more k.are o.2; ran = ran_all k.ran o.3 }

-- the frames so far and the next one, with what it came to at its place
pub makes_next : (m : Meaning) (size w : ℕ) (fs : List Frame) (ts : List Told) (i : ℕ) (d : Frame) (t : Told) (p q r : View) → i < length fs → i < length ts
    → Makes m size w p (take i fs) (take i ts) q → Tells m size w q (get_or fs i d) t r → is_call (get_or fs i d) ≡ true → Makes m size w p (take (i + 1) fs) (take (i + 1) (set ts i t)) r
makes_next m size w fs ts i d t p q r h k made tells call =
    subst (λ (xs : List Frame). Makes m size w p xs (take (i + 1) (set ts i t)) r) (sym (take_more fs i d h))
    (subst (λ (xs : List Told). Makes m size w p (take i fs ++ get_or fs i d ∷ []) xs r) (sym (take_more_set ts i t k)) (makes_more made (one_of tells call)))

-- the same plan, rules and length of workspace, otherwise written
pub tells_as : {m n : Meaning} {size cells w v : ℕ} {p q : View} {f : Frame} {t : Told} → m ≡ n → size ≡ cells → w ≡ v → Tells m size w p f t q → Tells n cells v p f t q
tells_as {m} {n} {size} {cells} {w} {v} {p} {q} {f} {t} a b c h =
    subst (λ (x : ℕ). Tells n cells x p f t q) c (subst (λ (x : ℕ). Tells n x w p f t q) b (subst (λ (x : Meaning). Tells x size w p f t q) a h))

pub makes_at : {m : Meaning} {size w : ℕ} {p q r : View} {fs : List Frame} {ts : List Told} → q ≡ r → Makes m size w p fs ts q → Makes m size w p fs ts r
makes_at {m} {size} {w} {p} {q} {r} {fs} {ts} e h = subst (λ (v : View). Makes m size w p fs ts v) e h

pub no_call_is_none : {f : Frame} {e : FrameFault} → NoCall f e → is_call f ≡ false
no_call_is_none (NoCall.size n) = refl
no_call_is_none (NoCall.masks x n m) = refl
no_call_is_none (NoCall.among x) = refl
no_call_is_none (NoCall.word x) = refl
no_call_is_none (NoCall.table n x) = refl
no_call_is_none (NoCall.map x) = refl
no_call_is_none (NoCall.rule a s t x) = refl
no_call_is_none NoCall.start = refl

-- the rules of a file keep the laws of a family
pub rules_lawful : (p : Pair (Pair (Counting Among) (Counting (Map Word))) (Counting Table)) → Lawful (rules_meaning p)
rules_lawful p =
    let set = p.first.first in
    let word = p.first.second in
    let below = word.automaton.below in
    let table = p.second in
    pair_lawful _ _
    (pair_lawful _ _
    (family_lawful _ (among_lawful set.automaton.set) (vec_items set.rules) set.few)
    (family_lawful _ (mapped_lawful word.automaton.classes _ (counting_lawful (duties_of below) (length (duties_of below)) refl below.some below.few)) (vec_items word.rules) word.few))
    (family_lawful _ (table_lawful table.automaton.states table.automaton.steps.now) (vec_items table.rules) table.few)

-- what the frames made, with the sheet's own rules and number of cells, on as long a workspace
pub makes_as : {m n : Meaning} {size cells w v : ℕ} {p q : View} {fs : List Frame} {ts : List Told} → m ≡ n → size ≡ cells → w ≡ v → Makes m size w p fs ts q → Makes n cells v p fs ts q
makes_as {m} {n} {size} {cells} {w} {v} {p} {q} {fs} {ts} a b c h =
    subst (λ (x : ℕ). Makes n cells x p fs ts q) c (subst (λ (x : ℕ). Makes n x w p fs ts q) b (subst (λ (x : Meaning). Makes x size w p fs ts q) a h))

pub not_posted_from : {s u t : Sheet} {fs : List Frame} {e : FrameError} → s ≡ u → NotPosted s fs t e → NotPosted u fs t e
not_posted_from {s} {u} {t} {fs} {e} h n = subst (λ (x : Sheet). NotPosted x fs t e) h n

pub drafts_from : {s u t : Sheet} {fs : List Frame} → s ≡ u → Drafts s fs t → Drafts u fs t
drafts_from {s} {u} {t} {fs} h d = subst (λ (x : Sheet). Drafts x fs t) h d

pub ran_from : {m : Meaning} {p u q : View} {cs : List law.Call} {ys : List law.Answer} → p ≡ u → Ran m p cs ys q → Ran m u cs ys q
ran_from {m} {p} {u} {q} {cs} {ys} h r = subst (λ (x : View). Ran m x cs ys q) h r

pub made_up_to : (fs : List Frame) (ts : List Told) {m : Meaning} {size w i n : ℕ} {p q : View} → i ≡ n → Makes m size w p (take i fs) (take i ts) q → Makes m size w p (take n fs) (take n ts) q
made_up_to fs ts {m} {size} {w} {i} {n} {p} {q} e h = subst (λ (k : ℕ). Makes m size w p (take k fs) (take k ts) q) e h
