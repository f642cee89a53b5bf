-- Narrower masks: their sequences are sequences over the wider masks too, so what stays over them stays over the wider ones.
use Rattle.std.proofs.Common.{ℕ, zero, suc, ◌+◌, List, [], ◌∷◌, get_or, take, drop}
use Rattle.masks.specs.Bit.{Within}
use Rattle.automata.specs.Automaton.{Automaton}
use Rattle.sweeps.specs.Sequences.{From, ends, takes}
use Rattle.rules.specs.declared.Sense.{Sense}
use Rattle.rules.specs.declared.Sense.TheVariants.{AtMost, AtLeast, Exactly}
use Rattle.runs.specs.Stays.{Around, Through, Between, EndsBetween, DutyStays, CountStays}
use Rattle.runs.specs.Run.{along}

-- each mask is within that at its place
pub data Narrower : List ℕ → List ℕ → Type 0 where
  none : Narrower [] []
  more : {m n : ℕ} {ms ns : List ℕ} → Within m n → Narrower ms ns → Narrower (m ∷ ms) (n ∷ ns)

pub along_narrower : (row c d : List ℕ) → ((i : ℕ) → Within (get_or c i 0) (get_or d i 0)) → Narrower (along row c) (along row d)
along_narrower [] c d w = none
along_narrower (x ∷ row) c d w = more (w x) (along_narrower row c d w)

pub from_wider : {ms ns ds : List ℕ} → Narrower ms ns → From ms ds → From ns ds
from_wider none ends = ends
from_wider (more w n) (takes {d = d} h i f) = takes h (w d i) (from_wider n f)

take_narrower : (i : ℕ) {ms ns : List ℕ} → Narrower ms ns → Narrower (take i ms) (take i ns)
take_narrower zero n = none
take_narrower (suc i) none = none
take_narrower (suc i) (more w n) = more w (take_narrower i n)

drop_narrower : (i : ℕ) {ms ns : List ℕ} → Narrower ms ns → Narrower (drop i ms) (drop i ns)
drop_narrower zero n = n
drop_narrower (suc i) none = none
drop_narrower (suc i) (more w n) = drop_narrower i n

module _ (a : Automaton) (ms ns : List ℕ) (n : Narrower ms ns) where
  around_wider : (i q : ℕ) (pre post : List ℕ) → Around a ms i q pre post → Around a ns i q pre post
  around_wider i q pre post r = record { before = from_wider (take_narrower i n) r.before; leads = r.leads; behind = from_wider (drop_narrower (i + 1) n) r.behind }

  through_wider : (sense : Sense) (i d k : ℕ) → Through a ms sense i d k → Through a ns sense i d k
  through_wider sense i d k (ds, f, e, m) = (ds, from_wider n f, e, m)

  between_wider : (i q d k : ℕ) → Between a ms i q d k → Between a ns i q d k
  between_wider i q d k w =
      let l = w.0 in
      let h = w.1 in
      ((l.0, l.1, around_wider i q l.0 l.1 l.2, l.3), (h.0, h.1, around_wider i q h.0 h.1 h.2, h.3))

  ends_between_wider : (q k : ℕ) → EndsBetween a ms q k → EndsBetween a ns q k
  ends_between_wider q k w = let l = w.0 in let h = w.1 in ((l.0, from_wider n l.1, l.2, l.3), (h.0, from_wider n h.1, h.2, h.3))

  pub duty_wider : (sense : Sense) (t u i d : ℕ) → Within t u → DutyStays a ms sense t i d → DutyStays a ns sense u i d
  duty_wider AtMost t u i d w s = (s.0, s.1, w s.0 s.2, through_wider AtMost i d s.0 s.3)
  duty_wider AtLeast t u i d w s = (s.0, s.1, w s.0 s.2, through_wider AtLeast i d s.0 s.3)
  duty_wider Exactly t u i d w s = let k = s.2 in (s.0, s.1, (k.0, k.1, w k.0 k.2, between_wider i s.0 d k.0 k.3))

  pub count_wider : (sense : Sense) (k : ℕ) → CountStays a ms sense k → CountStays a ns sense k
  count_wider AtMost k s = (s.0, from_wider n s.1, s.2)
  count_wider AtLeast k s = (s.0, from_wider n s.1, s.2)
  count_wider Exactly k s = (s.0, s.1, ends_between_wider s.0 k s.2)
