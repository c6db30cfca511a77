-- Where bytes that are played offend: the place that is named is the earliest, and none is named exactly where each packet is acknowledged and nothing is left half sent.
use Prim.Native.Nat.{ℕ, ◌+◌, ◌<◌, ◌≤◌, min}
use mathlib.Core.Path.{◌≡◌, refl, ap, ap₂, sym, subst, ◌∙◌}
use mathlib.Core.Logic.{◌↔◌, ◌⊎◌, inl, inr, ⊎_elim}
use mathlib.Core.Bool.{Bool, true, false, cond, not, ◌&&◌}
use mathlib.Core.List.{List, [], ◌∷◌, ◌++◌}
use Rattle.std.specs.Prelude.{Option, None, Some}
use native.Mathlib.Nat.{zero-add}
use native.Mathlib.Omega.{arith}
use lib.ListN.{length, take, drop}
use lib.Seq.{take_all}
use borrow.Author.Tests.{not-true}
use Rattle.packet.specs.Stream.{packets, bytes_in, rest}
use Rattle.packet.proofs.Cases.{lt_cases, true_and_left, true_and_right, never}
use Rattle.packet.proofs.StreamLaws.{packet_there, packet_within, rest_within}
use Rattle.command.specs.Response.{acknowledged}
use Rattle.command.specs.Transfer.{Transfer, Closed, Opened, is_open}
use Rattle.command.specs.Player.{State, from, judged, next, judgements, judgements_on, after, play, all_acknowledged, is_nil, half_sent, not_acknowledged, left_open, unfinished, earlier, offence, Offends, NotAcknowledged, Unfinished, LeftOpen, offending, Earliest}
use Rattle.command.specs.declared.settings.Settings.{Settings}

-- The least number of which something holds.

-- o is that number, or none where it holds of none
abbrev Least : (ℕ → Type 0) → Option ℕ → Type 0
Least P None = (m : ℕ) → P m → ⊥
Least P (Some n) = P n × ((m : ℕ) → P m → n ≤ m)

least_map : {P Q : ℕ → Type 0} → ((n : ℕ) → P n → Q n) → ((n : ℕ) → Q n → P n) → (o : Option ℕ) → Least P o → Least Q o
least_map f g None l = λ m h. l m (g m h)
least_map f g (Some n) l = (f n l.0, λ m h. l.1 m (g m h))

least_either : (P Q : ℕ → Type 0) (o p : Option ℕ) → Least P o → Least Q p → Least (λ n. P n ⊎ Q n) (earlier o p)
least_either P Q None None f g = λ m h. ⊎_elim (f m) (g m) h
least_either P Q None (Some n) f g = (inr g.0, λ m h. ⊎_elim (λ x. absurd (f m x)) (g.1 m) h)
least_either P Q (Some m) None f g = (inl f.0, λ k h. ⊎_elim (f.1 k) (λ x. absurd (g k x)) h)
least_either P Q (Some m) (Some n) f g = (which, λ k h. ⊎_elim (λ x. omega (arith, f.1 k x)) (λ x. omega (arith, g.1 k x)) h)
  where
    which : P (min m n) ⊎ Q (min m n)
    which =
        lt_cases m n
        (λ h. let e : m ≡ min m n = omega arith in inl (subst P e f.0))
        (λ h. let e : n ≡ min m n = omega arith in inr (subst Q e g.0))

-- lists that begin alike
front : {A : Type 0} {x y : A} {xs ys : List A} → x ∷ xs ≡ y ∷ ys → x ≡ y
front e = cc

behind_it : {A : Type 0} {x y : A} {xs ys : List A} → x ∷ xs ≡ y ∷ ys → xs ≡ ys
behind_it e = cc

nothing_there : {A : Type 0} {P : Type 0} (xs : List A) (y : A) (ys : List A) → [] ≡ xs ++ (y ∷ ys) → P
nothing_there [] y ys e = let z : ◌≡◌ {A = ℕ} 0 1 = cc in absurd (omega arith)
nothing_there (x ∷ xs) y ys e = let z : ◌≡◌ {A = ℕ} 0 1 = cc in absurd (omega arith)

-- A packet that is not acknowledged.

-- one of these packets, the first of which is at this place and comes to the state a
record Refused (at : ℕ) (a : State) (ps : List (List ℕ)) (n : ℕ) : Type 0 where
  before : List (List ℕ)
  packet : List ℕ
  behind : List (List ℕ)
  cut : ps ≡ before ++ (packet ∷ behind)
  bad : acknowledged (judged (after a before) packet) ≡ false
  place : n ≡ at + bytes_in before

refused_more : (at : ℕ) (a : State) (p : List ℕ) (ps : List (List ℕ)) (n : ℕ) → Refused (at + length p) (next a p) ps n → Refused at a (p ∷ ps) n
unfolding after bytes_in
refused_more at a p ps n r =
    record {
      before = p ∷ r.before;
      packet = r.packet;
      behind = r.behind;
      cut = ap {B = List (List ℕ)} (λ x. p ∷ x) r.cut;
      bad = r.bad;
      place = r.place ∙ omega arith;
    }

refused_less : (at : ℕ) (a : State) (p : List ℕ) (ps : List (List ℕ)) → acknowledged (judged a p) ≡ true → (n : ℕ) → Refused at a (p ∷ ps) n
    → Refused (at + length p) (next a p) ps n
refused_less at a p ps t n r = go r.before r.cut r.bad r.place
  where
    go : (before : List (List ℕ)) → p ∷ ps ≡ before ++ (r.packet ∷ r.behind) → acknowledged (judged (after a before) r.packet) ≡ false
        → n ≡ at + bytes_in before
        → Refused (at + length p) (next a p) ps n
    go [] c b e = unfold after in never (sym b ∙ ap (λ (q : List ℕ). acknowledged (judged a q)) (sym (front c)) ∙ t)
    go (q ∷ before) c b e =
        unfold after bytes_in in
        let same : q ≡ p = sym (front c) in
        record {
          before = before;
          packet = r.packet;
          behind = r.behind;
          cut = behind_it c;
          bad = rw same at b;
          place = rw same at e ∙ omega arith;
        }

refused_least : (at : ℕ) (a : State) (ps : List (List ℕ)) → Least (Refused at a ps) (not_acknowledged at a ps)
unfolding not_acknowledged
refused_least at a [] = λ m r. nothing_there r.before r.packet r.behind r.cut
refused_least at a (p ∷ ps) = go (acknowledged (judged a p)) refl (refused_least (at + length p) (next a p) ps)
  where
    go : (t : Bool) → acknowledged (judged a p) ≡ t → Least (Refused (at + length p) (next a p) ps) (not_acknowledged (at + length p) (next a p) ps)
        → Least (Refused at a (p ∷ ps)) (cond t (not_acknowledged (at + length p) (next a p) ps) (Some at))
    go true t l = least_map (refused_more at a p ps) (refused_less at a p ps t) (not_acknowledged (at + length p) (next a p) ps) l
    go false t l = (
      record { before = []; packet = p; behind = ps; cut = refl; bad = unfold after in t; place = unfold bytes_in in omega arith },
      λ m r. omega (arith, r.place),
    )

-- A transfer that is left open.

-- one is open in the state a and after each of these packets
abbrev StaysOpen : State → List (List ℕ) → Type 0
StaysOpen a ps = (early late : List (List ℕ)) → ps ≡ early ++ late → (after a early).transfer ≡ Closed → ⊥

-- one of these packets opened it, the first of which is at this place and comes to the state a
record Opens (at : ℕ) (a : State) (ps : List (List ℕ)) (n : ℕ) : Type 0 where
  before : List (List ℕ)
  packet : List ℕ
  behind : List (List ℕ)
  cut : ps ≡ before ++ (packet ∷ behind)
  closed : (after a before).transfer ≡ Closed
  stays : (early late : List (List ℕ)) → behind ≡ early ++ late → (after a (before ++ (packet ∷ early))).transfer ≡ Closed → ⊥
  place : n ≡ at + bytes_in before

-- or it was open before them
abbrev LeavesOpen : ℕ → ℕ → State → List (List ℕ) → ℕ → Type 0
LeavesOpen opener at a ps n = (StaysOpen a ps × (n ≡ opener)) ⊎ Opens at a ps n

closed_not : (t : Transfer) → is_open t ≡ false → t ≡ Closed
closed_not Closed h = refl
closed_not (Opened c d) h = never (sym h)

module _ (opener at : ℕ) (a : State) (p : List ℕ) (ps : List (List ℕ)) (n : ℕ) where
  opens_more : LeavesOpen (cond (is_open a.transfer) opener at) (at + length p) (next a p) ps n → LeavesOpen opener at a (p ∷ ps) n
  opens_more (inl s) = go (is_open a.transfer) refl s.1
    where
      go : (t : Bool) → is_open a.transfer ≡ t → n ≡ cond t opener at → LeavesOpen opener at a (p ∷ ps) n
      go true t e = inl (still, e)
        where
          still : StaysOpen a (p ∷ ps)
          still [] late c z = unfold after in never (sym (ap is_open z) ∙ t)
          still (q ∷ early) late c z = unfold after in s.0 early late (behind_it c) (rw (sym (front c)) at z)
      go false t e =
          inr
          (record {
            before = [];
            packet = p;
            behind = ps;
            cut = refl;
            closed = unfold after in closed_not a.transfer t;
            stays = unfold after in s.0;
            place = unfold bytes_in in e ∙ omega arith;
          })
  opens_more (inr o) =
      unfold after bytes_in in
      inr
      (record {
        before = p ∷ o.before;
        packet = o.packet;
        behind = o.behind;
        cut = ap {B = List (List ℕ)} (λ x. p ∷ x) o.cut;
        closed = o.closed;
        stays = o.stays;
        place = o.place ∙ omega arith;
      })

  opens_less : LeavesOpen opener at a (p ∷ ps) n → LeavesOpen (cond (is_open a.transfer) opener at) (at + length p) (next a p) ps n
  opens_less (inl s) =
      inl (λ early late c z. s.0 (p ∷ early) late (ap {B = List (List ℕ)} (λ x. p ∷ x) c) (unfold after in z), go (is_open a.transfer) refl)
    where
      go : (t : Bool) → is_open a.transfer ≡ t → n ≡ cond t opener at
      go true t = s.1
      go false t = absurd (s.0 [] (p ∷ ps) refl (unfold after in closed_not a.transfer t))
  opens_less (inr o) = go o.before o.cut o.closed o.stays o.place
    where
      go : (before : List (List ℕ)) → p ∷ ps ≡ before ++ (o.packet ∷ o.behind) → (after a before).transfer ≡ Closed
          → ((early late : List (List ℕ)) → o.behind ≡ early ++ late → (after a (before ++ (o.packet ∷ early))).transfer ≡ Closed → ⊥)
          → n ≡ at + bytes_in before
          → LeavesOpen (cond (is_open a.transfer) opener at) (at + length p) (next a p) ps n
      go [] c z s e =
          unfold after bytes_in in
          let same : o.packet ≡ p = sym (front c) in
          inl (λ early late d w. s early late (sym (behind_it c) ∙ d) (rw same w), rw z (e ∙ omega arith))
      go (q ∷ before) c z s e =
          unfold after bytes_in in
          let same : q ≡ p = sym (front c) in
          inr
          (record {
            before = before;
            packet = o.packet;
            behind = o.behind;
            cut = behind_it c;
            closed = rw same at z;
            stays = rw same at s;
            place = rw same at e ∙ omega arith;
          })

opens_least : (opener at : ℕ) (a : State) (ps : List (List ℕ)) → Least (LeavesOpen opener at a ps) (left_open opener at a ps)
unfolding left_open
opens_least opener at a [] = go (is_open a.transfer) refl
  where
    go : (t : Bool) → is_open a.transfer ≡ t → Least (LeavesOpen opener at a []) (cond t (Some opener) None)
    go true t = (inl (still, refl), λ m. ⊎_elim (λ s. omega (arith, s.1)) (λ o. nothing_there o.before o.packet o.behind o.cut))
      where
        still : StaysOpen a []
        still [] late c z = unfold after in never (sym (ap is_open z) ∙ t)
        still (q ∷ early) late c z = nothing_there [] q (early ++ late) c
    go false t = λ m. ⊎_elim (λ s. s.0 [] [] refl (unfold after in closed_not a.transfer t)) (λ o. nothing_there o.before o.packet o.behind o.cut)
opens_least opener at a (p ∷ ps) =
    least_map (opens_more opener at a p ps) (opens_less opener at a p ps)
    (left_open (cond (is_open a.transfer) opener at) (at + length p) (next a p) ps)
    (opens_least (cond (is_open a.transfer) opener at) (at + length p) (next a p) ps)

-- All three, of bytes that are played from the settings s.
module _ (s : Settings) (b : List ℕ) where
  abbrev Half : ℕ → Type 0
  Half n = (half_sent b ≡ [] → ⊥) × (n ≡ bytes_in (packets b))

  half_least : Least Half (unfinished b)
  unfolding unfinished
  half_least = go (half_sent b) refl
    where
      go : (r : List ℕ) → half_sent b ≡ r → Least Half (cond (is_nil r) None (Some (bytes_in (packets b))))
      go [] e = λ m h. h.0 e
      go (x ∷ r) e = ((λ z. let w : ◌≡◌ {A = ℕ} 0 1 = cc in omega arith, refl), λ m h. omega (arith, h.1))

  -- the offences, by their kinds
  abbrev Kinds : ℕ → Type 0
  Kinds n = Refused 0 (from s) (packets b) n ⊎ (Half n ⊎ LeavesOpen 0 0 (from s) (packets b) n)

  kinds_least : Least Kinds (offence s b)
  unfolding offence
  kinds_least =
      least_either (Refused 0 (from s) (packets b)) (λ n. Half n ⊎ LeavesOpen 0 0 (from s) (packets b) n) (not_acknowledged 0 (from s) (packets b)) (earlier (unfinished b) (left_open 0 0 (from s) (packets b)))
      (refused_least 0 (from s) (packets b))
      (least_either Half (LeavesOpen 0 0 (from s) (packets b)) (unfinished b) (left_open 0 0 (from s) (packets b)) half_least (opens_least 0 0 (from s) (packets b)))

  of_kind : (n : ℕ) → Kinds n → Offends s b n
  of_kind n (inl r) = subst (Offends s b) (sym (r.place ∙ zero-add (bytes_in r.before))) (NotAcknowledged r.before r.packet r.behind r.cut r.bad)
  of_kind n (inr (inl h)) = subst (Offends s b) (sym h.1) (Unfinished h.0)
  of_kind n (inr (inr (inl o))) = absurd (o.0 [] (packets b) refl (unfold after in refl))
  of_kind n (inr (inr (inr o))) =
      subst (Offends s b) (sym (o.place ∙ zero-add (bytes_in o.before))) (LeftOpen o.before o.packet o.behind o.cut o.closed o.stays)

  kind_of : (n : ℕ) → Offends s b n → Kinds n
  kind_of n (NotAcknowledged before p behind c e) =
      inl (record { before = before; packet = p; behind = behind; cut = c; bad = e; place = sym (zero-add (bytes_in before)) })
  kind_of n (Unfinished h) = inr (inl (h, refl))
  kind_of n (LeftOpen before p behind c z w) =
      inr (inr (inr (record { before = before; packet = p; behind = behind; cut = c; closed = z; stays = w; place = sym (zero-add (bytes_in before)) })))

  offends_least : Least (Offends s b) (offence s b)
  offends_least = least_map of_kind kind_of (offence s b) kinds_least

  pub none_offends : offence s b ≡ None → (m : ℕ) → Offends s b m → ⊥
  none_offends e m h = subst (Least (Offends s b)) e offends_least m h

  -- what offends stands at its place
  pub stands_there : (n : ℕ) (o : Offends s b n) → (take (length (offending o)) (drop n b) ≡ offending o) × (n < length b)
  unfolding rest
  stands_there n (NotAcknowledged before p behind c e) = (packet_there b before p behind c, packet_within b before p behind c)
  stands_there n (Unfinished h) = (take_all (length (half_sent b)) (half_sent b) (omega arith), rest_within b h)
  stands_there n (LeftOpen before p behind c z w) = (packet_there b before p behind c, packet_within b before p behind c)

  -- the place that is named is the earliest
  pub earliest_named : (n : ℕ) → (offence s b ≡ Some n) ↔ Earliest s b n
  earliest_named n = (
    λ e. let l = subst (Least (Offends s b)) e offends_least in record { offends = l.0; first = l.1 },
    λ h. named (offence s b) offends_least h,
  )
    where
      named : (o : Option ℕ) → Least (Offends s b) o → Earliest s b n → o ≡ Some n
      named None l h = absurd (l n h.offends)
      named (Some m) l h = let e : m ≡ n = omega (arith, l.1 n h.offends, h.first m l.0) in ap Some e

-- none is named exactly where there is no offence.
abbrev absent : Option ℕ → Bool
absent None = true
absent (Some n) = false

absent_both : (o p : Option ℕ) → absent (earlier o p) ≡ (absent o && absent p)
absent_both None p = refl
absent_both (Some m) None = refl
absent_both (Some m) (Some n) = refl

absent_refused : (at : ℕ) (a : State) (ps : List (List ℕ)) → absent (not_acknowledged at a ps) ≡ all_acknowledged (judgements a ps)
unfolding not_acknowledged judgements all_acknowledged
absent_refused at a [] = refl
absent_refused at a (p ∷ ps) = go (acknowledged (judged a p)) (absent_refused (at + length p) (next a p) ps)
  where
    go : (t : Bool) → absent (not_acknowledged (at + length p) (next a p) ps) ≡ all_acknowledged (judgements (next a p) ps)
        → absent (cond t (not_acknowledged (at + length p) (next a p) ps) (Some at)) ≡ (t && all_acknowledged (judgements (next a p) ps))
    go true e = e
    go false e = refl

absent_open : (opener at : ℕ) (a : State) (ps : List (List ℕ)) → absent (left_open opener at a ps) ≡ not (is_open (after a ps).transfer)
unfolding left_open after
absent_open opener at a [] = go (is_open a.transfer)
  where
    go : (t : Bool) → absent (cond t (Some opener) None) ≡ not t
    go true = refl
    go false = refl
absent_open opener at a (p ∷ ps) = absent_open (cond (is_open a.transfer) opener at) (at + length p) (next a p) ps

absent_half : (b : List ℕ) → absent (unfinished b) ≡ is_nil (half_sent b)
unfolding unfinished
absent_half b = go (is_nil (half_sent b))
  where
    go : (t : Bool) → absent (cond t None (Some (bytes_in (packets b)))) ≡ t
    go true = refl
    go false = refl

absent_none : (o : Option ℕ) → (o ≡ None) ↔ (absent o ≡ true)
absent_none None = (λ _. refl, λ _. refl)
absent_none (Some n) = (λ e. let z : ◌≡◌ {A = ℕ} 0 1 = cc in absurd (omega arith), λ e. never e)

pub nil_only : (l : List ℕ) → is_nil l ≡ true → l ≡ []
nil_only [] h = refl
nil_only (x ∷ l) h = never h

module _ (s : Settings) (b : List ℕ) where
  absent_is : absent (offence s b) ≡ (all_acknowledged (judgements_on s b) && (is_nil (half_sent b) && not (is_open (play s b).transfer)))
  unfolding offence play
  absent_is =
      absent_both (not_acknowledged 0 (from s) (packets b)) (earlier (unfinished b) (left_open 0 0 (from s) (packets b)))
      ∙ ap₂ ◌&&◌ (absent_refused 0 (from s) (packets b))
      (absent_both (unfinished b) (left_open 0 0 (from s) (packets b)) ∙ ap₂ ◌&&◌ (absent_half b) (absent_open 0 0 (from s) (packets b)))

  pub none_named : (offence s b ≡ None) ↔ ((all_acknowledged (judgements_on s b) ≡ true) × ((play s b).transfer ≡ Closed) × (half_sent b ≡ []))
  none_named = (
    λ e.
        let all = sym absent_is ∙ (absent_none (offence s b)).0 e in
        let left = true_and_right (all_acknowledged (judgements_on s b)) _ all in
        (true_and_left _ _ all, closed_not (play s b).transfer (not-true _ (true_and_right (is_nil (half_sent b)) _ left)), nil_only (half_sent b) (true_and_left _ _ left)),
    λ h. (absent_none (offence s b)).1 (absent_is ∙ rw (h.0, h.1, h.2)),
  )
