-- What the reading of any bytes gives: a report with its layout, or a line of the table of refusals.
use Prim.Native.Nat.{ℕ, zero, suc, ◌+◌, ◌^◌, ◌<◌, ◌≤◌}
use mathlib.Core.Path.{◌≡◌, refl, ap, ap₂, sym, ◌∙◌, subst}
use mathlib.Core.Bool.{Bool, true, false, not, ◌&&◌}
use mathlib.Core.List.{List, [], ◌∷◌, ◌++◌, append_assoc, append-nil}
use Rattle.std.specs.Prelude.{Option, None, Some}
use Rattle.std.proofs.lemmas.Bool.{and_from}
use native.Mathlib.Omega.{arith}
use lib.Dec.{leb, eqb}
use borrow.Author.Tests.{leb-true, leb-false, le-leb, eqb-true, eqb-false, ltb-true, ltb-false, not-true}
use lib.ListN.{length, take, drop, length-append, take-append-drop, length-drop}
use lib.Seq.{drop_at, drop-drop, length-take-le}
use Rattle.packet.specs.Number.{value_of, bytes_of, Bytes}
use Rattle.packet.proofs.Cases.{bool_cases, true_and_right}
use Rattle.packet.proofs.NumberLaws.{bytes_take, bytes_drop, bytes_value, value_bound}
use Rattle.command.specs.Player.{is_nil}
use Rattle.command.proofs.PlayerOffences.{nil_only}
use Rattle.report.specs.Record.{Out, Bad, Good, ◌>>=◌, ◌>>◌, need, without, Piece, sized, reading}
use Rattle.report.specs.Report.{Trial, Trials, Report, read_trials, read_head, read_end, read_report}
use Rattle.report.specs.Claim.{record_of, head_of, trial_of, trial_records, report_of, Scores, Layout}
use Rattle.report.specs.Refusals.{Begins, Due, Head, More, Winner, Shipping, WrongLength, NotFour, UnderFour, NotTwo, Fault, F11, F12, F13, F14, F15, F16, F20, Refusal, Long, Later}
use Rattle.report.proofs.verdict.Laid.{length_record, length_report}

-- A reading ends with a refusal of which R holds, or with a value of which P holds.
pub data Ends {A : Type 0} (R : ℕ → ℕ → Type 0) (P : A → Type 0) : Out A → Type 0 where
  bad : {n p : ℕ} → R n p → Ends R P (Bad n p)
  good : {a : A} → P a → Ends R P (Good a)

pub then : {A B : Type 0} {R S : ℕ → ℕ → Type 0} {P : A → Type 0} {Q : B → Type 0} {m : Out A} (f : A → Out B) → Ends R P m → ((n p : ℕ) → R n p → S n p)
    → ((a : A) → P a → Ends S Q (f a))
    → Ends S Q (m >>= f)
unfolding ◌>>=◌
then f (bad {n} {p} h) g k = bad (g n p h)
then f (good {a} h) g k = k a h

-- a test that fails refuses
module _ {B : Type 0} {S : ℕ → ℕ → Type 0} {Q : B → Type 0} {m : Out B} (n p : ℕ) where
  pub needs : (t : Bool) → (t ≡ false → S n p) → (t ≡ true → Ends S Q m) → Ends S Q (need t n p >> m)
  unfolding ◌>>=◌ need
  needs true g k = k refl
  needs false g k = bad (g refl)

  pub needs_none : (o : Option ℕ) → ((k : ℕ) → o ≡ Some k → S n (p + k)) → (o ≡ None → Ends S Q m) → Ends S Q (without o n p >> m)
  unfolding ◌>>=◌ without
  needs_none None g h = h refl
  needs_none (Some k) g h = bad (g k refl)

  pub needs_equal : (x y : ℕ) → ((x ≡ y → ⊥) → S n p) → (x ≡ y → Ends S Q m) → Ends S Q (need (eqb x y) n p >> m)
  needs_equal x y g k = needs (eqb x y) (λ e. g (eqb-false x y e)) (λ e. k (eqb-true x y e))

-- Numbers and their bytes.
bytes_whole : (n : ℕ) (b : List ℕ) → Bytes b → length b ≡ n → (bytes_of n (value_of b) ≡ b) × (value_of b < 256 ^ n)
bytes_whole n b h l = (rw l at (bytes_value b h), rw l at (value_bound b h))

bytes_front : (n : ℕ) (b : List ℕ) → Bytes b → n ≤ length b → (bytes_of n (value_of (take n b)) ≡ take n b) × (value_of (take n b) < 256 ^ n)
bytes_front n b h l = bytes_whole n (take n b) (bytes_take n b h) (length-take-le n b l)

cut_at : (n m : ℕ) (b : List ℕ) → take m (drop n b) ++ drop (n + m) b ≡ drop n b
cut_at n m b = rw (← drop-drop m n b) (take-append-drop m (drop n b))

-- One record: b is the record of its kind and body, and what is left.
record Cut (kind : ℕ) (b : List ℕ) (p : Piece) : Type 0 where
  joined : b ≡ record_of kind p.body ++ p.left
  body_bytes : Bytes p.body
  left_bytes : Bytes p.left
  right : sized kind (length p.body) ≡ true

-- the record that is due is not there
data Unread (kind at : ℕ) (b : List ℕ) : ℕ → ℕ → Type 0 where
  Short : length b < 4 + value_of (take 2 b) → Unread kind at b 11 at
  Other : (other : ℕ) (body more : List ℕ) → b ≡ record_of other body ++ more → other < 65536 → (other ≡ kind → ⊥) → Unread kind at b 12 at
  Unsized : (body more : List ℕ) → b ≡ record_of kind body ++ more → sized kind (length body) ≡ false → Unread kind at b 13 at

short_false : (m n : ℕ) → (leb 4 n && leb (4 + m) n) ≡ false → n < 4 + m
short_false m n e =
    bool_cases (leb (4 + m) n)
    (λ t.
    let k : 4 ≤ n = omega (arith, leb-true (4 + m) n t) in
    absurd (cc (and_from (leb 4 n) (leb (4 + m) n) (le-leb 4 n k) t)))
    (λ f. leb-false (4 + m) n f)

-- a whole record is the record of its kind and body
module _ (b : List ℕ) (h : Bytes b) (l : 4 + value_of (take 2 b) ≤ length b) where
  body_size : length (take (value_of (take 2 b)) (drop 4 b)) ≡ value_of (take 2 b)
  body_size = length-take-le (value_of (take 2 b)) (drop 4 b) (simp length-drop (omega arith))

  kind_bytes : (bytes_of 2 (value_of (take 2 (drop 2 b))) ≡ take 2 (drop 2 b)) × (value_of (take 2 (drop 2 b)) < 65536)
  kind_bytes = bytes_front 2 (drop 2 b) (bytes_drop 2 b h) (simp length-drop (omega arith))

  whole_cut : b ≡ record_of (value_of (take 2 (drop 2 b))) (take (value_of (take 2 b)) (drop 4 b)) ++ drop (4 + value_of (take 2 b)) b
  unfolding record_of
  whole_cut =
      rw (
        append_assoc,
        append_assoc,
        body_size,
        (bytes_front 2 b h (omega arith)).0,
        kind_bytes.0,
        cut_at 4 (value_of (take 2 b)) b,
        cut_at 2 2 b,
        take-append-drop 2 b,
      )

reading_cut : (kind at : ℕ) (b : List ℕ) → Bytes b → Ends (Unread kind at b) (Cut kind b) (reading kind at b)
unfolding reading
reading_cut kind at b h =
    needs 11 at _ (λ t. Short (short_false (value_of (take 2 b)) (length b) t)) λ t.
    let l : 4 + value_of (take 2 b) ≤ length b = leb-true (4 + value_of (take 2 b)) (length b) (true_and_right (leb 4 (length b)) (leb (4 + value_of (take 2 b)) (length b)) t) in
    let whole = whole_cut b h l in
    let size = body_size b h l in
    needs_equal 12 at _ _ (λ e. Other (value_of (take 2 (drop 2 b))) _ _ whole (kind_bytes b h l).1 e) λ e.
    let joined = whole ∙ ap (λ (x : ℕ). record_of x (take (value_of (take 2 b)) (drop 4 b)) ++ drop (4 + value_of (take 2 b)) b) e in
    needs 13 at _ (λ s. Unsized _ _ joined (ap (sized kind) size ∙ s)) λ s.
    good
    (record {
      joined = joined;
      body_bytes = bytes_take (value_of (take 2 b)) (drop 4 b) (bytes_drop 4 b h);
      left_bytes = bytes_drop (4 + value_of (take 2 b)) b h;
      right = ap (sized kind) size ∙ s;
    })

-- a record that is due and is not of its kind's size has a wrong length
due_wrong : {r : List ℕ} {kind at : ℕ} {b : List ℕ} → Due r kind at b → (n : ℕ) → sized kind n ≡ false → WrongLength kind n
due_wrong Head n h = NotFour n (eqb-false n 4 h)
due_wrong (More m ts left b l) n h = UnderFour n (leb-false 4 n h)
due_wrong (Winner ts left b l) n h = NotTwo n (eqb-false n 2 h)
due_wrong (Shipping ts k left b l) n h = absurd (cc)

-- it is refused where it was due
unread_fault : {r : List ℕ} {kind at : ℕ} {b : List ℕ} → Due r kind at b → (n p : ℕ) → Unread kind at b n p → Fault r n p
unread_fault {r} {kind} {at} {b} d n p (Short h) = F11 kind at b d h
unread_fault {r} {kind} {at} {b} d n p (Other other body more e o h) = F12 kind at b other body more d e o h
unread_fault {r} {kind} {at} {b} d n p (Unsized body more e h) = F13 kind at b body more d e (due_wrong d (length body) h)

-- Kind 1.
record Headed (r : List ℕ) (n : ℕ) : Type 0 where
  short : length r ≤ 60000
  joined : r ≡ head_of n ++ drop 8 r
  some : 0 < n
  few : n < 65536

not-false : (t : Bool) → not t ≡ false → t ≡ true
not-false true e = refl
not-false false e = sym e

reading_head : (r : List ℕ) → Bytes r → Ends (Refusal r) (Headed r) (read_head r)
unfolding read_head
reading_head r b =
    needs 10 0 _ (λ e. Long (leb-false (length r) 60000 e)) λ e10.
    let short : length r ≤ 60000 = leb-true (length r) 60000 e10 in
    then _ (reading_cut 1 0 r b) (λ n p u. Later n p short (unread_fault Head n p u)) λ h c.
    let v = value_of (take 2 h.body) in
    let n = value_of (drop 2 h.body) in
    let four : length h.body ≡ 4 = eqb-true (length h.body) 4 c.right in
    let version = bytes_front 2 h.body c.body_bytes (omega arith) in
    let count = bytes_whole 2 (drop 2 h.body) (bytes_drop 2 h.body c.body_bytes) (simp length-drop (omega arith)) in
    let parts : h.body ≡ bytes_of 2 v ++ bytes_of 2 n = sym (ap₂ (λ (x y : List ℕ). x ++ y) version.0 count.0 ∙ take-append-drop 2 h.body) in
    let joined : r ≡ record_of 1 (bytes_of 2 v ++ bytes_of 2 n) ++ h.left = c.joined ∙ ap (λ (x : List ℕ). record_of 1 x ++ h.left) parts in
    needs_equal 14 0 _ _ (λ e. Later 14 0 short (F14 v n h.left joined version.1 e)) λ v1.
    let head : r ≡ head_of n ++ h.left = joined ∙ ap (λ (x : ℕ). record_of 1 (bytes_of 2 x ++ bytes_of 2 n) ++ h.left) v1 in
    needs 15 0 _ (λ e. Later 15 0 short (F15 h.left (head ∙ ap (λ (x : ℕ). head_of x ++ h.left) (eqb-true n 0 (not-false (eqb n 0) e))))) λ z.
    let eight : length (head_of n) ≡ 8 = length_record 1 (bytes_of 2 1 ++ bytes_of 2 n) ∙ ap (λ (x : List ℕ). 4 + length x) (sym (parts ∙ ap (λ (x : ℕ). bytes_of 2 x ++ bytes_of 2 n) v1)) ∙ ap (λ (x : ℕ). 4 + x) four in
    let left : drop 8 r ≡ h.left = ap (drop 8) head ∙ drop_at (head_of n) h.left 8 eight in
    good
    (record {
      short = short;
      joined = head ∙ ap (λ (x : List ℕ). head_of n ++ x) (sym left);
      some = omega (arith, eqb-false n 0 (not-true (eqb n 0) z));
      few = count.1;
    })

-- The trials: r begins with kind 1, which counts n trials, and with those that were read.
record Begun (r : List ℕ) (n : ℕ) (q : Trials) : Type 0 where
  begins : Begins r n q.list q.left
  count : length q.list ≡ n
  place : q.at ≡ 8 + length (trial_records q.list)
  left_bytes : Bytes q.left

records_append : (ts us : List Trial) → trial_records (ts ++ us) ≡ trial_records ts ++ trial_records us
unfolding trial_records
records_append [] us = refl
records_append (t ∷ ts) us = ap (λ (x : List ℕ). trial_of t ++ x) (records_append ts us) ∙ sym (append_assoc (trial_of t) (trial_records ts) (trial_records us))

scores_append : (ts us : List Trial) → Scores ts → Scores us → Scores (ts ++ us)
scores_append [] us a b = b
scores_append (t ∷ ts) us a b = (a.0, scores_append ts us a.1 b)

-- one trial more
module _ (ts : List Trial) (t : Trial) where
  one_more : trial_records (ts ++ (t ∷ [])) ≡ trial_records ts ++ trial_of t
  unfolding trial_records
  one_more = records_append ts (t ∷ []) ∙ ap (λ (x : List ℕ). trial_records ts ++ x) (append-nil (trial_of t))

  begins_more : {r : List ℕ} {n : ℕ} {b left : List ℕ} → Begins r n ts b → t.score < 2 ^ 32 → b ≡ trial_of t ++ left → Begins r n (ts ++ (t ∷ [])) left
  begins_more {n = n} {left = left} g s e =
      record {
        joined = g.joined ∙ rw (e, one_more, append_assoc);
        count = g.count;
        scores = scores_append ts (t ∷ []) g.scores (s, tt);
      }

  length_more : length (trial_records (ts ++ (t ∷ []))) ≡ length (trial_records ts) + 4 + length (bytes_of 4 t.score ++ t.bytes)
  length_more = ap length one_more ∙ omega (arith, length-append (trial_records ts) (trial_of t), length_record 2 (bytes_of 4 t.score ++ t.bytes))

reading_trials : (r : List ℕ) (total n at : ℕ) (ts : List Trial) (b : List ℕ) → Begins r total ts b → total ≡ length ts + n
    → at ≡ 8 + length (trial_records ts)
    → Bytes b
    → Ends (Fault r) (λ q. Begun r total (record { list = ts ++ q.list; at = q.at; left = q.left })) (read_trials n at b)
unfolding read_trials
reading_trials r total zero at ts b g c a h =
    good (subst (λ (x : List Trial). Begun r total (record { list = x; at = at; left = b })) (sym (append-nil ts)) (record { begins = g; count = omega arith; place = a; left_bytes = h }))
reading_trials r total (suc n) at ts b g c a h =
    then _ (reading_cut 2 at b h) (unread_fault (subst (λ (x : ℕ). Due r 2 x b) (sym a) (More total ts b g (omega arith)))) λ p d.
    let l : 4 ≤ length p.body = leb-true 4 (length p.body) d.right in
    let one : Trial = record { score = value_of (take 4 p.body); bytes = drop 4 p.body } in
    let score = bytes_front 4 p.body d.body_bytes l in
    let whole : bytes_of 4 one.score ++ one.bytes ≡ p.body = ap (λ (x : List ℕ). x ++ drop 4 p.body) score.0 ∙ take-append-drop 4 p.body in
    let next : at + 4 + length p.body ≡ 8 + length (trial_records (ts ++ (one ∷ []))) = omega (arith, length_more ts one, ap length whole) in
    then _
    (reading_trials r total n (at + 4 + length p.body) (ts ++ (one ∷ [])) p.left
    (begins_more ts one g score.1 (d.joined ∙ ap (λ (x : List ℕ). record_of 2 x ++ p.left) (sym whole)))
    (omega (arith, length-append ts (one ∷ []))) next d.left_bytes)
    (λ x y f. f) λ q k.
    good (subst (λ (x : List Trial). Begun r total (record { list = x; at = q.at; left = q.left })) (append_assoc ts (one ∷ []) q.list) k)

-- Kinds 3 and 4, and nothing after them.
pub record Laid (r : List ℕ) (p : Report) : Type 0 where
  pub short : length r ≤ 60000
  pub keeps : Layout r p.trials p.winner p.shipping
  pub put : p.place ≡ 8 + length (trial_records p.trials)

-- the bytes after kind 4, if there are any
after_four : (r : List ℕ) (ts : List Trial) (k : ℕ) (ship left : List ℕ) → r ≡ report_of ts k ship ++ left → Scores ts → k < length ts → is_nil left ≡ false
    → Fault r 20 (length (report_of ts k ship))
after_four r ts k ship [] e s w h = absurd (cc)
after_four r ts k ship (x ∷ left) e s w h = F20 ts k ship x left e s w

reading_end : (r : List ℕ) (ts : List Trial) (left : List ℕ) → length r ≤ 60000 → Begins r (length ts) ts left → 0 < length ts → Bytes left
    → Ends (Refusal r) (Laid r) (read_end (length ts) (record { list = ts; at = 8 + length (trial_records ts); left = left }))
unfolding read_end report_of
reading_end r ts left short begins any b =
    let at : ℕ = 8 + length (trial_records ts) in
    let later : (n p : ℕ) → Fault r n p → Refusal r n p = λ n p f. Later n p short f in
    then _ (reading_cut 3 at left b) (λ n p u. later n p (unread_fault (Winner ts left begins any) n p u)) λ w c3.
    let k = value_of w.body in
    let number = bytes_whole 2 w.body c3.body_bytes (eqb-true (length w.body) 2 c3.right) in
    let begun : Begins r (length ts) ts (record_of 3 (bytes_of 2 k) ++ w.left) =
    subst (Begins r (length ts) ts) (c3.joined ∙ ap (λ (x : List ℕ). record_of 3 x ++ w.left) (sym number.0)) begins in
    needs 16 at _ (λ e. later 16 at (F16 ts k w.left begun any number.1 (ltb-false k (length ts) e))) λ e3.
    let named : k < length ts = ltb-true k (length ts) e3 in
    let at4 : at + 6 ≡ 14 + length (trial_records ts) = omega arith in
    then _ (reading_cut 4 (at + 6) w.left c3.left_bytes)
    (λ n p u. later n p (unread_fault (subst (λ (x : ℕ). Due r 4 x w.left) (sym at4) (Shipping ts k w.left begun named)) n p u)) λ s c4.
    let laid : r ≡ report_of ts k s.body ++ s.left =
    begun.joined
    ∙ ap (λ (x : List ℕ). head_of (length ts) ++ (trial_records ts ++ (record_of 3 (bytes_of 2 k) ++ x))) c4.joined
    ∙ simp append_assoc in
    let at20 : at + 10 + length s.body ≡ length (report_of ts k s.body) = omega (arith, length_report ts k s.body) in
    needs 20 (at + 10 + length s.body) _
    (λ e. later 20 (at + 10 + length s.body) (subst (Fault r 20) (sym at20) (after_four r ts k s.body s.left laid begins.scores named e))) λ e4.
    good
    (record {
      short = short;
      keeps =
          record {
            laid = laid ∙ ap (λ (x : List ℕ). report_of ts k s.body ++ x) (nil_only s.left e4) ∙ append-nil (report_of ts k s.body);
            scores = begins.scores;
            named = named;
          };
      put = refl;
    })

-- All of it.
pub reading_report : (r : List ℕ) → Bytes r → Ends (Refusal r) (Laid r) (read_report r)
unfolding read_report trial_records
reading_report r b =
    then _ (reading_head r b) (λ n p f. f) λ n h.
    then _
    (reading_trials r n n 8 [] (drop 8 r) (record { joined = h.joined; count = h.few; scores = tt }) (omega arith) refl (bytes_drop 8 r b))
    (λ x p f. Later x p h.short f) λ q g.
    let begins : Begins r (length q.list) q.list q.left = subst (λ (x : ℕ). Begins r x q.list q.left) (sym g.count) g.begins in
    subst (λ (x : ℕ). Ends (Refusal r) (Laid r) (read_end x q)) g.count
    (subst (λ (x : ℕ). Ends (Refusal r) (Laid r) (read_end (length q.list) (record { list = q.list; at = x; left = q.left }))) (sym g.place)
    (reading_end r q.list q.left h.short begins (omega (arith, h.some, g.count)) g.left_bytes))
