-- A report that is laid out is read as it was laid out, record by record.
use Prim.Native.Nat.{ℕ, ◌+◌, ◌*◌, ◌<◌, ◌≤◌}
use mathlib.Core.Path.{◌≡◌, refl, ap, ap₂, sym, ◌∙◌}
use mathlib.Core.Bool.{true, not}
use mathlib.Core.List.{List, [], ◌∷◌, ◌++◌, append_assoc, append-nil}
use native.Mathlib.Omega.{arith}
use native.Mathlib.Nat.{suc-add, zero-add}
use lib.Dec.{eqb, ltb}
use borrow.Author.Tests.{le-leb, eq-eqb, ne_eqb, lt-ltb}
use lib.ListN.{length, take, drop, length-append}
use lib.Seq.{take_at, drop_at}
use Rattle.packet.specs.Number.{value_of, bytes_of}
use Rattle.packet.proofs.NumberLaws.{value_bytes, length_bytes}
use Rattle.command.specs.Player.{is_nil}
use Rattle.report.specs.Record.{Out, Good, ◌>>=◌, ◌>>◌, need, sized, reading}
use Rattle.report.specs.Report.{Trial, Report, read_trials, read_head, read_end, read_report}
use Rattle.report.specs.Claim.{record_of, head_of, trial_of, trial_records, report_of, Scores}
use Rattle.report.proofs.record.Laws.{run, pass, whole_record}
use Rattle.report.proofs.trials.Turns.{onto, onto_none, onto_more}

-- How long a record is, the trials, and a report.
pub length_record : (kind : ℕ) (body : List ℕ) → length (record_of kind body) ≡ 4 + length body
unfolding record_of bytes_of
length_record kind body = omega arith

pub length_before : (kind : ℕ) (body left : List ℕ) → length (record_of kind body ++ left) ≡ 4 + length body + length left
length_before kind body left = length-append (record_of kind body) left ∙ ap (λ (x : ℕ). x + length left) (length_record kind body)

pub length_trial : (t : Trial) → length (bytes_of 4 t.score ++ t.bytes) ≡ 4 + length t.bytes
length_trial t = length-append (bytes_of 4 t.score) t.bytes ∙ ap (λ (x : ℕ). x + length t.bytes) (length_bytes 4 t.score)

pub count_bound : (ts : List Trial) → 4 * length ts ≤ length (trial_records ts)
unfolding trial_records
count_bound [] = omega arith
count_bound (t ∷ ts) = omega (arith, count_bound ts, length_before 2 (bytes_of 4 t.score ++ t.bytes) (trial_records ts))

pub length_report : (ts : List Trial) (k : ℕ) (ship : List ℕ) → length (report_of ts k ship) ≡ 18 + length (trial_records ts) + length ship
unfolding report_of
length_report ts k ship = simp (length-append, length_record, length_bytes) (omega arith)

-- Any record: its length and its kind are there.
module _ (kind : ℕ) (body left : List ℕ) (k : kind < 65536) (n : length body < 65536) where
  pub length_there : value_of (take 2 (record_of kind body ++ left)) ≡ length body
  unfolding record_of bytes_of
  length_there = value_bytes 2 (length body) n

  pub kind_there : value_of (take 2 (drop 2 (record_of kind body ++ left))) ≡ kind
  unfolding record_of bytes_of
  kind_there = value_bytes 2 kind k

  pub whole_there : 4 + value_of (take 2 (record_of kind body ++ left)) ≤ length (record_of kind body ++ left)
  whole_there = omega (arith, length_there, length_before kind body left)

  pub reading_record : (at : ℕ) → sized kind (length body) ≡ true → reading kind at (record_of kind body ++ left) ≡ Good (record { body = body; left = left })
  reading_record at s =
      whole_record kind at (record_of kind body ++ left) whole_there kind_there (ap (sized kind) length_there ∙ s)
      ∙ rw (length_there, drop_at (record_of kind body) left (4 + length body) (length_record kind body), body_there, take_at body left (length body) refl)
    where
      body_there : drop 4 (record_of kind body ++ left) ≡ body ++ left
      body_there = unfold record_of bytes_of in refl

-- Kind 1, with any version and count.
pub head_laid : (v n : ℕ) (left : List ℕ) → length (record_of 1 (bytes_of 2 v ++ bytes_of 2 n) ++ left) ≤ 60000
    → read_head (record_of 1 (bytes_of 2 v ++ bytes_of 2 n) ++ left)
    ≡ (need (eqb (value_of (bytes_of 2 v)) 1) 14 0 >> (need (not (eqb (value_of (bytes_of 2 n)) 0)) 15 0 >> Good (value_of (bytes_of 2 n))))
unfolding read_head
head_laid v n left l =
    let body = bytes_of 2 v ++ bytes_of 2 n in
    let four : length body ≡ 4 = length-append (bytes_of 2 v) (bytes_of 2 n) ∙ ap₂ ◌+◌ (length_bytes 2 v) (length_bytes 2 n) in
    pass _ 10 0 _ (le-leb (length (record_of 1 body ++ left)) 60000 l)
    (run (reading 1 0 (record_of 1 body ++ left)) _ (reading_record 1 body left (omega arith) (omega arith) 0 (eq-eqb (length body) 4 four))
    (rw (take_at (bytes_of 2 v) (bytes_of 2 n) 2 (length_bytes 2 v), drop_at (bytes_of 2 v) (bytes_of 2 n) 2 (length_bytes 2 v))))

-- kind 1 is read, and the trials are next
pub to_trials : (n : ℕ) (left : List ℕ) → 0 < n → n < 65536 → length (head_of n ++ left) ≤ 60000 → {o : Out Report}
    → (read_trials n 8 left >>= read_end n) ≡ o
    → read_report (head_of n ++ left) ≡ o
unfolding read_report
to_trials n left z c l {o} h =
    let body = bytes_of 2 1 ++ bytes_of 2 n in
    let eight : drop 8 (head_of n ++ left) ≡ left = drop_at (head_of n) left 8 (length_record 1 body ∙ ap (λ (x : ℕ). 4 + x) (length-append (bytes_of 2 1) (bytes_of 2 n) ∙ ap₂ ◌+◌ (length_bytes 2 1) (length_bytes 2 n))) in
    let one = value_bytes 2 1 (omega arith) in
    let many = value_bytes 2 n c in
    run (read_head (head_of n ++ left)) _
    (head_laid 1 n left l ∙ pass _ 14 0 _ (eq-eqb (value_of (bytes_of 2 1)) 1 one) (pass _ 15 0 _ (ap not (ne_eqb (value_of (bytes_of 2 n)) 0 (omega (arith, many)))) (ap Good many)))
    (rw eight h)

-- some trials, and what is read after them
pub reading_prefix : (ts : List Trial) (m at : ℕ) (left : List ℕ) → Scores ts → length (trial_records ts) ≤ 60000
    → read_trials (length ts + m) at (trial_records ts ++ left) ≡ (read_trials m (at + length (trial_records ts)) left >>= λ q. Good (onto ts q))
unfolding read_trials trial_records
reading_prefix [] m at left s n =
    let here : at + 0 ≡ at = omega arith in
    rw (zero-add, here) (onto_none (read_trials m at left))
reading_prefix (t ∷ ts) m at left s n =
    let body = bytes_of 4 t.score ++ t.bytes in
    let lb : length body ≡ 4 + length t.bytes = length_trial t in
    let lr : length (trial_of t ++ trial_records ts) ≡ 4 + length body + length (trial_records ts) = length_before 2 body (trial_records ts) in
    let next : at + 4 + length body + length (trial_records ts) ≡ at + length (trial_of t ++ trial_records ts) = omega arith in
    ap (λ (k : ℕ). read_trials k at ((trial_of t ++ trial_records ts) ++ left)) (suc-add (length ts) m)
    ∙ run (reading 2 at ((trial_of t ++ trial_records ts) ++ left)) _
    (ap (reading 2 at) (append_assoc (trial_of t) (trial_records ts) left) ∙ reading_record 2 body (trial_records ts ++ left) (omega arith) (omega arith) at (le-leb 4 (length body) (omega arith)))
    (rw (take_at (bytes_of 4 t.score) t.bytes 4 (length_bytes 4 t.score), drop_at (bytes_of 4 t.score) t.bytes 4 (length_bytes 4 t.score), value_bytes 4 t.score s.0)
    (ap (λ x. x >>= λ q. Good (onto (t ∷ []) q)) (reading_prefix ts m (at + 4 + length body) left s.1 (omega arith))
    ∙ onto_more (t ∷ []) ts (read_trials m (at + 4 + length body + length (trial_records ts)) left)
    ∙ ap (λ (x : ℕ). read_trials m x left >>= λ q. Good (onto (t ∷ ts) q)) next))

-- the trials are read, and kind 3 is next
pub to_winner : (ts : List Trial) (left : List ℕ) → 0 < length ts → length ts < 65536 → Scores ts
    → length (head_of (length ts) ++ (trial_records ts ++ left)) ≤ 60000
    → {o : Out Report}
    → read_end (length ts) (record { list = ts; at = 8 + length (trial_records ts); left = left }) ≡ o
    → read_report (head_of (length ts) ++ (trial_records ts ++ left)) ≡ o
unfolding read_trials ◌>>=◌
to_winner ts left z c s l {o} h =
    let few : length (trial_records ts) ≤ 60000 = omega (arith, length-append (head_of (length ts)) (trial_records ts ++ left), length-append (trial_records ts) left) in
    let none : length ts + 0 ≡ length ts = omega arith in
    to_trials (length ts) (trial_records ts ++ left) z c l
    (run (read_trials (length ts) 8 (trial_records ts ++ left)) (read_end (length ts))
    (ap (λ (x : ℕ). read_trials x 8 (trial_records ts ++ left)) (sym none)
    ∙ reading_prefix ts 0 8 left s few
    ∙ ap (λ (x : List Trial). Good (record { list = x; at = 8 + length (trial_records ts); left = left })) (append-nil ts))
    h)

-- Kind 3, with any winner.
pub winner_laid : (ts : List Trial) (n at k : ℕ) (left : List ℕ)
    → read_end n (record { list = ts; at = at; left = record_of 3 (bytes_of 2 k) ++ left })
    ≡ (need (ltb (value_of (bytes_of 2 k)) n) 16 at
    >> (reading 4 (at + 6) left
    >>= λ s. need (is_nil s.left) 20 (at + 10 + length s.body) >> Good (record { trials = ts; winner = value_of (bytes_of 2 k); shipping = s.body; place = at })))
unfolding read_end
winner_laid ts n at k left =
    run (reading 3 at (record_of 3 (bytes_of 2 k) ++ left)) _
    (reading_record 3 (bytes_of 2 k) left (omega arith) (omega (arith, length_bytes 2 k)) at (eq-eqb (length (bytes_of 2 k)) 2 (length_bytes 2 k))) refl

-- the winner is read, and kind 4 is next
pub to_shipping : (ts : List Trial) (k : ℕ) (left : List ℕ) → k < length ts → length ts < 65536 → Scores ts
    → length (head_of (length ts) ++ (trial_records ts ++ (record_of 3 (bytes_of 2 k) ++ left))) ≤ 60000
    → {o : Out Report}
    → (reading 4 (14 + length (trial_records ts)) left
    >>= λ s.
    (need (is_nil s.left) 20 (18 + length (trial_records ts) + length s.body)
    >> Good (record { trials = ts; winner = k; shipping = s.body; place = 8 + length (trial_records ts) })))
    ≡ o
    → read_report (head_of (length ts) ++ (trial_records ts ++ (record_of 3 (bytes_of 2 k) ++ left))) ≡ o
to_shipping ts k left w c s l {o} h =
    let at : ℕ = 8 + length (trial_records ts) in
    let win : value_of (bytes_of 2 k) ≡ k = value_bytes 2 k (omega arith) in
    let a1 : at + 6 ≡ 14 + length (trial_records ts) = omega arith in
    let a2 : at + 10 ≡ 18 + length (trial_records ts) = omega arith in
    to_winner ts (record_of 3 (bytes_of 2 k) ++ left) (omega arith) c s l
    (winner_laid ts (length ts) at k left ∙ pass _ 16 at _ (lt-ltb (value_of (bytes_of 2 k)) (length ts) (omega arith)) (rw (win, a1, a2) h))

-- Kind 4, and all of it.
pub reading_whole : (ts : List Trial) (k : ℕ) (ship : List ℕ) → Scores ts → k < length ts → length (report_of ts k ship) ≤ 60000
    → read_report (report_of ts k ship) ≡ Good (record { trials = ts; winner = k; shipping = ship; place = 8 + length (trial_records ts) })
unfolding report_of
reading_whole ts k ship s l n =
    let size = length_report ts k ship in
    to_shipping ts k (record_of 4 ship) l (omega (arith, count_bound ts, size)) s n
    (run (reading 4 (14 + length (trial_records ts)) (record_of 4 ship)) _
    (ap (reading 4 (14 + length (trial_records ts))) (sym (append-nil (record_of 4 ship))) ∙ reading_record 4 ship [] (omega arith) (omega (arith, size)) (14 + length (trial_records ts)) refl)
    (pass true 20 _ _ refl refl))
