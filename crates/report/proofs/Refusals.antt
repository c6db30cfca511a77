-- The refusals: each number is the verdict where its line of the table holds, and only there.
use Prim.Native.Nat.{ℕ, suc, ◌+◌, ◌-◌, ◌<◌, ◌≤◌}
use mathlib.Core.Path.{◌≡◌, refl, ap, sym, ◌∙◌, subst}
use mathlib.Core.Logic.{◌↔◌}
use mathlib.Core.Bool.{Bool, true, false, not}
use mathlib.Core.List.{List, ◌∷◌, ◌++◌, append_assoc}
use native.Mathlib.Omega.{arith}
use lib.Dec.{eqb}
use borrow.Author.Tests.{le-leb, lt-leb, eq-eqb, ne_eqb, le-ltb}
use lib.ListN.{length, take, length-append}
use Rattle.packet.specs.Number.{value_of, bytes_of, Bytes}
use Rattle.packet.proofs.Cases.{bool_cases}
use Rattle.packet.proofs.NumberLaws.{value_bytes}
use Rattle.command.specs.Settings.{factory}
use Rattle.command.specs.Player.{play, is_nil, Earliest}
use Rattle.command.proofs.PlayerOffences.{earliest_named}
use Rattle.report.specs.Record.{Bad, Good, ◌>>=◌, ◌>>◌, need, sized, reading}
use Rattle.report.specs.Report.{Trial, Report, read_trials, read_head, read_end, read_report, end_from, first_lowest, same_settings, check_report, Refused, verdict_of, verdict}
use Rattle.report.specs.Claim.{record_of, head_of, trial_records, report_of, Scores, Layout, FirstLowest, Ships}
use Rattle.report.specs.Refusals.{shipping_byte, Begins, Due, Head, More, Winner, Shipping, WrongLength, NotFour, UnderFour, NotTwo, Fault, F11, F12, F13, F14, F15, F16, F17, F18, F19, F20, Refusal, Long, Later}
use Rattle.report.proofs.record.Laws.{run, stop, pass, pass_none, fail, fail_some, short_body, other_kind, wrong_size}
use Rattle.report.proofs.verdict.Same.{settings_true}
use Rattle.report.proofs.trials.Laws.{lowest_true, lowest_back}
use Rattle.report.proofs.verdict.Laid.{length_before, length_report, count_bound, length_there, kind_there, whole_there, reading_record, head_laid, to_trials, reading_prefix, to_winner, winner_laid, to_shipping, reading_whole}
use Rattle.report.proofs.Demand3.{nothing_offends, Says, verdict_says}

-- A record that is due and is refused ends the reading. Some of the trials are read, and one more is next:
to_more : (n : ℕ) (ts : List Trial) (left : List ℕ) → n < 65536 → Scores ts → length ts < n
    → length (head_of n ++ (trial_records ts ++ left)) ≤ 60000
    → {x p : ℕ}
    → ((m : ℕ) → read_trials (suc m) (8 + length (trial_records ts)) left ≡ Bad x p)
    → read_report (head_of n ++ (trial_records ts ++ left)) ≡ Bad x p
to_more n ts left c s k l {x} {p} h =
    let m : ℕ = n - suc (length ts) in
    let e : n ≡ length ts + suc m = omega arith in
    let z : length (trial_records ts) ≤ 60000 = omega (arith, length-append (head_of n) (trial_records ts ++ left), length-append (trial_records ts) left) in
    to_trials n (trial_records ts ++ left) (omega arith) c l
    (stop (read_trials n 8 (trial_records ts ++ left)) (read_end n)
    (ap (λ (y : ℕ). read_trials y 8 (trial_records ts ++ left)) e
    ∙ reading_prefix ts (suc m) 8 left s z
    ∙ stop (read_trials (suc m) (8 + length (trial_records ts)) left) _ (h m)))

due_stop : (r : List ℕ) {kind at : ℕ} {left : List ℕ} {n p : ℕ} → length r ≤ 60000 → Due r kind at left → reading kind at left ≡ Bad n p
    → read_report r ≡ Bad n p
unfolding read_report read_head read_trials read_end
due_stop r l Head e = stop (read_head r) _ (pass _ 10 0 _ (le-leb (length r) 60000 l) (stop (reading 1 0 r) _ e))
due_stop r l (More m ts left b k) e =
    ap read_report b.joined
    ∙ to_more m ts left b.count b.scores k (subst (λ (x : List ℕ). length x ≤ 60000) b.joined l)
    (λ i. stop (reading 2 (8 + length (trial_records ts)) left) _ e)
due_stop r l (Winner ts left b z) e =
    ap read_report b.joined
    ∙ to_winner ts left z b.count b.scores (subst (λ (x : List ℕ). length x ≤ 60000) b.joined l)
    (stop (reading 3 (8 + length (trial_records ts)) left) _ e)
due_stop r l (Shipping ts k left b w) e =
    ap read_report b.joined
    ∙ to_shipping ts k left w b.count b.scores (subst (λ (x : List ℕ). length x ≤ 60000) b.joined l)
    (stop (reading 4 (14 + length (trial_records ts)) left) _ e)

-- what is left is part of the report
begins_length : {r : List ℕ} {n : ℕ} {ts : List Trial} {left : List ℕ} → Begins r n ts left → length left ≤ length r
begins_length {r} {n} {ts} {left} b =
    omega (arith, ap length b.joined, length-append (head_of n) (trial_records ts ++ left), length-append (trial_records ts) left)

due_length : (r : List ℕ) {kind at : ℕ} {left : List ℕ} → Due r kind at left → length left ≤ length r
due_length r Head = omega arith
due_length r (More m ts left b k) = begins_length b
due_length r (Winner ts left b z) = begins_length b
due_length r (Shipping ts k left b w) = omega (arith, begins_length b, length_before 3 (bytes_of 2 k) left)

due_kind : {r : List ℕ} {kind at : ℕ} {left : List ℕ} → Due r kind at left → kind < 65536
due_kind Head = omega arith
due_kind (More m ts left b k) = omega arith
due_kind (Winner ts left b z) = omega arith
due_kind (Shipping ts k left b w) = omega arith

-- The verdict of a reading that stops, and of a report that was read.
report_bad : (r : List ℕ) {n p : ℕ} → read_report r ≡ Bad n p → verdict r ≡ Refused n p
unfolding verdict verdict_of ◌>>=◌
report_bad r e = rw e

check_bad : (r : List ℕ) {n p : ℕ} (q : Report) → read_report r ≡ Good q → check_report factory q ≡ Bad n p → verdict r ≡ Refused n p
unfolding verdict verdict_of ◌>>=◌
check_bad r q e h = rw (e, h)

-- Number by number.
module _ (r : List ℕ) (l : length r ≤ 60000) where
  -- 11
  cut_short : {kind at : ℕ} {left : List ℕ} → Due r kind at left → length left < 4 + value_of (take 2 left) → verdict r ≡ Refused 11 at
  cut_short {kind} {at} {left} d h = report_bad r (due_stop r l d (short_body kind at left h))

  -- what is due begins with a record of some kind
  module _ {kind at : ℕ} {left : List ℕ} (d : Due r kind at left) (other : ℕ) (body more : List ℕ) (e : left ≡ record_of other body ++ more) where
    small : length body < 65536
    small = omega (arith, due_length r d, ap length e, length_before other body more)

    stopped : {n : ℕ} → reading kind at (record_of other body ++ more) ≡ Bad n at → verdict r ≡ Refused n at
    stopped h = report_bad r (due_stop r l d (ap (reading kind at) e ∙ h))

    -- 12
    another_kind : other < 65536 → (other ≡ kind → ⊥) → verdict r ≡ Refused 12 at
    another_kind o h =
        stopped (other_kind kind at (record_of other body ++ more) (whole_there other body more o small) (λ q. h (sym (kind_there other body more o small) ∙ q)))

    -- 13
    another_size : other ≡ kind → sized kind (length body) ≡ false → verdict r ≡ Refused 13 at
    another_size k h =
        let o : other < 65536 = omega (arith, due_kind d) in
        stopped
        (wrong_size kind at (record_of other body ++ more) (whole_there other body more o small) (kind_there other body more o small ∙ k)
        (ap (sized kind) (length_there other body more o small) ∙ h))

  -- kind 1 is there
  module _ (version count : ℕ) (more : List ℕ) (e : r ≡ record_of 1 (bytes_of 2 version ++ bytes_of 2 count) ++ more) where
    head_stop : {n p : ℕ}
        → (need (eqb (value_of (bytes_of 2 version)) 1) 14 0 >> (need (not (eqb (value_of (bytes_of 2 count)) 0)) 15 0 >> Good (value_of (bytes_of 2 count)))) ≡ Bad n p
        → verdict r ≡ Refused n p
    unfolding read_report
    head_stop h = report_bad r (stop (read_head r) _ (ap read_head e ∙ head_laid version count more (subst (λ (x : List ℕ). length x ≤ 60000) e l) ∙ h))

    -- 14
    other_version : version < 65536 → (version ≡ 1 → ⊥) → verdict r ≡ Refused 14 0
    other_version b h = head_stop (fail _ 14 0 _ (ne_eqb (value_of (bytes_of 2 version)) 1 (λ x. h (sym (value_bytes 2 version b) ∙ x))))

    -- 15
    no_trials : version ≡ 1 → count ≡ 0 → verdict r ≡ Refused 15 0
    no_trials v c =
        head_stop
        (pass _ 14 0 _ (eq-eqb (value_of (bytes_of 2 version)) 1 (value_bytes 2 version (omega arith) ∙ v))
        (fail _ 15 0 _ (ap not (eq-eqb (value_of (bytes_of 2 count)) 0 (value_bytes 2 count (omega arith) ∙ c)))))

  -- 16
  no_such_trial : (ts : List Trial) (k : ℕ) (more : List ℕ) → Begins r (length ts) ts (record_of 3 (bytes_of 2 k) ++ more) → 0 < length ts → k < 65536
      → length ts ≤ k
      → verdict r ≡ Refused 16 (8 + length (trial_records ts))
  no_such_trial ts k more b z c h =
      let at : ℕ = 8 + length (trial_records ts) in
      report_bad r
      (ap read_report b.joined
      ∙ to_winner ts (record_of 3 (bytes_of 2 k) ++ more) z b.count b.scores (subst (λ (x : List ℕ). length x ≤ 60000) b.joined l)
      (winner_laid ts (length ts) at k more ∙ fail _ 16 at _ (le-ltb (value_of (bytes_of 2 k)) (length ts) (omega (arith, value_bytes 2 k c)))))

  -- 20
  bytes_after : (ts : List Trial) (k : ℕ) (ship : List ℕ) (x : ℕ) (more : List ℕ) → r ≡ report_of ts k ship ++ (x ∷ more) → Scores ts → k < length ts
      → verdict r ≡ Refused 20 (length (report_of ts k ship))
  unfolding report_of
  bytes_after ts k ship x more e s w =
      let left = record_of 4 ship ++ (x ∷ more) in
      let f : r ≡ head_of (length ts) ++ (trial_records ts ++ (record_of 3 (bytes_of 2 k) ++ left)) = e ∙ simp append_assoc in
      let n : length r ≡ length (report_of ts k ship) + suc (length more) = ap length e ∙ length-append (report_of ts k ship) (x ∷ more) in
      let m : length (report_of ts k ship) ≡ 18 + length (trial_records ts) + length ship = length_report ts k ship in
      report_bad r
      (ap read_report f
      ∙ to_shipping ts k left w (omega (arith, count_bound ts)) s (subst (λ (y : List ℕ). length y ≤ 60000) f l)
      (run (reading 4 (14 + length (trial_records ts)) left) _ (reading_record 4 ship (x ∷ more) (omega arith) (omega arith) (14 + length (trial_records ts)) refl)
      (fail (is_nil (x ∷ more)) 20 (18 + length (trial_records ts) + length ship) _ refl ∙ ap (Bad 20) (sym m))))

  -- the report keeps the layout, and is read
  module _ (ts : List Trial) (k : ℕ) (ship : List ℕ) (y : Layout r ts k ship) where
    read : read_report r ≡ Good (record { trials = ts; winner = k; shipping = ship; place = 8 + length (trial_records ts) })
    read = ap read_report y.laid ∙ reading_whole ts k ship y.scores y.named (subst (λ (x : List ℕ). length x ≤ 60000) y.laid l)

    -- a test of what would have to hold
    fails : {P : Type 0} (t : Bool) → (t ≡ true → P) → (P → ⊥) → t ≡ false
    fails t f h = bool_cases t (λ e. absurd (h (f e))) (λ e. e)

    -- 17
    not_first : (FirstLowest ts k → ⊥) → verdict r ≡ Refused 17 (8 + length (trial_records ts))
    unfolding check_report
    not_first h = check_bad r _ read (fail _ 17 (8 + length (trial_records ts)) _ (fails (first_lowest ts k) (lowest_true ts k y.named) h))

    module _ (w : FirstLowest ts k) where
      four : (8 + length (trial_records ts)) + 6 ≡ 14 + length (trial_records ts)
      four = omega arith

      -- 18
      offends_first : (n : ℕ) → Earliest factory ship n → verdict r ≡ Refused 18 (shipping_byte ts n)
      unfolding check_report
      offends_first n h =
          let ten : (8 + length (trial_records ts)) + 10 + n ≡ shipping_byte ts n = omega arith in
          check_bad r _ read
          (pass _ 17 (8 + length (trial_records ts)) _ (lowest_back ts k w)
          (fail_some _ 18 ((8 + length (trial_records ts)) + 10) _ ((earliest_named factory ship n).1 h) ∙ ap (Bad 18) ten))

      -- 19
      not_same : Ships factory ship → ((play factory ship).settings ≡ end_from factory ts k → ⊥) → verdict r ≡ Refused 19 (14 + length (trial_records ts))
      unfolding check_report
      not_same c h =
          let a = (play factory ship).settings in
          let b = end_from factory ts k in
          check_bad r _ read
          (pass _ 17 (8 + length (trial_records ts)) _ (lowest_back ts k w)
          (pass_none _ 18 ((8 + length (trial_records ts)) + 10) _ (nothing_offends factory ship c)
          (fail _ 19 ((8 + length (trial_records ts)) + 6) _ (fails (same_settings a b) (settings_true a b) h) ∙ ap (Bad 19) four)))

-- 10
over_long : (r : List ℕ) → 60000 < length r → verdict r ≡ Refused 10 0
unfolding read_report read_head
over_long r h = report_bad r (stop (read_head r) _ (fail _ 10 0 _ (lt-leb (length r) 60000 h)))

-- 13
not_sized : {kind n : ℕ} → WrongLength kind n → sized kind n ≡ false
not_sized (NotFour n h) = ne_eqb n 4 h
not_sized (UnderFour n h) = lt-leb 4 n h
not_sized (NotTwo n h) = ne_eqb n 2 h

fault_refused : (r : List ℕ) {n p : ℕ} → length r ≤ 60000 → Fault r n p → verdict r ≡ Refused n p
fault_refused r l (F11 kind at left d h) = cut_short r l d h
fault_refused r l (F12 kind at left other body more d e o h) = another_kind r l d other body more e o h
fault_refused r l (F13 kind at left body more d e h) = another_size r l d kind body more e refl (not_sized h)
fault_refused r l (F14 v n more e b h) = other_version r l v n more e b h
fault_refused r l (F15 more e) = no_trials r l 1 0 more e refl refl
fault_refused r l (F16 ts k more b z c h) = no_such_trial r l ts k more b z c h
fault_refused r l (F20 ts k ship x more e s w) = bytes_after r l ts k ship x more e s w
fault_refused r l (F17 ts k ship y h) = not_first r l ts k ship y h
fault_refused r l (F18 ts k ship n y w h) = offends_first r l ts k ship y w n h
fault_refused r l (F19 ts k ship y w c h) = not_same r l ts k ship y w c h

-- where a line of the table holds, the report is refused with its number and place
refused : (r : List ℕ) {n p : ℕ} → Refusal r n p → verdict r ≡ Refused n p
refused r (Long h) = over_long r h
refused r (Later n p l h) = fault_refused r l h

-- A report is refused with a number and a place exactly where that line of the table holds.
pub refused_exactly : (r : List ℕ) (n p : ℕ) → Bytes r → (verdict r ≡ Refused n p) ↔ Refusal r n p
refused_exactly r n p b = ((λ e. subst (Says r) e (verdict_says r b)), refused r)
