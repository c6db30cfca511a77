-- The answer to a report, from what the code read: each refusal, and the yes.
use Prim.Native.Nat.{ℕ, ◌+◌, ◌-◌, ◌<◌}
use mathlib.Core.Path.{◌≡◌, refl, ap, ap₂, sym, ◌∙◌}
use mathlib.Core.Bool.{Bool, true, false}
use mathlib.Core.List.{List}
use Rattle.std.specs.Prelude.{None, Some}
use native.Mathlib.Omega.{arith}
use lib.Dec.{eqb, ltb}
use borrow.Author.Tests.{eqb-false, ltb-true}
use lib.ListN.{length, take, drop, length-drop}
use lib.Seq.{take_all}
use Rattle.packet.specs.Number.{value_of}
use Rattle.packet.proofs.Cases.{bool_cases}
use Rattle.command.specs.Settings.{factory}
use Rattle.command.specs.declared.settings.Settings.{Settings}
use Rattle.command.specs.Player.{play, is_nil, offence}
use Rattle.report.specs.Record.{Out, Bad, Good, ◌>>=◌, ◌>>◌, need, reading}
use Rattle.report.specs.Report.{Trial, Report, read_trials, read_head, read_end, read_report, first_lowest, same_settings, check_report, Accepted, verdict_of, Refused, verdict}
use Rattle.report.specs.Inner.{HeadIs, BestIs, named_at, WinnerIs}
use Rattle.report.proofs.record.Laws.{pass, pass_none, fail, fail_some}
use Rattle.report.proofs.trials.Laws.{lowest_true, lowest_back, lowest_one}

-- A reading that gives a value, step by step.
pub bad_good : {A : Type 0} {n p : ℕ} {a : A} → Bad n p ≡ Good a → ⊥
bad_good e = cc

then_good : {A B : Type 0} (m : Out A) (f : A → Out B) {b : B} → (m >>= f) ≡ Good b → (a : A) × (m ≡ Good a) × (f a ≡ Good b)
unfolding ◌>>=◌
then_good (Bad n p) f e = absurd (bad_good e)
then_good (Good a) f e = (a, refl, e)

need_good : {B : Type 0} (t : Bool) (n p : ℕ) (m : Out B) {b : B} → (need t n p >> m) ≡ Good b → (t ≡ true) × (m ≡ Good b)
unfolding need ◌>>=◌
need_good true n p m e = (refl, e)
need_good false n p m e = absurd (bad_good e)

-- what stands after the trials is of them: their list, their place, a winner among them
record Of (n : ℕ) (ts : List Trial) (at : ℕ) (p : Report) : Type 0 where
  list : p.trials ≡ ts
  place : p.place ≡ at
  named : p.winner < n

of_end : (n at : ℕ) (ts : List Trial) (left : List ℕ) (p : Report) → read_end n (record { list = ts; at = at; left = left }) ≡ Good p → Of n ts at p
unfolding read_end
of_end n at ts left p e =
    let w = then_good (reading 3 at left) _ e in
    let k = need_good (ltb (value_of w.0.body) n) 16 at _ w.2 in
    let s = then_good (reading 4 (at + 6) w.0.left) _ k.1 in
    let g = need_good (is_nil s.0.left) 20 (at + 10 + length s.0.body) _ s.2 in
    let is = good_same g.1 in
    record { list = ap (λ (x : Report). x.trials) (sym is); place = ap (λ (x : Report). x.place) (sym is); named = rw (sym is) (ltb-true (value_of w.0.body) n k.0) }
  where
    good_same : {A : Type 0} {a b : A} → Good a ≡ Good b → a ≡ b
    good_same q = cc

-- Refused before the end.
pub head_no : (r : List ℕ) {n p : ℕ} → read_head r ≡ Bad n p → verdict r ≡ Refused n p
unfolding verdict verdict_of read_report ◌>>=◌
head_no r e = rw e

pub trials_no : (r : List ℕ) {m n p : ℕ} → HeadIs r m → read_trials m 8 (drop 8 r) ≡ Bad n p → verdict r ≡ Refused n p
unfolding verdict verdict_of read_report ◌>>=◌
trials_no r h f = rw (h.reads, f)

-- the packets of kind 4, where kind 3 stands at this place and nothing stands after kind 4
abbrev pub ship_in : List ℕ → ℕ → List ℕ
ship_in r at = take (length r - (at + 6 + 4)) (drop (at + 6 + 4) r)

-- The trials were read: trial j is the first of the lowest-scored.
module _ (r : List ℕ) {m at j score : ℕ} {e : Settings} (h : HeadIs r m) (b : BestIs r m at j score e) where
  abbrev ts : List Trial
  ts = b.list

  abbrev end : Out Report
  end = read_end m (record { list = ts; at = at; left = drop at r })

  verdict_end : verdict r ≡ verdict_of factory (end >>= check_report factory)
  unfolding verdict read_report ◌>>=◌
  verdict_end = rw (h.reads, b.reads)

  -- 17 where another is named
  lowest_no : (k : ℕ) → k < m → (k ≡ j → ⊥) → first_lowest ts k ≡ false
  lowest_no k l n =
      bool_cases (first_lowest ts k)
      (λ y. absurd (n (lowest_one ts k j (omega (arith, b.count)) b.best.named (lowest_true ts k (omega (arith, b.count)) y) b.best.first))) (λ y. y)

  refused_end : (o : Out Report) → end ≡ o → {n x : ℕ} → (o >>= λ p. need (eqb p.winner j) 17 at >> Good p) ≡ Bad n x
      → verdict_of factory (o >>= check_report factory) ≡ Refused n x
  unfolding verdict_of check_report ◌>>=◌
  refused_end (Bad a c) f g = cc
  refused_end (Good p) f {n} {x} g =
      let of = of_end m at ts (drop at r) p f in
      bool_cases (eqb p.winner j) (λ y. absurd (bad_good (sym g ∙ pass _ 17 at _ y refl))) λ y.
      let no : first_lowest p.trials p.winner ≡ false = rw of.list (lowest_no p.winner of.named (eqb-false p.winner j y)) in
      let stops : check_report factory p ≡ Bad n x = fail _ 17 p.place _ no ∙ rw of.place (sym (fail _ 17 at (Good p) y) ∙ g) in
      ap (verdict_of factory) stops

  pub winner_no : {n x : ℕ} → ((us : List Trial) → named_at r at m j us ≡ Bad n x) → verdict r ≡ Refused n x
  unfolding named_at
  winner_no g = verdict_end ∙ refused_end end refl (g ts)

  -- the trial named is the first of the lowest-scored
  module _ {k : ℕ} (w : WinnerIs r at m j k) where
    verdict_read : verdict r ≡ verdict_of factory (check_report factory (record { trials = ts; winner = j; shipping = ship_in r at; place = at }))
    unfolding ◌>>=◌
    verdict_read =
        let ten : at + 6 + 4 ≡ at + 10 = omega arith in
        let all : take (length r - (at + 10)) (drop (at + 10) r) ≡ drop (at + 10) r = take_all (length r - (at + 10)) (drop (at + 10) r) (omega (arith, length-drop (at + 10) r)) in
        verdict_end ∙ rw (w.reads ts, w.named, ten, all)

    lowest : first_lowest ts j ≡ true
    lowest = lowest_back ts j b.best.first

    pub refused_18 : {n : ℕ} → offence factory (ship_in r at) ≡ Some n → verdict r ≡ Refused 18 (at + 10 + n)
    unfolding verdict_of check_report
    refused_18 x = verdict_read ∙ ap (verdict_of factory) (pass _ 17 at _ lowest (fail_some _ 18 (at + 10) _ x))

    module _ (yes : offence factory (ship_in r at) ≡ None) where
      pub refused_19 : same_settings (play factory (ship_in r at)).settings e ≡ false → verdict r ≡ Refused 19 (at + 6)
      unfolding verdict_of check_report
      refused_19 x =
          verdict_read
          ∙ ap (verdict_of factory) (pass _ 17 at _ lowest (pass_none _ 18 (at + 10) _ yes (fail _ 19 (at + 6) _ (ap (same_settings (play factory (ship_in r at)).settings) (sym b.best.ends) ∙ x))))

      pub accepted_with : same_settings (play factory (ship_in r at)).settings e ≡ true → verdict r ≡ Accepted k score e
      unfolding verdict_of check_report
      accepted_with same =
          verdict_read
          ∙ ap (verdict_of factory) (pass _ 17 at _ lowest (pass_none _ 18 (at + 10) _ yes (pass _ 19 (at + 6) _ (ap (same_settings (play factory (ship_in r at)).settings) (sym b.best.ends) ∙ same) refl)))
          ∙ ap₂ (λ (x : ℕ) (y : Settings). Accepted j x y) (sym b.best.scored) (sym b.best.ends)
          ∙ ap (λ (x : ℕ). Accepted x score e) (sym w.named)
