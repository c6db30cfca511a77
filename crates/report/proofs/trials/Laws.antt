-- Trials one after the other: their scores, the first of the lowest-scored, and their end settings.
use Prim.Native.Nat.{ℕ, zero, suc, ◌<◌, ◌≤◌}
use mathlib.Core.Path.{◌≡◌, refl, sym, ◌∙◌, subst}
use mathlib.Core.Bool.{true}
use mathlib.Core.List.{List, [], ◌∷◌, ◌++◌}
use native.Mathlib.Omega.{arith}
use lib.Dec.{leb, ltb}
use borrow.Author.Tests.{le-leb, leb-true, lt-ltb, ltb-true, ltb-false}
use lib.ListN.{length, length-append}
use Rattle.std.proofs.lemmas.Bool.{and_from}
use Rattle.packet.proofs.Cases.{bool_cases, true_and_left, true_and_right}
use Rattle.command.specs.Settings.{factory}
use Rattle.command.specs.declared.settings.Settings.{Settings}
use Rattle.command.specs.Player.{play}
use Rattle.report.specs.Report.{Trial, score_at, end_from, none_below, earlier_above, first_lowest}
use Rattle.report.specs.Claim.{FirstLowest}
use Rattle.report.specs.Inner.{First}

-- The test of document 01's sentence, and the sentence.
none_below_lem : (n : ℕ) (ts : List Trial) → none_below n ts ≡ true → (i : ℕ) → i < length ts → n ≤ score_at ts i
unfolding none_below score_at
none_below_lem n [] h i l = absurd (omega arith)
none_below_lem n (t ∷ ts) h zero l = leb-true n t.score (true_and_left (leb n t.score) (none_below n ts) h)
none_below_lem n (t ∷ ts) h (suc i) l = none_below_lem n ts (true_and_right (leb n t.score) (none_below n ts) h) i (omega arith)

none_below_back : (n : ℕ) (ts : List Trial) → ((i : ℕ) → i < length ts → n ≤ score_at ts i) → none_below n ts ≡ true
unfolding none_below score_at
none_below_back n [] h = refl
none_below_back n (t ∷ ts) h =
    and_from (leb n t.score) (none_below n ts) (le-leb n t.score (h 0 (omega arith))) (none_below_back n ts (λ i l. h (suc i) (omega arith)))

earlier_above_lem : (n k : ℕ) (ts : List Trial) → k ≤ length ts → earlier_above n k ts ≡ true → (i : ℕ) → i < k → n < score_at ts i
unfolding earlier_above score_at
earlier_above_lem n k [] m h i l = absurd (omega arith)
earlier_above_lem n zero (t ∷ ts) m h i l = absurd (omega arith)
earlier_above_lem n (suc k) (t ∷ ts) m h zero l = ltb-true n t.score (true_and_left (ltb n t.score) (earlier_above n k ts) h)
earlier_above_lem n (suc k) (t ∷ ts) m h (suc i) l = earlier_above_lem n k ts (omega arith) (true_and_right (ltb n t.score) (earlier_above n k ts) h) i (omega arith)

earlier_above_back : (n k : ℕ) (ts : List Trial) → ((i : ℕ) → i < k → n < score_at ts i) → earlier_above n k ts ≡ true
unfolding earlier_above score_at
earlier_above_back n k [] h = refl
earlier_above_back n zero (t ∷ ts) h = refl
earlier_above_back n (suc k) (t ∷ ts) h =
    and_from (ltb n t.score) (earlier_above n k ts) (lt-ltb n t.score (h 0 (omega arith))) (earlier_above_back n k ts (λ i l. h (suc i) (omega arith)))

pub lowest_true : (ts : List Trial) (k : ℕ) → k < length ts → first_lowest ts k ≡ true → FirstLowest ts k
unfolding first_lowest
lowest_true ts k l h = record {
  lowest = none_below_lem (score_at ts k) ts (true_and_left (none_below (score_at ts k) ts) (earlier_above (score_at ts k) k ts) h);
  earlier = earlier_above_lem (score_at ts k) k ts (omega arith) (true_and_right (none_below (score_at ts k) ts) (earlier_above (score_at ts k) k ts) h);
}

pub lowest_back : (ts : List Trial) (k : ℕ) → FirstLowest ts k → first_lowest ts k ≡ true
unfolding first_lowest
lowest_back ts k f = and_from (none_below (score_at ts k) ts) (earlier_above (score_at ts k) k ts) (none_below_back (score_at ts k) ts f.lowest) (earlier_above_back (score_at ts k) k ts f.earlier)

-- the first of the lowest is one
pub lowest_one : (ts : List Trial) (j k : ℕ) → j < length ts → k < length ts → FirstLowest ts j → FirstLowest ts k → j ≡ k
lowest_one ts j k hj hk a b =
    bool_cases (ltb j k)
    (λ e. absurd (omega (arith, b.earlier j (ltb-true j k e), a.lowest k hk)))
    (λ e. bool_cases (ltb k j)
    (λ f. absurd (omega (arith, a.earlier k (ltb-true k j f), b.lowest j hj)))
    (λ f. omega (arith, ltb-false j k e, ltb-false k j f)))

score_front : (ts us : List Trial) (i : ℕ) → i < length ts → score_at (ts ++ us) i ≡ score_at ts i
unfolding score_at
score_front [] us i h = absurd (omega arith)
score_front (t ∷ ts) us zero h = refl
score_front (t ∷ ts) us (suc i) h = score_front ts us i (omega arith)

score_last : (ts : List Trial) (t : Trial) → score_at (ts ++ (t ∷ [])) (length ts) ≡ t.score
unfolding score_at
score_last [] t = refl
score_last (u ∷ ts) t = score_last ts t

-- where the last of the trials ended
unfoldable pub end_all : Settings → List Trial → Settings
end_all s [] = s
end_all s (t ∷ ts) = end_all (play s t.bytes).settings ts

end_front : (s : Settings) (ts us : List Trial) (k : ℕ) → k < length ts → end_from s (ts ++ us) k ≡ end_from s ts k
unfolding end_from
end_front s [] us k h = absurd (omega arith)
end_front s (t ∷ ts) us zero h = refl
end_front s (t ∷ ts) us (suc k) h = end_front (play s t.bytes).settings ts us k (omega arith)

end_last : (s : Settings) (ts : List Trial) (t : Trial) → end_from s (ts ++ (t ∷ [])) (length ts) ≡ (play (end_all s ts) t.bytes).settings
unfolding end_from end_all
end_last s [] t = refl
end_last s (u ∷ ts) t = end_last (play s u.bytes).settings ts t

pub end_all_lem : (s : Settings) (ts : List Trial) (t : Trial) → end_all s (ts ++ (t ∷ [])) ≡ (play (end_all s ts) t.bytes).settings
unfolding end_all
end_all_lem s [] t = refl
end_all_lem s (u ∷ ts) t = end_all_lem (play s u.bytes).settings ts t

-- One trial more: the first of the lowest-scored stays, or is the new one.
module _ (ts : List Trial) (t : Trial) where
  -- a trial of the longer list is an earlier one or the new one
  either : (P : ℕ → Type 0) → ((i : ℕ) → i < length ts → P i) → P (length ts) → (i : ℕ) → i < length (ts ++ (t ∷ [])) → P i
  either P f l i h =
      bool_cases (ltb i (length ts)) (λ e. f i (ltb-true i (length ts) e)) λ e.
      let q : length ts ≡ i = omega (arith, ltb-false i (length ts) e, length-append ts (t ∷ [])) in
      subst P q l

  pub first_stays : {k score : ℕ} {e : Settings} → score ≤ t.score → First ts k score e → First (ts ++ (t ∷ [])) k score e
  first_stays {k} {score} {e} l f =
      let same = score_front ts (t ∷ []) k f.named in
      record {
        named = omega (arith, f.named, length-append ts (t ∷ []));
        first =
            record {
              lowest = rw same
                  (either (λ i. score_at ts k ≤ score_at (ts ++ (t ∷ [])) i)
                  (λ i h. rw (score_front ts (t ∷ []) i h) (f.first.lowest i h)) (rw (score_last ts t) (omega (arith, f.scored))));
              earlier = λ i h. rw (same, score_front ts (t ∷ []) i (omega (arith, f.named))) (f.first.earlier i h);
            };
        scored = f.scored ∙ sym same;
        ends = f.ends ∙ sym (end_front factory ts (t ∷ []) k f.named);
      }

  pub first_new : ((i : ℕ) → i < length ts → t.score < score_at ts i) → First (ts ++ (t ∷ [])) (length ts) t.score (play (end_all factory ts) t.bytes).settings
  first_new f =
      record {
        named = omega (arith, length-append ts (t ∷ []));
        first =
            record {
              lowest = rw (score_last ts t)
                  (either (λ i. t.score ≤ score_at (ts ++ (t ∷ [])) i)
                  (λ i h. rw (score_front ts (t ∷ []) i h) (omega (arith, f i h))) (rw (score_last ts t) (omega arith)));
              earlier = λ i h. rw (score_last ts t, score_front ts (t ∷ []) i h) (f i h);
            };
        scored = sym (score_last ts t);
        ends = sym (end_last factory ts t);
      }
