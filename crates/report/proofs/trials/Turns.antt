-- The trials by the code's own numbers: what it has read of them at each turn.
use Prim.Native.Nat.{ℕ, suc, ◌+◌, ◌-◌, ◌<◌, ◌≤◌}
use mathlib.Core.Path.{◌≡◌, refl, ap, sym, ◌∙◌, subst}
use mathlib.Core.Bool.{Bool, true, false, cond}
use mathlib.Core.List.{List, [], ◌∷◌, ◌++◌, append_assoc, append-nil}
use Rattle.std.specs.Prelude.{Option, None, Some, IsSome, IsTrue, MatchOption}
use native.Mathlib.Omega.{arith}
use lib.Dec.{ltb}
use borrow.Author.Tests.{ltb-true, ltb-false}
use native.Mathlib.Nat.{zero-add}
use lib.ListN.{length, take, drop, length-append}
use Rattle.packet.specs.Number.{value_of}
use Rattle.command.specs.Settings.{factory}
use Rattle.command.specs.Rules.{settings_in_rule}
use Rattle.command.specs.declared.settings.Settings.{Settings}
use Rattle.command.specs.Player.{play, end_settings}
use Rattle.command.proofs.RulesLaws.{kept_factory, kept_by, in_rule_of}
use Rattle.command.proofs.PlayerLaws.{kept_play}
use Rattle.report.specs.Record.{Out, Bad, Good, ◌>>=◌, reading}
use Rattle.report.specs.Report.{Trial, Trials, read_trials, score_at}
use Rattle.report.specs.Inner.{RecordIs, First, BestIs}
use Rattle.report.specs.declared.trials.Best.{Best}
use Rattle.report.proofs.record.Laws.{stop, size_trial, body_long, body_parts}
use Rattle.report.proofs.trials.Laws.{end_all, end_all_lem, first_stays, first_new}

-- some trials in front of those that are read after them
abbrev pub onto : List Trial → Trials → Trials
onto ts q = record { list = ts ++ q.list; at = q.at; left = q.left }

pub onto_none : (m : Out Trials) → m ≡ (m >>= λ q. Good (onto [] q))
unfolding ◌>>=◌
onto_none (Bad n p) = refl
onto_none (Good q) = refl

pub onto_more : (ts us : List Trial) (m : Out Trials) → ((m >>= λ q. Good (onto us q)) >>= λ q. Good (onto ts q)) ≡ (m >>= λ q. Good (onto (ts ++ us) q))
unfolding ◌>>=◌
onto_more ts us (Bad n p) = refl
onto_more ts us (Good q) = ap (λ (x : List Trial). Good (record { list = x; at = q.at; left = q.left })) (sym (append_assoc ts us q.list))

-- what the code's test says of the best so far: there is none, or this score is below its
abbrev pub Tested : ℕ → Option Best → Bool → Type 0
Tested n o t = MatchOption o (IsTrue t) (λ b. t ≡ ltb n b.score)

-- of these trials, what was kept is the first of the lowest-scored: of none, nothing
abbrev pub Kept : List Trial → Option Best → Type 0
Kept ts None = length ts ≡ 0
Kept ts (Some b) = First ts b.trial b.score b.settings

-- i of the trials have been read: the place after them, where the last ended, and the first of the lowest-scored
pub record Walked (r : List ℕ) (i at : ℕ) (last : Settings) (best : Option Best) : Type 0 where
  pub list : List Trial
  pub reads : (m : ℕ) → read_trials (i + m) 8 (drop 8 r) ≡ (read_trials m at (drop at r) >>= λ q. Good (onto list q))
  pub count : length list ≡ i
  pub within : at ≤ length r
  pub ended : last ≡ end_all factory list
  pub ruled : settings_in_rule last ≡ true
  pub kept : Kept list best

pub walked_start : (r : List ℕ) → 8 ≤ length r → Walked r 0 8 factory None
unfolding end_all
walked_start r h =
    record {
      list = [];
      reads = λ m. ap (λ (x : ℕ). read_trials x 8 (drop 8 r)) (zero-add m) ∙ onto_none (read_trials m 8 (drop 8 r));
      count = refl;
      within = h;
      ended = refl;
      ruled = in_rule_of factory kept_factory;
      kept = refl;
    }

-- One trial more: its score, and the settings that its packets leave.
module _ {r : List ℕ} {i at n score : ℕ} {last s : Settings} {best : Option Best} (w : Walked r i at last best) (f : RecordIs r 2 at n)
    (scores : score ≡ value_of (take 4 (drop (at + 4) r))) (plays : s ≡ end_settings last (take (at + 4 + n - (at + 8)) (drop (at + 8) r))) where
  abbrev bytes : List ℕ
  bytes = take (at + 4 + n - (at + 8)) (drop (at + 8) r)

  abbrev one : Trial
  one = record { score = score; bytes = bytes }

  played : s ≡ (play last bytes).settings
  played = plays ∙ ap (λ (x : Bool). cond x (play last bytes).settings last) w.ruled

  trial_reads : (m : ℕ) → read_trials (suc m) at (drop at r) ≡ (read_trials m (at + 4 + n) (drop (at + 4 + n) r) >>= λ q. Good (onto (one ∷ []) q))
  unfolding read_trials ◌>>=◌
  trial_reads m =
      let four = size_trial f in
      let eight : at + 4 + 4 ≡ at + 8 = omega arith in
      let p = body_parts f 4 (at + 4 + n - (at + 8)) (omega arith) in
      rw (f.reads, body_long f, p.0, p.1, eight, sym scores)

  -- whichever is the best then
  more : {o : Option Best} → Kept (w.list ++ (one ∷ [])) o → Walked r (i + 1) (at + 4 + n) s o
  more h =
      record {
        list = w.list ++ (one ∷ []);
        reads = λ m.
            let p : i + 1 + m ≡ i + suc m = omega arith in
            ap (λ (x : ℕ). read_trials x 8 (drop 8 r)) p
            ∙ w.reads (suc m)
            ∙ ap (λ (x : Out Trials). x >>= λ q. Good (onto w.list q)) (trial_reads m)
            ∙ onto_more w.list (one ∷ []) (read_trials m (at + 4 + n) (drop (at + 4 + n) r));
        count = omega (arith, length-append w.list (one ∷ []), w.count);
        within = f.within;
        ended = played ∙ ap (λ (x : Settings). (play x bytes).settings) w.ended ∙ sym (end_all_lem factory w.list one);
        ruled = rw played (in_rule_of (play last bytes).settings (kept_play last bytes (kept_by last w.ruled)));
        kept = h;
      }

  -- the first trial, or one that scores below the best so far
  pub walked_better : Tested score best true → Walked r (i + 1) (at + 4 + n) s (Some (record { trial = i; score = score; settings = s }))
  walked_better h =
      let new = first_new w.list one (below best w.kept h) in
      let ends : (play (end_all factory w.list) bytes).settings ≡ s = sym (played ∙ ap (λ (x : Settings). (play x bytes).settings) w.ended) in
      more (subst (λ (x : Settings). First (w.list ++ (one ∷ [])) i score x) ends
      (subst (λ (x : ℕ). First (w.list ++ (one ∷ [])) x score (play (end_all factory w.list) bytes).settings) w.count new))
    where
      below : (o : Option Best) → Kept w.list o → Tested score o true → (j : ℕ) → j < length w.list → score < score_at w.list j
      below None k h j l = absurd (omega (arith, k))
      below (Some b) k h j l = omega (arith, k.scored, k.first.lowest j l, ltb-true score b.score (sym h))

  -- any other
  pub walked_other : Tested score best false → Walked r (i + 1) (at + 4 + n) s best
  walked_other h = more (stays best w.kept h)
    where
      stays : (o : Option Best) → Kept w.list o → Tested score o false → Kept (w.list ++ (one ∷ [])) o
      stays None k h = cc
      stays (Some b) k h = first_stays w.list one (omega (arith, ltb-false score b.score (sym h))) k

-- A trial that is not there ends the reading.
pub walked_missed : {r : List ℕ} {m i at n p : ℕ} {last : Settings} {best : Option Best} → Walked r i at last best → i < m → reading 2 at (drop at r) ≡ Bad n p
    → read_trials m 8 (drop 8 r) ≡ Bad n p
unfolding read_trials
walked_missed {r} {m} {i} {at} w h g =
    let x = m - i - 1 in
    let s : m ≡ i + suc x = omega arith in
    ap (λ (y : ℕ). read_trials y 8 (drop 8 r)) s ∙ w.reads (suc x) ∙ stop (read_trials (suc x) at (drop at r)) _ (stop (reading 2 at (drop at r)) _ g)

-- Of some trials, one was kept.
pub walked_some : {r : List ℕ} {i at : ℕ} {last : Settings} {best : Option Best} → Walked r i at last best → 0 < i → IsSome best
walked_some {best = None} w h = absurd (omega (arith, w.kept, w.count))
walked_some {best = Some b} w h = refl

-- All of them.
pub walked_end : {r : List ℕ} {m i at : ℕ} {last : Settings} {b : Best} → Walked r i at last (Some b) → i ≡ m → BestIs r m at b.trial b.score b.settings
unfolding read_trials ◌>>=◌
walked_end {r} {m} {i} {at} w h =
    let s : m ≡ i + 0 = omega arith in
    record {
      list = w.list;
      reads =
          ap (λ (y : ℕ). read_trials y 8 (drop 8 r)) s ∙ w.reads 0
          ∙ ap (λ (x : List Trial). Good (record { list = x; at = at; left = drop at r })) (append-nil w.list);
      count = w.count ∙ h;
      within = w.within;
      best = w.kept;
    }
