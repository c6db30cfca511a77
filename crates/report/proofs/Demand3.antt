-- Demand 3: a report is accepted exactly when its claim holds, and one that ships the standard list is.
use Prim.Native.Nat.{ℕ, zero, suc, ◌+◌, ◌≤◌}
use mathlib.Core.Logic.{◌↔◌}
use mathlib.Core.Path.{◌≡◌, refl, ap, ap₂, sym, ◌∙◌, subst}
use mathlib.Core.Bool.{Bool, true, false}
use mathlib.Core.List.{List, [], ◌∷◌, ◌++◌, append-nil}
use Rattle.std.specs.Prelude.{None}
use native.Mathlib.Omega.{arith}
use borrow.Author.Tests.{le-ltb}
use lib.ListN.{length, take}
use lib.Seq.{take_at, drop_at}
use Rattle.packet.specs.Number.{bytes_of, Bytes}
use Rattle.packet.specs.Writer.{written}
use Rattle.command.specs.Settings.{factory}
use Rattle.command.specs.declared.settings.Settings.{Settings}
use Rattle.command.specs.Player.{State, play, offence}
use Rattle.command.specs.Encoder.{standard_list, Writes, writes, list_call}
use Rattle.command.proofs.RulesLaws.{Kept, Fits, in_rule_of, kept_factory, fits_factory}
use Rattle.command.proofs.EncoderLists.{standard_plays, standard_acknowledged, standard_finished, standard_size}
use Rattle.command.proofs.PlayerLaws.{Holding, holding_play, kept_play}
use Rattle.command.proofs.PlayerOffences.{earliest_named, none_named}
use Rattle.report.specs.Record.{Out}
use Rattle.report.specs.Report.{Trial, Report, read_report, score_at, end_from, first_lowest, same_settings, check_report, Verdict, Accepted, Refused, verdict_of, verdict}
use Rattle.report.specs.Claim.{record_of, head_of, trial_of, trial_records, report_of, FirstLowest, Ships, Claim, Listed, Standard, Lists, Demand3}
use Rattle.report.specs.Refusals.{shipping_byte, Fault, F17, F18, F19, Refusal, Later}
use Rattle.report.proofs.record.Laws.{run, pass, pass_none}
use Rattle.report.proofs.verdict.Same.{settings_true, settings_refl}
use Rattle.report.proofs.trials.Laws.{lowest_true, lowest_back}
use Rattle.report.proofs.verdict.Laid.{reading_whole}
use Rattle.report.proofs.verdict.Reading.{Ends, bad, good, then, needs, needs_none, Laid, reading_report}

-- The test of what ships, and the claim: nothing offends.
pub ships_none : (f : Settings) (b : List ℕ) → offence f b ≡ None → Ships f b
ships_none f b h =
    let c = (none_named f b).0 h in
    record { acknowledged = c.0; closed = c.1; finished = c.2 }

pub nothing_offends : (f : Settings) (b : List ℕ) → Ships f b → offence f b ≡ None
nothing_offends f b s = (none_named f b).1 (s.acknowledged, s.closed, s.finished)

-- From the verdict to the claim: the report was read, and passed the last three tests.
record Passed (r : List ℕ) (p : Report) : Type 0 where
  kept : Laid r p
  first : FirstLowest p.trials p.winner
  ships : Ships factory p.shipping
  equal : (play factory p.shipping).settings ≡ end_from factory p.trials p.winner

-- a test that fails where a fact would pass it
fails : {P : Type 0} (t : Bool) → t ≡ false → (P → t ≡ true) → P → ⊥
fails t e f h = cc (f h)

checking : (r : List ℕ) (p : Report) → Laid r p → Ends (Refusal r) (Passed r) (check_report factory p)
unfolding check_report
checking r p k =
    let later : (n x y : ℕ) → x ≡ y → Fault r n y → Refusal r n x = λ n x y e f. Later n x k.short (subst (λ (z : ℕ). Fault r n z) (sym e) f) in
    let a = (play factory p.shipping).settings in
    let b = end_from factory p.trials p.winner in
    let four : p.place + 6 ≡ 14 + length (trial_records p.trials) = omega (arith, k.put) in
    let ten : (n : ℕ) → p.place + 10 + n ≡ shipping_byte p.trials n = λ n. omega (arith, k.put) in
    needs 17 p.place (first_lowest p.trials p.winner)
    (λ e. later 17 p.place _ k.put (F17 p.trials p.winner p.shipping k.keeps (fails _ e (lowest_back p.trials p.winner)))) λ w.
    let first = lowest_true p.trials p.winner k.keeps.named w in
    needs_none 18 (p.place + 10) (offence factory p.shipping)
    (λ n e. later 18 (p.place + 10 + n) _ (ten n) (F18 p.trials p.winner p.shipping n k.keeps first ((earliest_named factory p.shipping n).0 e))) λ c.
    let ships = ships_none factory p.shipping c in
    needs 19 (p.place + 6) (same_settings a b)
    (λ e. later 19 (p.place + 6) _ four (F19 p.trials p.winner p.shipping k.keeps first ships (fails _ e (λ q. ap (λ (x : Settings). same_settings x b) q ∙ settings_refl b)))) λ e.
    good (record { kept = k; first = first; ships = ships; equal = settings_true a b e })

-- what a verdict says of the report
abbrev pub Says : List ℕ → Verdict → Type 0
Says r (Accepted k n s) = Claim r k n s
Says r (Refused n p) = Refusal r n p

says : {r : List ℕ} {o : Out Report} → Ends (Refusal r) (Passed r) o → Says r (verdict_of factory o)
unfolding verdict_of
says (bad h) = h
says (good {a = p} h) =
    record {
      trials = p.trials;
      shipping = p.shipping;
      short = h.kept.short;
      layout = h.kept.keeps;
      first = h.first;
      scored = refl;
      ends = refl;
      ships = h.ships;
      equal = h.equal;
    }

pub verdict_says : (r : List ℕ) → Bytes r → Says r (verdict r)
unfolding verdict
verdict_says r b = says (then (check_report factory) (reading_report r b) (λ n p f. f) (checking r))

pub accepted : (r : List ℕ) (k n : ℕ) (s : Settings) → Bytes r → verdict r ≡ Accepted k n s → Claim r k n s
accepted r k n s b e = subst (Says r) e (verdict_says r b)

-- From the claim to the verdict.
pub claimed : (r : List ℕ) (k n : ℕ) (s : Settings) → Claim r k n s → verdict r ≡ Accepted k n s
unfolding verdict verdict_of check_report
claimed r k n s c =
    let ts = c.trials in
    let y = c.layout in
    let place = 8 + length (trial_records ts) in
    ap (verdict_of factory)
    (run (read_report r) (check_report factory)
    (ap read_report y.laid ∙ reading_whole ts k c.shipping y.scores y.named (subst (λ (x : List ℕ). length x ≤ 60000) y.laid c.short))
    (pass _ 17 place _ (lowest_back ts k c.first)
    (pass_none _ 18 (place + 10) _ (nothing_offends factory c.shipping c.ships)
    (pass _ 19 (place + 6) _ (ap (λ (x : Settings). same_settings x (end_from factory ts k)) (c.equal ∙ c.ends) ∙ settings_refl (end_from factory ts k)) refl))))
    ∙ ap₂ (λ x y. Accepted k x y) (sym c.scored) (sym c.ends)

pub demand3 : (r : List ℕ) (k n : ℕ) (s : Settings) → Bytes r → (verdict r ≡ Accepted k n s) ↔ Claim r k n s
demand3 r k n s b = (accepted r k n s b, claimed r k n s)

-- The standard list. What the trials sent are bytes of the report.
abbrev TrialBytes : List Trial → Type 0
TrialBytes [] = Unit {0}
TrialBytes (t ∷ ts) = Bytes t.bytes × TrialBytes ts

bytes_parts : (a b : List ℕ) → Bytes (a ++ b) → Bytes a × Bytes b
bytes_parts [] b h = (tt, h)
bytes_parts (x ∷ a) b h =
    let i = bytes_parts a b h.1 in
    ((h.0, i.0), i.1)

trial_bytes : (ts : List Trial) (left : List ℕ) → Bytes (trial_records ts ++ left) → TrialBytes ts
unfolding trial_records record_of
trial_bytes [] left h = tt
trial_bytes (t ∷ ts) left h =
    let all = (bytes_parts (trial_of t ++ trial_records ts) left h).0 in
    let i = bytes_parts (trial_of t) (trial_records ts) all in
    let size = bytes_of 2 (length (bytes_of 4 t.score ++ t.bytes)) in
    let body = (bytes_parts (bytes_of 2 2) (bytes_of 4 t.score ++ t.bytes) (bytes_parts size (bytes_of 2 2 ++ (bytes_of 4 t.score ++ t.bytes)) i.0).1).1 in
    ((bytes_parts (bytes_of 4 t.score) t.bytes body).1, trial_bytes ts [] (rw append-nil i.1))

-- whatever the trials sent, the settings keep the rules, and their values fit
pub kept_end : (s : Settings) (ts : List Trial) (k : ℕ) → Kept s → Kept (end_from s ts k)
unfolding end_from
kept_end s [] k h = h
kept_end s (t ∷ ts) zero h = kept_play s t.bytes h
kept_end s (t ∷ ts) (suc k) h = kept_end (play s t.bytes).settings ts k (kept_play s t.bytes h)

fits_end : (s : Settings) (ts : List Trial) (k : ℕ) → Kept s → Fits s → TrialBytes ts → Fits (end_from s ts k)
unfolding end_from
fits_end s [] k r f b = f
fits_end s (t ∷ ts) zero r f b = (holding_play s t.bytes r f b.0).fits
fits_end s (t ∷ ts) (suc k) r f b =
    let h : Holding (play s t.bytes) = holding_play s t.bytes r f b.0 in
    fits_end (play s t.bytes).settings ts k h.rules h.fits b.1

-- What the standard list call writes for settings that keep the rules.
module _ (s : Settings) (kept : Kept s) where
  listed_call : (out : List ℕ) → 128 ≤ length out → list_call s out ≡ writes (standard_list s) out
  unfolding list_call
  listed_call out room = rw (le-ltb (length out) 128 room, in_rule_of s kept)

  listed_start : (out : List ℕ) → 128 ≤ length out → take 111 (list_call s out).output ≡ standard_list s
  unfolding written
  listed_start out room = rw (listed_call out room) (take_at (standard_list s) _ 111 (standard_size s))

  pub lists_all : (out : List ℕ) → 128 ≤ length out → Lists s out
  unfolding written
  lists_all out room =
      record {
        answer = rw (listed_call out room) (ap Writes (standard_size s));
        start = listed_start out room;
        rest = rw (listed_call out room) (drop_at (standard_list s) _ 111 (standard_size s) ∙ rw (standard_size s));
      }

  -- the bytes that the call wrote are the standard list
  listed : (b : List ℕ) → Listed s b → b ≡ standard_list s
  listed b h =
      let n : h.size ≡ 111 = writes_same (sym h.answer ∙ (lists_all h.out h.room).answer) in
      h.start ∙ ap (λ (x : ℕ). take x (list_call s h.out).output) n ∙ listed_start h.out h.room
    where
      writes_same : {m n : ℕ} → Writes m ≡ Writes n → m ≡ n
      writes_same e = cc

-- Any report of at least one trial and at most 60,000 bytes that keeps the layout, names the first of its lowest-scored trials
-- and ships the standard list for that trial's end settings is accepted, whatever its trials sent.
pub standard_verdict : (r : List ℕ) (ts : List Trial) (k : ℕ) → Bytes r → Standard r ts k → verdict r ≡ Accepted k (score_at ts k) (end_from factory ts k)
unfolding report_of
standard_verdict r ts k b s =
    let e = end_from factory ts k in
    let y = s.layout in
    let sent = trial_bytes ts _ (bytes_parts (head_of (length ts)) _ (subst Bytes y.laid b)).1 in
    let kept = kept_end factory ts k kept_factory in
    let fits = fits_end factory ts k kept_factory fits_factory sent in
    let list = listed e kept s.shipping s.list in
    claimed r k (score_at ts k) e
    (record {
      trials = ts;
      shipping = s.shipping;
      short = s.short;
      layout = y;
      first = s.first;
      scored = refl;
      ends = refl;
      ships =
          subst (Ships factory) (sym list)
          (record {
            acknowledged = standard_acknowledged e kept fits;
            closed = ap (λ (p : State). p.transfer) (standard_plays e kept fits);
            finished = standard_finished e kept fits;
          });
      equal = ap (λ (x : List ℕ). (play factory x).settings) list ∙ ap (λ (p : State). p.settings) (standard_plays e kept fits);
    })

-- An answer that is the verdict meets the whole of demand 3.
pub demand3_of : (r : List ℕ) (v : Verdict) → Bytes r → v ≡ verdict r → Demand3 r v
demand3_of r v b e =
    record {
      ruled = e;
      exactly = λ k n s. ((λ h. accepted r k n s b (sym e ∙ h)), (λ h. e ∙ claimed r k n s h));
      standard = λ ts k s. e ∙ standard_verdict r ts k b s;
      lists = λ ts k. lists_all (end_from factory ts k) (kept_end factory ts k kept_factory);
    }
