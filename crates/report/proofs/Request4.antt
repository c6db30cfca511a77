-- Request 4 of reports, proved: when 18 holds, its place, and what stands there.
use Prim.Native.Nat.{ℕ, ◌+◌, ◌<◌, ◌≤◌}
use mathlib.Core.Path.{◌≡◌, refl, ap, sym, subst, ◌∙◌}
use mathlib.Core.Logic.{◌↔◌}
use mathlib.Core.List.{List, ◌++◌, append_assoc}
use Rattle.std.specs.Prelude.{Option, None, Some}
use native.Mathlib.Omega.{arith}
use lib.ListN.{length, take, drop, length-append}
use lib.Seq.{drop_at, drop-drop}
use Rattle.packet.specs.Number.{bytes_of, Bytes}
use Rattle.packet.proofs.Cases.{bool_cases, never}
use Rattle.command.specs.Settings.{factory}
use Rattle.command.specs.Player.{play, offence, Offends, offending, Earliest}
use Rattle.command.specs.declared.settings.Settings.{Settings}
use Rattle.command.proofs.Request4 as command
use Rattle.command.proofs.PlayerOffences.{none_offends, earliest_named}
use Rattle.report.specs.Report.{Trial, end_from, same_settings, Refused, verdict}
use Rattle.report.specs.Claim.{record_of, head_of, trial_records, report_of, Layout, FirstLowest, Ships}
use Rattle.report.specs.Refusals.{shipping_byte, F18, F19, Later}
use Rattle.report.specs.Request4.{Reaches, Request4}
use Rattle.report.proofs.verdict.Same.{settings_true, settings_refl}
use Rattle.report.proofs.verdict.Laid.{length_report}
use Rattle.report.proofs.Demand3.{ships_none, claimed}
use Rattle.report.proofs.Refusals.{refused_exactly}

-- bytes that offend somewhere have an earliest place
pub first_of : (s : Settings) (b : List ℕ) (m : ℕ) → Offends s b m → (n : ℕ) × Earliest s b n
first_of s b m h = go (offence s b) refl
  where
    go : (o : Option ℕ) → offence s b ≡ o → (n : ℕ) × Earliest s b n
    go None e = absurd (none_offends s b e m h)
    go (Some n) e = (n, (earliest_named s b n).0 e)

pub refused_18 : (r : List ℕ) → Bytes r → length r ≤ 60000 → (ts : List Trial) (k : ℕ) (ship : List ℕ) (n : ℕ) → Layout r ts k ship → FirstLowest ts k
    → Earliest factory ship n
    → verdict r ≡ Refused 18 (shipping_byte ts n)
refused_18 r b l ts k ship n y w e = (refused_exactly r 18 (shipping_byte ts n) b).1 (Later 18 _ l (F18 ts k ship n y w e))

module _ (r : List ℕ) (ts : List Trial) (k : ℕ) (ship : List ℕ) (b : Bytes r) (h : Reaches r ts k ship) where
  -- where all ships the report is accepted or refused with 19
  ships_not_18 : Ships factory ship → (p : ℕ) → verdict r ≡ Refused 18 p → ⊥
  ships_not_18 s p e =
      let played = (play factory ship).settings in
      let end = end_from factory ts k in
      bool_cases (same_settings played end)
      (λ t.
      let v =
      claimed r k _ _
      (record {
        trials = ts;
        shipping = ship;
        short = h.short;
        layout = h.layout;
        first = h.lowest;
        scored = refl;
        ends = refl;
        ships = s;
        equal = settings_true played end t;
      }) in
      cc)
      (λ t.
      let unlike : played ≡ end → ⊥ = λ q. never (sym t ∙ ap (λ (x : Settings). same_settings x end) q ∙ settings_refl end) in
      let v = (refused_exactly r 19 _ b).1 (Later 19 _ h.short (F19 ts k ship h.layout h.lowest s unlike)) in
      cc)

  earliest_18 : (n : ℕ) → Earliest factory ship n → verdict r ≡ Refused 18 (shipping_byte ts n)
  earliest_18 n = refused_18 r b h.short ts k ship n h.layout h.lowest

  refuses_18 : ((p : ℕ) × (verdict r ≡ Refused 18 p)) ↔ (Ships factory ship → ⊥)
  refuses_18 = (λ x s. ships_not_18 s x.0 x.1, λ f. go f (offence factory ship) refl)
    where
      go : (Ships factory ship → ⊥) → (o : Option ℕ) → offence factory ship ≡ o → (p : ℕ) × (verdict r ≡ Refused 18 p)
      go f None e = absurd (f (ships_none factory ship e))
      go f (Some m) e = (shipping_byte ts m, earliest_18 m ((earliest_named factory ship m).0 e))

  exactly_18 : (n : ℕ) → (verdict r ≡ Refused 18 (shipping_byte ts n)) ↔ Earliest factory ship n
  exactly_18 n = (λ e. go e (offence factory ship) refl, earliest_18 n)
    where
      go : verdict r ≡ Refused 18 (shipping_byte ts n) → (o : Option ℕ) → offence factory ship ≡ o → Earliest factory ship n
      go e None f = absurd (ships_not_18 (ships_none factory ship f) _ e)
      go e (Some m) f =
          let first = (earliest_named factory ship m).0 f in
          let v = earliest_18 m first in
          let place : shipping_byte ts m ≡ shipping_byte ts n = cc in
          let same : m ≡ n = omega (arith, place) in
          subst (Earliest factory ship) same first

-- Where the shipping bytes stand in a report.
module _ (ts : List Trial) (k : ℕ) (ship : List ℕ) where
  -- what is before them
  before : List ℕ
  before = head_of (length ts) ++ (trial_records ts ++ (record_of 3 (bytes_of 2 k) ++ (bytes_of 2 (length ship) ++ bytes_of 2 4)))

  before_them : report_of ts k ship ≡ before ++ ship
  unfolding report_of record_of before
  before_them = simp append_assoc

  before_length : length before ≡ 18 + length (trial_records ts)
  before_length = omega (arith, ap length before_them, length-append before ship, length_report ts k ship)

  ship_there : (n : ℕ) → drop (shipping_byte ts n) (report_of ts k ship) ≡ drop n ship
  ship_there n =
      sym (drop-drop n (18 + length (trial_records ts)) (report_of ts k ship))
      ∙ ap (drop n) (ap (drop (18 + length (trial_records ts))) before_them ∙ drop_at before ship (18 + length (trial_records ts)) before_length)

stands_in : (r : List ℕ) (ts : List Trial) (k : ℕ) (ship : List ℕ) (n : ℕ) (o : Offends factory ship n) → Layout r ts k ship
    → (take (length (offending o)) (drop (shipping_byte ts n) r) ≡ offending o) × (shipping_byte ts n < length r)
stands_in r ts k ship n o y =
    let there = (command.request_4).stands factory ship n o in (
      ap (take (length (offending o))) (ap (drop (shipping_byte ts n)) y.laid ∙ ship_there ts k ship n) ∙ there.0,
      omega (arith, there.1, ap length y.laid, length_report ts k ship),
    )

pub request_4 : Request4
request_4 = record { refuses = refuses_18; exactly = exactly_18; stands = stands_in }
