-- Request 2 of reports: "the report checker follow[s] the new rule, for old reports too". Of the head and its calls it is crates/command/specs/Request2.antt.
use Rattle.std.specs.Prelude.{ℕ, ◌≤◌, ◌≡◌, List, ◌∷◌, ◌++◌, length}
use Rattle.packet.specs.Number.{Bytes}
use Rattle.packet.specs.Stream.{packets, bytes_in}
use Rattle.command.specs.Settings.{factory}
use Rattle.command.specs.Faults.{arrived}
use Rattle.command.specs.Player.{from, after}
use Rattle.command.specs.Request2.{TooMany, ShownWhole, Asks}
use Rattle.command.specs.declared.settings.Settings.{Settings}
use Rattle.command.specs.declared.settings.PatternSequence.{PatternSequence}
use Rattle.report.specs.Report.{Trial, end_from, Accepted, Refused, verdict}
use Rattle.report.specs.Claim.{Layout, FirstLowest}
use Rattle.report.specs.Refusals.{shipping_byte}

-- Played from these settings, a packet of the bytes b completes a write of a sequence with more patterns than its depth has.
pub record AsksTooMany (s : Settings) (b : List ℕ) : Type 0 where
  pub before : List (List ℕ)
  pub packet : List ℕ
  pub behind : List (List ℕ)
  pub cut : packets b ≡ before ++ (packet ∷ behind)
  pub sequence : PatternSequence
  pub asks : Asks (after (from s) before) (arrived packet) sequence
  pub many : TooMany sequence

pub record Request2 : Type 0 where
  -- whatever its trials sent, none ends with more patterns than its depth has
  pub trials : (ts : List Trial) (k : ℕ) → ShownWhole (end_from factory ts k).sequence
  -- nor do the settings of a report that is accepted
  pub accepted : (r : List ℕ) (k score : ℕ) (s : Settings) → Bytes r → verdict r ≡ Accepted k score s → ShownWhole s.sequence
  -- and a report that ships such a write, with no refusal before it, is refused with 18, at that packet or an earlier one
  pub shipped : (r : List ℕ) (ts : List Trial) (k : ℕ) (ship : List ℕ) → Bytes r → length r ≤ 60000 → Layout r ts k ship → FirstLowest ts k
      → (a : AsksTooMany factory ship)
      → (n : ℕ) × (verdict r ≡ Refused 18 (shipping_byte ts n)) × (n ≤ bytes_in a.before)
