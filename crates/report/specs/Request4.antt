-- Request 4 of reports: "Refusal 18 must point at the first byte of the offending packet, or of the unfinished one, or of the packet that opened the transfer left
-- open; of these the earliest." What offends is in crates/command/specs/Player.antt; when 18 holds among all refusals, and its place, is F18 of Refusals.
use Rattle.std.specs.Prelude.{ℕ, ◌≤◌, ◌<◌, ◌≡◌, ◌↔◌, List, length, take, drop}
use Rattle.packet.specs.Number.{Bytes}
use Rattle.command.specs.Settings.{factory}
use Rattle.command.specs.Player.{Offends, offending, Earliest}
use Rattle.report.specs.Report.{Trial, Refused, verdict}
use Rattle.report.specs.Claim.{Layout, FirstLowest, Ships}
use Rattle.report.specs.Refusals.{shipping_byte}

-- no refusal before 18: the report r keeps the layout, and names the first of its lowest-scored
pub record Reaches (r : List ℕ) (ts : List Trial) (k : ℕ) (ship : List ℕ) : Type 0 where
  pub short : length r ≤ 60000
  pub layout : Layout r ts k ship
  pub lowest : FirstLowest ts k

pub record Request4 : Type 0 where
  -- such a report is refused with 18 exactly when its shipping bytes are not all whole packets, each answered by a write response, with no transfer left open,
  pub refuses : (r : List ℕ) (ts : List Trial) (k : ℕ) (ship : List ℕ) → Bytes r → Reaches r ts k ship
      → ((p : ℕ) × (verdict r ≡ Refused 18 p)) ↔ (Ships factory ship → ⊥)
  -- and at a shipping byte exactly when it is the earliest that offends
  pub exactly : (r : List ℕ) (ts : List Trial) (k : ℕ) (ship : List ℕ) → Bytes r → Reaches r ts k ship → (n : ℕ)
      → (verdict r ≡ Refused 18 (shipping_byte ts n)) ↔ Earliest factory ship n
  -- what offends, a packet or what there is of the unfinished one, stands there in the report
  pub stands : (r : List ℕ) (ts : List Trial) (k : ℕ) (ship : List ℕ) (n : ℕ) (o : Offends factory ship n) → Layout r ts k ship
      → (take (length (offending o)) (drop (shipping_byte ts n) r) ≡ offending o) × (shipping_byte ts n < length r)
