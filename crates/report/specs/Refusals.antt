-- The table of refusals: when each number holds, and its place.
use Rattle.std.specs.Prelude.{ℕ, ◌+◌, ◌≤◌, ◌<◌, ◌≡◌, List, ◌∷◌, ◌++◌, length, take}
use Rattle.packet.specs.Number.{value_of, bytes_of}
use Rattle.command.specs.Settings.{factory}
use Rattle.command.specs.Player.{play, Earliest}
use Rattle.report.specs.Report.{Trial, end_from}
use Rattle.report.specs.Claim.{record_of, head_of, trial_records, report_of, Scores, Layout, FirstLowest, Ships}

-- the report begins with kind 1, which counts n trials, and with the records of these trials
pub record Begins (r : List ℕ) (n : ℕ) (ts : List Trial) (left : List ℕ) : Type 0 where
  pub joined : r ≡ head_of n ++ (trial_records ts ++ left)
  pub count : n < 65536
  pub scores : Scores ts

-- a record of this kind is due at this place, where these bytes are left
pub data Due (r : List ℕ) : ℕ → ℕ → List ℕ → Type 0 where
  -- one of kind 1
  Head : Due r 1 0 r
  -- that many of kind 2
  More : (n : ℕ) (ts : List Trial) (left : List ℕ) → Begins r n ts left → length ts < n → Due r 2 (8 + length (trial_records ts)) left
  -- one of kind 3
  Winner : (ts : List Trial) (left : List ℕ) → Begins r (length ts) ts left → 0 < length ts → Due r 3 (8 + length (trial_records ts)) left
  -- one of kind 4
  Shipping : (ts : List Trial) (k : ℕ) (left : List ℕ) → Begins r (length ts) ts (record_of 3 (bytes_of 2 k) ++ left) → k < length ts
      → Due r 4 (14 + length (trial_records ts)) left

-- the place in a report with these trials of the n-th shipping byte: they begin 4 bytes after kind 4
abbrev pub shipping_byte : List Trial → ℕ → ℕ
shipping_byte ts n = 18 + length (trial_records ts) + n

-- a body has not the length of its kind: not 4 (kind 1), under 4 (kind 2), not 2 (kind 3)
pub data WrongLength : ℕ → ℕ → Type 0 where
  NotFour : (n : ℕ) → (n ≡ 4 → ⊥) → WrongLength 1 n
  UnderFour : (n : ℕ) → n < 4 → WrongLength 2 n
  NotTwo : (n : ℕ) → (n ≡ 2 → ⊥) → WrongLength 3 n

-- the refusals after 10, each with its place
pub data Fault (r : List ℕ) : ℕ → ℕ → Type 0 where
  -- a record is due and fewer bytes are left than its header or body needs
  F11 : (kind at : ℕ) (left : List ℕ) → Due r kind at left → length left < 4 + value_of (take 2 left) → Fault r 11 at
  -- another kind is due
  F12 : (kind at : ℕ) (left : List ℕ) (other : ℕ) (body more : List ℕ) → Due r kind at left → left ≡ record_of other body ++ more → other < 65536
      → (other ≡ kind → ⊥)
      → Fault r 12 at
  -- body length not 4 (kind 1), under 4 (kind 2), not 2 (kind 3)
  F13 : (kind at : ℕ) (left body more : List ℕ) → Due r kind at left → left ≡ record_of kind body ++ more → WrongLength kind (length body)
      → Fault r 13 at
  -- version not 1
  F14 : (version count : ℕ) (more : List ℕ) → r ≡ record_of 1 (bytes_of 2 version ++ bytes_of 2 count) ++ more → version < 65536 → (version ≡ 1 → ⊥)
      → Fault r 14 0
  -- count 0
  F15 : (more : List ℕ) → r ≡ head_of 0 ++ more → Fault r 15 0
  -- winner not below the count
  F16 : (ts : List Trial) (k : ℕ) (more : List ℕ) → Begins r (length ts) ts (record_of 3 (bytes_of 2 k) ++ more) → 0 < length ts → k < 65536 → length ts ≤ k
      → Fault r 16 (8 + length (trial_records ts))
  -- bytes after kind 4
  F20 : (ts : List Trial) (k : ℕ) (ship : List ℕ) (x : ℕ) (more : List ℕ) → r ≡ report_of ts k ship ++ (x ∷ more) → Scores ts → k < length ts
      → Fault r 20 (length (report_of ts k ship))
  -- winner not the first of the lowest score
  F17 : (ts : List Trial) (k : ℕ) (ship : List ℕ) → Layout r ts k ship → (FirstLowest ts k → ⊥) → Fault r 17 (8 + length (trial_records ts))
  -- shipping bytes not all whole packets, one not answered by a write response, or a transfer left open; at the earliest byte that offends (request 4)
  F18 : (ts : List Trial) (k : ℕ) (ship : List ℕ) (n : ℕ) → Layout r ts k ship → FirstLowest ts k → Earliest factory ship n → Fault r 18 (shipping_byte ts n)
  -- shipping settings differ from the winner's end settings
  F19 : (ts : List Trial) (k : ℕ) (ship : List ℕ) → Layout r ts k ship → FirstLowest ts k → Ships factory ship
      → ((play factory ship).settings ≡ end_from factory ts k → ⊥)
      → Fault r 19 (14 + length (trial_records ts))

-- a report is refused with this number at this place
pub data Refusal (r : List ℕ) : ℕ → ℕ → Type 0 where
  -- over 60,000 bytes
  Long : 60000 < length r → Refusal r 10 0
  -- 10 comes first
  Later : (n p : ℕ) → length r ≤ 60000 → Fault r n p → Refusal r n p
