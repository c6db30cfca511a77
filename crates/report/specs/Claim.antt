-- Demand 3: when a report is accepted, and with what.
use Rattle.std.specs.Prelude.{ℕ, ◌^◌, ◌≤◌, ◌<◌, ◌≡◌, ◌↔◌, true, List, [], ◌∷◌, ◌++◌, length, take, drop}
use Rattle.packet.specs.Number.{bytes_of}
use Rattle.command.specs.Settings.{factory}
use Rattle.command.specs.declared.settings.Settings.{Settings}
use Rattle.command.specs.Transfer.{Closed}
use Rattle.command.specs.Player.{judgements_on, play, all_acknowledged, half_sent}
use Rattle.command.specs.Encoder.{standard_list, Writes, list_call}
use Rattle.report.specs.Report.{Trial, score_at, end_from, Verdict, Accepted, verdict}

-- Records: body length (2 bytes), kind (2 bytes), body.
unfoldable pub record_of : ℕ → List ℕ → List ℕ
record_of kind body = bytes_of 2 (length body) ++ (bytes_of 2 kind ++ body)

-- kind 2: score, 4 bytes; packet bytes, possibly none
abbrev pub trial_of : Trial → List ℕ
trial_of t = record_of 2 (bytes_of 4 t.score ++ t.bytes)

unfoldable pub trial_records : List Trial → List ℕ
trial_records [] = []
trial_records (t ∷ ts) = trial_of t ++ trial_records ts

-- kind 1: version, 2 bytes, 1; trial count, 2 bytes
abbrev pub head_of : ℕ → List ℕ
head_of n = record_of 1 (bytes_of 2 1 ++ bytes_of 2 n)

-- The layout of a report. In order: one of kind 1; that many of kind 2;
-- one of kind 3 (winner, 2 bytes, from 0); one of kind 4 (shipping packets, possibly none).
unfoldable pub report_of : List Trial → ℕ → List ℕ → List ℕ
report_of ts k ship = head_of (length ts) ++ (trial_records ts ++ (record_of 3 (bytes_of 2 k) ++ record_of 4 ship))

-- every score is 4 bytes, unsigned
abbrev pub Scores : List Trial → Type 0
Scores [] = Unit {0}
Scores (t ∷ ts) = (t.score < 2 ^ 32) × Scores ts

-- the report r keeps the layout: its trials, its winner, its shipping packets
pub record Layout (r : List ℕ) (ts : List Trial) (k : ℕ) (ship : List ℕ) : Type 0 where
  pub laid : r ≡ report_of ts k ship
  pub scores : Scores ts
  -- the winner is below the count
  pub named : k < length ts

-- The first of the lowest-scored is the trial that none scores below and that all earlier ones score above.
pub record FirstLowest (ts : List Trial) (k : ℕ) : Type 0 where
  pub lowest : (i : ℕ) → i < length ts → score_at ts k ≤ score_at ts i
  pub earlier : (i : ℕ) → i < k → score_at ts k < score_at ts i

-- Played from these factory values, the packets are each acknowledged, and no transfer and no packet is left half sent.
pub record Ships (f : Settings) (b : List ℕ) : Type 0 where
  pub acknowledged : all_acknowledged (judgements_on f b) ≡ true
  pub closed : (play f b).transfer ≡ Closed
  pub finished : half_sent b ≡ []

-- The claim of the report r: trial k is its winner, with this score and these end settings.
pub record Claim (r : List ℕ) (k score : ℕ) (s : Settings) : Type 0 where
  pub trials : List Trial
  pub shipping : List ℕ
  -- the bytes are at most 60,000 and keep the layout of a report
  pub short : length r ≤ 60000
  pub layout : Layout r trials k shipping
  -- the trial named is the first of the lowest-scored
  pub first : FirstLowest trials k
  -- that trial's score
  pub scored : score ≡ score_at trials k
  -- the settings that trial ended with: trial 0 starts from factory values, each later trial from where the last ended
  pub ends : s ≡ end_from factory trials k
  -- the shipping packets are each acknowledged, and nothing is left half sent
  pub ships : Ships factory shipping
  -- the settings come out equal to those that trial ended with
  pub equal : (play factory shipping).settings ≡ s

-- The standard list call for the settings s writes these bytes at the start of an output that is long enough.
pub record Listed (s : Settings) (b : List ℕ) : Type 0 where
  pub out : List ℕ
  pub room : 128 ≤ length out
  pub size : ℕ
  pub answer : (list_call s out).answer ≡ Writes size
  pub start : b ≡ take size (list_call s out).output

-- The report r keeps the layout, names trial k, the first of its lowest-scored, and ships the bytes that the standard list call writes for that
-- trial's end settings.
pub record Standard (r : List ℕ) (ts : List Trial) (k : ℕ) : Type 0 where
  pub shipping : List ℕ
  pub short : length r ≤ 60000
  pub layout : Layout r ts k shipping
  pub first : FirstLowest ts k
  pub list : Listed (end_from factory ts k) shipping

-- The standard list call for the settings s does not refuse this output: it writes the standard list, 111 bytes, and leaves the rest untouched.
pub record Lists (s : Settings) (out : List ℕ) : Type 0 where
  pub answer : (list_call s out).answer ≡ Writes 111
  pub start : take 111 (list_call s out).output ≡ standard_list s
  pub rest : drop 111 (list_call s out).output ≡ drop 111 out

-- The elements of a report are bytes: the slice that the call is lent has none of 256 or more, and the proofs say so by `Bytes r`. It matters where
-- what was read is written again: two bytes are the bytes_of 2 of their value_of, larger numbers are not.
--
-- The answer v to the report r: it is the verdict; it is a yes exactly when the claim holds, with that trial's number, score and end settings;
-- and it is a yes to a report that ships the standard list, whatever its trials sent. Such a list can always be had: whatever trials were run, and
-- whichever is named, the call writes for its end settings, to every output of at least 128 bytes.
pub record Demand3 (r : List ℕ) (v : Verdict) : Type 0 where
  pub ruled : v ≡ verdict r
  pub exactly : (k n : ℕ) (s : Settings) → (v ≡ Accepted k n s) ↔ Claim r k n s
  pub standard : (ts : List Trial) (k : ℕ) → Standard r ts k → v ≡ Accepted k (score_at ts k) (end_from factory ts k)
  pub lists : (ts : List Trial) (k : ℕ) (out : List ℕ) → 128 ≤ length out → Lists (end_from factory ts k) out
