-- For the code alone: what its functions have read, by the readings of specs/Report.antt. The laws that make the verdict of them, in proofs/verdict/Laws:
-- HeadAt `head_no`; BestAt, with First, `trials_no`; WinnerAt, with named_at, `winner_no`, `verdict_read`. RecordAt is the reading of specs/Record.antt.
use Rattle.std.specs.Prelude.{ℕ, ◌+◌, ◌<◌, ◌≤◌, ◌≡◌, true, List, eqb, length, take, drop, Result, Ok, Err}
use Rattle.command.specs.Settings.{factory}
use Rattle.command.specs.declared.settings.Settings.{Settings}
use Rattle.report.specs.Record.{Out, Bad, Good, ◌>>=◌, ◌>>◌, need, sized, reading}
use Rattle.report.specs.Report.{Trial, Report, score_at, end_from, read_head, read_trials, read_end}
use Rattle.report.specs.Claim.{FirstLowest}
use Rattle.report.specs.Verdict.{number_of}
use Rattle.report.specs.declared.refusal.Refusal.{Refusal}
use Rattle.report.specs.declared.record.Kind.{Kind}
use Rattle.report.specs.declared.record.Kind.TheVariants as kind
use Rattle.report.specs.declared.trials.Best.{Best}

-- a refusal of the code, as the readings say it
abbrev pub bad : {A : Type 0} → Refusal → Out A
bad e = Bad (number_of e.reason) e.place

-- the number of a kind
abbrev pub kind_number : Kind → ℕ
kind_number kind.Head = 1
kind_number kind.Trial = 2
kind_number kind.Winner = 3
kind_number kind.Shipping = 4

-- the record of this kind at a place of r has a body of n bytes
pub record RecordIs (r : List ℕ) (kind at n : ℕ) : Type 0 where
  pub reads : reading kind at (drop at r) ≡ Good (record { body = take n (drop (at + 4) r); left = drop (at + 4 + n) r })
  pub within : at + 4 + n ≤ length r
  pub right : sized kind n ≡ true

abbrev pub RecordAt : List ℕ → ℕ → ℕ → Result ℕ Refusal → Type 0
RecordAt r kind at (Ok n) = RecordIs r kind at n
RecordAt r kind at (Err e) = reading kind at (drop at r) ≡ bad e

-- kind 1 of r counts n trials
pub record HeadIs (r : List ℕ) (n : ℕ) : Type 0 where
  pub reads : read_head r ≡ Good n
  pub some : 0 < n
  pub within : 8 ≤ length r
  pub short : length r ≤ 60000

abbrev pub HeadAt : List ℕ → Result ℕ Refusal → Type 0
HeadAt r (Ok n) = HeadIs r n
HeadAt r (Err e) = read_head r ≡ bad e

-- of these trials, trial k is the first of the lowest-scored, with this score and these end settings
pub record First (ts : List Trial) (k score : ℕ) (e : Settings) : Type 0 where
  pub named : k < length ts
  pub first : FirstLowest ts k
  pub scored : score ≡ score_at ts k
  pub ends : e ≡ end_from factory ts k

-- the n trials of r end at this place, and trial k is their first of the lowest-scored
pub record BestIs (r : List ℕ) (n at k score : ℕ) (e : Settings) : Type 0 where
  pub list : List Trial
  pub reads : read_trials n 8 (drop 8 r) ≡ Good (record { list = list; at = at; left = drop at r })
  pub count : length list ≡ n
  pub within : at ≤ length r
  pub best : First list k score e

abbrev pub BestAt : List ℕ → ℕ → Result (Best × ℕ) Refusal → Type 0
BestAt r n (Ok (b, at)) = BestIs r n at b.trial b.score b.settings
BestAt r n (Err e) = read_trials n 8 (drop 8 r) ≡ bad e

-- what is read after n trials that end at this place, where trial best is the first of their lowest-scored: 17 comes after 20
unfoldable pub named_at : List ℕ → ℕ → ℕ → ℕ → List Trial → Out Report
named_at r at n best ts = do
  p ← read_end n (record { list = ts; at = at; left = drop at r })
  need (eqb p.winner best) 17 at
  Good p

-- the winner k is that trial, and kind 4 ends the report
pub record WinnerIs (r : List ℕ) (at n best k : ℕ) : Type 0 where
  pub reads : (ts : List Trial) → read_end n (record { list = ts; at = at; left = drop at r })
      ≡ Good (record { trials = ts; winner = k; shipping = drop (at + 10) r; place = at })
  pub named : k ≡ best
  pub within : at + 10 ≤ length r

abbrev pub WinnerAt : List ℕ → ℕ → ℕ → ℕ → Result ℕ Refusal → Type 0
WinnerAt r at n best (Ok k) = WinnerIs r at n best k
WinnerAt r at n best (Err e) = (ts : List Trial) → named_at r at n best ts ≡ bad e
