-- The tuning report: how it is read, its trials played one after another, and the verdict.
use Rattle.std.specs.Prelude.{ℕ, zero, suc, ◌+◌, Bool, true, not, ◌&&◌, List, [], ◌∷◌, eqb, leb, ltb, length, take, drop}
use Rattle.packet.specs.Number.{value_of}
use Rattle.command.specs.Table.{table}
use Rattle.command.specs.Settings.{values_of, factory}
use Rattle.command.specs.Data.{same_list}
use Rattle.command.specs.declared.settings.Settings.{Settings}
use Rattle.command.specs.declared.table.Command.{Command}
use Rattle.command.specs.Player.{play, is_nil, offence}
use Rattle.report.specs.Record.{Out, Bad, Good, ◌>>=◌, ◌>>◌, need, without, reading}

-- a trial: its score and its packet bytes
pub record Trial : Type 0 where
  pub score : ℕ
  pub bytes : List ℕ

-- the trials that were read, the place of the record after them, and the bytes from there
pub record Trials : Type 0 where
  pub list : List Trial
  pub at : ℕ
  pub left : List ℕ

-- a report that keeps the layout: its trials, its winner, its shipping packets, and the place of kind 3
pub record Report : Type 0 where
  pub trials : List Trial
  pub winner : ℕ
  pub shipping : List ℕ
  pub place : ℕ

-- that many of kind 2: score, 4 bytes; packet bytes, possibly none
unfoldable pub read_trials : ℕ → ℕ → List ℕ → Out Trials
read_trials zero at b = Good (record { list = []; at = at; left = b })
read_trials (suc n) at b = do
  p ← reading 2 at b
  r ← read_trials n (at + 4 + length p.body) p.left
  Good (record { list = record { score = value_of (take 4 p.body); bytes = drop 4 p.body } ∷ r.list; at = r.at; left = r.left })

-- One of kind 1 (version, 2 bytes, 1; trial count, 2 bytes): the count. 10 comes first.
unfoldable pub read_head : List ℕ → Out ℕ
read_head r = do
  need (leb (length r) 60000) 10 0
  h ← reading 1 0 r
  need (eqb (value_of (take 2 h.body)) 1) 14 0
  need (not (eqb (value_of (drop 2 h.body)) 0)) 15 0
  Good (value_of (drop 2 h.body))

-- After n trials: one of kind 3 (winner, 2 bytes, from 0), one of kind 4 (shipping packets, possibly none), and nothing after.
unfoldable pub read_end : ℕ → Trials → Out Report
read_end n ts = do
  w ← reading 3 ts.at ts.left
  need (ltb (value_of w.body) n) 16 ts.at
  s ← reading 4 (ts.at + 6) w.left
  need (is_nil s.left) 20 (ts.at + 10 + length s.body)
  Good (record { trials = ts.list; winner = value_of w.body; shipping = s.body; place = ts.at })

-- The layout of a report, its refusals in the order of document 01: 10 first, 11 to 16 record by record, then 20. The trials begin at byte 8.
unfoldable pub read_report : List ℕ → Out Report
read_report r = do
  n ← read_head r
  ts ← read_trials n 8 (drop 8 r)
  read_end n ts

-- the score of trial k, from 0
unfoldable pub score_at : List Trial → ℕ → ℕ
score_at [] k = 0
score_at (t ∷ ts) zero = t.score
score_at (t ∷ ts) (suc k) = score_at ts k

-- the end settings of trial k: trial 0 starts from s, each later trial from where the last ended
unfoldable pub end_from : Settings → List Trial → ℕ → Settings
end_from s [] k = s
end_from s (t ∷ ts) zero = (play s t.bytes).settings
end_from s (t ∷ ts) (suc k) = end_from (play s t.bytes).settings ts k

-- none scores below n
unfoldable pub none_below : ℕ → List Trial → Bool
none_below n [] = true
none_below n (t ∷ ts) = leb n t.score && none_below n ts

-- the first k score above n
unfoldable pub earlier_above : ℕ → ℕ → List Trial → Bool
earlier_above n k [] = true
earlier_above n zero (t ∷ ts) = true
earlier_above n (suc k) (t ∷ ts) = ltb n t.score && earlier_above n k ts

-- the first of the lowest-scored: none scores below it and all earlier ones score above it
unfoldable pub first_lowest : List Trial → ℕ → Bool
first_lowest ts k = none_below (score_at ts k) ts && earlier_above (score_at ts k) k ts

-- each of these commands passes the test
unfoldable pub every : (Command → Bool) → List Command → Bool
every f [] = true
every f (c ∷ cs) = f c && every f cs

-- the settings have the same values of every command in the table
unfoldable pub same_settings : Settings → Settings → Bool
same_settings a b = every (λ c. same_list (values_of c a) (values_of c b)) table

-- The last three refusals, 17, 18 and 19, of a report played from these factory values. Kind 4 is 6 bytes after kind 3, and its shipping packets 10.
unfoldable pub check_report : Settings → Report → Out Report
check_report f r = do
  need (first_lowest r.trials r.winner) 17 r.place
  without (offence f r.shipping) 18 (r.place + 10)
  need (same_settings (play f r.shipping).settings (end_from f r.trials r.winner)) 19 (r.place + 6)
  Good r

-- The verdict: the winner, its score and its end settings, or a refusal's number and place.
pub data Verdict : Type 0 where
  Accepted : ℕ → ℕ → Settings → Verdict
  Refused : ℕ → ℕ → Verdict

-- an accepted report yields the winner, its score and its end settings
unfoldable pub verdict_of : Settings → Out Report → Verdict
verdict_of f (Bad n p) = Refused n p
verdict_of f (Good r) = Accepted r.winner (score_at r.trials r.winner) (end_from f r.trials r.winner)

-- the verdict on any bytes
unfoldable pub verdict : List ℕ → Verdict
verdict r = verdict_of factory (read_report r >>= check_report factory)
