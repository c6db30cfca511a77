-- The answer to a report, as document 01's verdict: the trial named with its score and end settings, or a refusal's number and place.
use Rattle.std.specs.Prelude.{ℕ, Result, Ok, Err}
use Rattle.report.specs.Report.{Verdict, Accepted, Refused}
use Rattle.report.specs.declared.line.Told.{Told}
use Rattle.report.specs.declared.refusal.Reason.{Reason}
use Rattle.report.specs.declared.refusal.Reason.TheVariants.{TooLong, RecordCutShort, OtherKindDue, WrongBodyLength, WrongVersion, NoTrials, NoSuchTrial, NotTheBest, ShippingRefused, OtherSettings, BytesAfterEnd}
use Rattle.report.specs.declared.refusal.Refusal.{Refusal}
use Rattle.report.specs.declared.verdict.Accepted.{Accepted as Yes}

-- document 01's number of a refusal
abbrev pub number_of : Reason → ℕ
number_of TooLong = 10
number_of RecordCutShort = 11
number_of OtherKindDue = 12
number_of WrongBodyLength = 13
number_of WrongVersion = 14
number_of NoTrials = 15
number_of NoSuchTrial = 16
number_of NotTheBest = 17
number_of ShippingRefused = 18
number_of OtherSettings = 19
number_of BytesAfterEnd = 20

-- the verdict that an answer says
abbrev pub verdict_in : Result Yes Refusal → Verdict
verdict_in (Ok a) = Accepted a.trial a.score a.settings
verdict_in (Err e) = Refused (number_of e.reason) e.place

-- the same of an answer whose refusal has any number
abbrev pub verdict_told : Result Yes Told → Verdict
verdict_told (Ok a) = verdict_in (Ok a)
verdict_told (Err e) = Refused e.number e.place
