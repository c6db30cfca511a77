-- The calls at the boundary to C and Rust: what each answers, by the calls of the crates below. A refusal is document 01's number, 0 where there is none.
use Rattle.std.specs.Prelude.{ℕ, ◌≡◌, cond, List, eqb, ltb, length, Option, None, Some, Result, Ok, Err}
use Rattle.packet.specs.Answer.{Performed}
use Rattle.command.specs.Table.{command_of}
use Rattle.command.specs.Settings.{values_of, factory}
use Rattle.command.specs.declared.settings.Settings.{Settings}
use Rattle.command.specs.declared.controller.Controller.{Controller}
use Rattle.command.specs.declared.table.Command.{Command}
use Rattle.command.specs.Value.{value_from}
use Rattle.command.specs.Endpoint as endpoint
use Rattle.command.specs.Asking as asking
use Rattle.command.specs.declared.ruling.JudgementRecord.{JudgementRecord}
use Rattle.command.specs.Encoder as encoding
use Rattle.report.specs.Report as tuning
use Rattle.report.specs.Claim.{Demand3}
use Rattle.imjarlet.specs.declared.verdict.Verdict.{Verdict}

-- The byte that code 03 is about, as a number: all 64 bits set where there is none.
abbrev pub no_byte : ℕ
no_byte = 0xFFFFFFFFFFFFFFFF

abbrev pub byte_told : Option ℕ → ℕ
byte_told None = no_byte
byte_told (Some n) = n

-- what such a number says
abbrev pub byte_said : ℕ → Option ℕ
byte_said n = cond (eqb n no_byte) None (Some n)

-- a number that tells this byte, or none
pub record Tells (byte : Option ℕ) (n : ℕ) : Type 0 where
  pub told : n ≡ byte_told byte
  pub says : byte_said n ≡ byte

-- A receive call that does as `after` says: the refusal, the bytes taken, the response's length, the byte that is wrong, the controller and the output afterwards.
pub record Receives (after : endpoint.After) (refusal taken size wrong : ℕ) (controller : Controller) (output : List ℕ) : Type 0 where
  pub performed : Performed after.answer after.controller after.output refusal taken size controller output
  pub names : Tells after.wrong wrong

-- A refusal's number, 0 where there is none, and what it says.
abbrev pub number_of : Option ℕ → ℕ
number_of None = 0
number_of (Some n) = n

abbrev pub refusal_said : ℕ → Option ℕ
refusal_said n = cond (eqb n 0) None (Some n)

-- A judge call that does as `after` says: the refusal, and the judgement afterwards.
pub record Asks (after : asking.Judging) (refusal : ℕ) (judgement : JudgementRecord) : Type 0 where
  pub refused : refusal ≡ number_of after.refusal
  -- the number says the refusal
  pub says : refusal_said refusal ≡ after.refusal
  pub leaves : judgement ≡ after.judgement

-- An answer that has its refusal as a number.
abbrev pub outcome_in : Result ℕ ℕ → encoding.Outcome
outcome_in (Err n) = encoding.Refuses n
outcome_in (Ok n) = encoding.Writes n

-- A call that carries out a judgement as `after` says: the refusal, the response's length, the controller and the output afterwards.
pub record Carries (after : asking.Carrying) (refusal size : ℕ) (controller : Controller) (output : List ℕ) : Type 0 where
  pub refused : refusal ≡ encoding.refusal_of after.answer
  pub count : size ≡ encoding.length_of after.answer
  -- the two numbers say the answer
  pub says : encoding.outcome_told refusal size ≡ after.answer
  pub leaves : controller ≡ after.controller
  pub written : output ≡ after.output

-- A call of the encoder, or of the standard list, that does as `after` says: the refusal, the length written at the output's start, the output afterwards.
pub record Emits (after : encoding.After) (refusal size : ℕ) (output : List ℕ) : Type 0 where
  pub refused : refusal ≡ encoding.refusal_of after.answer
  pub count : size ≡ encoding.length_of after.answer
  -- the two numbers say the answer
  pub says : encoding.outcome_told refusal size ≡ after.answer
  pub written : output ≡ after.output

-- The encoder by a command's bytes: what the settings have for it. A command that is not in the table is refused with 2, after 1.
abbrev pub write_for : Option Command → Settings → List ℕ → encoding.After
write_for None s out = encoding.refused (cond (ltb (length out) 64) 1 2) out
write_for (Some c) s out = encoding.encode_call (value_from c (values_of c s)) out

unfoldable pub write_call : ℕ → ℕ → Settings → List ℕ → encoding.After
write_call cmd1 cmd2 s out = write_for (command_of cmd1 cmd2) s out

-- A report: the winner, its score and its end settings, or a refusal's number and place.
unfoldable pub verdict_of : tuning.Verdict → Verdict
verdict_of (tuning.Accepted k score s) = record { place = 0; trial = k; score = score; settings = s }
verdict_of (tuning.Refused n p) = record { place = p; trial = 0; score = 0; settings = factory }

unfoldable pub refusal_in : tuning.Verdict → ℕ
refusal_in (tuning.Accepted k score s) = 0
refusal_in (tuning.Refused n p) = n

-- what the numbers say: yes exactly where the refusal is 0
unfoldable pub told_by : ℕ → Verdict → tuning.Verdict
told_by refusal v = cond (eqb refusal 0) (tuning.Accepted v.trial v.score v.settings) (tuning.Refused refusal v.place)

-- a call that judges the report: every number of it is determined, and what they say is what demand 3 asks
pub record Judges (report : List ℕ) (refusal : ℕ) (v : Verdict) : Type 0 where
  pub refused : refusal ≡ refusal_in (tuning.verdict report)
  pub filled : v ≡ verdict_of (tuning.verdict report)
  pub claim : Demand3 report (told_by refusal v)
