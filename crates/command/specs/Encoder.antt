-- The encoder and the standard shipping list.
use Rattle.std.specs.Prelude.{ℕ, cond, List, [], ◌∷◌, ◌++◌, eqb, ltb, length, Result, Ok, Err}
use Rattle.packet.specs.Packet.{packet_of, host_write, whole}
use Rattle.packet.specs.Writer.{written}
use Rattle.command.specs.Table.{table, cmd1_for, cmd2_for}
use Rattle.command.specs.Rules.{allowed, settings_in_rule}
use Rattle.command.specs.Value.{data_of, command_in, values_in, data_in}
use Rattle.command.specs.declared.table.Command.{Command}
use Rattle.command.specs.declared.settings.Settings.{Settings}
use Rattle.command.specs.declared.value.Value.{Value}
use Rattle.command.specs.declared.encoder.EncodeRefusal.{EncodeRefusal}
use Rattle.command.specs.declared.encoder.EncodeRefusal.TheVariants.{ShortOutput, NotAllowed, OutOfRule}

-- What the two calls answer, in the numbers of document 01: a refusal's number, or the length written at the output's start.
pub data Outcome : Type 0 where
  Refuses : ℕ → Outcome
  Writes : ℕ → Outcome

abbrev pub outcome_of : Result ℕ EncodeRefusal → Outcome
outcome_of (Err ShortOutput) = Refuses 1
outcome_of (Err NotAllowed) = Refuses 2
outcome_of (Err OutOfRule) = Refuses 3
outcome_of (Ok n) = Writes n

-- The same as two numbers, for callers that know no enum: the refusal's number, 0 where there is none,
abbrev pub refusal_of : Outcome → ℕ
refusal_of (Refuses n) = n
refusal_of (Writes n) = 0

-- and the length written, 0 with a refusal
abbrev pub length_of : Outcome → ℕ
length_of (Refuses n) = 0
length_of (Writes n) = n

-- what these two numbers say
abbrev pub outcome_told : ℕ → ℕ → Outcome
outcome_told refusal size = cond (eqb refusal 0) (Writes size) (Refuses refusal)

-- the whole-packet write of a command with its data
unfoldable pub write_packet : Command → List ℕ → List ℕ
write_packet c d = packet_of host_write (cmd1_for c) (cmd2_for c) whole d

-- one whole packet
unfoldable pub encoded : Value → List ℕ
encoded v = write_packet (command_in v) (data_in v)

-- one whole-packet write for each of these commands
unfoldable pub list_of : List Command → Settings → List ℕ
list_of [] s = []
list_of (c ∷ cs) s = write_packet c (data_of c s) ++ list_of cs s

-- Standard shipping list: one whole-packet write for each command, in table order.
unfoldable pub standard_list : Settings → List ℕ
standard_list s = list_of table s

-- Both calls: the answer and the output.
pub record After : Type 0 where
  pub answer : Outcome
  pub output : List ℕ

abbrev pub refused : ℕ → List ℕ → After
refused n out = record { answer = Refuses n; output = out }

-- the length written at the output's start, the rest untouched
abbrev pub writes : List ℕ → List ℕ → After
writes b out = record { answer = Writes (length b); output = written b out }

-- the encoder: tested in the order 1, 2; run 1 is allowed here
unfoldable pub encode_call : Value → List ℕ → After
encode_call v out =
    cond (ltb (length out) 64) (refused 1 out) (cond (allowed (command_in v) (values_in v)) (writes (encoded v) out) (refused 2 out))

-- the standard list: tested in the order 1, 3
unfoldable pub list_call : Settings → List ℕ → After
list_call s out = cond (ltb (length out) 128) (refused 1 out) (cond (settings_in_rule s) (writes (standard_list s) out) (refused 3 out))
