-- Ask before sending (request 5): the judge call, which disturbs nothing, and the call that carries out a judgement.
use Rattle.std.specs.Prelude.{ℕ, Bool, cond, ◌&&◌, List, eqb, ltb, length, Option, None, Some, Result, Ok, Err}
use Rattle.packet.specs.Packet.{payload}
use Rattle.packet.specs.Stream.{size, has_packet}
use Rattle.packet.specs.Writer.{written}
use Rattle.command.specs.Transfer.{held}
use Rattle.command.specs.Response.{response_to}
use Rattle.command.specs.Player.{judged}
use Rattle.command.specs.Controller.{state_of, receiver_in, in_rule, zeros}
use Rattle.command.specs.Endpoint.{carried_out}
use Rattle.command.specs.Encoder.{Outcome, Refuses, Writes}
use Rattle.command.specs.Ruling.{data_for, ruling_for, brought_in, meant, forged, items_of, items_kept, same_items}
use Rattle.command.specs.declared.controller.Controller.{Controller}
use Rattle.command.specs.declared.asking.JudgeRefusal.{JudgeRefusal}
use Rattle.command.specs.declared.asking.JudgeRefusal.TheVariants as judge
use Rattle.command.specs.declared.carrying.CarryOutRefusal.{CarryOutRefusal}
use Rattle.command.specs.declared.carrying.CarryOutRefusal.TheVariants as carry
use Rattle.command.specs.declared.judgement.Judgement.{Judgement}
use Rattle.command.specs.declared.ruling.Ruling.{Ruling}
use Rattle.command.specs.declared.ruling.JudgementRecord.{JudgementRecord}

-- The judge call: a refusal's number or none, and the record that is lent, as it is afterwards.
pub record Judging : Type 0 where
  pub refusal : Option ℕ
  pub judgement : JudgementRecord

-- the number of each refusal
abbrev pub number_of : JudgeRefusal → ℕ
number_of judge.OutOfRule = 3
number_of judge.NotOnePacket = 5

-- the refusal of an answer, where it is one
abbrev pub refusal_of : Result (Unit {0}) JudgeRefusal → Option ℕ
refusal_of (Ok u) = None
refusal_of (Err e) = Some (number_of e)

-- what the call answers, with the record as it left it
abbrev pub judging_of : Result (Unit {0}) JudgeRefusal → JudgementRecord → Judging
judging_of answer j = record { refusal = refusal_of answer; judgement = j }

-- the bytes are exactly one packet
unfoldable pub one_packet : List ℕ → Bool
one_packet b = has_packet b && eqb (size b) (length b)

-- a refusal touches nothing lent
abbrev pub refused_with : ℕ → JudgementRecord → Judging
refused_with n lent = record { refusal = Some n; judgement = lent }

-- the ruling of no packet: zeros, "error" with no code at all
abbrev pub no_ruling : Ruling
no_ruling =
    record {
      codes = 0;
      accepts = 0;
      wrong = 0;
      count = 0;
      cmd1 = 0;
      cmd2 = 0;
      kept = record { held = 0; mode = 0; active = 0; cmd1 = 0; cmd2 = 0 };
    }

abbrev pub no_judgement : JudgementRecord
no_judgement = record { ruling = no_ruling; joined = zeros }

-- what the answer of the call by value says
abbrev pub judged_of : Result JudgementRecord JudgeRefusal → Judging
judged_of (Ok j) = record { refusal = None; judgement = j }
judged_of (Err e) = refused_with (number_of e) no_judgement

-- the judgement: its numbers, and its data at the array's start, the rest untouched
abbrev pub judged_as : Controller → List ℕ → Judgement → JudgementRecord → Judging
judged_as c p j lent =
    record {
      refusal = None;
      judgement = record { ruling = ruling_for c p j; joined = written (data_for (held (state_of c).transfer) (payload p) j) lent.joined };
    }

-- tested in the order 3, 5; no output is lent
unfoldable pub judge_call : Controller → List ℕ → JudgementRecord → Judging
judge_call c b lent =
    cond (in_rule c) (cond (one_packet b) (judged_as c b (judged (state_of c) b) lent) (refused_with 5 lent)) (refused_with 3 lent)

-- The call that carries out a judgement: the answer, the controller and the output afterwards.
pub record Carrying : Type 0 where
  pub answer : Outcome
  pub controller : Controller
  pub output : List ℕ

-- the number of each refusal, and the length written
abbrev pub outcome_of : Result ℕ CarryOutRefusal → Outcome
outcome_of (Err carry.ShortOutput) = Refuses 1
outcome_of (Err carry.Forged) = Refuses 2
outcome_of (Err carry.OutOfRule) = Refuses 3
outcome_of (Err carry.Stale) = Refuses 4
outcome_of (Ok n) = Writes n

-- what the call answers, with the controller and the output as it left them
abbrev pub carrying_of : Result ℕ CarryOutRefusal → Controller → List ℕ → Carrying
carrying_of answer c out = record { answer = outcome_of answer; controller = c; output = out }

-- nothing changes
abbrev pub refused : ℕ → Controller → List ℕ → Carrying
refused n c out = record { answer = Refuses n; controller = c; output = out }

-- the response that it draws on this controller
unfoldable pub response_for : Controller → JudgementRecord → List ℕ
response_for c j = response_to j.ruling.cmd1 j.ruling.cmd2 c.settings (meant j)

-- the response at the output's start, the rest untouched; the receiver stays as it is
abbrev pub carries : Controller → JudgementRecord → List ℕ → Carrying
carries c j out =
    record {
      answer = Writes (length (response_for c j));
      controller = carried_out c (receiver_in c) (brought_in j) (meant j);
      output = written (response_for c j) out;
    }

-- tested in the order 1, 3, 2, 4
unfoldable pub carry_call : Controller → JudgementRecord → List ℕ → Carrying
carry_call c j out =
    cond (ltb (length out) 64) (refused 1 c out)
    (cond (in_rule c)
    (cond (forged j) (refused 2 c out) (cond (same_items (items_of c) (items_kept j)) (carries c j out) (refused 4 c out)))
    (refused 3 c out))
