-- The receive call: when it refuses, and what it answers and leaves.
use Rattle.std.specs.Prelude.{ℕ, cond, List, ltb, length, take, Option, None}
use Rattle.packet.specs.Answer.{Outcome, Refuses, Waits, Answers, outcome_of}
use Rattle.packet.specs.Packet.{payload_length}
use Rattle.packet.specs.Receiver.{Receiver, Received, receiving}
use Rattle.packet.specs.Writer.{written}
use Rattle.command.specs.Faults.{Arrived}
use Rattle.command.specs.Judgement.{judge}
use Rattle.command.specs.Carry.{settings_after}
use Rattle.command.specs.Response.{response, wrong_in}
use Rattle.command.specs.Controller.{transfer_of, transfer_in, receiver_in, packet_in, transfer_state_after, buffer_after, in_rule}
use Rattle.command.specs.declared.transfer.TransferState.{TransferState}
use Rattle.command.specs.declared.judgement.Judgement.{Judgement}
use Rattle.command.specs.declared.controller.Registers.{Registers}
use Rattle.command.specs.declared.controller.Controller.{Controller}
use Rattle.command.specs.declared.endpoint.Reply.{Reply}

-- the bytes taken by the receiver; the checksum covers every byte of a packet, from place 0 on
abbrev pub taken_by : Controller → List ℕ → Received
taken_by c input = receiving 0 (receiver_in c) input

-- the packet that is complete in a receiver, its checksum right or not: "at most 1,024 payload bytes are held"
abbrev pub arrived_in : Received → Arrived
arrived_in t = packet_in t.receiver.header t.right (take (payload_length t.receiver.header) t.receiver.hold)

-- how it is judged, and what it draws
unfoldable pub judged_in : Controller → Received → Judgement
judged_in c t = judge c.settings.mode (transfer_in (transfer_of c.registers) c.buffer) (arrived_in t)

unfoldable pub response_in : Controller → Received → List ℕ
response_in c t = response c.settings (arrived_in t) (judged_in c t)

-- the registers of this transfer and this receiver
abbrev pub registers_of : TransferState → Receiver → Registers
registers_of t r =
    record {
      received = r.received;
      held = t.held;
      active = t.active;
      cmd1 = t.cmd1;
      cmd2 = t.cmd2;
      header = r.header;
      sum = r.running;
    }

-- a judgement carried out, of a packet with this payload: the controller afterwards, its receiver being this one
abbrev pub carried_out : Controller → Receiver → List ℕ → Judgement → Controller
carried_out c r body j =
    record {
      settings = settings_after c.settings j;
      registers = registers_of (transfer_state_after (transfer_of c.registers) body j) r;
      buffer = buffer_after (transfer_of c.registers) c.buffer body j;
      hold = r.hold;
    }

-- The receive call: the answer, the byte that code 03 is about, where the packet draws it, the controller afterwards, and the output.
pub record After : Type 0 where
  pub answer : Outcome
  pub wrong : Option ℕ
  pub controller : Controller
  pub output : List ℕ

-- what the call answers, with the controller and the output as it left them
abbrev pub after_of : Reply → Controller → List ℕ → After
after_of r c out = record { answer = outcome_of r.answer; wrong = r.wrong; controller = c; output = out }

-- a refusal takes nothing and leaves buffer and controller untouched
abbrev pub refused : ℕ → Controller → List ℕ → After
refused n c out = record { answer = Refuses n; wrong = None; controller = c; output = out }

-- "waiting": all bytes taken, output untouched
abbrev pub waiting : Controller → Received → List ℕ → After
waiting c t out =
    record {
      answer = Waits t.taken;
      wrong = None;
      controller =
          record {
            settings = c.settings;
            registers = registers_of (transfer_of c.registers) t.receiver;
            buffer = c.buffer;
            hold = t.receiver.hold;
          };
      output = out;
    }

-- "answered": the response at the output's start, the rest untouched, and beside it the byte that is wrong
abbrev pub answered : Controller → Received → List ℕ → After
answered c t out =
    record {
      answer = Answers t.taken (length (response_in c t));
      wrong = wrong_in (judged_in c t);
      controller = carried_out c t.receiver (arrived_in t).body (judged_in c t);
      output = written (response_in c t) out;
    }

-- the call: it refuses, tested in the order 1, 3, or takes bytes until the input ends or one packet is complete
unfoldable pub receive_call : Controller → List ℕ → List ℕ → After
receive_call c input out =
    cond (ltb (length out) 64) (refused 1 c out)
    (cond (in_rule c)
    (cond (taken_by c input).complete (answered c (taken_by c input) out) (waiting c (taken_by c input) out))
    (refused 3 c out))
