-- The receive call: when it refuses, and what it answers and leaves.
use Rattle.std.specs.Prelude.{ℕ, cond, List, length, nat_lt, Result}
use Rattle.packet.specs.Answer.{Outcome, Refuses, Waits, Answers, Performed}
use Rattle.packet.specs.Writer.{written}
use Rattle.packet.specs.Receiver.{Received}
use Rattle.dlpc200.specs.Judgement.{arrived_of, judge, states_after}
use Rattle.dlpc200.specs.Response.{response}
use Rattle.dlpc200.specs.declared.table.Command.{Command}
use Rattle.dlpc200.specs.declared.status.Faults.{Faults}
use Rattle.dlpc200.specs.declared.judgement.Arrived.{Arrived}
use Rattle.dlpc200.specs.declared.states.States.{States}
use Rattle.dlpc200.specs.declared.device.Device.{Device}
use Rattle.dlpc200.specs.Device.{in_rule, device_of, receiving}

-- the packet that is complete in a receiver, its checksum right or not; of its data the first four bytes are held
abbrev pub arrived_in : Received → Arrived
arrived_in t = arrived_of t.receiver.header t.receiver.hold t.right

-- how it is judged, and what it draws
unfoldable pub judged_in : Received → Result Command Faults
judged_in t = judge (arrived_in t)

unfoldable pub response_in : States → Received → List ℕ
response_in s t = response s (arrived_in t) (judged_in t)

-- The receive call: the answer, the device afterwards, and the output.
pub record After : Type 0 where
  pub answer : Outcome
  pub device : Device
  pub output : List ℕ

-- a refusal takes nothing and leaves buffer and device untouched
abbrev pub refused : ℕ → Device → List ℕ → After
refused n d out = record { answer = Refuses n; device = d; output = out }

-- "waiting": all bytes taken, output untouched
abbrev pub waiting : States → Received → List ℕ → After
waiting s t out = record { answer = Waits t.taken; device = device_of s t.receiver; output = out }

-- "answered": the response at the output's start, the rest untouched
abbrev pub answered : States → Received → List ℕ → After
answered s t out =
    record {
      answer = Answers t.taken (length (response_in s t));
      device = device_of (states_after s (judged_in t)) t.receiver;
      output = written (response_in s t) out;
    }

-- the end of a call that is not refused, t being what the receiver took
abbrev pub ended : States → Received → List ℕ → After
ended s t out = cond t.complete (answered s t out) (waiting s t out)

-- "calls keep 1, then 3": an output shorter than 64 bytes, then a device out of rule
unfoldable pub receive_call : Device → List ℕ → List ℕ → After
receive_call d input out =
    cond (nat_lt (length out) 64) (refused 1 d out) (cond (in_rule d) (ended d.states (receiving d input) out) (refused 3 d out))

-- A receive call for C and Rust that does as `after` says: the refusal, the bytes taken, the response's length, the device and the output afterwards.
abbrev pub Receives : After → ℕ → ℕ → ℕ → Device → List ℕ → Type 0
Receives after refusal taken size device output =
    Performed after.answer after.device after.output refusal taken size device output
