-- A stream of bytes sent to a head, call after call, "however the byte stream was cut".
use Rattle.std.specs.Prelude.{ℕ, ◌≡◌, true, List, map, length, Option, None, Some}
use Rattle.packet.specs.Answer.{taken_of, response_of}
use Rattle.packet.specs.Calls.{Call, Served, Sending as SendingWith, sent}
use Rattle.command.specs.Controller.{in_rule}
use Rattle.command.specs.Endpoint.{After, receive_call}
use Rattle.command.specs.declared.controller.Controller.{Controller}

-- what a complete packet gives: the response at the output's start, and beside it the byte that is wrong, or none
pub record Given : Type 0 where
  pub response : List ℕ
  pub wrong : Option ℕ

abbrev pub reply_with : Option ℕ → Option (List ℕ) → Option Given
reply_with w None = None
reply_with w (Some m) = Some (record { response = m; wrong = w })

-- what a receive call shows: how many bytes it took, and what the packet gave that it completed
abbrev pub shown : After → Call Controller Given
shown r = record { taken = taken_of r.answer; gives = reply_with r.wrong (response_of r.answer r.output); state = r.controller }

-- the receive call with this output lent
abbrev pub serves : List ℕ → Controller → List ℕ → Call Controller Given
serves out c b = shown (receive_call c b out)

-- a way of sending the bytes b: cut into any pieces, each call with an output of its own that is long enough, whatever stands in it
abbrev pub Sending : List ℕ → Type 0
Sending b = SendingWith 64 b

-- the bytes sent so to the head c: what the packets gave, in order, and the controller afterwards
abbrev pub replies_to : Controller → {b : List ℕ} → Sending b → Served Controller Given
replies_to c s = sent serves c s

-- the responses in order, and the controller afterwards
abbrev pub responses_in : Served Controller Given → Served Controller (List ℕ)
responses_in r = record { given = map (λ (x : Given). x.response) r.given; state = r.state }

abbrev pub sent_to : Controller → {b : List ℕ} → Sending b → Served Controller (List ℕ)
sent_to c s = responses_in (replies_to c s)

-- and the byte that was wrong in each packet, or none
abbrev pub wrong_to : Controller → {b : List ℕ} → Sending b → List (Option ℕ)
wrong_to c s = map (λ (x : Given). x.wrong) (replies_to c s).given

-- a head in rule; its arrays have the lengths that their types give
pub record Ready (c : Controller) : Type 0 where
  pub rule : in_rule c ≡ true
  pub header : length c.registers.header ≡ 6
  pub buffer : length c.buffer ≡ 1024
  pub hold : length c.hold ≡ 1024

-- at a packet boundary, whatever its arrays and its sum hold
pub record Boundary (c : Controller) : Type 0 where
  pub ready : Ready c
  pub received : c.registers.received ≡ 0

-- "with nothing half received and no transfer open"
pub record Idle (c : Controller) : Type 0 where
  pub boundary : Boundary c
  pub closed : c.registers.active ≡ 0
