-- Request 5, "ask before sending": "Split judging a packet from carrying out the judgement; the receive call uses both, and only carrying out writes the response.
-- Judging then carrying out must equal document 01's rules on every controller and complete packet, and so must carrying out on any other controller that 4 lets
-- pass; neither touches a half-received packet. A judgement goes stale when the controller changes, so it keeps the mode, open command and held data it was made
-- under. Refusals: 5 for judging bytes that aren't exactly one packet; for carrying out, 2 for a judgement without error codes that no packet draws from a controller
-- that 3 lets pass and that has what it keeps, then 4 exactly when a kept item differs; nothing changes; all after 1 and 3." judge_call is the contract of
-- `judge_packet` and of `Controller::judge`, carry_call that of `carry_out` and of `Controller::carry_out`: by value, and on a controller that is lent. Proved in
-- proofs/Request5.antt.
use Rattle.std.specs.Prelude.{ℕ, ◌<◌, ◌≤◌, ◌≡◌, ◌↔◌, ◌⊎◌, true, false, length, take, None, Some}
use mathlib.Core.List.{List, [], ◌∷◌, ◌++◌, map, Memᴰ}
use Rattle.packet.specs.Answer.{Answers}
use Rattle.packet.specs.Number.{Bytes}
use Rattle.packet.specs.Packet.{cmd1_of, cmd2_of, packet_of, error, whole}
use Rattle.packet.specs.Receiver.{Receiver, with}
use Rattle.packet.specs.Stream.{has_packet, packets, rest}
use Rattle.packet.specs.Writer.{written}
use Rattle.command.specs.Transfer.{Closed}
use Rattle.command.specs.Faults.{arrived, codes_of}
use Rattle.command.specs.Response.{response, response_type, codes_in, wrong_in}
use Rattle.command.specs.Player.{judged, next, responses, after}
use Rattle.command.specs.Controller.{transfer_of, state_of, receiver_in}
use Rattle.command.specs.Endpoint.{receive_call}
use Rattle.command.specs.Encoder.{Refuses, Writes}
use Rattle.command.specs.Sending.{Sending, sent_to, wrong_to, Ready, Boundary}
use Rattle.command.specs.Ruling.{has_bit, codes_told, mask_in, acceptance, wrong_told, meant, items_of, items_kept}
use Rattle.command.specs.Asking.{judge_call, Carrying, carries, carry_call}
use Rattle.command.specs.Demand1.{Ascending, OutOfRule}
use Rattle.command.specs.declared.controller.Controller.{Controller}
use Rattle.command.specs.declared.ruling.JudgementRecord.{JudgementRecord}

-- the bytes are exactly one packet
abbrev pub OnePacket : List ℕ → Type 0
OnePacket p = packets p ≡ p ∷ []

-- a record as its type gives it: 1,024 bytes
pub record Made (j : JudgementRecord) : Type 0 where
  pub size : length j.joined ≡ 1024
  pub bytes : Bytes j.joined

-- the judgement of a packet; `lent` is what stood where it was put
abbrev pub judgement_of : Controller → List ℕ → JudgementRecord → JudgementRecord
judgement_of c p lent = (judge_call c p lent).judgement

-- some packet draws this very judgement from a controller that 3 lets pass and that has what it keeps (which follows, and stands there for the words)
pub record Drawn (j : JudgementRecord) : Type 0 where
  pub controller : Controller
  pub ready : Ready controller
  pub keeps : items_of controller ≡ items_kept j
  pub packet : List ℕ
  pub bytes : Bytes packet
  pub draws : judge_call controller packet j ≡ record { refusal = None; judgement = j }

-- what a judgement says of the packet p, by document 01's judgement of it on the controller c: its numbers,
pub record Says (c : Controller) (p : List ℕ) (j : JudgementRecord) : Type 0 where
  pub codes : j.ruling.codes ≡ mask_in (judged (state_of c) p)
  pub accepts : j.ruling.accepts ≡ acceptance (judged (state_of c) p)
  pub wrong : j.ruling.wrong ≡ wrong_told (wrong_in (judged (state_of c) p))
  pub cmd1 : j.ruling.cmd1 ≡ cmd1_of p
  pub cmd2 : j.ruling.cmd2 ≡ cmd2_of p
  -- and what they mean: the codes that the packet draws, and the type of its response
  pub sends : codes_in (meant j) ≡ codes_in (judged (state_of c) p)
  pub type : response_type (meant j) ≡ response_type (judged (state_of c) p)

-- "a judgement without error codes"
abbrev pub Uncoded : JudgementRecord → Type 0
Uncoded j = codes_in (meant j) ≡ []

-- "document 01's rules" on the controller c and the packet p: the response at the output's start, the rest untouched, and the state afterwards. The receiver stays,
-- and the controller is in rule.
pub record Obeys (c : Controller) (p out : List ℕ) (r : Carrying) : Type 0 where
  pub answer : r.answer ≡ Writes (length (response c.settings (arrived p) (judged (state_of c) p)))
  pub output : r.output ≡ written (response c.settings (arrived p) (judged (state_of c) p)) out
  pub state : state_of r.controller ≡ next (state_of c) p
  pub receiver : receiver_in r.controller ≡ receiver_in c
  pub ready : Ready r.controller

-- the receive call, handed the packet p, does what `r` does that carries out its judgement j: the response of n bytes, the byte that is wrong, the output, and all of
-- the controller but the receiver, which is between two packets then
pub record Alike (c : Controller) (p out : List ℕ) (n : ℕ) (j : JudgementRecord) (r : Carrying) : Type 0 where
  pub answer : (receive_call c p out).answer ≡ Answers (length p) n
  pub wrong : wrong_told (receive_call c p out).wrong ≡ j.ruling.wrong
  pub output : (receive_call c p out).output ≡ r.output
  pub settings : (receive_call c p out).controller.settings ≡ r.controller.settings
  pub transfer : transfer_of (receive_call c p out).controller.registers ≡ transfer_of r.controller.registers
  pub buffer : (receive_call c p out).controller.buffer ≡ r.controller.buffer

-- the bytes x, too few for a packet, are what has come in of the packet that the controller c has half received
pub record HalfReceived (c : Controller) (x : List ℕ) : Type 0 where
  pub ready : Ready c
  pub base : Receiver
  pub boundary : base.received ≡ 0
  pub came : receiver_in c ≡ with 0 base x
  pub few : has_packet x ≡ false

-- the error packet with a judgement's codes, and what it leaves
pub record SendsCodes (c : Controller) (j : JudgementRecord) (out : List ℕ) (r : Carrying) : Type 0 where
  pub ascending : Ascending 0 (codes_in (meant j))
  pub answer : r.answer ≡ Writes (length (packet_of error j.ruling.cmd1 j.ruling.cmd2 whole (codes_in (meant j))))
  pub output : r.output ≡ written (packet_of error j.ruling.cmd1 j.ruling.cmd2 whole (codes_in (meant j))) out
  pub settings : r.controller.settings ≡ c.settings
  pub closed : (state_of r.controller).transfer ≡ Closed

pub record Request5 : Type 0 where
  -- The judge call. 3 exactly when the controller is out of rule,
  pub rule : (c : Controller) (b : List ℕ) (lent : JudgementRecord) → ((judge_call c b lent).refusal ≡ Some 3) ↔ OutOfRule c
  -- then 5 exactly when the bytes are not exactly one packet;
  pub one : (c : Controller) (b : List ℕ) (lent : JudgementRecord) → ((judge_call c b lent).refusal ≡ Some 5) ↔ ((OutOfRule c → ⊥) × (OnePacket b → ⊥))
  -- no other number, and a refusal touches nothing lent
  pub refuses : (c : Controller) (b : List ℕ) (lent : JudgementRecord) (n : ℕ) → (judge_call c b lent).refusal ≡ Some n
      → ((n ≡ 3) ⊎ (n ≡ 5)) × (judgement_of c b lent ≡ lent)
  -- else the judgement
  pub says : (c : Controller) (p : List ℕ) (lent : JudgementRecord) → Ready c → OnePacket p
      → ((judge_call c p lent).refusal ≡ None) × Says c p (judgement_of c p lent)
  -- the codes of a record are the bits of its number
  pub bits : (m n : ℕ) → Memᴰ n (codes_of (codes_told m)) ↔ ((1 ≤ n) × (n ≤ 11) × (has_bit m n ≡ true))
  -- "it keeps the mode, open command and held data it was made under"
  pub keeps : (c : Controller) (p : List ℕ) (lent : JudgementRecord) → Ready c → OnePacket p → items_kept (judgement_of c p lent) ≡ items_of c
  -- judging twice gives the same
  pub twice : (c : Controller) (p : List ℕ) (lent : JudgementRecord) → Ready c → OnePacket p
      → judge_call c p (judgement_of c p lent) ≡ judge_call c p lent
  -- The call that carries out. "Judging then carrying out must equal document 01's rules on every controller and complete packet, and so must carrying out on any
  -- other controller that 4 lets pass": on the controller d what was judged on c. A read answers the values of d.
  pub follows : (c d : Controller) (p : List ℕ) (lent : JudgementRecord) (out : List ℕ) → Ready c → Ready d → OnePacket p → 64 ≤ length out
      → items_of d ≡ items_of c
      → Obeys d p out (carry_call d (judgement_of c p lent) out)
  -- "the receive call uses both": a call that is handed a packet at a packet boundary does what judging and carrying out does,
  pub receives : (c : Controller) (p : List ℕ) (lent : JudgementRecord) (out : List ℕ) (n : ℕ) → Boundary c → OnePacket p
      → let r = carry_call c (judgement_of c p lent) out in r.answer ≡ Writes n → Alike c p out n (judgement_of c p lent) r
  -- and so however its bytes were cut
  pub cut : (c : Controller) (p : List ℕ) (s : Sending p) (lent : JudgementRecord) (out : List ℕ) (n : ℕ) → Boundary c → OnePacket p
      → let r = carry_call c (judgement_of c p lent) out in
      r.answer ≡ Writes n
      → ((sent_to c s).given ≡ take n r.output ∷ [])
      × (map wrong_told (wrong_to c s) ≡ (judgement_of c p lent).ruling.wrong ∷ [])
      × (state_of (sent_to c s).state ≡ state_of r.controller)
  -- "neither touches a half-received packet": `judge_packet` hands no controller back, and `Controller::judge` leaves its own, lent as `&self`: its contract has one
  -- controller, `self.now`. Whatever is carried out leaves header, sum, count and payload.
  pub half : (c : Controller) (j : JudgementRecord) (out : List ℕ) → receiver_in (carry_call c j out).controller ≡ receiver_in c
  -- Over a run of any length, in which bytes are received and judgements carried out: a head at a packet boundary has received no byte of a packet;
  pub begins : (c : Controller) → Boundary c → HalfReceived c []
  -- what is carried out in between leaves what has come in;
  pub passes : (c : Controller) (x : List ℕ) (j : JudgementRecord) (out : List ℕ) → HalfReceived c x → HalfReceived (carry_call c j out).controller x
  -- and when its last bytes come, the packet is judged on all its bytes and on the state as it is then, with all packets that follow it, however these bytes were cut
  pub run : (c : Controller) (x b : List ℕ) (t : Sending b) → HalfReceived c x
      → ((sent_to c t).given ≡ responses (state_of c) (packets (x ++ b)))
      × (state_of (sent_to c t).state ≡ after (state_of c) (packets (x ++ b)))
      × HalfReceived (sent_to c t).state (rest (x ++ b))
  -- Its refusals, in their order. 1 exactly when the output is too short,
  pub short : (c : Controller) (j : JudgementRecord) (out : List ℕ) → ((carry_call c j out).answer ≡ Refuses 1) ↔ (length out < 64)
  -- 3 exactly when the controller is out of rule,
  pub outside : (c : Controller) (j : JudgementRecord) (out : List ℕ) → ((carry_call c j out).answer ≡ Refuses 3) ↔ ((64 ≤ length out) × OutOfRule c)
  -- 2 exactly for "a judgement without error codes that no packet draws from a controller that 3 lets pass and that has what it keeps",
  pub forged : (c : Controller) (j : JudgementRecord) (out : List ℕ) → Made j
      → ((carry_call c j out).answer ≡ Refuses 2) ↔ ((64 ≤ length out) × (OutOfRule c → ⊥) × Uncoded j × (Drawn j → ⊥))
  -- "then 4 exactly when a kept item differs";
  pub stale : (c : Controller) (j : JudgementRecord) (out : List ℕ) → Made j
      → ((carry_call c j out).answer ≡ Refuses 4)
      ↔ ((64 ≤ length out) × (OutOfRule c → ⊥) × ((Uncoded j → ⊥) ⊎ Drawn j) × (items_of c ≡ items_kept j → ⊥))
  -- no other number, and "nothing changes"
  pub untouched : (c : Controller) (j : JudgementRecord) (out : List ℕ) (n : ℕ) → (carry_call c j out).answer ≡ Refuses n
      → (1 ≤ n) × (n ≤ 4) × (carry_call c j out ≡ record { answer = Refuses n; controller = c; output = out })
  -- and where nothing is refused the judgement is carried out
  pub answers : (c : Controller) (j : JudgementRecord) (out : List ℕ) → Made j → 64 ≤ length out → (OutOfRule c → ⊥) → (Uncoded j → ⊥) ⊎ Drawn j
      → items_of c ≡ items_kept j
      → carry_call c j out ≡ carries c j out
  -- what the judge call gives is never refused with 2
  pub genuine : (c d : Controller) (p : List ℕ) (lent : JudgementRecord) (out : List ℕ) → Ready c → OnePacket p
      → (carry_call d (judgement_of c p lent) out).answer ≡ Refuses 2
      → ⊥
  -- a judgement with error codes, from wherever it comes: "one byte for each code, ascending, none twice"; "an error packet closes any open transfer, drops its data
  -- and changes no setting"
  pub coded : (c : Controller) (j : JudgementRecord) (out : List ℕ) → Ready c → 64 ≤ length out → (Uncoded j → ⊥) → items_of c ≡ items_kept j
      → SendsCodes c j out (carry_call c j out)
  -- and a controller in rule stays so, whatever judgement is handed in
  pub stays : (c : Controller) (j : JudgementRecord) (out : List ℕ) → Ready c → Ready (carry_call c j out).controller
