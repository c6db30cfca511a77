-- The receive call at a packet boundary: it does what document 01 says of the packet that stands there, and so do the calls on a stream.
use Prim.Native.Nat.{ℕ, suc, ◌+◌, ◌≤◌}
use mathlib.Core.Path.{◌≡◌, refl, ap, ap₂, sym, subst, ◌∙◌}
use mathlib.Core.Bool.{false}
use mathlib.Core.List.{List, [], ◌∷◌, ◌++◌, map}
use Rattle.std.specs.Prelude.{Option, None, Some}
use native.Mathlib.Nat.{zero-add}
use native.Mathlib.Omega.{arith}
use lib.ListN.{length, take, drop, length-append}
use lib.Seq.{sets, get_or-take, take_at, drop_at}
use Rattle.packet.specs.Answer.{Answers}
use Rattle.packet.specs.Calls.{Call, Served, and_then, calls_on, served_one}
use Rattle.packet.specs.Packet.{payload_length, payload, right_sum}
use Rattle.packet.specs.Receiver.{Receiver, Received, with, waiting as receiver_waiting}
use Rattle.packet.specs.Stream.{has_packet, packets, rest}
use Rattle.packet.specs.Writer.{written}
use Rattle.packet.proofs.Cases.{bool_cases}
use Rattle.packet.proofs.Calls.{same_calls}
use Rattle.packet.proofs.StreamLaws.{IsPacket, payload_length_lem, packets_cons, rest_cons, packets_none, rest_none, packet_induction}
use Rattle.packet.proofs.ReceiverLaws.{Between, between_packet, one, first_of, too_few}
use Rattle.command.specs.Table.{command_of}
use Rattle.command.specs.Transfer.{Transfer, held}
use Rattle.command.specs.Faults.{Arrived, arrived, faults, any_fault}
use Rattle.command.specs.Judgement.{judge_as, judge}
use Rattle.command.specs.Carry.{settings_after}
use Rattle.command.specs.Response.{response, wrong_in}
use Rattle.command.specs.Player.{State, judged, next, judgements, responses, after}
use Rattle.command.specs.Controller.{transfer_of, held_in, state_of, receiver_in}
use Rattle.command.specs.Endpoint.{arrived_in, judged_in, response_in, carried_out, After, waiting, receive_call}
use Rattle.command.specs.Sending.{Given, serves, Ready, Sending, replies_to, sent_to, wrong_to, Boundary}
use Rattle.command.specs.Demand2.{Follows}
use Rattle.command.specs.declared.judgement.Judgement.{Judgement}
use Rattle.command.specs.declared.judgement.Judgement.TheVariants.{Error, Hold, Write, Read}
use Rattle.command.specs.declared.controller.Controller.{Controller}
use Rattle.command.specs.declared.table.Command.{Command}
use Rattle.command.proofs.transfer.Laws.{fits_hold}
use Rattle.command.proofs.carry.Laws.{Bounded, stored_part, carried_transfer}
use Rattle.command.proofs.controller.Laws.{rule_parts}
use Rattle.command.proofs.endpoint.Laws.{call_is, has_room, stays_in_rule, endpoint_streams, at_once}

-- a packet with another payload
abbrev with_body : Arrived → List ℕ → Arrived
with_body p b =
    record { type = p.type; cmd1 = p.cmd1; cmd2 = p.cmd2; flags = p.flags; size = p.size; right = p.right; body = b }

-- a payload that is too long does not matter
judge_body : (mode : ℕ) (t : Transfer) (p : Arrived) (b : List ℕ) → (length (held t) + p.size ≤ 1024 → b ≡ p.body) → judge mode t (with_body p b) ≡ judge mode t p
unfolding judge
judge_body mode t p b h = go (command_of p.cmd1 p.cmd2)
  where
    go : (f : Option Command) → judge_as f mode t (with_body p b) ≡ judge_as f mode t p
    go None = unfold judge_as faults in refl
    go (Some c) = unfold judge_as faults in bool_cases (any_fault (faults (Some c) t p)) (λ e. rw e) (λ e. rw (h (fits_hold (Some c) t p e)))

-- The judgement of a packet, carried out with its payload, leaves the state that document 01 says, whatever receiver the head has then. A payload that is
-- too long does not matter.
pub carried_state : (c : Controller) → Ready c → (p : List ℕ) → IsPacket p → (r : Receiver) (body : List ℕ) → (payload_length p ≤ 1024 → body ≡ payload p)
    → state_of (carried_out c r body (judged (state_of c) p)) ≡ next (state_of c) p
unfolding next judged
carried_state c k p i r body e =
    let q = rule_parts c.settings c.registers k.rule in
    ap (λ (t : Transfer). record { settings = settings_after c.settings (judged (state_of c) p); transfer = t })
    (carried_transfer (transfer_of c.registers) c.buffer body (arrived p) (judged (state_of c) p) q.transfer k.buffer
    (payload_length_lem p i.exact) e (has_room c (arrived p) k))

-- Nor does it matter to the controller that is left.
body_alike : (c : Controller) (r : Receiver) (x y : List ℕ) (n : ℕ) (j : Judgement) → (n ≤ 1024 → x ≡ y) → Bounded (held_in (transfer_of c.registers) + n) j
    → carried_out c r x j ≡ carried_out c r y j
body_alike c r x y n (Error k) e b = refl
body_alike c r x y n (Hold d) e b = ap (λ (z : List ℕ). carried_out c r z (Hold d)) (e (omega arith))
body_alike c r x y n (Write v) e b = refl
body_alike c r x y n (Read d) e b = refl

-- One whole packet, from a packet boundary.
module _ (c : Controller) (k : Ready c) (p : List ℕ) (i : IsPacket p) where
  abbrev complete : Received
  complete = one 0 (receiver_in c) p

  -- the payload, as far as there is room for it
  abbrev body : List ℕ
  body = take (payload_length p) (sets c.hold 0 (payload p))

  whole_body : payload_length p ≤ 1024 → body ≡ payload p
  whole_body l = rw (zero-add (payload_length p)) at (stored_part c.hold (payload p) 0 (payload_length p) (payload_length_lem p i.exact) (omega (arith, k.hold)))

  -- it is judged as document 01 judges its bytes
  seen : arrived_in complete ≡ with_body (arrived p) body
  unfolding right_sum
  seen =
      rw (
        get_or-take 6 p 0 0 (omega arith),
        get_or-take 6 p 1 0 (omega arith),
        get_or-take 6 p 2 0 (omega arith),
        get_or-take 6 p 3 0 (omega arith),
        get_or-take 6 p 4 0 (omega arith),
        get_or-take 6 p 5 0 (omega arith),
      )

  judged_same : judged_in c complete ≡ judged (state_of c) p
  unfolding judged_in judged
  judged_same =
      ap (judge c.settings.mode (state_of c).transfer) seen
      ∙ judge_body c.settings.mode (state_of c).transfer (arrived p) body (λ l. whole_body (omega arith))

  response_same : response_in c complete ≡ response c.settings (arrived p) (judged (state_of c) p)
  unfolding response_in response
  response_same = ap₂ (response c.settings) seen judged_same

  state_same : state_of (carried_out c complete.receiver (arrived_in complete).body (judged_in c complete)) ≡ next (state_of c) p
  state_same =
      ap (λ (j : Judgement). state_of (carried_out c complete.receiver (arrived_in complete).body j)) judged_same
      ∙ carried_state c k p i complete.receiver (arrived_in complete).body (λ l. ap (λ (q : Arrived). q.body) seen ∙ whole_body l)

  -- the controller that is left
  left_same : carried_out c complete.receiver (arrived_in complete).body (judged_in c complete) ≡ carried_out c complete.receiver (payload p) (judged (state_of c) p)
  unfolding judged
  left_same =
      ap (carried_out c complete.receiver (arrived_in complete).body) judged_same
      ∙ body_alike c complete.receiver (arrived_in complete).body (payload p) (payload_length p) (judged (state_of c) p)
      (λ l. ap (λ (q : Arrived). q.body) seen ∙ whole_body l) (has_room c (arrived p) k)

-- what a packet draws
abbrev pub drawn : Controller → List ℕ → List ℕ
drawn c p = response c.settings (arrived p) (judged (state_of c) p)

-- what a call does that completes the packet p
pub record Takes (out : List ℕ) (c : Controller) (p : List ℕ) (r : After) : Type 0 where
  pub answer : r.answer ≡ Answers (length p) (length (drawn c p))
  pub output : r.output ≡ written (drawn c p) out
  pub wrong : r.wrong ≡ wrong_in (judged (state_of c) p)
  pub controller : r.controller ≡ carried_out c (one 0 (receiver_in c) p).receiver (payload p) (judged (state_of c) p)
  pub state : state_of r.controller ≡ next (state_of c) p
  pub ready : Ready r.controller
  pub boundary : Between (receiver_in r.controller)

module _ (out : List ℕ) (l : 64 ≤ length out) (c : Controller) (k : Ready c) (q : Between (receiver_in c)) where
  pub takes_packet : (p b : List ℕ) → IsPacket p → Takes out c p (receive_call c (p ++ b) out)
  takes_packet p b i =
      let e = call_is c (p ++ b) out k l (first_of 0 (receiver_in c) q p b (omega arith) i) in
      record {
        answer = ap (λ (r : After). r.answer) e ∙ ap (λ (m : List ℕ). Answers (length p) (length m)) (response_same c k p i);
        output = ap (λ (r : After). r.output) e ∙ ap (λ (m : List ℕ). written m out) (response_same c k p i);
        wrong = ap (λ (r : After). r.wrong) e ∙ ap wrong_in (judged_same c k p i);
        controller = ap (λ (r : After). r.controller) e ∙ left_same c k p i;
        state = ap (λ (r : After). state_of r.controller) e ∙ state_same c k p i;
        ready = stays_in_rule c (p ++ b) out k l;
        boundary = subst (λ (r : After). Between (receiver_in r.controller)) (sym e) (between_packet (receiver_in c) p i);
      }

  -- too few bytes for a packet are all taken
  pub takes_part : (b : List ℕ) → has_packet b ≡ false → receive_call c b out ≡ waiting c (receiver_waiting 0 (receiver_in c) b) out
  unfolding receiver_waiting
  takes_part b h = call_is c b out k l (too_few 0 (receiver_in c) q b h)

pub between_of : {c : Controller} → Boundary c → Between (receiver_in c)
between_of q = record { header = q.ready.header; received = q.received }

-- What packets give one after the other, and all that is followed of a stream: Follows, and the byte that is wrong beside each response.

-- what a packet gives
abbrev reply_to : State → List ℕ → Given
reply_to a p = record { response = response a.settings (arrived p) (judged a p); wrong = wrong_in (judged a p) }

replies : State → List (List ℕ) → List Given
replies a [] = []
replies a (p ∷ ps) = reply_to a p ∷ replies (next a p) ps

reply_responses : (a : State) (ps : List (List ℕ)) → map (λ (x : Given). x.response) (replies a ps) ≡ responses a ps
unfolding replies responses
reply_responses a [] = refl
reply_responses a (p ∷ ps) = ap {B = List (List ℕ)} (λ xs. response a.settings (arrived p) (judged a p) ∷ xs) (reply_responses (next a p) ps)

reply_wrong : (a : State) (ps : List (List ℕ)) → map (λ (x : Given). x.wrong) (replies a ps) ≡ map wrong_in (judgements a ps)
unfolding replies judgements
reply_wrong a [] = refl
reply_wrong a (p ∷ ps) = ap {B = List (Option ℕ)} (λ xs. wrong_in (judged a p) ∷ xs) (reply_wrong (next a p) ps)

record Replies (c : Controller) (b : List ℕ) (r : Served Controller Given) : Type 0 where
  given : r.given ≡ replies (state_of c) (packets b)
  ends : state_of r.state ≡ after (state_of c) (packets b)
  base : Receiver
  boundary : base.received ≡ 0
  unfinished : receiver_in r.state ≡ with 0 base (rest b)
  ready : Ready r.state

-- The stream at once, packet by packet.
module _ (out : List ℕ) (l : 64 ≤ length out) where
  -- the claim for one stream
  abbrev Claim : List ℕ → Type 0
  Claim b = (c : Controller) → Boundary c → Replies c b (served_one (serves out) c b)

  follows_none : (b : List ℕ) → has_packet b ≡ false → Claim b
  unfolding served_one calls_on replies after receiver_waiting
  follows_none b h c q =
      let e = takes_part out l c q.ready (between_of q) b h in
      rw e
      (record {
        given = sym (ap (replies (state_of c)) (packets_none b h));
        ends = sym (ap (after (state_of c)) (packets_none b h));
        base = receiver_in c;
        boundary = q.received;
        unfinished = ap (with 0 (receiver_in c)) (sym (rest_none b h));
        ready = subst (λ (r : After). Ready r.controller) e (stays_in_rule c b out q.ready l);
      })

  -- one packet more
  follows_more : (p b : List ℕ) → IsPacket p → Claim b → Claim (p ++ b)
  unfolding served_one calls_on replies after written
  follows_more p b i ih c q =
      let t = takes_packet out l c q.ready (between_of q) p b i in
      let d : Controller = (receive_call c (p ++ b) out).controller in
      let m : Given = reply_to (state_of c) p in
      let n : length (p ++ b) ≡ length p + length b = length-append p b in
      let e : serves out c (p ++ b) ≡ record { taken = length p; gives = Some m; state = d } =
      rw (t.answer, t.output, t.wrong, take_at (drawn c p) (drop (length (drawn c p)) out) (length (drawn c p)) refl) in
      let more : calls_on (serves out) (length (p ++ b)) d (drop (length p) (p ++ b)) ≡ served_one (serves out) d b =
      ap (calls_on (serves out) (length (p ++ b)) d) (drop_at p b (length p) refl)
      ∙ same_calls (serves out) Ready (endpoint_streams out l) (length (p ++ b)) (suc (length b)) d b t.ready (omega (arith, i.least)) (omega arith) in
      let f : served_one (serves out) c (p ++ b) ≡ record { given = m ∷ (served_one (serves out) d b).given; state = (served_one (serves out) d b).state } =
      ap (λ (x : Call Controller Given). and_then x.gives x.state (calls_on (serves out) (length (p ++ b)) x.state (drop x.taken (p ++ b)))) e
      ∙ ap (λ (x : Served Controller Given). and_then (Some m) d x) more in
      let g = ih d (record { ready = t.ready; received = t.boundary.received }) in
      subst (Replies c (p ++ b)) (sym f)
      (record {
        given = rw (packets_cons p b i) (ap {B = List Given} (λ xs. m ∷ xs) (g.given ∙ ap (λ (a : State). replies a (packets b)) t.state));
        ends = rw (packets_cons p b i) (g.ends ∙ ap (λ (a : State). after a (packets b)) t.state);
        base = g.base;
        boundary = g.boundary;
        unfinished = rw (rest_cons p b i) g.unfinished;
        ready = g.ready;
      })

  follows_once : (b : List ℕ) → Claim b
  follows_once = packet_induction Claim follows_none follows_more

-- All of a stream, however it was cut.
all_played : (c : Controller) (b : List ℕ) (s : Sending b) → Boundary c → Replies c b (replies_to c s)
all_played c b s q =
    subst (Replies c b) (sym (at_once (s.outs 0) (s.room 0) c b s q.ready)) (follows_once (s.outs 0) (s.room 0) b c q)

-- Responses and settings follow document 01.
pub follows_played : (c : Controller) (b : List ℕ) (s : Sending b) → Boundary c → Follows c b (sent_to c s)
follows_played c b s q =
    let r = all_played c b s q in
    record {
      given = ap (map (λ (x : Given). x.response)) r.given ∙ reply_responses (state_of c) (packets b);
      ends = r.ends;
      base = r.base;
      boundary = r.boundary;
      unfinished = r.unfinished;
      ready = r.ready;
    }

-- And beside each response stands the byte that is wrong.
pub wrong_played : (c : Controller) (b : List ℕ) (s : Sending b) → Boundary c → wrong_to c s ≡ map wrong_in (judgements (state_of c) (packets b))
wrong_played c b s q = ap (map (λ (x : Given). x.wrong)) (all_played c b s q).given ∙ reply_wrong (state_of c) (packets b)
