-- From a packet boundary the receive call follows the judging of packet after packet, over whole streams.
use Rattle.std.proofs.Common.{◌≡◌, ℕ, suc, ◌+◌, ◌-◌, ◌≤◌, false, ltb, List, [], ◌∷◌, ◌++◌, length, take, drop, sym, refl, ap, ◌∙◌, subst, ap₂, arith, length-append, length-drop, length-take-le, get_or-take, take_at, drop_at, ltb-false}
use Rattle.std.specs.Prelude.{Some}
use lib.Seq.{sets}
use Rattle.packet.specs.Packet.{payload_length, payload, checksum as packet_checksum}
use Rattle.packet.specs.Stream.{size, has_packet, packets}
use Rattle.packet.specs.Calls.{Served, and_then, calls_on, served_one}
use Rattle.packet.proofs.Cases.{bool_cases}
use Rattle.packet.proofs.BytesLaws.{sets_get}
use Rattle.packet.proofs.StreamLaws.{IsPacket, packets_cons, rest_cons, packets_none, rest_none, packet_induction}
use Rattle.packet.proofs.Calls.{same_calls, at_once}
use Rattle.packet.specs.Writer.{written}
use Rattle.packet.specs.Receiver.{Receiver as PacketReceiver, Received, with, waiting as packet_waiting}
use Rattle.packet.proofs.ReceiverLaws.{Between, after_packet, right_from, one, first_of, too_few}
use Rattle.dlpc200.specs.Packet.{after_cmd4, checksum, right_sum}
use Rattle.dlpc200.specs.Device.{receiver_of, device_of}
use Rattle.dlpc200.specs.Judgement.{command_in, arrived_of, arrived, judge, states_after}
use Rattle.dlpc200.specs.Response.{response}
use Rattle.dlpc200.specs.declared.states.States.{States}
use Rattle.dlpc200.specs.Playing.{judged, answer_to, next, responses, after}
use Rattle.packet.specs.Answer.{Waits}
use Rattle.dlpc200.specs.Endpoint.{arrived_in, judged_in, response_in, After, answered, ended, receive_call}
use Rattle.dlpc200.specs.Sending.{shown, serves, Sending, sent_to, Ready, Boundary}
use Rattle.dlpc200.specs.Request1.{Follows}
use Rattle.dlpc200.specs.declared.device.Device.{Device}
use Rattle.dlpc200.proofs.endpoint.Laws.{Made, made, device_after, not_refused, stays_in_rule, endpoint_streams, any_output}

-- The packet that the receiver has received is the packet of its bytes.
module _ (p : List ℕ) (i : IsPacket p) (hold : List ℕ) (m : length hold ≡ 4) where
  abbrev d : List ℕ
  d = payload p

  data_length : length d ≡ payload_length p
  unfolding payload size
  data_length =
      let n : length (drop 6 p) ≡ length p - 6 = length-drop 6 p in
      length-take-le (payload_length p) (drop 6 p) (omega (arith, i.exact))

  -- its first two data bytes tell its command, if it has two
  same_command_lem : command_in (payload_length p) (sets hold 0 d) ≡ command_in (payload_length p) d
  unfolding command_in
  same_command_lem =
      bool_cases (ltb (payload_length p) 2)
      (λ e. rw e)
      (λ e.
      let l : 2 ≤ length d = omega (arith, data_length, ltb-false (payload_length p) 2 e) in
      rw (sets_get d hold 0 (omega arith) (omega arith), sets_get d hold 1 (omega arith) (omega arith)))

  same_arrived : arrived_of (take 6 p) (sets hold 0 d) (right_sum p) ≡ arrived p
  same_arrived =
      rw (get_or-take 6 p 0 0 (omega arith), get_or-take 6 p 1 0 (omega arith), get_or-take 6 p 3 0 (omega arith), get_or-take 6 p 4 0 (omega arith), get_or-take 6 p 5 0 (omega arith), same_command_lem)

-- its checksum is right where that over everything after CMD4 is
same_right : (p : List ℕ) → right_from after_cmd4 p ≡ right_sum p
unfolding right_sum checksum packet_checksum
same_right p = refl

-- so it is judged as that packet, and draws what that draws
module _ (s : States) (q : PacketReceiver) (m : Made q) (p : List ℕ) (i : IsPacket p) where
  same_packet : arrived_in (one after_cmd4 q p) ≡ arrived p
  same_packet = ap (arrived_of (take 6 p) (sets q.hold 0 (payload p))) (same_right p) ∙ same_arrived p i q.hold m.hold

  same_judged : judged_in (one after_cmd4 q p) ≡ judged p
  unfolding judged_in judged
  same_judged = ap judge same_packet

  same_response : response_in s (one after_cmd4 q p) ≡ answer_to s p
  unfolding response_in answer_to
  same_response = ap₂ (response s) same_packet same_judged

  same_states : states_after s (judged_in (one after_cmd4 q p)) ≡ next s p
  unfolding next
  same_states = ap (states_after s) same_judged

-- the receiver of a device between two packets is between them
between : (d : Device) → Boundary d → Between (receiver_of d)
between d z = record { header = z.ready.header; received = z.received }

module _ (out : List ℕ) (l : 64 ≤ length out) where
  -- the claim for one stream at once
  abbrev Claim : List ℕ → Type 0
  Claim b = (d : Device) → Boundary d → Follows d b (served_one (serves out) d b)

  follows_none : (b : List ℕ) → has_packet b ≡ false → Claim b
  unfolding served_one calls_on responses after packet_waiting
  follows_none b h d z =
      let k = z.ready in
      let q = between d z in
      let e : receive_call d b out ≡ record { answer = Waits (length b); device = device_after d b; output = out } =
      not_refused d b out k.rule l ∙ ap (λ (t : Received). ended d.states t out) (too_few after_cmd4 (receiver_of d) q b h) in
      let f : served_one (serves out) d b ≡ record { given = []; state = device_after d b } =
      ap (λ (x : After). and_then (shown x).gives (shown x).state (calls_on (serves out) (length b) (serves out d b).state (drop (serves out d b).taken b))) e in
      subst (Follows d b) (sym f)
      (record {
        given = sym (ap (responses d.states) (packets_none b h));
        ends = sym (ap (after d.states) (packets_none b h));
        base = receiver_of d;
        boundary = z.received;
        unfinished = ap (with after_cmd4 (receiver_of d)) (sym (rest_none b h));
        ready = subst (λ (r : After). Ready r.device) e (stays_in_rule d b out k l);
      })

  -- one packet more
  follows_more : (p b : List ℕ) → IsPacket p → Claim b → Claim (p ++ b)
  unfolding served_one calls_on responses after written
  follows_more p b i ih d z =
      let k = z.ready in
      let q = between d z in
      let t : Received = one after_cmd4 (receiver_of d) p in
      let x : Device = device_of (states_after d.states (judged_in (one after_cmd4 (receiver_of d) p))) (after_packet (receiver_of d) p) in
      let m : List ℕ = response_in d.states (one after_cmd4 (receiver_of d) p) in
      let e : receive_call d (p ++ b) out ≡ answered d.states (one after_cmd4 (receiver_of d) p) out =
      not_refused d (p ++ b) out k.rule l ∙ ap (λ (t : Received). ended d.states t out) (first_of after_cmd4 (receiver_of d) q p b (omega arith) i) in
      let kx : Ready (device_of (states_after d.states (judged_in (one after_cmd4 (receiver_of d) p))) (after_packet (receiver_of d) p)) =
      subst (λ (r : After). Ready r.device) e (stays_in_rule d (p ++ b) out k l) in
      let n : length (p ++ b) ≡ length p + length b = length-append p b in
      let rest-calls : calls_on (serves out) (length (p ++ b)) x (drop (length p) (p ++ b)) ≡ served_one (serves out) x b =
      ap (calls_on (serves out) (length (p ++ b)) x) (drop_at p b (length p) refl)
      ∙ same_calls (serves out) Ready (endpoint_streams out l) (length (p ++ b)) (suc (length b)) x b kx (omega (arith, i.least)) (omega arith) in
      let f : served_one (serves out) d (p ++ b) ≡ record { given = m ∷ (served_one (serves out) x b).given; state = (served_one (serves out) x b).state } =
      ap (λ (r : After). and_then (shown r).gives (shown r).state (calls_on (serves out) (length (p ++ b)) (shown r).state (drop (shown r).taken (p ++ b)))) e
      ∙ ap (λ (y : List ℕ). and_then (Some y) x (calls_on (serves out) (length (p ++ b)) x (drop (length p) (p ++ b)))) (take_at m (drop (length m) out) (length m) refl)
      ∙ ap (λ (y : Served Device (List ℕ)). and_then (Some m) x y) rest-calls in
      let g = ih x (record { ready = kx; received = refl }) in
      let s : x.states ≡ next d.states p = same_states d.states (receiver_of d) (made d k) p i in
      subst (Follows d (p ++ b)) (sym f)
      (record {
        given =
            ap₂ {C = List (List ℕ)} (λ y ys. y ∷ ys) (same_response d.states (receiver_of d) (made d k) p i) (g.given ∙ ap (λ (a : States). responses a (packets b)) s)
            ∙ sym (ap (responses d.states) (packets_cons p b i));
        ends = g.ends ∙ ap (λ (a : States). after a (packets b)) s ∙ sym (ap (after d.states) (packets_cons p b i));
        base = g.base;
        boundary = g.boundary;
        unfinished = g.unfinished ∙ ap (with after_cmd4 g.base) (sym (rest_cons p b i));
        ready = g.ready;
      })

  follows : (b : List ℕ) → Claim b
  follows = packet_induction Claim follows_none follows_more

-- Over whole streams, however they are sent: the responses in order, the states and the unfinished packet are those of judging the stream's packets one after the
-- other.
pub follows_sent : (d : Device) (b : List ℕ) (s : Sending b) → Boundary d → Follows d b (sent_to d s)
follows_sent d b s z =
    subst (Follows d b) (sym (at_once serves Ready 64 any_output (s.outs 0) (s.room 0) d b s z.ready)) (follows (s.outs 0) (s.room 0) b d z)
