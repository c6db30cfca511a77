-- The receive call: that a device in rule stays in rule, and that neither cutting a stream nor the outputs lent change anything.
use Rattle.std.proofs.Common.{◌≡◌, ℕ, ◌+◌, ◌-◌, ◌<◌, ◌≤◌, Bool, true, false, cond, List, [], ◌∷◌, ◌++◌, length, take, drop, sym, refl, ap, ◌∙◌, subst, arith, length-take-le, take_at, le-ltb}
use Rattle.std.specs.Prelude.{None, Some}
use Rattle.std.proofs.lemmas.Bool.{and_parts}
use Rattle.std.proofs.lemmas.Bool.Decides.{nat_tests}
use lib.Seq.{sets, length-sets}
use Rattle.packet.specs.Packet.{payload_length}
use Rattle.packet.specs.Receiver.{Receiver as PacketReceiver, Received, running_with, with, missing, waiting as packet_waiting, completed, receiving as packet_receiving, packet_in_rule}
use Rattle.packet.specs.Writer.{written}
use Rattle.packet.proofs.Cases.{lt_cases}
use Rattle.packet.proofs.ReceiverLaws.{running_anew, with_nil, hold_length, missing_least, after, cut, behind, waits, completes}
use Rattle.packet.proofs.Calls.{Streaming, shifted, AnyOutput}
use Rattle.dlpc200.specs.Packet.{after_cmd4}
use Rattle.dlpc200.specs.States.{in_range}
use Rattle.dlpc200.specs.declared.states.States.{States}
use Rattle.dlpc200.proofs.judgement.Laws.{in_range_kept}
use Rattle.packet.specs.Answer.{Waits}
use Rattle.dlpc200.specs.Endpoint.{judged_in, response_in, After, waiting, answered, ended, receive_call}
use Rattle.dlpc200.specs.Sending.{shown, serves, Ready}
use Rattle.dlpc200.specs.Request1.{with_sum}
use Rattle.dlpc200.specs.Device.{in_rule, receiver_of, device_of, receiving}
use Rattle.dlpc200.specs.declared.device.Device.{Device}

-- a receiver as the code has it: its header has six bytes, and its hold four
pub record Made (q : PacketReceiver) : Type 0 where
  pub header : length q.header ≡ 6
  pub hold : length q.hold ≡ 4

made_with : (q : PacketReceiver) (b : List ℕ) → Made q → Made (with after_cmd4 q b)
unfolding with
made_with q b m = record { header = length-sets q.header q.received b ∙ m.header; hold = hold_length after_cmd4 q b ∙ m.hold }

pub made : (d : Device) → Ready d → Made (receiver_of d)
made d k = record { header = k.header; hold = k.hold }

-- the two parts of the rule
range_of : (d : Device) → in_rule d ≡ true → in_range d.states ≡ true
range_of d h = (and_parts (in_range d.states) (packet_in_rule d.header d.received) h).0

unfinished : (d : Device) → in_rule d ≡ true → d.received < 7 + payload_length d.header
unfolding packet_in_rule
unfinished d h = grind (arith, nat_tests)

pub rule_by : (d : Device) → in_range d.states ≡ true → d.received < 7 + payload_length d.header → in_rule d ≡ true
unfolding packet_in_rule
rule_by d h l = grind (arith, nat_tests)

-- the device with b received of the current packet
abbrev pub device_after : Device → List ℕ → Device
device_after d b = device_of d.states (with after_cmd4 (receiver_of d) b)

-- A call that is not refused,
pub not_refused : (d : Device) (b out : List ℕ) → in_rule d ≡ true → 64 ≤ length out → receive_call d b out ≡ ended d.states (receiving d b) out
unfolding receive_call
not_refused d b out r l = rw (le-ltb (length out) 64 l, r)

-- and its two ends.
module _ (d : Device) (b out : List ℕ) (k : Ready d) (l : 64 ≤ length out) where
  abbrev wanted : ℕ
  wanted = missing (receiver_of d) b

  call_waits : length b < wanted → receive_call d b out ≡ record { answer = Waits (length b); device = device_after d b; output = out }
  unfolding packet_waiting
  call_waits h = not_refused d b out k.rule l ∙ ap (λ (t : Received). ended d.states t out) (waits after_cmd4 (receiver_of d) b h)

  call_answers : wanted ≤ length b → receive_call d b out ≡ answered d.states (completed after_cmd4 (receiver_of d) b wanted) out
  unfolding completed
  call_answers h = not_refused d b out k.rule l ∙ ap (λ (t : Received). ended d.states t out) (completes after_cmd4 (receiver_of d) b h)

-- what is received of a packet that is not complete is short of its size
few : (d : Device) (b : List ℕ) → in_rule d ≡ true → length b < missing (receiver_of d) b
    → d.received + length b < 7 + payload_length (sets d.header d.received b)
unfolding missing
few d [] r h = omega (arith, unfinished d r)
few d (x ∷ b) r h = omega (arith, unfinished d r)

ready_waiting : (d : Device) (b : List ℕ) → Ready d → length b < missing (receiver_of d) b → Ready (device_after d b)
ready_waiting d b k h =
    let m = made_with (receiver_of d) b (made d k) in
    record {
      rule = rule_by (device_after d b) (range_of d k.rule) (unfold with in few d b k.rule h);
      header = m.header;
      hold = m.hold;
    }

-- a complete packet leaves the device in rule
ready_answered : (d : Device) (b out : List ℕ) (n : ℕ) → Ready d → Ready (answered d.states (completed after_cmd4 (receiver_of d) b n) out).device
unfolding completed
ready_answered d b out n k =
    let t : Received = completed after_cmd4 (receiver_of d) b n in
    let m = made_with (receiver_of d) (take (n - 1) b) (made d k) in
    record {
      rule = rule_by (answered d.states t out).device (in_range_kept d.states (judged_in t) (range_of d k.rule)) (omega arith);
      header = m.header;
      hold = m.hold;
    }

-- In rule stays in rule, whatever bytes come.
pub stays_in_rule : (d : Device) (b out : List ℕ) → Ready d → 64 ≤ length out → Ready (receive_call d b out).device
stays_in_rule d b out k l =
    lt_cases (length b) (missing (receiver_of d) b)
    (λ h. subst (λ (r : After). Ready r.device) (sym (call_waits d b out k l h)) (ready_waiting d b k h))
    (λ h. subst (λ (r : After). Ready r.device) (sym (call_answers d b out k l h)) (ready_answered d b out (missing (receiver_of d) b) k))

-- With up to four bytes received the sum begins anew.

-- the receiver with another sum
abbrev other_sum : PacketReceiver → ℕ → PacketReceiver
other_sum q n = record { header = q.header; running = n; received = q.received; hold = q.hold }

module _ (q : PacketReceiver) (n : ℕ) (l : q.received ≤ after_cmd4) where
  with_anew : (b : List ℕ) → after_cmd4 < q.received + length b → with after_cmd4 (other_sum q n) b ≡ with after_cmd4 q b
  unfolding with
  with_anew b m =
      let e : running_with after_cmd4 q.received n b ≡ running_with after_cmd4 q.received q.running b =
      sym (running_anew after_cmd4 q.received n b (omega arith) l refl) ∙ running_anew after_cmd4 q.received q.running b (omega arith) l refl in
      rw e

  waiting_anew : (b : List ℕ) → after_cmd4 < q.received + length b → packet_waiting after_cmd4 (other_sum q n) b ≡ packet_waiting after_cmd4 q b
  unfolding packet_waiting
  waiting_anew b m = rw (with_anew b m)

  -- before the checksum stands the length at least
  length_before : (b : List ℕ) → missing q b ≤ length b → after_cmd4 < q.received + length (take (missing q b - 1) b)
  unfolding missing
  length_before b m = omega (arith, length-take-le (missing q b - 1) b (omega arith))

  completed_anew : (b : List ℕ) → missing q b ≤ length b → completed after_cmd4 (other_sum q n) b (missing q b) ≡ completed after_cmd4 q b (missing q b)
  unfolding completed
  completed_anew b m = rw (with_anew (take (missing q b - 1) b) (length_before b m))

  missing_anew : (b : List ℕ) → missing (other_sum q n) b ≡ missing q b
  unfolding missing
  missing_anew b = refl

  receiving_anew : (b : List ℕ) → after_cmd4 < q.received + length b → packet_receiving after_cmd4 (other_sum q n) b ≡ packet_receiving after_cmd4 q b
  receiving_anew b m =
      lt_cases (length b) (missing q b)
      (λ h. waits after_cmd4 (other_sum q n) b (omega (arith, missing_anew b)) ∙ waiting_anew b m ∙ sym (waits after_cmd4 q b h))
      (λ h.
      completes after_cmd4 (other_sum q n) b (omega (arith, missing_anew b))
      ∙ ap (completed after_cmd4 (other_sum q n) b) (missing_anew b)
      ∙ completed_anew b h
      ∙ sym (completes after_cmd4 q b h))

pub sum_begins : (d : Device) (n : ℕ) (b out : List ℕ) → 64 ≤ length out → in_rule d ≡ true → d.received ≤ after_cmd4
    → after_cmd4 < d.received + length b → receive_call (with_sum d n) b out ≡ receive_call d b out
sum_begins d n b out l r h m =
    not_refused (with_sum d n) b out r l
    ∙ ap (λ (t : Received). ended d.states t out) (receiving_anew (receiver_of d) n h b m)
    ∙ sym (not_refused d b out r l)

-- The receive call over a stream.
module _ (out : List ℕ) (l : 64 ≤ length out) where
  none_waits : (d : Device) (a : List ℕ) → Ready d → (serves out d a).gives ≡ None → length a < missing (receiver_of d) a
  none_waits d a k g =
      lt_cases (length a) (missing (receiver_of d) a)
      (λ h. h)
      (λ h.
      let e = sym (ap (λ (r : After). (shown r).gives) (call_answers d a out k l h)) ∙ g in
      cc)

  some_answers : (d : Device) (a e : List ℕ) → Ready d → (serves out d a).gives ≡ Some e → missing (receiver_of d) a ≤ length a
  some_answers d a e k g =
      lt_cases (length a) (missing (receiver_of d) a)
      (λ h.
      let e = sym (ap (λ (r : After). (shown r).gives) (call_waits d a out k l h)) ∙ g in
      cc)
      (λ h. h)

  shown_by : (s : States) (n : ℕ) (t : Received) (b : Bool)
      → shown (cond b (answered s (after n t) out) (waiting s (after n t) out)) ≡ shifted n (shown (cond b (answered s t out) (waiting s t out)))
  unfolding response_in judged_in
  shown_by s n t true = refl
  shown_by s n t false = refl

  cut_call : (d : Device) (a b : List ℕ) → Ready d → length a < missing (receiver_of d) a
      → serves out d (a ++ b) ≡ shifted (length a) (serves out (device_after d a) b)
  cut_call d a b k h =
      let t : Received = receiving (device_after d a) b in
      ap shown (not_refused d (a ++ b) out k.rule l)
      ∙ ap (λ (t : Received). shown (ended d.states t out)) (cut after_cmd4 (receiver_of d) a b k.header h)
      ∙ shown_by d.states (length a) t t.complete
      ∙ ap (λ (r : After). shifted (length a) (shown r)) (sym (not_refused (device_after d a) b out (ready_waiting d a k h).rule l))

  behind_call : (d : Device) (a b : List ℕ) → Ready d → missing (receiver_of d) a ≤ length a → serves out d (a ++ b) ≡ serves out d a
  behind_call d a b k h =
      ap shown (not_refused d (a ++ b) out k.rule l)
      ∙ ap (λ (t : Received). shown (ended d.states t out)) (behind after_cmd4 (receiver_of d) a b k.header h)
      ∙ sym (ap shown (not_refused d a out k.rule l))

  no_bytes : (d : Device) → Ready d → serves out d [] ≡ record { taken = 0; gives = None; state = d }
  no_bytes d k =
      ap shown (call_waits d [] out k l (omega (arith, missing_least (receiver_of d) [])))
      ∙ ap (λ (q : PacketReceiver). record { taken = 0; gives = None; state = device_of d.states q }) (with_nil after_cmd4 (receiver_of d))

  count_answers : (d : Device) (a : List ℕ) → Ready d → missing (receiver_of d) a ≤ length a → (serves out d a).taken ≡ missing (receiver_of d) a
  unfolding completed
  count_answers d a k h = ap (λ (r : After). (shown r).taken) (call_answers d a out k l h)

  pub endpoint_streams : Streaming (serves out) Ready
  endpoint_streams =
      record {
        keeps = λ d b k. stays_in_rule d b out k l;
        empty = λ d k. no_bytes d k;
        cut = λ d a b k g.
            let h = none_waits d a k g in
            cut_call d a b k h ∙ ap (λ (x : Device). shifted (length a) (serves out x b)) (sym (ap (λ (r : After). r.device) (call_waits d a out k l h)));
        behind = λ d a b e k g. behind_call d a b k (some_answers d a e k g);
        least = λ d a e k g. omega (arith, missing_least (receiver_of d) a, count_answers d a k (some_answers d a e k g));
        most = λ d a e k g. omega (arith, some_answers d a e k g, count_answers d a k (some_answers d a e k g));
      }

-- What a call shows does not depend on what its output holds.

same_ended : (s : States) (t : Received) (out other : List ℕ) → shown (ended s t out) ≡ shown (ended s t other)
same_ended s t out other = go t.complete
  where
    go : (b : Bool) → shown (cond b (answered s t out) (waiting s t out)) ≡ shown (cond b (answered s t other) (waiting s t other))
    go true =
        unfold written in
        let m = response_in s t in
        rw (take_at m (drop (length m) out) (length m) refl, take_at m (drop (length m) other) (length m) refl)
    go false = refl

pub any_output : AnyOutput serves Ready 64
any_output =
    record {
      streams = endpoint_streams;
      same = λ out other d b l m k.
          ap shown (not_refused d b out k.rule l)
          ∙ same_ended d.states (receiving d b) out other
          ∙ sym (ap shown (not_refused d b other k.rule m));
    }
