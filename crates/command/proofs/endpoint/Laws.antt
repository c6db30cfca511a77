-- The receive call on a head that is in rule: it stays in rule, and cutting a stream changes nothing.
use Prim.Native.Nat.{ℕ, suc, ◌+◌, ◌-◌, ◌<◌, ◌≤◌, max}
use mathlib.Core.Path.{◌≡◌, refl, ap, sym, subst, ◌∙◌}
use mathlib.Core.Bool.{Bool, true, false, cond}
use mathlib.Core.List.{List, [], ◌∷◌, ◌++◌}
use Rattle.std.specs.Prelude.{None, Some}
use native.Mathlib.Omega.{arith}
use lib.ListN.{length, take, length-take, drop}
use lib.Seq.{sets, length-sets, take_at}
use borrow.Author.Tests.{lt-ltb, le-ltb, ltb-true}
use Rattle.packet.specs.Calls.{Served, served_one}
use Rattle.packet.specs.Packet.{payload_length}
use Rattle.packet.specs.Receiver.{Receiver, Received, with, missing, waiting as receiver_waiting, completed, packet_in_rule}
use Rattle.packet.specs.Writer.{written}
use Rattle.packet.proofs.Cases.{lt_cases}
use Rattle.packet.proofs.Calls.{Streaming, shifted, keeps_calls, AnyOutput, at_once as sent-at-once}
use Rattle.packet.proofs.ReceiverLaws.{with_nil, hold_length, missing_least, after, cut, behind, waits, completes}
use Rattle.command.specs.Transfer.{held}
use Rattle.command.specs.Faults.{Arrived}
use Rattle.command.specs.Judgement.{judge}
use Rattle.command.specs.Carry.{settings_after}
use Rattle.command.specs.Controller.{transfer_of, held_in, state_of, receiver_in}
use Rattle.command.specs.Endpoint.{taken_by, arrived_in, judged_in, response_in, registers_of, carried_out, After, waiting, answered, receive_call}
use Rattle.command.specs.Sending.{Given, shown, serves, Sending, replies_to, sent_to, Ready}
use Rattle.command.specs.declared.judgement.Judgement.{Judgement}
use Rattle.command.specs.declared.controller.Controller.{Controller}
use Rattle.command.proofs.rules.Laws.{kept_by, in_rule_of}
use Rattle.command.proofs.transfer.Laws.{held_length}
use Rattle.command.proofs.judgement.Laws.{Sound, sound}
use Rattle.command.proofs.carry.Laws.{Bounded, bounded, transfer_kept_lem, buffer_kept}
use Rattle.command.proofs.controller.Laws.{rule_parts, rule_whole}
use Rattle.command.proofs.player.Laws.{kept_judgement}

-- a call that is not refused, by what the receiver took
abbrev pub ends : Controller → List ℕ → Received → After
ends c out t = cond t.complete (answered c t out) (waiting c t out)

-- the controller with this receiver
abbrev pub received_by : Controller → Receiver → Controller
received_by c r =
    record { settings = c.settings; registers = registers_of (transfer_of c.registers) r; buffer = c.buffer; hold = r.hold }

module _ (c : Controller) (b out : List ℕ) (k : Ready c) (l : 64 ≤ length out) where
  pub call_is : {t : Received} → taken_by c b ≡ t → receive_call c b out ≡ ends c out t
  unfolding receive_call
  call_is e = rw (le-ltb (length out) 64 l, k.rule, e)

  call_waits : length b < missing (receiver_in c) b → receive_call c b out ≡ waiting c (receiver_waiting 0 (receiver_in c) b) out
  unfolding receiver_waiting
  call_waits h = call_is (waits 0 (receiver_in c) b h)

  call_answers : missing (receiver_in c) b ≤ length b → receive_call c b out ≡ answered c (completed 0 (receiver_in c) b (missing (receiver_in c) b)) out
  unfolding completed
  call_answers h = call_is (completes 0 (receiver_in c) b h)

-- the data that a head holds are as many as its number says
pub held_same : (c : Controller) → Ready c → length (held (state_of c).transfer) ≡ held_in (transfer_of c.registers)
held_same c k = held_length (transfer_of c.registers) (rule_parts c.settings c.registers k.rule).transfer c.buffer k.buffer

-- there is room for what a packet adds to them
pub has_room : (c : Controller) (p : Arrived) → Ready c
    → Bounded (held_in (transfer_of c.registers) + p.size) (judge c.settings.mode (state_of c).transfer p)
has_room c p k =
    subst (λ (n : ℕ). Bounded (n + p.size) (judge c.settings.mode (state_of c).transfer p)) (held_same c k)
    (bounded c.settings.mode (state_of c).transfer p)

-- a judgement that is carried out keeps the head in rule, whatever receiver it has then: its write may be carried out, and there is room for what it adds
pub ready_carried : (c : Controller) (r : Receiver) (body : List ℕ) (n : ℕ) (j : Judgement) → Ready c
    → length r.header ≡ 6 → length r.hold ≡ 1024 → packet_in_rule r.header r.received ≡ true
    → Sound c.settings.mode j → length body ≤ n → Bounded (held_in (transfer_of c.registers) + n) j
    → Ready (carried_out c r body j)
ready_carried c r body n j k h d p s l b =
    let q = rule_parts c.settings c.registers k.rule in
    record {
      rule =
          rule_whole _ _
          (record {
            settings = in_rule_of (settings_after c.settings j) (kept_judgement c.settings j (kept_by c.settings q.settings) s);
            transfer = transfer_kept_lem (transfer_of c.registers) body n j l q.transfer b;
            packet = p;
          });
      header = h;
      buffer = buffer_kept (transfer_of c.registers) c.buffer body j ∙ k.buffer;
      hold = d;
    }

-- so does that of a complete packet
ready_answered : (c : Controller) (t : Received) → Ready c → length t.receiver.header ≡ 6 → length t.receiver.hold ≡ 1024 → t.receiver.received ≡ 0
    → Ready (carried_out c t.receiver (arrived_in t).body (judged_in c t))
unfolding judged_in packet_in_rule
ready_answered c t k h d z =
    let n = payload_length t.receiver.header in
    ready_carried c t.receiver (arrived_in t).body n (judged_in c t) k h d
    (lt-ltb t.receiver.received (7 + n) (omega arith))
    (sound c.settings.mode (state_of c).transfer (arrived_in t))
    (omega (arith, length-take n t.receiver.hold))
    (has_room c (arrived_in t) k)

-- what is received of a packet that is not complete is short of its size
few : (r : Receiver) (b : List ℕ) → packet_in_rule r.header r.received ≡ true → length b < missing r b
    → r.received + length b < 7 + payload_length (sets r.header r.received b)
unfolding packet_in_rule missing
few r b i h = go b h
  where
    old : r.received < 7 + payload_length r.header
    old = ltb-true r.received (7 + payload_length r.header) i

    go : (b : List ℕ) → length b < max 1 (7 + payload_length (sets r.header r.received b) - r.received)
        → r.received + length b < 7 + payload_length (sets r.header r.received b)
    go [] h = omega (arith, old)
    go (x ∷ b) h = omega (arith, old)

-- bytes that complete no packet keep it in rule too
ready_waiting : (c : Controller) (b : List ℕ) → Ready c → length b < missing (receiver_in c) b → Ready (received_by c (with 0 (receiver_in c) b))
unfolding with
ready_waiting c b k h =
    let r = rule_parts c.settings c.registers k.rule in
    record {
      rule =
          rule_whole _ _
          (record {
            settings = r.settings;
            transfer = r.transfer;
            packet =
                unfold packet_in_rule in
                lt-ltb (c.registers.received + length b) (7 + payload_length (sets c.registers.header c.registers.received b)) (few (receiver_in c) b r.packet h);
          });
      header = length-sets c.registers.header c.registers.received b ∙ k.header;
      buffer = k.buffer;
      hold = hold_length 0 (receiver_in c) b ∙ k.hold;
    }

-- In rule stays in rule, whatever bytes come.
pub stays_in_rule : (c : Controller) (b out : List ℕ) → Ready c → 64 ≤ length out → Ready (receive_call c b out).controller
unfolding receiver_waiting completed with
stays_in_rule c b out k l =
    lt_cases (length b) (missing (receiver_in c) b)
    (λ h. rw (call_waits c b out k l h) (ready_waiting c b k h))
    (λ h.
    let a = take (missing (receiver_in c) b - 1) b in
    rw (call_answers c b out k l h)
    (ready_answered c (completed 0 (receiver_in c) b (missing (receiver_in c) b)) k
    (length-sets c.registers.header c.registers.received a ∙ k.header) (hold_length 0 (receiver_in c) a ∙ k.hold) refl))

-- The receive call over a stream.
module _ (out : List ℕ) (l : 64 ≤ length out) where
  none_waits : (c : Controller) (a : List ℕ) → Ready c → (serves out c a).gives ≡ None → length a < missing (receiver_in c) a
  none_waits c a k g =
      lt_cases (length a) (missing (receiver_in c) a) (λ h. h)
      (λ h.
      let e = sym (ap (λ (r : After). (shown r).gives) (call_answers c a out k l h)) ∙ g in
      let z : ◌≡◌ {A = ℕ} 0 1 = cc in absurd (omega arith))

  some_answers : (c : Controller) (a : List ℕ) (e : Given) → Ready c → (serves out c a).gives ≡ Some e → missing (receiver_in c) a ≤ length a
  some_answers c a e k g =
      lt_cases (length a) (missing (receiver_in c) a)
      (λ h.
      let e = sym (ap (λ (r : After). (shown r).gives) (call_waits c a out k l h)) ∙ g in
      let z : ◌≡◌ {A = ℕ} 0 1 = cc in absurd (omega arith))
      (λ h. h)

  shown_after : (c : Controller) (a : List ℕ) (n : ℕ) (t : Received) (b : Bool)
      → shown (cond b (answered c (after n t) out) (waiting c (after n t) out))
      ≡ shifted n (shown (cond b (answered (received_by c (with 0 (receiver_in c) a)) t out) (waiting (received_by c (with 0 (receiver_in c) a)) t out)))
  unfolding response_in judged_in
  shown_after c a n t true = refl
  shown_after c a n t false = refl

  cut_call : (c : Controller) (a b : List ℕ) → Ready c → length a < missing (receiver_in c) a
      → serves out c (a ++ b) ≡ shifted (length a) (serves out (received_by c (with 0 (receiver_in c) a)) b)
  cut_call c a b k h =
      let d = received_by c (with 0 (receiver_in c) a) in
      ap shown (call_is c (a ++ b) out k l (cut 0 (receiver_in c) a b k.header h))
      ∙ shown_after c a (length a) (taken_by d b) (taken_by d b).complete
      ∙ ap (λ (r : After). shifted (length a) (shown r)) (sym (call_is d b out (ready_waiting c a k h) l refl))

  behind_call : (c : Controller) (a b : List ℕ) → Ready c → missing (receiver_in c) a ≤ length a → serves out c (a ++ b) ≡ serves out c a
  behind_call c a b k h = ap shown (call_is c (a ++ b) out k l (behind 0 (receiver_in c) a b k.header h) ∙ sym (call_is c a out k l refl))

  count_answers : (c : Controller) (a : List ℕ) → Ready c → missing (receiver_in c) a ≤ length a → (serves out c a).taken ≡ missing (receiver_in c) a
  unfolding completed
  count_answers c a k h = ap (λ (r : After). (shown r).taken) (call_answers c a out k l h)

  pub endpoint_streams : Streaming (serves out) Ready
  unfolding receiver_waiting
  endpoint_streams =
      record {
        keeps = λ c b k. stays_in_rule c b out k l;
        empty = λ c k.
            ap shown (call_waits c [] out k l (omega (arith, missing_least (receiver_in c) [])))
            ∙ ap (λ (r : Receiver). record { taken = 0; gives = None; state = received_by c r }) (with_nil 0 (receiver_in c));
        cut = λ c a b k g.
            let h = none_waits c a k g in
            cut_call c a b k h ∙ ap (λ (d : Controller). shifted (length a) (serves out d b)) (sym (ap (λ (r : After). r.controller) (call_waits c a out k l h)));
        behind = λ c a b e k g. behind_call c a b k (some_answers c a e k g);
        least = λ c a e k g. omega (arith, missing_least (receiver_in c) a, count_answers c a k (some_answers c a e k g));
        most = λ c a e k g. omega (arith, some_answers c a e k g, count_answers c a k (some_answers c a e k g));
      }

-- A call's answer and controller do not depend on what its output holds, so that calls with an output each are as good as calls with one.

same_ends : (c : Controller) (t : Received) (out other : List ℕ) → shown (ends c out t) ≡ shown (ends c other t)
same_ends c t out other = go t.complete
  where
    go : (b : Bool) → shown (cond b (answered c t out) (waiting c t out)) ≡ shown (cond b (answered c t other) (waiting c t other))
    go true =
        unfold written in
        let m : List ℕ = response_in c t in
        rw (take_at m (drop (length m) out) (length m) refl, take_at m (drop (length m) other) (length m) refl)
    go false = refl

any_output : AnyOutput serves Ready 64
any_output =
    record {
      streams = endpoint_streams;
      same = λ out other c b l m k. ap shown (call_is c b out k l refl) ∙ same_ends c (taken_by c b) out other ∙ sym (ap shown (call_is c b other k m refl));
    }

-- However the byte stream was cut, it is as if it came at once.
pub at_once : (out : List ℕ) → 64 ≤ length out → (c : Controller) (b : List ℕ) (s : Sending b) → Ready c → replies_to c s ≡ served_one (serves out) c b
at_once = sent-at-once serves Ready 64 any_output

-- so that every way of sending the same bytes gives the same
pub replies_anyhow : (c : Controller) (b : List ℕ) (s t : Sending b) → Ready c → replies_to c s ≡ replies_to c t
replies_anyhow c b s t k = at_once (s.outs 0) (s.room 0) c b s k ∙ sym (at_once (s.outs 0) (s.room 0) c b t k)

-- and a head in rule stays so
pub sent_in_rule : (c : Controller) (b : List ℕ) (s : Sending b) → Ready c → Ready (sent_to c s).state
unfolding served_one
sent_in_rule c b s k =
    let out = s.outs 0 in
    let l = s.room 0 in
    subst (λ (r : Served Controller Given). Ready r.state) (sym (at_once out l c b s k))
    (keeps_calls (serves out) Ready (endpoint_streams out l) (suc (length b)) c b k)
