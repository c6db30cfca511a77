-- The call that carries out a judgement, whatever judgement is handed in: the half-received packet stays, a head in rule stays in rule, and the bytes that
-- come afterwards are judged as document 01 judges them.
use Rattle.std.specs.Prelude.{Option, None, Some}
use Rattle.std.proofs.lemmas.Bool.{cond_both}
use Prim.Native.Nat.{ℕ, ◌+◌, ◌≤◌}
use mathlib.Core.Path.{◌≡◌, refl, ap, sym, subst, ◌∙◌}
use mathlib.Core.Bool.{true, false, not, ◌&&◌}
use mathlib.Core.List.{List, [], ◌∷◌, ◌++◌, append-nil}
use native.Mathlib.Omega.{arith}
use lib.Dec.{eqb, leb}
use lib.ListN.{length, length-take, length-drop}
use lib.Seq.{length-sets}
use borrow.Author.Tests.{lt-ltb, leb-true, not-true, not-false}
use Rattle.packet.specs.Calls.{served_one, joined}
use Rattle.packet.specs.Packet.{payload_length}
use Rattle.packet.specs.Receiver.{Receiver, with, waiting as receiver_waiting, packet_in_rule}
use Rattle.packet.specs.Stream.{has_packet, packets, rest}
use Rattle.packet.proofs.Cases.{true_and_left, true_and_right}
use Rattle.packet.proofs.Calls.{goes_on}
use Rattle.packet.proofs.StreamLaws.{no_header, rest_short}
use Rattle.packet.proofs.ReceiverLaws.{with_nil, hold_length}
use Rattle.command.specs.Table.{layout, size_of}
use Rattle.command.specs.Rules.{allowed, blocked}
use Rattle.command.specs.Data.{split_all}
use Rattle.command.specs.Value.{value_from}
use Rattle.command.specs.Response.{codes_in}
use Rattle.command.specs.Player.{is_nil, responses, after}
use Rattle.command.specs.Controller.{held_in, state_of, receiver_in}
use Rattle.command.specs.Endpoint.{After, receive_call}
use Rattle.command.specs.Sending.{shown, serves, Sending, responses_in, sent_to, Ready, Boundary}
use Rattle.command.specs.Ruling.{Items, holds, writes, reads, no_wrong, transfer_kept, joined_in, brought_in, command_for, accepted_as, meant, kept_in_rule, joined_in_rule, in_order, writable, acceptable, drawable, forged, items_of, items_kept}
use Rattle.command.specs.Demand2.{Follows}
use Rattle.command.specs.Request5.{HalfReceived}
use Rattle.command.specs.Asking.{Carrying, carries, carry_call}
use Rattle.command.specs.declared.table.Command.{Command}
use Rattle.command.specs.declared.judgement.Judgement.{Judgement}
use Rattle.command.specs.declared.judgement.Judgement.TheVariants.{Write}
use Rattle.command.specs.declared.controller.Controller.{Controller}
use Rattle.command.specs.declared.ruling.JudgementRecord.{JudgementRecord}
use Rattle.command.proofs.data.Laws.{split_length}
use Rattle.command.proofs.value.Laws.{command_from, values_from}
use Rattle.command.proofs.judgement.Laws.{Sound}
use Rattle.command.proofs.carry.Laws.{Bounded}
use Rattle.command.proofs.controller.Laws.{rule_parts, rule_whole}
use Rattle.command.proofs.endpoint.Laws.{received_by, ready_carried, endpoint_streams, at_once}
use Rattle.command.proofs.endpoint.Boundary.{takes_part, between_of, follows_played}
use Rattle.command.proofs.asking.Ways.{carry_ways}

-- what holds of a controller, and of what is carried out on it, holds of what the call leaves
carry_leaves : (P : Controller → Type 0) (c : Controller) (j : JudgementRecord) (out : List ℕ) → P c
    → (forged j ≡ false → items_of c ≡ items_kept j → P (carries c j out).controller)
    → P (carry_call c j out).controller
carry_leaves P c j out k f =
    carry_ways c j out (λ (r : Carrying). P r.controller) (λ _. k) (λ _ _. k) (λ _ _ _. k) (λ _ _ _ _. k) (λ _ _ g s. f g s)

-- It leaves the receiver.
pub half_stays : (c : Controller) (j : JudgementRecord) (out : List ℕ) → receiver_in (carry_call c j out).controller ≡ receiver_in c
half_stays c j out = carry_leaves (λ d. receiver_in d ≡ receiver_in c) c j out refl (λ _ _. refl)

-- A judgement that is not refused may be carried out: it is an error, or a packet draws it.
module _ (j : JudgementRecord) where
  -- what is asked of it, in this mode and with so many bytes held
  abbrev May : Judgement → Type 0
  May m = Sound j.ruling.kept.mode m × Bounded (held_in (transfer_kept j) + length (brought_in j)) m

  -- what it says, where "without error codes" is only said of one that a packet draws
  abbrev Claim : Judgement → Type 0
  Claim m = (is_nil (codes_in m) ≡ true → drawable j ≡ true) → May m

  record Drawable : Type 0 where
    joined : joined_in_rule j ≡ true
    accepted : acceptable (command_for j) j ≡ true

  drawable_parts : drawable j ≡ true → Drawable
  unfolding drawable
  drawable_parts h =
      let k = eqb j.ruling.codes 0 && eqb j.ruling.wrong no_wrong && kept_in_rule j in
      let d = acceptable (command_for j) j in
      record { joined = true_and_right k (joined_in_rule j) (true_and_left (k && joined_in_rule j) d h); accepted = true_and_right (k && joined_in_rule j) d h }

  -- there is room for its data
  room : drawable j ≡ true → held_in (transfer_kept j) + length (brought_in j) ≤ 1024
  room h =
      let d = (drawable_parts h).joined in
      let n = leb-true (held_in (transfer_kept j)) j.ruling.count (true_and_left _ _ d) in
      let m = leb-true j.ruling.count 1024 (true_and_right (leb (held_in (transfer_kept j)) j.ruling.count) _ d) in
      omega (arith, n, m, length-drop (held_in (transfer_kept j)) (joined_in j), length-take j.ruling.count j.joined)

  -- its write may be carried out
  may_write : (c : Command) → writable c j.ruling.kept.mode (joined_in j) ≡ true
      → Sound j.ruling.kept.mode (Write (value_from c (split_all (layout c) (joined_in j))))
  may_write c w =
      let v = split_all (layout c) (joined_in j) in
      let n = eqb (length (joined_in j)) (size_of c) in
      let a = allowed c v in
      let b = not (blocked c v j.ruling.kept.mode) in
      rw (command_from c (split_all (layout c) (joined_in j)), values_from c (split_all (layout c) (joined_in j)) (split_length (layout c) (joined_in j)))
      (record {
        full = split_length (layout c) (joined_in j);
        values = true_and_right n a (true_and_left (n && a) b w);
        free = not-true (blocked c v j.ruling.kept.mode) (true_and_right (n && a) b w);
      })

  accepted_may : (f : Option Command) → command_for j ≡ f → Claim (accepted_as f j)
  accepted_may None e = λ _. (tt, tt)
  accepted_may (Some c) e =
      cond_both (eqb j.ruling.accepts holds) _ _ Claim
      (λ _ d. (tt, room (d refl)))
      (λ a. cond_both (eqb j.ruling.accepts writes) _ _ Claim
      (λ b d.
      let y = (drawable_parts (d refl)).accepted in
      let x : (in_order c j && writable c j.ruling.kept.mode (joined_in j)) ≡ true = rw (e, a, b) at y in
      (may_write c (true_and_right (in_order c j) _ x), tt))
      (λ _. cond_both (eqb j.ruling.accepts reads) _ _ Claim (λ _ _. (tt, tt)) (λ _ _. (tt, tt))))

  meant_may : forged j ≡ false → May (meant j)
  unfolding forged meant
  meant_may h =
      cond_both (eqb j.ruling.codes 0) _ _ Claim (λ _. accepted_may (command_for j) refl) (λ _ _. (tt, tt))
      (λ u. not-false (drawable j) (sym (ap (λ b. b && not (drawable j)) u) ∙ h))

-- A controller in rule stays so.
pub rule_stays : (c : Controller) (j : JudgementRecord) (out : List ℕ) → Ready c → Ready (carry_call c j out).controller
rule_stays c j out k =
    carry_leaves Ready c j out k
    (λ f s.
    let m = meant_may j f in
    ready_carried c (receiver_in c) (brought_in j) (length (brought_in j)) (meant j) k k.header k.hold
    (rule_parts c.settings c.registers k.rule).packet
    (rw (ap (λ (i : Items). i.mode) s) m.0) (omega arith) (rw (ap (λ (i : Items). i.count) s) m.1))

-- A head at a packet boundary, and one on which something is carried out.
pub half_begins : (c : Controller) → Boundary c → HalfReceived c []
half_begins c q =
    record { ready = q.ready; base = receiver_in c; boundary = q.received; came = sym (with_nil 0 (receiver_in c)); few = no_header [] (omega arith) }

pub half_passes : (c : Controller) (x : List ℕ) (j : JudgementRecord) (out : List ℕ) → HalfReceived c x → HalfReceived (carry_call c j out).controller x
half_passes c x j out h =
    record { ready = rule_stays c j out h.ready; base = h.base; boundary = h.boundary; came = half_stays c j out ∙ h.came; few = h.few }

-- A head that has half a packet in its receiver, x.
module _ (d : Controller) (k : Ready d) (base : Receiver) (z : base.received ≡ 0) (x : List ℕ) (e : receiver_in d ≡ with 0 base x) where
  -- the head before that
  abbrev before : Controller
  before = received_by d base

  before_boundary : Boundary before
  unfolding with packet_in_rule
  before_boundary =
      let r = rule_parts d.settings d.registers k.rule in
      record {
        ready =
            record {
              rule =
                  rule_whole _ _
                  (record {
                    settings = r.settings;
                    transfer = r.transfer;
                    packet = lt-ltb base.received (7 + payload_length base.header) (omega arith);
                  });
              header = sym (length-sets base.header base.received x) ∙ ap (λ (r : Receiver). length r.header) (sym e) ∙ k.header;
              buffer = k.buffer;
              hold = sym (hold_length 0 base x) ∙ ap (λ (r : Receiver). length r.hold) (sym e) ∙ k.hold;
            };
        received = z;
      }

  module _ (h : has_packet x ≡ false) (b : List ℕ) (t : Sending b) where
    -- all the bytes at once
    together : Sending (x ++ b)
    unfolding joined
    together = record { pieces = (x ++ b) ∷ []; bytes = append-nil (x ++ b); outs = t.outs; room = t.room }

    sent_together : sent_to before together ≡ sent_to d t
    unfolding receiver_waiting
    sent_together =
        let out = t.outs 0 in
        let l = t.room 0 in
        let q = before_boundary in
        let w = takes_part (t.outs 0) (t.room 0) before q.ready (between_of q) x h in
        let s : (receive_call before x (t.outs 0)).controller ≡ d = ap (λ (r : After). r.controller) w ∙ ap (received_by d) (sym e) in
        ap responses_in
        (at_once out l before (x ++ b) together q.ready
        ∙ goes_on (serves out) Ready (endpoint_streams out l) before x b q.ready (ap (λ (r : After). (shown r).gives) w)
        ∙ ap (λ (c : Controller). served_one (serves out) c b) s
        ∙ sym (at_once out l d b t k))

    goes_played : Follows before (x ++ b) (sent_to d t)
    goes_played = subst (Follows before (x ++ b)) sent_together (follows_played before (x ++ b) together before_boundary)

-- Over a run.
pub run_follows : (c : Controller) (x b : List ℕ) (t : Sending b) → HalfReceived c x
    → ((sent_to c t).given ≡ responses (state_of c) (packets (x ++ b)))
    × (state_of (sent_to c t).state ≡ after (state_of c) (packets (x ++ b)))
    × HalfReceived (sent_to c t).state (rest (x ++ b))
run_follows c x b t h =
    let f = goes_played c h.ready h.base h.boundary x h.came h.few b t in
    (f.given, f.ends, record { ready = f.ready; base = f.base; boundary = f.boundary; came = f.unfinished; few = rest_short (x ++ b) })
