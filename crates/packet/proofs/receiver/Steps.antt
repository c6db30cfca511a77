-- The steps of the receive call, put together: the payload kept, and the two ends.
use Rattle.std.proofs.Common.{◌≡◌, ℕ, ◌+◌, ◌-◌, ◌<◌, ◌≤◌, min, eqb, List, length, get_or, take, drop, sym, ap, ◌∙◌, arith, length-drop, take-append-drop, drop_of_length-le, length-take-le, take_all}
use lib.Seq.{sets}
use Rattle.std.specs.Prelude.{None, Some}
use Rattle.packet.specs.Packet.{payload_length}
use Rattle.packet.specs.Receiver.{Receiver, running_with, with, missing, waiting, completed, receiving, received_of}
use Rattle.packet.proofs.Cases.{lt_cases}
use Rattle.packet.proofs.receiver.Laws.{header_stays, waits, completes}

-- What `keep` puts together: n, how many of the bytes b are of the header. A count that is cut at the end of the bytes drops the same.
pub dropped : (b : List ℕ) (received : ℕ) {n : ℕ} → n ≡ min (6 - received) (length b) → take (length b - n) (drop n b) ≡ drop (6 - received) b
dropped b received {n} e =
    take_all (length b - n) (drop n b) (omega (arith, length-drop n b))
    ∙ lt_cases (6 - received) (length b)
    (λ l. let f : n ≡ 6 - received = omega (arith, e) in ap (λ (i : ℕ). drop i b) f)
    (λ l. drop_of_length-le b {i = n} (omega (arith, e)) ∙ sym (drop_of_length-le b {i = 6 - received} l))

-- What `receive` puts together: the header h with the input's bytes; m, how many bytes come before the checksum; n, how many of these the input has;
-- their sum s; and the hold d with the payload among them.
module _
    (k : ℕ)
    (r : Receiver)
    (b : List ℕ)
    {h d : List ℕ}
    {m n s : ℕ}
    (six : length r.header ≡ 6)
    (eh : h ≡ sets r.header r.received b)
    (em : m ≡ 6 + payload_length h - r.received)
    (en : n ≡ min m (length b))
    (es : s ≡ running_with k r.received r.running (take n b))
    (ed : d ≡ sets r.hold (r.received - 6) (drop (6 - r.received) (take n b))) where
  missing_is : missing r b ≡ m + 1
  unfolding missing
  missing_is = rw (← eh) (omega (arith, em))

  pub receive_waits : length b ≤ m
      → received_of (record { taken = n; complete = None; sum = s; received = r.received + n }) h d ≡ receiving k r b
  unfolding waiting with
  receive_waits l =
      let e : n ≡ length b = omega (arith, en) in
      let t : take n b ≡ b = take_all n b (omega arith) in
      rw (waits k r b (omega (arith, missing_is)), eh, es, ed, t, e)

  -- the header has all its bytes before the checksum
  header_whole : m < length b → sets r.header r.received (take m b) ≡ h
  header_whole l =
      sym
      (eh
      ∙ ap (sets r.header r.received) (sym (take-append-drop m b))
      ∙ header_stays r (take m b) (drop m b) six (omega (arith, em, length-take-le m b (omega arith))))

  pub receive_completes : m < length b
      → received_of (record { taken = m + 1; complete = Some (eqb (get_or b m 0) s); sum = 0; received = 0 }) h d ≡ receiving k r b
  unfolding completed with
  receive_completes l =
      let e : n ≡ m = omega (arith, en) in
      let f : m + 1 - 1 ≡ m = omega arith in
      rw (completes k r b (omega (arith, missing_is)), missing_is, f, header_whole l, es, ed, e)
