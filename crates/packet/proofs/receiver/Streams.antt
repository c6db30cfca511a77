-- The receiver over whole streams: however a stream is cut into calls, its packets are those of the joined bytes.
use Rattle.std.proofs.Common.{◌≡◌, ℕ, suc, ◌+◌, ◌-◌, ◌<◌, ◌≤◌, Bool, false, cond, List, [], ◌∷◌, ◌++◌, length, take, drop, sym, refl, ap, ◌∙◌, subst, arith, length-append, drop_at}
use Rattle.std.specs.Prelude.{None, Some}
use Rattle.packet.specs.Stream.{has_packet, packets, rest}
use Rattle.packet.specs.Receiver.{Receiver, Received, with, missing, waiting, completed, receiving}
use Rattle.packet.specs.Calls.{Call, Served, and_then, calls_on, served_one, served, joined}
use Rattle.packet.proofs.Cases.{lt_cases}
use Rattle.packet.proofs.stream.Laws.{IsPacket, packets_cons, rest_cons, packets_none, rest_none, packet_induction}
use Rattle.packet.proofs.receiver.Laws.{Made, made_with, made_between, with_nil, missing_least, cut, behind, waits, completes, Between, between_packet, after_packet, right_from, first_of, too_few}
use Rattle.packet.proofs.Calls.{Streaming, shifted, in_pieces, same_calls}

-- what a complete packet gives: the receiver with its header and payload, and whether its checksum was right
pub record Framed : Type 0 where
  pub right : Bool
  pub receiver : Receiver

abbrev pub framed : Received → Call Receiver Framed
framed t =
    record {
      taken = t.taken;
      gives = cond t.complete (Some (record { right = t.right; receiver = t.receiver })) None;
      state = t.receiver;
    }

-- the receiver's call, the checksum covering the bytes from place k on
abbrev pub receives : ℕ → Receiver → List ℕ → Call Receiver Framed
receives k r b = framed (receiving k r b)

-- The two ends of a call.
module _ (k : ℕ) (r : Receiver) (b : List ℕ) where
  call_waits : length b < missing r b → receives k r b ≡ record { taken = length b; gives = None; state = with k r b }
  unfolding waiting
  call_waits l = ap framed (waits k r b l)

  call_completes : missing r b ≤ length b → receives k r b ≡ framed (completed k r b (missing r b))
  call_completes l = ap framed (completes k r b l)

  none_waits : (receives k r b).gives ≡ None → length b < missing r b
  unfolding completed
  none_waits g =
      lt_cases (length b) (missing r b)
      (λ l. l)
      (λ l. let h = sym (ap (λ (t : Call Receiver Framed). t.gives) (call_completes l)) ∙ g in
      let z : ◌≡◌ {A = ℕ} 0 1 = cc in absurd (omega arith))

  some_completes : (e : Framed) → (receives k r b).gives ≡ Some e → missing r b ≤ length b
  some_completes e g =
      lt_cases (length b) (missing r b)
      (λ l. let h = sym (ap (λ (t : Call Receiver Framed). t.gives) (call_waits l)) ∙ g in
      let z : ◌≡◌ {A = ℕ} 0 1 = cc in absurd (omega arith))
      (λ l. l)

keeps_made : (k : ℕ) (r : Receiver) (b : List ℕ) → Made r → Made (receives k r b).state
unfolding completed
keeps_made k r b m =
    lt_cases (length b) (missing r b)
    (λ l. subst (λ (t : Call Receiver Framed). Made t.state) (sym (call_waits k r b l)) (made_with k r b m))
    (λ l. subst (λ (t : Call Receiver Framed). Made t.state) (sym (call_completes k r b l))
    (made_between (with k r (take (missing r b - 1) b)) (made_with k r (take (missing r b - 1) b) m)))

count_completes : (k : ℕ) (r : Receiver) (b : List ℕ) → missing r b ≤ length b → (receives k r b).taken ≡ missing r b
unfolding completed
count_completes k r b l = ap (λ (t : Call Receiver Framed). t.taken) (call_completes k r b l)

pub receiver_streams : (k : ℕ) → Streaming (receives k) Made
receiver_streams k =
    record {
      keeps = λ r b m. keeps_made k r b m;
      empty = λ r m. call_waits k r [] (omega (arith, missing_least r [])) ∙ ap (λ (q : Receiver). record { taken = 0; gives = None; state = q }) (with_nil k r);
      cut = λ r a b m g.
          let l = none_waits k r a g in
          ap framed (cut k r a b m.header l)
          ∙ ap (λ (q : Receiver). shifted (length a) (receives k q b)) (sym (ap (λ (t : Call Receiver Framed). t.state) (call_waits k r a l)));
      behind = λ r a b e m g. ap framed (behind k r a b m.header (some_completes k r a e g));
      least = λ r a e m g. omega (arith, missing_least r a, count_completes k r a (some_completes k r a e g));
      most = λ r a e m g. omega (arith, some_completes k r a e g, count_completes k r a (some_completes k r a e g));
    }

-- the receiver over the packets of a stream, one after the other
unfoldable pub over : ℕ → Receiver → List (List ℕ) → Served Receiver Framed
over k r [] = record { given = []; state = r }
over k r (p ∷ ps) =
    record {
      given = record { right = right_from k p; receiver = after_packet r p } ∷ (over k (after_packet r p) ps).given;
      state = (over k (after_packet r p) ps).state;
    }

-- the packets of b in order, and then the receiver with what is left of b
abbrev pub framing : ℕ → Receiver → List ℕ → Served Receiver Framed
framing k r b = record { given = (over k r (packets b)).given; state = with k (over k r (packets b)).state (rest b) }

-- cutting a stream anywhere, into any number of calls, changes nothing: not the receiver, not which bytes belong to which packet
pub cut_anywhere : (k : ℕ) (r : Receiver) (bs : List (List ℕ)) → Made r → served (receives k) r bs ≡ served_one (receives k) r (joined bs)
cut_anywhere k r bs m = in_pieces (receives k) Made (receiver_streams k) r bs m

-- From between two packets; the checksum covers the length at least.
module _ (k : ℕ) (f : k < 6) where
  made_packet : (r : Receiver) (p : List ℕ) → Made r → Between r → IsPacket p → Made (after_packet r p)
  made_packet r p m z i = subst (λ (t : Received). Made t.receiver) (first_of k r z p [] f i) (keeps_made k r (p ++ []) m)

  -- the claim of `whole_stream` for one stream
  abbrev Whole : List ℕ → Type 0
  Whole b = (r : Receiver) → Made r → Between r → served_one (receives k) r b ≡ framing k r b

  whole_none : (b : List ℕ) → has_packet b ≡ false → Whole b
  unfolding served_one calls_on over waiting
  whole_none b h r m z =
      ap (λ (t : Call Receiver Framed). and_then t.gives t.state (calls_on (receives k) (length b) (receives k r b).state (drop (receives k r b).taken b)))
      (ap framed (too_few k r z b h))
      ∙ rw (packets_none b h, rest_none b h)

  whole_more : (p b : List ℕ) → IsPacket p → Whole b → Whole (p ++ b)
  unfolding served_one calls_on over
  whole_more p b i ih r m z =
      let q : Receiver = after_packet r p in
      let mq : Made (after_packet r p) = made_packet r p m z i in
      let n : length (p ++ b) ≡ length p + length b = length-append p b in
      ap (λ (t : Call Receiver Framed). and_then t.gives t.state (calls_on (receives k) (length (p ++ b)) t.state (drop t.taken (p ++ b))))
      (ap framed (first_of k r z p b f i))
      ∙ ap (λ (x : Served Receiver Framed). record { given = record { right = right_from k p; receiver = q } ∷ x.given; state = x.state })
      (ap (calls_on (receives k) (length (p ++ b)) q) (drop_at p b (length p) refl)
      ∙ same_calls (receives k) Made (receiver_streams k) (length (p ++ b)) (suc (length b)) q b mq (omega arith) (omega arith)
      ∙ ih q mq (between_packet r p i))
      ∙ rw (packets_cons p b i, rest_cons p b i)

  -- The calls complete the packets of the bytes, each with its header, its payload in the hold and the judgement of its checksum,
  -- and have then received what is left.
  pub whole_stream : (b : List ℕ) → Whole b
  whole_stream = packet_induction Whole whole_none whole_more
