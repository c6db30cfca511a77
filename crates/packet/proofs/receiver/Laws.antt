-- The receiver on streams: cutting a stream changes nothing, and a whole packet completes at its last byte. The checksum covers the bytes from place k on.
use Rattle.std.proofs.Common.{◌≡◌, ℕ, ◌+◌, ◌-◌, ◌%◌, ◌<◌, ◌≤◌, Bool, true, false, cond, eqb, leb, List, [], ◌∷◌, ◌++◌, length, get_or, take, drop, sym, refl, ap, ◌∙◌, append-nil, add-zero, zero-add, arith, length-append, length-drop, drop_of_length-le, length-take-le, get_or-take, take-take, get_or-append-add, take-add, drop_at, le-ltb, lt-ltb, le-leb}
use borrow.Author.Tests.{lt-leb}
use lib.ListN.{get_or-append}
use lib.Seq.{sets, length-sets, drop-nil, take-append-add, take-append-le, drop-append-add, drop-append-le}
use Rattle.packet.specs.Packet.{payload_length, payload, sum, checksum}
use Rattle.packet.specs.Stream.{size, has_packet}
use Rattle.packet.specs.Receiver.{Receiver, Received, plus, running_with, with, between, missing, waiting, completed, receiving}
use Rattle.packet.proofs.Cases.{lt_cases}
use Rattle.packet.proofs.stream.Laws.{IsPacket, has_packet_lem}
use Rattle.packet.proofs.bytes.Laws.{sets_append, sets_past, sets_whole, sum_append}

-- The running sum.

pub plus_byte : (before stays : ℕ) (b : List ℕ) → stays < 256 → plus before stays b < 256
plus_byte before stays [] h = h
plus_byte before stays (x ∷ b) h = omega arith

-- bytes after some that are covered
plus_append : (before stays : ℕ) (a b : List ℕ) → 0 < length a → plus (plus before stays a) (plus before stays a) b ≡ plus before stays (a ++ b)
plus_append before stays [] b h = absurd (omega arith)
plus_append before stays (x ∷ a) [] h = rw (append-nil a)
plus_append before stays (x ∷ a) (y ∷ b) h =
    let e : sum (x ∷ a ++ (y ∷ b)) ≡ sum (x ∷ a) + sum (y ∷ b) = sum_append (x ∷ a) (y ∷ b) in
    omega arith

-- no bytes leave it
pub running_nil : (k received running : ℕ) → running_with k received running [] ≡ running
unfolding running_with
running_nil k received running = rw (drop-nil (k - received))

pub running_byte : (k received running : ℕ) (b : List ℕ) → running < 256 → running_with k received running b < 256
unfolding running_with
running_byte k received running b h = plus_byte (cond (leb received k) 0 running) running (drop (k - received) b) h

-- none of a is covered
running_early : (k received running : ℕ) (a : List ℕ) → length a ≤ k - received → running_with k received running a ≡ running
unfolding running_with
running_early k received running a l = rw (drop_of_length-le a {i = k - received} l)

-- a reaches the bytes that are covered, or does not; it is not empty
running_reached : (k received running : ℕ) (a b : List ℕ) → k - received < length a
    → running_with k (received + length a) (running_with k received running a) b ≡ running_with k received running (a ++ b)
unfolding running_with
running_reached k received running a b l =
    let z : k - (received + length a) ≡ 0 = omega arith in
    let s : ℕ = cond (leb received k) 0 running in
    rw (lt-leb (received + length a) k (omega arith), z, drop-append-le (k - received) a b (omega arith))
    (plus_append s running (drop (k - received) a) b (simp length-drop (omega arith)))

running_before : (k received running : ℕ) (a b : List ℕ) → 0 < length a → length a ≤ k - received
    → running_with k (received + length a) running b ≡ running_with k received running (a ++ b)
unfolding running_with
running_before k received running a b n l =
    let e : length a + (k - (received + length a)) ≡ k - received = omega arith in
    let d : drop (k - received) (a ++ b) ≡ drop (k - (received + length a)) b = rw e at (drop-append-add a b (k - (received + length a))) in
    rw (le-leb (received + length a) k (omega arith), le-leb received k (omega arith), d)

running_append : (k received running : ℕ) (a b : List ℕ)
    → running_with k (received + length a) (running_with k received running a) b ≡ running_with k received running (a ++ b)
running_append k received running [] b = rw (running_nil k received running, add-zero received)
running_append k received running (x ∷ a) b =
    lt_cases (k - received) (length (x ∷ a))
    (λ l. running_reached k received running (x ∷ a) b l)
    (λ l. rw (running_early k received running (x ∷ a) l) (running_before k received running (x ∷ a) b (omega arith) l))

-- What `running_sum` puts together from the bytes that are covered.
module _ (k received running : ℕ) (b : List ℕ) where
  pub running_stays : length b ≤ k - received → running ≡ running_with k received running b
  running_stays l = sym (running_early k received running b l)

  some_plus : (before stays : ℕ) (d : List ℕ) → 0 < length d → (before + sum d) % 256 ≡ plus before stays d
  some_plus before stays [] h = absurd (omega arith)
  some_plus before stays (x ∷ d) h = refl

  pub running_anew : k - received < length b → received ≤ k → {d : List ℕ} → d ≡ drop (k - received) b → (0 + sum d) % 256 ≡ running_with k received running b
  unfolding running_with
  running_anew l h e = rw (e, le-leb received k h) (some_plus 0 running (drop (k - received) b) (simp length-drop (omega arith)))

  pub running_on : 0 < length b → k < received → (running + sum b) % 256 ≡ running_with k received running b
  unfolding running_with
  running_on n h =
      let z : k - received ≡ 0 = omega arith in
      rw (lt-leb received k h, z) (some_plus running running b n)

-- a receiver as the code has it: its header is six bytes, its sum is a byte
pub record Made (r : Receiver) : Type 0 where
  pub header : length r.header ≡ 6
  pub running : r.running < 256

-- a receiver's fields, put together
receiver_eq : {h h' d d' : List ℕ} {g g' s s' : ℕ} → h ≡ h' → s ≡ s' → g ≡ g' → d ≡ d'
    → ◌≡◌ {A = Receiver} (record { header = h; running = s; received = g; hold = d }) (record { header = h'; running = s'; received = g'; hold = d' })
receiver_eq p q r t = cc

-- the payload part of two runs of bytes is the payload part of both
hold_append : (d : List ℕ) (g : ℕ) (a b : List ℕ)
    → sets (sets d (g - 6) (drop (6 - g) a)) (g + length a - 6) (drop (6 - (g + length a)) b) ≡ sets d (g - 6) (drop (6 - g) (a ++ b))
hold_append d g a b =
    lt_cases (length a) (6 - g)
    (λ l.
    let n : drop (6 - g) a ≡ [] = drop_of_length-le a {i = 6 - g} (omega arith) in
    let e : length a + (6 - (g + length a)) ≡ 6 - g = omega arith in
    let m : drop (6 - g) (a ++ b) ≡ drop (6 - (g + length a)) b = rw e at (drop-append-add a b (6 - (g + length a))) in
    let p : g + length a - 6 ≡ g - 6 = omega arith in
    rw (n, m, p))
    (λ l.
    let m : drop (6 - g) (a ++ b) ≡ drop (6 - g) a ++ b = drop-append-le (6 - g) a b l in
    let z : 6 - (g + length a) ≡ 0 = omega arith in
    let p : g + length a - 6 ≡ g - 6 + length (drop (6 - g) a) = simp length-drop (omega arith) in
    rw (m, z, p) (sets_append (drop (6 - g) a) b d (g - 6)))

pub with_append : (k : ℕ) (r : Receiver) (a b : List ℕ) → with k (with k r a) b ≡ with k r (a ++ b)
unfolding with
with_append k r a b =
    receiver_eq
    (sets_append a b r.header r.received)
    (running_append k r.received r.running a b)
    (let e = length-append a b in omega arith)
    (hold_append r.hold r.received a b)

pub with_nil : (k : ℕ) (r : Receiver) → with k r [] ≡ r
unfolding with
with_nil k r = receiver_eq refl (running_nil k r.received r.running) (omega arith) (rw (drop-nil (6 - r.received)))

pub made_with : (k : ℕ) (r : Receiver) (b : List ℕ) → Made r → Made (with k r b)
unfolding with
made_with k r b m =
    record {
      header = length-sets r.header r.received b ∙ m.header;
      running = running_byte k r.received r.running b m.running;
    }

pub made_between : (r : Receiver) → Made r → Made (between r)
made_between r m = record { header = m.header; running = omega arith }

-- the hold keeps its length
pub hold_length : (k : ℕ) (r : Receiver) (b : List ℕ) → length (with k r b).hold ≡ length r.hold
unfolding with
hold_length k r b = length-sets r.hold (r.received - 6) (drop (6 - r.received) b)

-- the count of a call whose bytes have n others before them
abbrev pub after : ℕ → Received → Received
after n t = record { taken = n + t.taken; complete = t.complete; right = t.right; receiver = t.receiver }

-- a header that is complete stays
pub header_stays : (r : Receiver) (a b : List ℕ) → length r.header ≡ 6 → 6 ≤ r.received + length a
    → sets r.header r.received (a ++ b) ≡ sets r.header r.received a
header_stays r a b h l =
    sym (sets_append a b r.header r.received)
    ∙ sets_past b (sets r.header r.received a) (r.received + length a) (omega (arith, length-sets r.header r.received a))

pub missing_least : (r : Receiver) (b : List ℕ) → 1 ≤ missing r b
unfolding missing
missing_least r b = omega arith

-- what is missing after a is missing with b after it, less a
missing_append : (k : ℕ) (r : Receiver) (a b : List ℕ) → length r.header ≡ 6 → length a < missing r a
    → missing r (a ++ b) ≡ length a + missing (with k r a) b
unfolding missing with
missing_append k r a b h l =
    lt_cases (r.received + length a) 6
    (λ e. rw (sets_append a b r.header r.received) (omega arith))
    (λ e. rw (sets_append a b r.header r.received, header_stays r a b h e) (omega arith))

received_eq : {n n' : ℕ} {c p p' : Bool} {r r' : Receiver} → n ≡ n' → p ≡ p' → r ≡ r'
    → ◌≡◌ {A = Received} (record { taken = n; complete = c; right = p; receiver = r }) (record { taken = n'; complete = c; right = p'; receiver = r' })
received_eq e f g = cc

waiting_append : (k : ℕ) (r : Receiver) (a b : List ℕ) → waiting k r (a ++ b) ≡ after (length a) (waiting k (with k r a) b)
unfolding waiting
waiting_append k r a b = received_eq (length-append a b) refl (sym (with_append k r a b))

completed_append : (k : ℕ) (r : Receiver) (a b : List ℕ) (n : ℕ) → 1 ≤ n
    → completed k r (a ++ b) (length a + n) ≡ after (length a) (completed k (with k r a) b n)
unfolding completed
completed_append k r a b n h =
    let e : length a + n - 1 ≡ length a + (n - 1) = omega arith in
    rw (e, take-append-add a b (n - 1), get_or-append-add a b (n - 1) 0, with_append k r a (take (n - 1) b))

-- whether a call completes a packet
pub waits : (k : ℕ) (r : Receiver) (b : List ℕ) → length b < missing r b → receiving k r b ≡ waiting k r b
unfolding receiving
waits k r b l = rw (lt-ltb (length b) (missing r b) l)

pub completes : (k : ℕ) (r : Receiver) (b : List ℕ) → missing r b ≤ length b → receiving k r b ≡ completed k r b (missing r b)
unfolding receiving
completes k r b l = rw (le-ltb (length b) (missing r b) l)

-- two calls: bytes that complete no packet, and then others, are taken as all of them at once
pub cut : (k : ℕ) (r : Receiver) (a b : List ℕ) → length r.header ≡ 6 → length a < missing r a
    → receiving k r (a ++ b) ≡ after (length a) (receiving k (with k r a) b)
cut k r a b h l =
    let m : missing r (a ++ b) ≡ length a + missing (with k r a) b = missing_append k r a b h l in
    let n : length (a ++ b) ≡ length a + length b = length-append a b in
    lt_cases (length b) (missing (with k r a) b)
    (λ e.
    waits k r (a ++ b) (omega arith)
    ∙ waiting_append k r a b
    ∙ ap (after (length a)) (sym (waits k (with k r a) b e)))
    (λ e.
    completes k r (a ++ b) (omega arith)
    ∙ ap (completed k r (a ++ b)) m
    ∙ completed_append k r a b (missing (with k r a) b) (missing_least (with k r a) b)
    ∙ ap (after (length a)) (sym (completes k (with k r a) b e)))

-- a packet that is complete has its header
header_complete : (r : Receiver) (a : List ℕ) → missing r a ≤ length a → 6 ≤ r.received + length a
unfolding missing
header_complete r a l = omega arith

missing_behind : (r : Receiver) (a b : List ℕ) → length r.header ≡ 6 → 6 ≤ r.received + length a → missing r (a ++ b) ≡ missing r a
unfolding missing
missing_behind r a b h c = rw (header_stays r a b h c)

completed_behind : (k : ℕ) (r : Receiver) (a b : List ℕ) (n : ℕ) → n - 1 < length a → completed k r (a ++ b) n ≡ completed k r a n
unfolding completed
completed_behind k r a b n h = rw (take-append-le (n - 1) a b (omega arith), get_or-append a b 0 (n - 1) h)

-- a packet that is complete within a is not changed by what follows a
pub behind : (k : ℕ) (r : Receiver) (a b : List ℕ) → length r.header ≡ 6 → missing r a ≤ length a → receiving k r (a ++ b) ≡ receiving k r a
behind k r a b h l =
    let m : missing r (a ++ b) ≡ missing r a = missing_behind r a b h (header_complete r a l) in
    completes k r (a ++ b) (omega (arith, length-append a b))
    ∙ ap (completed k r (a ++ b)) m
    ∙ completed_behind k r a b (missing r a) (omega (arith, missing_least r a))
    ∙ sym (completes k r a l)

-- A receiver between two packets: nothing is half received.
pub record Between (r : Receiver) : Type 0 where
  pub header : length r.header ≡ 6
  pub received : r.received ≡ 0

-- what it is after a whole packet: the header is the packet's, and its payload stands in the hold, as far as it fits
abbrev pub after_packet : Receiver → List ℕ → Receiver
after_packet r p = record { header = take 6 p; running = 0; received = 0; hold = sets r.hold 0 (payload p) }

pub between_packet : (r : Receiver) (p : List ℕ) → IsPacket p → Between (after_packet r p)
between_packet r p i = record { header = length-take-le 6 p (omega (arith, i.least)); received = refl }

-- the first six bytes are the header
header_boundary : (r : Receiver) (b : List ℕ) → Between r → 6 ≤ length b → sets r.header 0 b ≡ take 6 b
header_boundary r b z l = sets_whole b r.header (omega (arith, z.header)) ∙ ap (λ (n : ℕ). take n b) z.header

missing_boundary : (r : Receiver) (b : List ℕ) → Between r → 6 ≤ length b → missing r b ≡ size b
unfolding missing size
missing_boundary r b z l =
    rw (z.received, header_boundary r b z l, get_or-take 6 b 4 0 (omega arith), get_or-take 6 b 5 0 (omega arith)) (omega arith)

missing_early : (r : Receiver) (b : List ℕ) → Between r → length b < 7 → length b < missing r b
unfolding missing
missing_early r b z l = omega (arith, z.received)

-- the sum of a packet's bytes begins anew, whatever stood there
running_boundary : (k running : ℕ) (b : List ℕ) → k < length b → running_with k 0 running b ≡ checksum (drop k b)
unfolding running_with checksum
running_boundary k running b l =
    let e : k - 0 ≡ k = omega arith in
    rw (le-leb 0 k (omega arith), e) (go (drop k b) (simp length-drop (omega arith)))
  where
    go : (d : List ℕ) → 0 < length d → plus 0 running d ≡ sum d % 256
    go [] h = absurd (omega arith)
    go (x ∷ d) h = rw (zero-add (sum (x ∷ d)))

with_boundary : (k : ℕ) (r : Receiver) (b : List ℕ) → Between r → 6 ≤ length b → k < length b
    → with k r b ≡ record { header = take 6 b; running = checksum (drop k b); received = length b; hold = sets r.hold 0 (drop 6 b) }
unfolding with
with_boundary k r b z l m =
    rw (z.received, header_boundary r b z l, zero-add (length b), running_boundary k r.running b m)

-- the payload among the bytes before the checksum
payload_part : (p : List ℕ) (m : ℕ) → 6 + m ≤ length p → drop 6 (take (6 + m) p) ≡ take m (drop 6 p)
payload_part p m h = rw (take-add 6 m p) (drop_at (take 6 p) (take m (drop 6 p)) 6 (length-take-le 6 p (omega arith)))

-- the checksum of the packet p, which covers its bytes from place k on, is right: right_sum where k is 0
abbrev pub right_from : ℕ → List ℕ → Bool
right_from k p = eqb (get_or p (6 + payload_length p) 0) (checksum (drop k (take (6 + payload_length p) p)))

-- exactly the bytes of one whole packet complete it, at its last byte
abbrev pub one : ℕ → Receiver → List ℕ → Received
one k r p = record { taken = length p; complete = true; right = right_from k p; receiver = after_packet r p }

completed_whole : (k : ℕ) (r : Receiver) (p : List ℕ) → Between r → k < 6 → 7 + payload_length p ≡ length p → completed k r p (7 + payload_length p) ≡ one k r p
unfolding completed payload
completed_whole k r p z f e =
    let n : 7 + payload_length p - 1 ≡ 6 + payload_length p = omega arith in
    let l : length (take (6 + payload_length p) p) ≡ 6 + payload_length p = length-take-le (6 + payload_length p) p (omega arith) in
    let w = with_boundary k r (take (6 + payload_length p) p) z (omega arith) (omega arith) in
    received_eq e
    (rw (n, w))
    (rw (n, w, take-take 6 (6 + payload_length p) p (omega arith), payload_part p (payload_length p) (omega arith)))

-- From between two packets: a packet and anything after it. The checksum covers the length at least.
module _ (k : ℕ) (r : Receiver) (z : Between r) where
  missing_whole : (p : List ℕ) → IsPacket p → missing r p ≡ length p
  missing_whole p i = missing_boundary r p z (omega (arith, i.least)) ∙ i.exact

  pub whole_packet : (p : List ℕ) → k < 6 → IsPacket p → receiving k r p ≡ one k r p
  unfolding size
  whole_packet p f i =
      completes k r p (omega (arith, missing_whole p i))
      ∙ ap (completed k r p) (missing_boundary r p z (omega (arith, i.least)))
      ∙ completed_whole k r p z f i.exact

  pub first_of : (p b : List ℕ) → k < 6 → IsPacket p → receiving k r (p ++ b) ≡ one k r p
  first_of p b f i = behind k r p b z.header (omega (arith, missing_whole p i)) ∙ whole_packet p f i

  -- too few bytes for a packet are all taken, and complete nothing
  pub too_few : (b : List ℕ) → has_packet b ≡ false → receiving k r b ≡ waiting k r b
  too_few b h =
      waits k r b
      (lt_cases (length b) 7
      (λ e. missing_early r b z e)
      (λ e. lt_cases (length b) (size b)
      (λ f. omega (arith, missing_boundary r b z (omega arith)))
      (λ f. let y : ◌≡◌ {A = Bool} true false = sym (has_packet_lem b e f) ∙ h in
      let x : ◌≡◌ {A = ℕ} 0 1 = cc in absurd (omega arith))))
