-- Laws of framing: the packets of a list of bytes.
use Rattle.std.proofs.Common.{◌≡◌, ℕ, zero, suc, ◌+◌, ◌-◌, ◌*◌, ◌<◌, ◌≤◌, Bool, true, false, cond, eqb, leb, List, [], ◌∷◌, ◌++◌, length, get_or, take, drop, sym, refl, ap, ◌∙◌, subst, ap₂, append_assoc, arith, length-append, length-drop, take-append-drop, length-take-le, get_or-take, take-take, take_at, drop_at, le-leb, leb-true}
use mathlib.Core.Bool.{and-false}
use borrow.Author.Tests.{lt-leb}
use lib.ListN.{get_or-append}
use lib.Seq.{drop-append-add}
use Rattle.packet.specs.Calls.{joined}
use Rattle.packet.specs.Number.{Bytes}
use Rattle.packet.specs.Packet.{payload_length, payload, checksum, right_sum}
use Rattle.packet.specs.Stream.{next_in, size, has_packet, packets_in, packets, bytes_in, rest}
use Rattle.std.specs.Prelude.{None, Some}
use Rattle.std.proofs.lemmas.Bool.{cond_both, and_from}
use Rattle.packet.specs.declared.stream.WholePacket.{WholePacket}
use Rattle.packet.proofs.Cases.{bool_cases, true_and_right}
use Rattle.packet.proofs.number.Laws.{bytes_take, bytes_drop, byte_get}

-- p is one whole packet
pub record IsPacket (p : List ℕ) : Type 0 where
  pub least : 7 ≤ length p
  pub exact : size p ≡ length p

-- every packet is of bytes
abbrev pub AllBytes : List (List ℕ) → Type 0
AllBytes [] = Unit {0}
AllBytes (p ∷ ps) = Bytes p × AllBytes ps

pub size_append : (p b : List ℕ) → 7 ≤ length p → size (p ++ b) ≡ size p
unfolding size
size_append p b h = rw (get_or-append p b 0 4 (omega arith), get_or-append p b 0 5 (omega arith))

pub has_packet_lem : (b : List ℕ) → 7 ≤ length b → size b ≤ length b → has_packet b ≡ true
unfolding has_packet
has_packet_lem b h l = and_from (leb 7 (length b)) (leb (size b) (length b)) (le-leb 7 (length b) h) (le-leb (size b) (length b) l)

pub no_header : (b : List ℕ) → length b < 7 → has_packet b ≡ false
unfolding has_packet
no_header b h = rw (lt-leb 7 (length b) h)

pub no_end : (b : List ℕ) → length b < size b → has_packet b ≡ false
unfolding has_packet
no_end b h = rw (lt-leb (size b) (length b) h, and-false (leb 7 (length b)))

pub size_within : (b : List ℕ) → has_packet b ≡ true → size b ≤ length b
unfolding has_packet
size_within b h = leb-true (size b) (length b) (true_and_right (leb 7 (length b)) (leb (size b) (length b)) h)

pub seven : (b : List ℕ) → 7 ≤ size b
unfolding size
seven b = omega arith

pub packet_front : (p b : List ℕ) → IsPacket p → has_packet (p ++ b) ≡ true
packet_front p b h =
    let e : size (p ++ b) ≡ length p = size_append p b h.least ∙ h.exact in
    let l : length (p ++ b) ≡ length p + length b = length-append p b in
    has_packet_lem (p ++ b) (omega (arith, h.least)) (omega arith)

-- what is left after the packet is shorter
shorter : (b : List ℕ) (n : ℕ) → has_packet b ≡ true → length b ≤ suc n → length (drop (size b) b) ≤ n
shorter b n h l = simp length-drop (omega (arith, size_within b h, seven b))

-- more turns than bytes change nothing
same_packets : (m n : ℕ) (b : List ℕ) → length b ≤ m → length b ≤ n → packets_in m b ≡ packets_in n b
unfolding packets_in
same_packets zero zero b hm hn = refl
same_packets zero (suc n) [] hm hn = unfold has_packet in refl
same_packets zero (suc n) (x ∷ b) hm hn = absurd (omega arith)
same_packets (suc m) zero [] hm hn = unfold has_packet in refl
same_packets (suc m) zero (x ∷ b) hm hn = absurd (omega arith)
same_packets (suc m) (suc n) b hm hn =
    bool_cases (has_packet b)
    (λ e. rw e (ap {B = List (List ℕ)} (λ l. take (size b) b ∷ l) (same_packets m n (drop (size b) b) (shorter b m e hm) (shorter b n e hn))))
    (λ e. rw e)

-- a stream that is a packet followed by anything has that packet first
pub packets_cons : (p b : List ℕ) → IsPacket p → packets (p ++ b) ≡ p ∷ packets b
unfolding packets packets_in
packets_cons p b h = go (length (p ++ b)) (omega (arith, length-append p b, h.least)) (omega (arith, length-append p b, h.least))
  where
    go : (n : ℕ) → 0 < n → length b < n → packets_in n (p ++ b) ≡ p ∷ packets_in (length b) b
    go zero z l = absurd (omega arith)
    go (suc n) z l =
        let e : size (p ++ b) ≡ length p = size_append p b h.least ∙ h.exact in
        rw (packet_front p b h, e, take_at p b (length p) refl, drop_at p b (length p) refl, same_packets n (length b) b (omega arith) (omega arith))

pub rest_cons : (p b : List ℕ) → IsPacket p → rest (p ++ b) ≡ rest b
unfolding rest bytes_in
rest_cons p b h = rw (packets_cons p b h, drop-append-add p b (bytes_in (packets b)))

pub packets_none : (b : List ℕ) → has_packet b ≡ false → packets b ≡ []
unfolding packets
packets_none b h = go (length b)
  where
    go : (n : ℕ) → packets_in n b ≡ []
    go zero = unfold packets_in in refl
    go (suc n) = unfold packets_in in rw h

pub rest_none : (b : List ℕ) → has_packet b ≡ false → rest b ≡ b
unfolding rest bytes_in
rest_none b h = rw (packets_none b h)

pub first_packet : (b : List ℕ) → has_packet b ≡ true → IsPacket (take (size b) b)
first_packet b h =
    let l : length (take (size b) b) ≡ size b = length-take-le (size b) b (size_within b h) in
    let m : 7 ≤ length (take (size b) b) = omega (arith, seven b) in
    let e : size (take (size b) b ++ drop (size b) b) ≡ size (take (size b) b) = size_append (take (size b) b) (drop (size b) b) m in
    record { least = m; exact = sym e ∙ ap size (take-append-drop (size b) b) ∙ sym l }

-- what holds where no packet is whole, and of a packet in front of what it holds of, holds of every list
pub packet_induction : (P : List ℕ → Type 0) → ((b : List ℕ) → has_packet b ≡ false → P b) → ((p b : List ℕ) → IsPacket p → P b → P (p ++ b)) → (b : List ℕ) → P b
packet_induction P none more b = go (length b) b (omega arith)
  where
    go : (n : ℕ) (b : List ℕ) → length b ≤ n → P b
    go zero b l = none b (no_header b (omega arith))
    go (suc n) b l =
        let next : has_packet b ≡ true → P (drop (size b) b) = λ e. go n (drop (size b) b) (shorter b n e l) in
        bool_cases (has_packet b)
        (λ e. subst P (take-append-drop (size b) b) (more (take (size b) b) (drop (size b) b) (first_packet b e) (next e)))
        (λ e. none b e)

-- joined streams: the packets of the first, then those of what it left with the second after it
pub packets_joined : (a b : List ℕ) → packets (a ++ b) ≡ packets a ++ packets (rest a ++ b)
packets_joined a b =
    packet_induction (λ x. packets (x ++ b) ≡ packets x ++ packets (rest x ++ b))
    (λ x h. rw (packets_none x h, rest_none x h))
    (λ p x i h. ap packets (append_assoc p x b) ∙ packets_cons p (x ++ b) i ∙ ap {B = List (List ℕ)} (λ t. p ∷ t) h
    ∙ sym (ap₂ (λ u v. u ++ packets (v ++ b)) (packets_cons p x i) (rest_cons p x i)))
    a

pub rest_joined : (a b : List ℕ) → rest (a ++ b) ≡ rest (rest a ++ b)
rest_joined a b =
    packet_induction (λ x. rest (x ++ b) ≡ rest (rest x ++ b))
    (λ x h. rw (rest_none x h))
    (λ p x i h. ap rest (append_assoc p x b) ∙ rest_cons p (x ++ b) i ∙ h ∙ sym (ap (λ v. rest (v ++ b)) (rest_cons p x i)))
    a

-- what is left has no packet
pub rest_short : (b : List ℕ) → has_packet (rest b) ≡ false
rest_short b =
    packet_induction (λ x. has_packet (rest x) ≡ false)
    (λ x h. ap has_packet (rest_none x h) ∙ h)
    (λ p x i h. ap has_packet (rest_cons p x i) ∙ h)
    b

-- The packets of some bytes, joined, and what is left are these bytes: each packet stands at its place.

joined_append : (ps qs : List (List ℕ)) → joined (ps ++ qs) ≡ joined ps ++ joined qs
unfolding joined
joined_append [] qs = refl
joined_append (p ∷ ps) qs = ap (λ (x : List ℕ). p ++ x) (joined_append ps qs) ∙ sym (append_assoc p (joined ps) (joined qs))

joined_length : (ps : List (List ℕ)) → length (joined ps) ≡ bytes_in ps
unfolding joined bytes_in
joined_length [] = refl
joined_length (p ∷ ps) = length-append p (joined ps) ∙ ap (λ (n : ℕ). length p + n) (joined_length ps)

pub all_there : (b : List ℕ) → joined (packets b) ++ rest b ≡ b
unfolding joined
all_there =
    packet_induction (λ b. joined (packets b) ++ rest b ≡ b)
    (λ b h. rw (packets_none b h, rest_none b h))
    (λ p b i h. rw (packets_cons p b i, rest_cons p b i) (append_assoc p (joined (packets b)) (rest b) ∙ ap (λ (x : List ℕ). p ++ x) h))

bytes_all : (b : List ℕ) → bytes_in (packets b) + length (rest b) ≡ length b
bytes_all b = omega (arith, ap length (all_there b), length-append (joined (packets b)) (rest b), joined_length (packets b))

-- no packet is empty
abbrev Filled : List (List ℕ) → Type 0
Filled [] = Unit {0}
Filled (p ∷ ps) = (0 < length p) × Filled ps

filled : (b : List ℕ) → Filled (packets b)
filled =
    packet_induction (λ b. Filled (packets b))
    (λ b h. rw (packets_none b h) tt)
    (λ p b i h. rw (packets_cons p b i) (omega (arith, i.least), h))

filled_at : (before : List (List ℕ)) (p : List ℕ) (behind : List (List ℕ)) → Filled (before ++ (p ∷ behind)) → 0 < length p
filled_at [] p behind h = h.0
filled_at (q ∷ before) p behind h = filled_at before p behind h.1

module _ (b : List ℕ) (before : List (List ℕ)) (p : List ℕ) (behind : List (List ℕ)) (c : packets b ≡ before ++ (p ∷ behind)) where
  apart : b ≡ joined before ++ (p ++ (joined behind ++ rest b))
  unfolding joined
  apart =
      sym (all_there b)
      ∙ ap (λ x. joined x ++ rest b) c
      ∙ ap (λ (x : List ℕ). x ++ rest b) (joined_append before (p ∷ behind))
      ∙ simp append_assoc

  -- the bytes from its place on begin with it
  pub packet_there : take (length p) (drop (bytes_in before) b) ≡ p
  packet_there =
      let more = p ++ (joined behind ++ rest b) in
      ap (λ (x : List ℕ). take (length p) (drop (bytes_in before) x)) apart
      ∙ ap (take (length p)) (drop_at (joined before) more (bytes_in before) (joined_length before))
      ∙ take_at p (joined behind ++ rest b) (length p) refl

  pub packet_within : bytes_in before < length b
  packet_within =
      let n = filled_at before p behind (subst Filled c (filled b)) in
      let more = p ++ (joined behind ++ rest b) in
      omega (arith, n, ap length apart, length-append (joined before) more, length-append p (joined behind ++ rest b), joined_length before)

pub rest_within : (b : List ℕ) → (rest b ≡ [] → ⊥) → bytes_in (packets b) < length b
rest_within b h = go (rest b) refl
  where
    go : (l : List ℕ) → rest b ≡ l → bytes_in (packets b) < length b
    go [] e = absurd (h e)
    go (x ∷ l) e = omega (arith, bytes_all b, ap length e)

some_bytes : (n : ℕ) (b : List ℕ) → Bytes b → AllBytes (packets_in n b)
unfolding packets_in
some_bytes zero b h = tt
some_bytes (suc n) b h =
    cond_both (has_packet b) _ _ AllBytes
    (λ e. (bytes_take (size b) b h, some_bytes n (drop (size b) b) (bytes_drop (size b) b h)))
    (λ e. tt)

pub packets_bytes : (b : List ℕ) → Bytes b → AllBytes (packets b)
unfolding packets
packets_bytes b h = some_bytes (length b) b h

pub packets_nil : packets [] ≡ []
unfolding packets packets_in
packets_nil = refl

pub rest_nil : rest [] ≡ []
unfolding rest bytes_in packets packets_in
rest_nil = refl

-- What next_packet tells: a whole packet, its size and whether its checksum is right, or none.

abbrev found : List ℕ → WholePacket
found b = record { size = size b; right = right_sum b }

pub next_some : (b : List ℕ) (p : WholePacket) → next_in b ≡ Some p → (has_packet b ≡ true) × (size b ≡ p.size) × (right_sum b ≡ p.right)
unfolding next_in
next_some b p = go (has_packet b) refl
  where
    go : (h : Bool) → has_packet b ≡ h → cond h (Some (found b)) None ≡ Some p → (has_packet b ≡ true) × (size b ≡ p.size) × (right_sum b ≡ p.right)
    go true e q = let f : found b ≡ p = cc in (e, ap (λ (x : WholePacket). x.size) f, ap (λ (x : WholePacket). x.right) f)
    go false e q = let z : ◌≡◌ {A = ℕ} 0 1 = cc in absurd (omega arith)

pub next_none : (b : List ℕ) → next_in b ≡ None → has_packet b ≡ false
unfolding next_in
next_none b = go (has_packet b) refl
  where
    go : (h : Bool) → has_packet b ≡ h → cond h (Some (found b)) None ≡ None → has_packet b ≡ false
    go true e q = let z : ◌≡◌ {A = ℕ} 0 1 = cc in absurd (omega arith)
    go false e q = e

-- the checksum of the first packet of b is looked at in b
pub right_front : (b : List ℕ) → has_packet b ≡ true → right_sum (take (size b) b) ≡ right_sum b
unfolding right_sum size
right_front b h =
    rw (
      get_or-take (7 + payload_length b) b 4 0 (omega arith),
      get_or-take (7 + payload_length b) b 5 0 (omega arith),
      get_or-take (7 + payload_length b) b (6 + payload_length b) 0 (omega arith),
      take-take (6 + payload_length b) (7 + payload_length b) b (omega arith),
    )

-- the payload of a whole packet has the length that the packet says
pub payload_length_lem : (p : List ℕ) → size p ≡ length p → length (payload p) ≡ payload_length p
unfolding payload size
payload_length_lem p e = length-take-le (payload_length p) (drop 6 p) (simp length-drop (omega (arith, e)))

-- "A packet is 7 to 65,542 bytes"
pub size_most : (b : List ℕ) → Bytes b → size b ≤ 65542
unfolding size
size_most b h = omega (arith, byte_get b 4 h, byte_get b 5 h)

-- The packet at the front of some bytes, n being what its length field says.
module _ (b : List ℕ) where
  pub none_begun : length b < 7 → None ≡ next_in b
  unfolding next_in
  none_begun l = rw (no_header b l)

  size_of : {n : ℕ} {header : List ℕ} → header ≡ take 6 b → n ≡ get_or header 4 0 + 256 * get_or header 5 0 → size b ≡ 7 + n
  unfolding size
  size_of h e = let f = rw (h, get_or-take 6 b 4 0 (omega arith), get_or-take 6 b 5 0 (omega arith)) at e in omega (arith, f)

  pub none_ended : {n : ℕ} {header : List ℕ} → header ≡ take 6 b → n ≡ get_or header 4 0 + 256 * get_or header 5 0 → length b < 7 + n → None ≡ next_in b
  unfolding next_in
  none_ended h e l = rw (no_end b (omega (arith, l, size_of h e)))

  -- the checksum of the packet p that stands there
  right_at : {p : List ℕ} → has_packet b ≡ true → p ≡ take (size b) b → eqb (get_or p (length p - 1) 0) (checksum (take (length p - 1) p)) ≡ right_sum b
  unfolding right_sum size
  right_at {p} h e =
      let n : ℕ = 6 + payload_length b in
      let l : length p ≡ 7 + payload_length b = ap length e ∙ length-take-le (7 + payload_length b) b (size_within b h) in
      let m : length p - 1 ≡ n = omega arith in
      rw (m, e, get_or-take (7 + payload_length b) b n 0 (omega arith), take-take n (7 + payload_length b) b (omega arith))

  pub next_there : {n : ℕ} {header p : List ℕ} {right : Bool} → header ≡ take 6 b → n ≡ get_or header 4 0 + 256 * get_or header 5 0 → 7 + n ≤ length b
      → p ≡ take (7 + n) b
      → right ≡ eqb (get_or p (length p - 1) 0) (checksum (take (length p - 1) p)) → Some (record { size = 7 + n; right = right }) ≡ next_in b
  unfolding next_in
  next_there {n} {header} {p} {right} h e l f g =
      let s : size b ≡ 7 + n = size_of h e in
      let w : has_packet b ≡ true = has_packet_lem b (omega (arith, l)) (omega (arith, l, s)) in
      rw (w, s, g, right_at w (f ∙ ap (λ (i : ℕ). take i b) (sym s)))
