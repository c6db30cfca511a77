-- Writing a packet: what the buffer holds, and that what was written is one whole packet with a right checksum.
use Rattle.std.proofs.Common.{◌≡◌, ℕ, suc, ◌+◌, ◌-◌, ◌*◌, ◌/◌, ◌%◌, ◌<◌, ◌≤◌, true, false, eqb, leb, List, [], ◌∷◌, ◌++◌, length, get_or, take, drop, set, sym, refl, ap, ◌∙◌, append_assoc, append-nil, mod-eq_of_lt, zero-add, arith, length-append, length-drop, drop_of_length-le, length-take-le, take_all, take-suc, drop-drop, take_at, drop_at, eq-eqb, eqb-true, le-leb}
use Rattle.std.proofs.lemmas.Bool.{and_from}
use mathlib.Core.Bool.{and-false}
use borrow.Author.Tests.{lt-leb}
use borrow.Rule.Slice.PartMut.{put_mid}
use lib.Seq.{sets, get_or_at}
use Rattle.packet.specs.Number.{Bytes, bytes_of}
use Rattle.packet.specs.Packet.{type_of, cmd1_of, cmd2_of, flags_of, payload_length, payload, checksum, right_sum, header, sealed, packet_of}
use Rattle.packet.specs.Stream.{size}
use Rattle.packet.specs.Writer.{fits, written}
use Rattle.packet.proofs.bytes.Laws.{sets_append, sets_front}
use Rattle.packet.proofs.stream.Laws.{IsPacket}

-- when a packet fits
module _ (room : ℕ) (d : List ℕ) where
  pub too_long : 65535 < length d → fits room d ≡ false
  unfolding fits
  too_long h = rw (lt-leb (length d) 65535 h)

  pub no_room : room < length d + 7 → fits room d ≡ false
  unfolding fits
  no_room h = rw (lt-leb (length d + 7) room h, and-false (leb (length d) 65535))

  pub has_room : length d ≤ 65535 → length d + 7 ≤ room → fits room d ≡ true
  unfolding fits
  has_room h l = and_from (leb (length d) 65535) (leb (length d + 7) room) (le-leb (length d) 65535 h) (le-leb (length d + 7) room l)

-- bytes and then their checksum, stored at the start of a buffer
pub sealed_front : (xs l : List ℕ) → length xs < length l
    → set (sets l 0 xs) (length xs) (checksum (take (length xs) (sets l 0 xs))) ≡ written (sealed xs) l
unfolding sealed written
sealed_front xs l h =
    let n : length (xs ++ (checksum xs ∷ [])) ≡ length xs + 1 = length-append xs (checksum xs ∷ []) in
    let t : take (length xs) (sets l 0 xs) ≡ xs = rw (sets_front xs l (omega arith)) (take_at xs (drop (length xs) l) (length xs) refl) in
    let j : sets (sets l 0 xs) (length xs) (checksum xs ∷ []) ≡ sets l 0 (xs ++ (checksum xs ∷ [])) = rw zero-add at (sets_append xs (checksum xs ∷ []) l 0) in
    rw t (j ∙ sets_front (xs ++ (checksum xs ∷ [])) l (omega arith))

-- bytes written after others
pub written_after : (a b out : List ℕ) → a ++ written b (drop (length a) out) ≡ written (a ++ b) out
unfolding written
written_after a b out = rw (drop-drop (length b) (length a) out, length-append a b) (sym (append_assoc a b (drop (length a + length b) out)))

pub written_none : (out : List ℕ) → written [] out ≡ out
unfolding written
written_none out = refl

pub length_written_to : (b out : List ℕ) → length b ≤ length out → length (written b out) ≡ length out
unfolding written
length_written_to b out h = rw (length-append b (drop (length b) out), length-drop (length b) out) (omega arith)

-- b written to the part of a buffer after a, which was written at its start: the part lent, and put back
pub written_part : (a b out : List ℕ) → length a ≤ length out
    → put_mid (length a) (length (written a out) - length a) (written a out) (written b (take (length (written a out) - length a) (drop (length a) (written a out)))) ≡ written (a ++ b) out
written_part a b out h =
    let r : List ℕ = drop (length a) out in
    let n : length (written a out) ≡ length out = length_written_to a out h in
    let lr : length r ≡ length out - length a = length-drop (length a) out in
    let t : take (length a) (written a out) ≡ a = unfold written in take_at a (drop (length a) out) (length a) refl in
    let d : drop (length a) (written a out) ≡ drop (length a) out = unfold written in drop_at a (drop (length a) out) (length a) refl in
    let w : take (length out - length a) (drop (length a) out) ≡ drop (length a) out = take_all (length out - length a) (drop (length a) out) (omega arith) in
    let z : drop (length out - length a) (drop (length a) out) ≡ [] = drop_of_length-le (drop (length a) out) {i = length out - length a} (omega arith) in
    rw (n, t, d, w, z, append-nil (written b (drop (length a) out))) (written_after a b out)

-- The packet of given fields and data.
module _ (type cmd1 cmd2 flags : ℕ) (d : List ℕ) (h : length d ≤ 65535) where
  -- all of the packet but its checksum
  abbrev front : List ℕ
  front = header type cmd1 cmd2 flags (length d) ++ d

  length_front : length front ≡ 6 + length d
  unfolding bytes_of
  length_front = omega arith

  pub length_written : payload_length (packet_of type cmd1 cmd2 flags d) ≡ length d
  unfolding packet_of sealed bytes_of
  length_written = omega arith

  pub size_written : length (packet_of type cmd1 cmd2 flags d) ≡ length d + 7
  unfolding packet_of sealed bytes_of
  size_written = rw (length-append d (checksum front ∷ [])) (omega arith)

  pub packet_written : IsPacket (packet_of type cmd1 cmd2 flags d)
  unfolding size
  packet_written = record { least = omega (arith, size_written); exact = omega (arith, size_written, length_written) }

  pub payload_written : payload (packet_of type cmd1 cmd2 flags d) ≡ d
  unfolding payload
  payload_written = rw length_written (unfold packet_of sealed bytes_of in take_at d (checksum front ∷ []) (length d) refl)

  pub sum_written : right_sum (packet_of type cmd1 cmd2 flags d) ≡ true
  unfolding right_sum
  sum_written = rw length_written whole_front
    where
      last : get_or (packet_of type cmd1 cmd2 flags d) (6 + length d) 0 ≡ checksum front
      last = unfold packet_of sealed in get_or_at front (checksum front) [] 0 (6 + length d) length_front

      before : take (6 + length d) (packet_of type cmd1 cmd2 flags d) ≡ front
      before = unfold packet_of sealed in take_at front (checksum front ∷ []) (6 + length d) length_front

      whole_front : eqb (get_or (packet_of type cmd1 cmd2 flags d) (6 + length d) 0) (checksum (take (6 + length d) (packet_of type cmd1 cmd2 flags d))) ≡ true
      whole_front = eq-eqb _ _ (last ∙ ap checksum (sym before))

tail_split : (q : List ℕ) (m : ℕ) → length q ≡ m + 1 → q ≡ take m q ++ (get_or q m 0 ∷ [])
tail_split q m e = sym (take_all (suc m) q (omega arith)) ∙ take-suc q m 0 (omega arith)

remade : (a0 a1 a2 a3 a4 a5 : ℕ) (q : List ℕ) → a4 < 256 → a5 < 256 → length q ≡ a4 + 256 * a5 + 1
    → right_sum (a0 ∷ a1 ∷ a2 ∷ a3 ∷ a4 ∷ a5 ∷ q) ≡ true
    → packet_of a0 a1 a2 a3 (payload (a0 ∷ a1 ∷ a2 ∷ a3 ∷ a4 ∷ a5 ∷ q)) ≡ a0 ∷ a1 ∷ a2 ∷ a3 ∷ a4 ∷ a5 ∷ q
unfolding packet_of sealed bytes_of payload right_sum
remade a0 a1 a2 a3 a4 a5 q h4 h5 l r =
    let lt : length (take (a4 + 256 * a5) q) ≡ a4 + 256 * a5 = length-take-le (a4 + 256 * a5) q (omega arith) in
    let e4 : (a4 + 256 * a5) % 256 ≡ a4 = omega arith in
    let q5 : (a4 + 256 * a5) / 256 ≡ a5 = omega arith in
    let e5 : (a4 + 256 * a5) / 256 % 256 ≡ a5 = rw q5 (mod-eq_of_lt h5) in
    let k : 6 + (a4 + 256 * a5) ≡ suc (suc (suc (suc (suc (suc (a4 + 256 * a5)))))) = omega arith in
    let c : get_or q (a4 + 256 * a5) 0 ≡ checksum (a0 ∷ a1 ∷ a2 ∷ a3 ∷ a4 ∷ a5 ∷ take (a4 + 256 * a5) q) = eqb-true _ _ (rw k at r) in
    rw (lt, e4, e5, ← c) (ap {B = List ℕ} (λ t. a0 ∷ a1 ∷ a2 ∷ a3 ∷ a4 ∷ a5 ∷ t) (sym (tail_split q (a4 + 256 * a5) l)))

-- a whole packet with a right checksum is the packet of its own fields and payload
pub packet_remade : (p : List ℕ) → Bytes p → IsPacket p → right_sum p ≡ true → packet_of (type_of p) (cmd1_of p) (cmd2_of p) (flags_of p) (payload p) ≡ p
packet_remade [] b i r = absurd (omega (arith, i.least))
packet_remade (a0 ∷ []) b i r = absurd (omega (arith, i.least))
packet_remade (a0 ∷ a1 ∷ []) b i r = absurd (omega (arith, i.least))
packet_remade (a0 ∷ a1 ∷ a2 ∷ []) b i r = absurd (omega (arith, i.least))
packet_remade (a0 ∷ a1 ∷ a2 ∷ a3 ∷ []) b i r = absurd (omega (arith, i.least))
packet_remade (a0 ∷ a1 ∷ a2 ∷ a3 ∷ a4 ∷ []) b i r = absurd (omega (arith, i.least))
packet_remade (a0 ∷ a1 ∷ a2 ∷ a3 ∷ a4 ∷ a5 ∷ q) b i r = remade a0 a1 a2 a3 a4 a5 q b.1.1.1.1.0 b.1.1.1.1.1.0 (exact_size i) r
  where
    exact_size : IsPacket (a0 ∷ a1 ∷ a2 ∷ a3 ∷ a4 ∷ a5 ∷ q) → length q ≡ a4 + 256 * a5 + 1
    exact_size i = unfold size in omega (arith, i.exact)
