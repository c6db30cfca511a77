-- Responses as they are written: the bytes stored, and the packet that they are.
use Rattle.std.proofs.Common.{◌≡◌, ℕ, ◌+◌, ◌*◌, ◌/◌, ◌%◌, ◌<◌, ◌≤◌, true, ◌⊎◌, List, [], ◌∷◌, ◌++◌, length, set, take, drop, sym, refl, ap, ◌∙◌, inl, inr, arith, eq-eqb, length-append, take_at}
use Rattle.std.proofs.lemmas.List.{get_or_at}
use lib.Seq.{sets}
use Rattle.packet.specs.Number.{bytes_of}
use Rattle.packet.specs.Packet.{sum}
use Rattle.packet.specs.Stream.{size}
use Rattle.packet.proofs.BytesLaws.{sets_append, sets_front}
use Rattle.packet.proofs.StreamLaws.{IsPacket}
use Rattle.packet.specs.Writer.{written}
use Rattle.dlpc200.specs.Packet.{cmd1_of, checksum, right_sum, front, packet_of}
use Rattle.dlpc200.specs.States.{shown_of, data_of}
use Rattle.dlpc200.specs.Response.{response_type, response_data, response}
use Rattle.dlpc200.specs.declared.table.Command.{Command}
use Rattle.dlpc200.specs.declared.status.Faults.{Faults}
use Rattle.dlpc200.specs.declared.states.States.{States}
use Rattle.std.specs.Prelude.{Option, None, Some, Result, Ok, Err}
use Rattle.dlpc200.specs.Playing.{judged, answer_to}

-- the bytes of a packet, stored at the start of a buffer, the last of them being its checksum
pub stored : (out : List ℕ) (kind : ℕ) (d : List ℕ) {s : ℕ} → length (front kind d ++ (s ∷ [])) ≤ length out → s ≡ checksum (front kind d)
    → sets out 0 (front kind d ++ (s ∷ [])) ≡ written (packet_of kind d) out
unfolding written packet_of
stored out kind d {s} l e = sets_front (front kind d ++ (s ∷ [])) out l ∙ ap (λ (x : ℕ). (front kind d ++ (x ∷ [])) ++ drop (length (front kind d ++ (x ∷ []))) out) e

-- those of a packet of fewer than 256 bytes of data, stored piece after piece
pub stored_pieces : (out : List ℕ) (kind : ℕ) (d : List ℕ) {s : ℕ} → length d < 256 → length d + 7 ≤ length out → s ≡ (length d + sum d) % 256
    → set (sets (sets out 0 (kind ∷ 0xAA ∷ 0x00 ∷ 0x00 ∷ length d ∷ 0x00 ∷ [])) 6 d) (6 + length d) s ≡ written (packet_of kind d) out
unfolding checksum bytes_of sum
stored_pieces out kind d {s} h l e =
    let b : List ℕ = kind ∷ 0xAA ∷ 0x00 ∷ 0x00 ∷ length d ∷ 0x00 ∷ [] in
    let joined : set (sets (sets out 0 b) 6 d) (6 + length d) s ≡ sets out 0 ((b ++ d) ++ (s ∷ [])) =
    let place : 0 + length (b ++ d) ≡ 6 + length d = omega (arith, length-append b d) in
    ap (λ l. set l (6 + length d) s) (sets_append b d out 0) ∙ rw place at (sets_append (b ++ d) (s ∷ []) out 0) in
    let head : b ++ d ≡ front kind d =
    let low : length d % 256 ≡ length d = omega arith in let high : length d / 256 % 256 ≡ 0 = omega arith in rw (low, high) in
    let last : s ≡ checksum (front kind d) = omega (arith, e) in
    let room : length (front kind d ++ (s ∷ [])) ≤ length out = omega (arith, l, length-append (front kind d) (s ∷ []), ap length head, length-append b d) in
    joined ∙ ap (λ (x : List ℕ). sets out 0 (x ++ (s ∷ []))) head ∙ stored out kind d room last

pub length_packet : (kind : ℕ) (d : List ℕ) → length (packet_of kind d) ≡ 7 + length d
unfolding packet_of bytes_of
length_packet kind d = omega (arith, length-append d (checksum (front kind d) ∷ []))

-- Every response is one whole packet with a right checksum.

pub record Whole (p : List ℕ) : Type 0 where
  pub packet : IsPacket p
  pub right : right_sum p ≡ true

whole_packet : (n : ℕ) (d : List ℕ) → length d < 256 → Whole (packet_of n d)
unfolding packet_of bytes_of size right_sum
whole_packet n d h =
    let s : List ℕ = checksum (front n d) ∷ [] in
    let said : length d % 256 + 256 * (length d / 256 % 256) ≡ length d = omega arith in
    let place : length (front n d) ≡ 6 + length d = omega arith in
    record {
      packet = record { least = omega (arith, length-append d s); exact = omega (arith, said, length-append d s) };
      right =
          eq-eqb _ _
          (rw said
          (get_or_at (front n d) (checksum (front n d)) [] 0 (6 + length d) place ∙ sym (ap checksum (take_at (front n d) s (6 + length d) place))));
    }

-- the two status bytes, or those and a state
two_or_three : (s : States) (j : Result Command Faults) → (length (response_data s j) ≡ 2) ⊎ (length (response_data s j) ≡ 3)
two_or_three s (Err f) = inl refl
two_or_three s (Ok c) = shown (shown_of s c)
  where
    shown : (v : Option ℕ) → let d = 0x00 ∷ 0x00 ∷ data_of v in (length d ≡ 2) ⊎ (length d ≡ 3)
    shown None = inl refl
    shown (Some v) = inr refl

pub response_whole : (s : States) (p : List ℕ) → Whole (answer_to s p)
unfolding answer_to response
response_whole s p = whole_packet (response_type (cmd1_of p)) (response_data s (judged p)) (omega (arith, two_or_three s (judged p)))

-- It has 9 bytes, or 10 with a state.
pub response_length : (s : States) (n : ℕ) (j : Result Command Faults) → let m = length (packet_of n (response_data s j)) in (m ≡ 9) ⊎ (m ≡ 10)
response_length s n j =
    let l = length_packet n (response_data s j) in
    elim (two_or_three s j) [ inl e ↦ inl (omega (arith, e, l)) | inr e ↦ inr (omega (arith, e, l)) ]

-- It is a read response for CMD1 04 and a write response otherwise, and carries AA, 00, 00 as CMD2 to CMD4, whatever came.
pub response_front : (s : States) (p : List ℕ) → take 4 (answer_to s p) ≡ response_type (cmd1_of p) ∷ 0xAA ∷ 0x00 ∷ 0x00 ∷ []
unfolding answer_to response packet_of
response_front s p = refl
