-- Laws of numbers of several bytes.
use Rattle.std.proofs.Common.{◌≡◌, ℕ, zero, suc, ◌+◌, ◌*◌, ◌/◌, ◌%◌, ◌^◌, ◌<◌, ◌≤◌, List, [], ◌∷◌, ◌++◌, length, get_or, take, drop, refl, ap, add-one, arith, drop-cons}
use Rattle.packet.specs.Number.{value_of, bytes_of, Bytes}

pub bytes_append : (a b : List ℕ) → Bytes a → Bytes b → Bytes (a ++ b)
bytes_append [] b ha hb = hb
bytes_append (x ∷ a) b ha hb = (ha.0, bytes_append a b ha.1 hb)

pub bytes_take : (n : ℕ) (a : List ℕ) → Bytes a → Bytes (take n a)
bytes_take zero a h = tt
bytes_take (suc n) [] h = tt
bytes_take (suc n) (x ∷ a) h = (h.0, bytes_take n a h.1)

pub bytes_drop : (n : ℕ) (a : List ℕ) → Bytes a → Bytes (drop n a)
bytes_drop zero a h = h
bytes_drop (suc n) [] h = tt
bytes_drop (suc n) (x ∷ a) h = bytes_drop n a h.1

-- a list whose elements are all below 256, by index
pub bytes_at : (b : List ℕ) → ((i : ℕ) → get_or b i 0 < 256) → Bytes b
bytes_at [] h = tt
bytes_at (x ∷ b) h = (h 0, bytes_at b (λ i. h (suc i)))

pub byte_get : (b : List ℕ) (i : ℕ) → Bytes b → get_or b i 0 < 256
byte_get [] i h = omega arith
byte_get (x ∷ b) zero h = h.0
byte_get (x ∷ b) (suc i) h = byte_get b i h.1

pub value_bytes : (w v : ℕ) → v < 256 ^ w → value_of (bytes_of w v) ≡ v
unfolding value_of bytes_of
value_bytes zero v h = omega arith
value_bytes (suc w) v h =
    let i : value_of (bytes_of w (v / 256)) ≡ v / 256 = value_bytes w (v / 256) (omega arith) in
    omega arith

pub length_bytes : (w v : ℕ) → length (bytes_of w v) ≡ w
unfolding bytes_of
length_bytes zero v = refl
length_bytes (suc w) v = ap suc (length_bytes w (v / 256))

pub bytes_bytes : (w v : ℕ) → Bytes (bytes_of w v)
unfolding bytes_of
bytes_bytes zero v = tt
bytes_bytes (suc w) v = (omega arith, bytes_bytes w (v / 256))

pub bytes_value : (b : List ℕ) → Bytes b → bytes_of (length b) (value_of b) ≡ b
unfolding value_of bytes_of
bytes_value [] h = refl
bytes_value (x ∷ b) h =
    let l : x < 256 = h.0 in
    let q : (x + 256 * value_of b) / 256 ≡ value_of b = omega arith in
    let m : (x + 256 * value_of b) % 256 ≡ x = omega arith in
    rw (q, m) (ap {B = List ℕ} (λ t. x ∷ t) (bytes_value b h.1))

pub value_bound : (b : List ℕ) → Bytes b → value_of b < 256 ^ length b
unfolding value_of
value_bound [] h = omega arith
value_bound (x ∷ b) h =
    let i : value_of b < 256 ^ length b = value_bound b h.1 in
    let g : x + 256 * value_of b < 256 ^ suc (length b) = omega arith in
    g

-- the number in the two bytes at a place
pub value_two : (d : List ℕ) (at : ℕ) → at + 2 ≤ length d → value_of (take 2 (drop at d)) ≡ get_or d at 0 + 256 * get_or d (at + 1) 0
unfolding value_of
value_two d at h = rw (drop-cons d at 0 (omega arith), drop-cons d (suc at) 0 (omega arith), add-one) (omega arith)
