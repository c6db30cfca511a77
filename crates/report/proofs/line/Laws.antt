-- Numbers in decimal, digit by digit, and runs of stores that make a line.
use Prim.Native.Nat.{ℕ, zero, suc, ◌+◌, ◌-◌, ◌^◌, ◌/◌, ◌%◌, ◌≤◌, ◌<◌}
use mathlib.Core.Path.{◌≡◌, ap, sym, ◌∙◌}
use mathlib.Core.List.{List, [], ◌∷◌, ◌++◌, append_assoc}
use native.Mathlib.Omega.{arith}
use borrow.Author.Tests.{lt-ltb, le-ltb}
use lib.ListN.{length, drop, set, length-append, length-drop}
use lib.Seq.{sets}
use Rattle.std.specs.Fmt.{decimal as written_decimal}
use Rattle.std.proofs.lemmas.List.{drop-set}
use Rattle.std.proofs.lemmas.Fmt.{decimal_from_appends, length-decimal-le, length-decimal-le_succ}
use Rattle.packet.specs.Writer.{written}
use Rattle.packet.proofs.Cases.{lt_cases}
use Rattle.packet.proofs.BytesLaws.{sets_append, sets_front}
use Rattle.report.specs.Line.{text_of, digit, digits, decimal, sentence}

-- The decimal of the rule is what the library's `{}` writes.
decimal_is : (n : ℕ) → n < 2 ^ 64 → decimal n ≡ written_decimal n
unfolding decimal digits
decimal_is n h =
    decimal_from_appends digits
    (record { one = λ k n l. rw (lt-ltb n 10 l); more = λ k n l. rw (le-ltb n 10 l) }) (suc n) n h (omega (arith, length-decimal-le_succ n h))

-- Fuel that is enough does not show.
digits_fuel : (m k n : ℕ) → n < m → n < k → digits m n ≡ digits k n
unfolding digits
digits_fuel (suc m) (suc k) n a b =
    lt_cases n 10 (λ h. rw (lt-ltb n 10 h))
    (λ h. rw (le-ltb n 10 h) (ap (λ (x : List ℕ). x ++ (digit (n % 10) ∷ [])) (digits_fuel m k (n / 10) (omega arith) (omega arith))))
digits_fuel zero k n a b = absurd (omega arith)
digits_fuel (suc m) zero n a b = absurd (omega arith)

pub decimal_one : (n : ℕ) → n < 10 → decimal n ≡ digit n ∷ []
unfolding decimal digits
decimal_one n h = rw (lt-ltb n 10 h)

pub decimal_more : (n : ℕ) → 10 ≤ n → decimal n ≡ decimal (n / 10) ++ (digit (n % 10) ∷ [])
unfolding decimal digits
decimal_more n h =
    rw (le-ltb n 10 h) (ap (λ (x : List ℕ). x ++ (digit (n % 10) ∷ [])) (digits_fuel n (suc (n / 10)) (n / 10) (omega arith) (omega arith)))

pub decimal_few : (n : ℕ) → n < 2 ^ 64 → length (decimal n) ≤ 20
decimal_few n h = rw (decimal_is n h) (length-decimal-le 20 n (omega arith) (omega arith) h)

decimal_some : (n : ℕ) → 1 ≤ length (decimal n)
decimal_some n =
    lt_cases n 10 (λ h. rw (decimal_one n h) (omega arith))
    (λ h. rw (decimal_more n h, length-append (decimal (n / 10)) (digit (n % 10) ∷ [])) (omega arith))

-- A number that is not below 10 has two digits or more.
pub decimal_two : (n : ℕ) → 10 ≤ n → 2 ≤ length (decimal n)
decimal_two n h =
    rw (decimal_more n h, length-append (decimal (n / 10)) (digit (n % 10) ∷ [])) (omega (arith, decimal_some (n / 10)))

-- Digits that stand in an array from its end on: so many digits of n are those of what is left, and those that stand after a place
module _ (n left at : ℕ) (bytes : List ℕ) (e : decimal n ≡ decimal left ++ drop (at + 1) bytes) (h : at < length bytes) where
  -- there is room for one more
  pub digits_room : length (decimal n) ≤ length bytes → 10 ≤ left → 1 ≤ at
  digits_room few l =
      omega (arith, few, ap length e, length-append (decimal left) (drop (at + 1) bytes), length-drop (at + 1) bytes, decimal_two left l)

  pub digits_more : 10 ≤ left → 1 ≤ at → decimal n ≡ decimal (left / 10) ++ drop (at - 1 + 1) (set bytes at (digit (left % 10)))
  digits_more l o =
      let k : at - 1 + 1 ≡ at = omega arith in
      e
      ∙ ap (λ (x : List ℕ). x ++ drop (at + 1) bytes) (decimal_more left l)
      ∙ append_assoc (decimal (left / 10)) (digit (left % 10) ∷ []) (drop (at + 1) bytes)
      ∙ rw (k, drop-set bytes at (digit (left % 10)) h)

  pub digits_last : left < 10 → drop at (set bytes at (digit left)) ≡ decimal n
  digits_last l = drop-set bytes at (digit left) h ∙ sym (e ∙ rw (decimal_one left l))

-- Text put at a place, and more after it: one run of stores.
pub put_two : (out name text : List ℕ) (at : ℕ) {after end : ℕ} {one two given : List ℕ} → (after ≡ at + length name) × (one ≡ sets out at name) → given ≡ text
    → (end ≡ after + length given) × (two ≡ sets one after given)
    → (end ≡ at + length (name ++ text)) × (two ≡ sets out at (name ++ text))
put_two out name text at p g q = (
  q.0 ∙ rw (p.0, g, length-append name text) (omega arith),
  q.1 ∙ rw (p.0, p.1, g) (sets_append name text out at),
)

-- Two numbers, each after its name, and the end of the line.
module _ (first second : List ℕ) (m n : ℕ) where
  abbrev front : List ℕ
  front = first ++ decimal m

  abbrev all : List ℕ
  all = (front ++ (second ++ decimal n)) ++ text_of "\n"

  sentence_joined : all ≡ sentence first m second n
  unfolding sentence
  sentence_joined = simp append_assoc

  pub put_sentence : (out : List ℕ) {end : ℕ} {last : List ℕ} → length first + length second ≤ 22 → length (decimal m) ≤ 20 → length (decimal n) ≤ 20 → 64 ≤ length out
      → (end ≡ 0 + length all) × (last ≡ sets out 0 all)
      → (end ≡ length (sentence first m second n)) × (last ≡ written (sentence first m second n) out)
  unfolding written text_of
  put_sentence out w k l room p =
      let size : length all ≤ 63 = simp length-append (omega arith) in (
        p.0 ∙ rw sentence_joined (omega arith),
        p.1 ∙ sets_front all out (omega arith) ∙ rw sentence_joined,
      )

-- what was written at the start of a buffer is as long as the buffer at most
pub written_within : (b out : List ℕ) {n : ℕ} {last : List ℕ} → (n ≡ length b) × (last ≡ written b out) → n ≤ length last
unfolding written
written_within b out h = omega (arith, h.0, ap length h.1, length-append b (drop (length b) out))
