-- Records of the tuning report: a refusal or a value, and the record that is due.
use Rattle.std.specs.Prelude.{ℕ, ◌+◌, Bool, true, false, cond, ◌&&◌, List, eqb, leb, length, take, drop, Option, None, Some}
use Rattle.packet.specs.Number.{value_of}

infixl 20 ◌>>=◌
infixl 20 ◌>>◌
-- a refusal, its number and its place, or a value
pub data Out (A : Type 0) : Type 0 where
  Bad : ℕ → ℕ → Out A
  Good : A → Out A

-- the first refusal ends the reading
unfoldable pub ◌>>=◌ : {A B : Type 0} → Out A → (A → Out B) → Out B
Bad n p >>= f = Bad n p
Good a >>= f = f a

abbrev pub ◌>>◌ : {B : Type 0} → Out Bool → Out B → Out B
m >> k = m >>= λ u. k

-- refused with this number and place where the test fails
unfoldable pub need : Bool → ℕ → ℕ → Out Bool
need true n p = Good true
need false n p = Bad n p

-- refused with this number where something offends, at its place, which is counted from p
unfoldable pub without : Option ℕ → ℕ → ℕ → Out Bool
without None n p = Good true
without (Some k) n p = Bad n (p + k)

-- a record's body, and the bytes after the record
pub record Piece : Type 0 where
  pub body : List ℕ
  pub left : List ℕ

-- the body length that a record of this kind has: 4 (kind 1), not under 4 (kind 2), 2 (kind 3)
abbrev pub sized : ℕ → ℕ → Bool
sized kind n = cond (eqb kind 1) (eqb n 4) (cond (eqb kind 2) (leb 4 n) (cond (eqb kind 3) (eqb n 2) true))

-- Records: body length (2 bytes), kind (2 bytes), body. The one that is due is of this kind, at this place, and b is left:
-- 11 where b is fewer bytes than its header or body needs, 12 where it is of another kind, 13 where its body has another length.
unfoldable pub reading : ℕ → ℕ → List ℕ → Out Piece
reading kind at b = do
  need (leb 4 (length b) && leb (4 + value_of (take 2 b)) (length b)) 11 at
  need (eqb (value_of (take 2 (drop 2 b))) kind) 12 at
  need (sized kind (value_of (take 2 b))) 13 at
  Good (record { body = take (value_of (take 2 b)) (drop 4 b); left = drop (4 + value_of (take 2 b)) b })
