-- The fields of a command's data, one after the other. "Several bytes to a number: least significant first."
use Rattle.std.specs.Prelude.{ℕ, ◌^◌, ◌<◌, Bool, true, false, ◌&&◌, List, [], ◌∷◌, ◌++◌, eqb, take, drop}
use Rattle.packet.specs.Number.{value_of, bytes_of}

-- the numbers that stand in d, by their widths in bytes
unfoldable pub split_all : List ℕ → List ℕ → List ℕ
split_all [] d = []
split_all (w ∷ ws) d = value_of (take w d) ∷ split_all ws (drop w d)

-- the bytes of the numbers, by their widths
unfoldable pub join_all : List ℕ → List ℕ → List ℕ
join_all [] vs = []
join_all (w ∷ ws) [] = []
join_all (w ∷ ws) (v ∷ vs) = bytes_of w v ++ join_all ws vs

-- the numbers fit their widths
abbrev pub Fit : List ℕ → List ℕ → Type 0
Fit [] [] = Unit {0}
Fit [] (v ∷ vs) = ⊥
Fit (w ∷ ws) [] = ⊥
Fit (w ∷ ws) (v ∷ vs) = (v < 256 ^ w) × Fit ws vs

-- the same numbers in the same order
unfoldable pub same_list : List ℕ → List ℕ → Bool
same_list [] [] = true
same_list [] (y ∷ ys) = false
same_list (x ∷ xs) [] = false
same_list (x ∷ xs) (y ∷ ys) = eqb x y && same_list xs ys
