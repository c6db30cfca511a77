-- The codes that hold, of rows that say whether a code holds and the code.
use Rattle.std.proofs.Common.{◌≡◌, ℕ, ◌+◌, ◌<◌, Bool, List, [], ◌∷◌, ◌++◌, length, drop, get_or, drop-cons, add-one}
use Rattle.command.specs.Faults.{list_if}

abbrev pub listed : List (Bool × ℕ) → List ℕ
listed [] = []
listed (r ∷ rows) = list_if r.0 r.1 (listed rows)

-- the codes from row n on are that row's, if it holds, and then those of the rows after it
pub listed_next : (l : List ℕ) (rows : List (Bool × ℕ)) (n : ℕ) (r : Bool × ℕ) {all : List ℕ} → n < length rows → l ++ listed (drop n rows) ≡ all
    → l ++ list_if (get_or rows n r).0 (get_or rows n r).1 (listed (drop (n + 1) rows)) ≡ all
listed_next l rows n r h e = rw add-one (rw (drop-cons rows n r h) at e)
