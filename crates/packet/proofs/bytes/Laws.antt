-- Runs of stores, and sums of bytes.
use Rattle.std.proofs.Common.{◌≡◌, ℕ, suc, ◌+◌, ◌-◌, ◌%◌, ◌<◌, ◌≤◌, min, List, [], ◌∷◌, ◌++◌, length, get_or, take, drop, set, sym, refl, ap, ◌∙◌, append_assoc, append-nil, add-zero, zero-add, add-one, arith, take-append-drop, drop_of_length-le, length-take-le, drop-cons, get_or-take}
use Rattle.std.specs.List.{fold}
use lib.ListN.{get_or-append}
use lib.Seq.{sets, sets-eq, length-sets, set_out}
use Rattle.packet.specs.Packet.{sum}
use Rattle.packet.proofs.Cases.{lt_cases}

-- a run of stores after another is one run
pub sets_append : (xs ys l : List ℕ) (i : ℕ) → sets (sets l i xs) (i + length xs) ys ≡ sets l i (xs ++ ys)
sets_append [] ys l i = rw (add-zero i)
sets_append (x ∷ xs) ys l i =
    let e : i + suc (length xs) ≡ suc i + length xs = omega arith in
    rw e (sets_append xs ys (set l i x) (suc i))

-- past the end nothing is stored
pub sets_past : (xs l : List ℕ) (i : ℕ) → length l ≤ i → sets l i xs ≡ l
sets_past [] l i h = refl
sets_past (x ∷ xs) l i h = rw (set_out l i x h) (sets_past xs l (suc i) (omega arith))

-- a run of which the first n elements fill the list to its end, or are all, stores no others
pub sets_clipped : (xs l : List ℕ) (i n : ℕ) → i ≤ length l → n ≡ min (length xs) (length l - i) → sets l i xs ≡ take i l ++ (take n xs ++ drop (i + n) l)
sets_clipped xs l i n h e =
    let n' : length (take n xs) ≡ n = length-take-le n xs (omega (arith, e)) in
    let parts : sets (sets l i (take n xs)) (i + length (take n xs)) (drop n xs) ≡ sets l i xs =
    sets_append (take n xs) (drop n xs) l i ∙ ap (sets l i) (take-append-drop n xs) in
    let past : sets (sets l i (take n xs)) (i + length (take n xs)) (drop n xs) ≡ sets l i (take n xs) =
    lt_cases n (length xs)
    (λ c. sets_past (drop n xs) (sets l i (take n xs)) (i + length (take n xs)) (omega (arith, e, n', length-sets l i (take n xs))))
    (λ c. ap (sets (sets l i (take n xs)) (i + length (take n xs))) (drop_of_length-le xs {i = n} c)) in
    sym parts ∙ past ∙ rw n' at (sets-eq (take n xs) l i (omega (arith, e, n'))) ∙ append_assoc (take i l) (take n xs) (drop (i + n) l)

-- a run from the start that covers the whole list leaves its own first elements
pub sets_whole : (xs l : List ℕ) → length l ≤ length xs → sets l 0 xs ≡ take (length l) xs
sets_whole xs l h =
    let n : length (take (length l) xs) ≡ length l = length-take-le (length l) xs h in
    let a : sets (sets l 0 (take (length l) xs)) (0 + length (take (length l) xs)) (drop (length l) xs) ≡ sets l 0 xs =
    sets_append (take (length l) xs) (drop (length l) xs) l 0 ∙ ap (sets l 0) (take-append-drop (length l) xs) in
    let p : sets (sets l 0 (take (length l) xs)) (0 + length (take (length l) xs)) (drop (length l) xs) ≡ sets l 0 (take (length l) xs) =
    sets_past (drop (length l) xs) (sets l 0 (take (length l) xs)) (0 + length (take (length l) xs)) (omega (arith, length-sets l 0 (take (length l) xs))) in
    let d : drop (0 + length (take (length l) xs)) l ≡ [] = drop_of_length-le l {i = 0 + length (take (length l) xs)} (omega arith) in
    sym a ∙ p ∙ sets-eq (take (length l) xs) l 0 (omega arith) ∙ rw d (append-nil (take (length l) xs))

pub sum_append : (a b : List ℕ) → sum (a ++ b) ≡ sum a + sum b
unfolding sum
sum_append [] b = sym (zero-add (sum b))
sum_append (x ∷ a) b = let i = sum_append a b in omega arith

-- one store of a run
pub sets_more : (l xs : List ℕ) (at i : ℕ) → i < length xs
    → sets l (at + i) (drop i xs) ≡ sets (set l (at + i) (get_or xs i 0)) (at + (i + 1)) (drop (i + 1) xs)
sets_more l xs at i h =
    let e : suc (at + i) ≡ at + suc i = omega arith in
    rw (drop-cons xs i 0 h, add-one i, ← e)

-- one byte of a running sum
pub sum_more : (xs : List ℕ) (s i : ℕ) → i < length xs
    → ((s + get_or xs i 0) % 256 + sum (drop (i + 1) xs)) % 256 ≡ (s + sum (drop i xs)) % 256
unfolding sum
sum_more xs s i h = rw (drop-cons xs i 0 h, add-one i) (omega arith)

-- a running sum, byte by byte in a byte
pub fold_sum : (n : ℕ) (b : List ℕ) → n < 256 → fold (λ s x. (s + x) % 256) n b ≡ (n + sum b) % 256
unfolding sum
fold_sum n [] h = omega arith
fold_sum n (x ∷ b) h = fold_sum ((n + x) % 256) b (omega arith) ∙ omega arith

-- what a buffer holds after bytes were stored at its start
pub sets_front : (xs l : List ℕ) → length xs ≤ length l → sets l 0 xs ≡ xs ++ drop (length xs) l
sets_front xs l h = rw zero-add at (sets-eq xs l 0 (omega arith))

-- one of them, where it found room
pub sets_get : (xs l : List ℕ) (i : ℕ) → i < length xs → i < length l → get_or (sets l 0 xs) i 0 ≡ get_or xs i 0
sets_get xs l i h k =
    lt_cases (length l) (length xs)
    (λ n. rw (sets_whole xs l (omega arith)) (get_or-take (length l) xs i 0 k))
    (λ n. rw (sets_front xs l n) (get_or-append xs (drop (length xs) l) 0 i h))
