-- Laws of data laid out in fields: what is cited of split_all and join_all, and of the code's forms of them.
use Prim.Native.Nat.{ℕ, suc, ◌<◌, ◌≤◌, zero, ◌+◌, ◌*◌, ◌^◌}
use mathlib.Core.Path.{◌≡◌, refl, ap, ap₂, sym, ◌∙◌}
use mathlib.Core.List.{List, [], ◌∷◌, ◌++◌}
use mathlib.Core.Bool.{true}
use native.Mathlib.Nat.{add-zero}
use native.Mathlib.Omega.{arith}
use lib.Dec.{eqb}
use borrow.Author.Tests.{eq-eqb, eqb-true}
use lib.ListN.{length, take, drop, length-append, take-append-drop, length-drop, get_or}
use lib.Seq.{take_at, drop_at, length-take-le, drop-drop, get_or-drop}
use Rattle.packet.specs.Number.{value_of, bytes_of, Bytes}
use Rattle.packet.specs.Packet.{sum}
use Rattle.std.proofs.lemmas.Bool.{and_from}
use Rattle.packet.proofs.Cases.{true_and_left, true_and_right}
use Rattle.packet.proofs.NumberLaws.{bytes_take, bytes_drop, value_bytes, length_bytes, bytes_value, value_bound}
use Rattle.command.specs.Data.{split_all, join_all, Fit, same_list}
use Rattle.command.specs.Inner.{total, number_at, split_from}
use Rattle.command.specs.Table.{layout, size_of}
use Rattle.command.specs.declared.table.Command.{Command}

-- as many numbers as fields
pub split_length : (ws d : List ℕ) → length (split_all ws d) ≡ length ws
unfolding split_all
split_length [] d = refl
split_length (w ∷ ws) d = ap suc (split_length ws (drop w d))

-- numbers that fit are read back from their bytes
pub split_join : (ws vs : List ℕ) → Fit ws vs → split_all ws (join_all ws vs) ≡ vs
unfolding split_all join_all
split_join [] [] h = refl
split_join [] (v ∷ vs) h = absurd h
split_join (w ∷ ws) [] h = absurd h
split_join (w ∷ ws) (v ∷ vs) h =
    rw (take_at (bytes_of w v) (join_all ws vs) w (length_bytes w v), drop_at (bytes_of w v) (join_all ws vs) w (length_bytes w v))
    (ap₂ {C = List ℕ} (λ a b. a ∷ b) (value_bytes w v h.0) (split_join ws vs h.1))

-- the size of data that are put together
pub length_join : (ws vs : List ℕ) → length vs ≡ length ws → length (join_all ws vs) ≡ sum ws
unfolding join_all sum
length_join [] vs h = refl
length_join (w ∷ ws) [] h = absurd (omega arith)
length_join (w ∷ ws) (v ∷ vs) h = simp (length-append, length_bytes, length_join ws vs (omega arith))

-- what is read fits its field
pub fit_split : (ws d : List ℕ) → Bytes d → sum ws ≤ length d → Fit ws (split_all ws d)
unfolding split_all sum
fit_split [] d h l = tt
fit_split (w ∷ ws) d h l =
    let e : length (take w d) ≡ w = length-take-le w d (omega arith) in
    (rw e at (value_bound (take w d) (bytes_take w d h)), fit_split ws (drop w d) (bytes_drop w d h) (simp length-drop (omega arith)))

-- numbers that fit, where the last field gets another width
pub fit_last : (ws : List ℕ) (w u : ℕ) (vs : List ℕ) → (get_or vs (length ws) 0 < 256 ^ w → get_or vs (length ws) 0 < 256 ^ u) → Fit (ws ++ w ∷ []) vs → Fit (ws ++ u ∷ []) vs
fit_last [] w u [] h f = absurd f
fit_last [] w u (v ∷ []) h f = (h f.0, tt)
fit_last [] w u (v ∷ x ∷ vs) h f = absurd f.1
fit_last (y ∷ ws) w u [] h f = absurd f
fit_last (y ∷ ws) w u (v ∷ vs) h f = (f.0, fit_last ws w u vs h f.1)

-- data of the right size are made again from the numbers that were read
pub join_split : (ws d : List ℕ) → Bytes d → length d ≡ sum ws → join_all ws (split_all ws d) ≡ d
unfolding split_all join_all sum
join_split [] [] h l = refl
join_split [] (x ∷ d) h l = absurd (omega arith)
join_split (w ∷ ws) d h l =
    let e : length (take w d) ≡ w = length-take-le w d (omega arith) in
    let f : bytes_of w (value_of (take w d)) ≡ take w d = rw e at (bytes_value (take w d) (bytes_take w d h)) in
    rw (f, join_split ws (drop w d) (bytes_drop w d h) (simp length-drop (omega arith))) (take-append-drop w d)

-- the size by the widths is the table's
pub size_layout : (c : Command) → total (layout c) ≡ size_of c
unfolding size_of sum
size_layout c = all (layout c)
  where
    all : (ws : List ℕ) → total ws ≡ sum ws
    all [] = refl
    all (w ∷ ws) = ap (λ n. w + n) (all ws)

-- the first of the bytes, then the others
value_next : (w : ℕ) (d : List ℕ) → value_of (take (suc w) d) ≡ get_or d 0 0 + 256 * value_of (take w (drop 1 d))
unfolding value_of
value_next zero [] = refl
value_next (suc w) [] = refl
value_next w (b ∷ d) = refl

-- what byte_at, word_at and long_at read
pub number_at_lem : (w : ℕ) (d : List ℕ) (at : ℕ) → number_at w d at ≡ value_of (take w (drop at d))
unfolding value_of
number_at_lem zero d at = refl
number_at_lem (suc w) d at = rw (number_at_lem w d (at + 1)) (sym (value_next w (drop at d) ∙ simp (get_or-drop, add-zero, drop-drop)))

-- the fields of d, by their places
pub split_places : (ws : List ℕ) (at : ℕ) (d : List ℕ) → split_from at ws d ≡ split_all ws (drop at d)
unfolding split_all
split_places [] at d = refl
split_places (w ∷ ws) at d = ap₂ {C = List ℕ} (λ a b. a ∷ b) (number_at_lem w d at) (split_places ws (at + w) d ∙ ap (split_all ws) (sym (drop-drop w at d)))

-- The same numbers in the same order are the same list.

pub list_true : (a b : List ℕ) → same_list a b ≡ true → a ≡ b
unfolding same_list
list_true [] [] h = refl
list_true [] (y ∷ b) h = cc
list_true (x ∷ a) [] h = cc
list_true (x ∷ a) (y ∷ b) h =
    ap₂ {C = List ℕ} (λ u t. u ∷ t) (eqb-true x y (true_and_left (eqb x y) (same_list a b) h)) (list_true a b (true_and_right (eqb x y) (same_list a b) h))

pub list_refl : (a : List ℕ) → same_list a a ≡ true
unfolding same_list
list_refl [] = refl
list_refl (x ∷ a) = and_from (eqb x x) (same_list a a) (eq-eqb x x refl) (list_refl a)
