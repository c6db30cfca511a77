-- Readings step by step, the four ends of a record, and what the code reads of one at its place.
use Prim.Native.Nat.{ℕ, suc, ◌+◌, ◌*◌, ◌<◌, ◌≤◌}
use mathlib.Core.Path.{◌≡◌, ap, sym, ◌∙◌}
use mathlib.Core.Bool.{Bool, true, false, and-false}
use mathlib.Core.List.{List}
use Rattle.std.specs.Prelude.{Option, None, Some, Result, Ok, Err}
use Rattle.std.specs.Result.{IsErrAnd}
use native.Mathlib.Omega.{arith}
use lib.Dec.{leb}
use borrow.Author.Tests.{le-leb, lt-leb, eq-eqb, ne_eqb, eqb-true, leb-true}
use lib.ListN.{length, take, drop, length-drop}
use lib.Seq.{drop-drop, drop-cons, length-take-le}
use Rattle.std.proofs.lemmas.List.{take-take, drop-take}
use Rattle.packet.specs.Number.{value_of}
use Rattle.report.specs.Record.{Out, Bad, Good, ◌>>=◌, ◌>>◌, need, without, sized, reading}
use Rattle.report.specs.Inner.{RecordIs}

-- One step of a reading: it goes on, or it stops.
pub run : {A B : Type 0} (m : Out A) (f : A → Out B) {a : A} {o : Out B} → m ≡ Good a → f a ≡ o → (m >>= f) ≡ o
unfolding ◌>>=◌
run m f {a} {o} e h = ap (λ x. x >>= f) e ∙ h

pub stop : {A B : Type 0} (m : Out A) (f : A → Out B) {n p : ℕ} → m ≡ Bad n p → (m >>= f) ≡ Bad n p
unfolding ◌>>=◌
stop m f {n} {p} e = ap (λ x. x >>= f) e

pub pass : {B : Type 0} (t : Bool) (n p : ℕ) (m : Out B) {o : Out B} → t ≡ true → m ≡ o → (need t n p >> m) ≡ o
unfolding ◌>>=◌ need
pass t n p m {o} e h = rw e h

pub fail : {B : Type 0} (t : Bool) (n p : ℕ) (m : Out B) → t ≡ false → (need t n p >> m) ≡ Bad n p
unfolding ◌>>=◌ need
fail t n p m e = rw e

pub pass_none : {B : Type 0} (o : Option ℕ) (n p : ℕ) (m : Out B) {x : Out B} → o ≡ None → m ≡ x → (without o n p >> m) ≡ x
unfolding ◌>>=◌ without
pass_none o n p m {x} e h = rw e h

pub fail_some : {B : Type 0} (o : Option ℕ) (n p : ℕ) (m : Out B) {k : ℕ} → o ≡ Some k → (without o n p >> m) ≡ Bad n (p + k)
unfolding ◌>>=◌ without
fail_some o n p m {k} e = rw e

-- what `?` hands on is the refusal that came
pub handed_on : {A E : Type 0} (r : Result A E) (e : E) → IsErrAnd r (λ y. y ≡ e) → r ≡ Err e
handed_on (Ok a) e h = absurd h
handed_on (Err y) e h = ap Err h

-- The four ends: 11, 12, 13, and the record.
module _ (kind at : ℕ) (b : List ℕ) where
  pub short_body : length b < 4 + value_of (take 2 b) → reading kind at b ≡ Bad 11 at
  unfolding reading need ◌>>=◌
  short_body h = rw (lt-leb (4 + value_of (take 2 b)) (length b) h, and-false (leb 4 (length b)))

  module _ (l : 4 + value_of (take 2 b) ≤ length b) where
    pub other_kind : (value_of (take 2 (drop 2 b)) ≡ kind → ⊥) → reading kind at b ≡ Bad 12 at
    unfolding reading need ◌>>=◌
    other_kind k = rw (le-leb 4 (length b) (omega arith), le-leb (4 + value_of (take 2 b)) (length b) l, ne_eqb (value_of (take 2 (drop 2 b))) kind k)

    module _ (k : value_of (take 2 (drop 2 b)) ≡ kind) where
      pub wrong_size : sized kind (value_of (take 2 b)) ≡ false → reading kind at b ≡ Bad 13 at
      unfolding reading need ◌>>=◌
      wrong_size s = rw (le-leb 4 (length b) (omega arith), le-leb (4 + value_of (take 2 b)) (length b) l, eq-eqb (value_of (take 2 (drop 2 b))) kind k, s)

      pub whole_record : sized kind (value_of (take 2 b)) ≡ true
          → reading kind at b ≡ Good (record { body = take (value_of (take 2 b)) (drop 4 b); left = drop (4 + value_of (take 2 b)) b })
      unfolding reading need ◌>>=◌
      whole_record s = rw (le-leb 4 (length b) (omega arith), le-leb (4 + value_of (take 2 b)) (length b) l, eq-eqb (value_of (take 2 (drop 2 b))) kind k, s)

-- The number in four bytes.
pub value_four : (r : List ℕ) (at : ℕ) → at + 4 ≤ length r
    → value_of (take 4 (drop at r)) ≡ value_of (take 2 (drop at r)) + 65536 * value_of (take 2 (drop (at + 2) r))
unfolding value_of
value_four r at h =
    let two : at + 2 ≡ suc (suc at) = omega arith in
    rw (
      two,
      drop-cons r at 0 (omega arith),
      drop-cons r (suc at) 0 (omega arith),
      drop-cons r (suc (suc at)) 0 (omega arith),
      drop-cons r (suc (suc (suc at))) 0 (omega arith),
    ) (omega arith)

-- What the code reads at a place: each end of it.
module _ (r : List ℕ) (kind at : ℕ) (fits : at ≤ length r) where
  pub no_header : length r < at + 4 → reading kind at (drop at r) ≡ Bad 11 at
  no_header h = short_body kind at (drop at r) (omega (arith, length-drop at r))

  module _ {n k : ℕ} (is : n ≡ value_of (take 2 (drop at r))) (of : k ≡ value_of (take 2 (drop (at + 2) r))) where
    pub no_body : length r < at + 4 + n → reading kind at (drop at r) ≡ Bad 11 at
    no_body h = short_body kind at (drop at r) (omega (arith, length-drop at r))

    kind_is : value_of (take 2 (drop 2 (drop at r))) ≡ k
    kind_is = ap (λ (x : List ℕ). value_of (take 2 x)) (drop-drop 2 at r) ∙ sym of

    module _ (l : at + 4 + n ≤ length r) where
      whole : 4 + value_of (take 2 (drop at r)) ≤ length (drop at r)
      whole = omega (arith, length-drop at r)

      pub not_due : (k ≡ kind → ⊥) → reading kind at (drop at r) ≡ Bad 12 at
      not_due h = other_kind kind at (drop at r) whole (λ x. h (sym kind_is ∙ x))

      module _ (h : k ≡ kind) where
        pub not_sized : sized kind n ≡ false → reading kind at (drop at r) ≡ Bad 13 at
        not_sized s = wrong_size kind at (drop at r) whole (kind_is ∙ h) (ap (sized kind) (sym is) ∙ s)

        pub record_is : sized kind n ≡ true → RecordIs r kind at n
        record_is s =
            let far : at + (4 + n) ≡ at + 4 + n = omega arith in
            record {
              reads =
                  whole_record kind at (drop at r) whole (kind_is ∙ h) (ap (sized kind) (sym is) ∙ s)
                  ∙ rw (sym is, drop-drop 4 at r, drop-drop (4 + n) at r, far);
              within = l;
              right = s;
            }

-- its size
module _ {r : List ℕ} {at n : ℕ} where
  pub size_head : RecordIs r 1 at n → n ≡ 4
  size_head f = eqb-true n 4 f.right

  pub size_trial : RecordIs r 2 at n → 4 ≤ n
  size_trial f = leb-true 4 n f.right

  pub size_winner : RecordIs r 3 at n → n ≡ 2
  size_winner f = eqb-true n 2 f.right

-- its body, of which the front is a number and the back is what follows
module _ {r : List ℕ} {kind at n : ℕ} (f : RecordIs r kind at n) where
  pub body_long : length (take n (drop (at + 4) r)) ≡ n
  body_long = length-take-le n (drop (at + 4) r) (omega (arith, length-drop (at + 4) r, f.within))

  pub body_parts : (w m : ℕ) → n ≡ w + m
      → (take w (take n (drop (at + 4) r)) ≡ take w (drop (at + 4) r)) × (drop w (take n (drop (at + 4) r)) ≡ take m (drop (at + 4 + w) r))
  body_parts w m e = (
    rw e (take-take w (w + m) (drop (at + 4) r) (omega arith)),
    rw e (drop-take w m (drop (at + 4) r) ∙ ap (take m) (drop-drop w (at + 4) r)),
  )
