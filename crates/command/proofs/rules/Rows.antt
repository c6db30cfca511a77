-- A row of the guide, a `match` on the values that it prints, and rows one after another: what the last arm knows of the value, and which row is the first that is wrong; and what `&&` makes of tests.
use Prim.Native.Nat.{ℕ, zero, suc, ◌+◌, ◌≤◌, ◌<◌}
use mathlib.Core.Path.{◌≡◌, refl, sym, ◌∙◌}
use mathlib.Core.Bool.{Bool, true, false, not, ◌&&◌, and-false}
use mathlib.Core.List.{List, [], ◌∷◌}
use native.Mathlib.Omega.{arith}
use lib.Dec.{eqb, leb}
use borrow.Author.Tests.{eqb-false, ne_eqb, le-leb, lt-leb, not-true, not-false}
use Rattle.std.proofs.lemmas.Bool.{and_from}
use Rattle.packet.proofs.Cases.{lt_cases, false_or_left, false_or_right}
use Rattle.command.specs.Rules.{one_of, within}

-- the value is none of those that have an arm of their own
abbrev pub Rest : Type 0 → List ℕ → ℕ → Type 0
Rest N [] v = N
Rest N (k ∷ ks) v = Rest (N × (v ≡ k → ⊥)) ks v

passed : (N : Type 0) (ks : List ℕ) (v : ℕ) → Rest N ks v → (one_of v ks ≡ false) × N
passed N [] v h = (refl, h)
passed N (k ∷ ks) v h = let p = passed (N × (v ≡ k → ⊥)) ks v h in (rw (ne_eqb v k p.1.1) p.0, p.1.0)

pub none : (ks : List ℕ) (v : ℕ) → Rest Unit ks v → one_of v ks ≡ false
none ks v h = (passed Unit ks v h).0

-- so many values, from this one on
abbrev pub span : ℕ → ℕ → List ℕ
span k zero = []
span k (suc n) = k ∷ span (suc k) n

after : (k n v : ℕ) → one_of v (span k n) ≡ false → k ≤ v → k + n ≤ v
after k zero v h l = omega (arith, l)
after k (suc n) v h l =
    let d = eqb-false v k (false_or_left (eqb v k) _ h) in
    let m = after (suc k) n v (false_or_right (eqb v k) _ h) (omega (arith, l, d)) in omega (arith, m)

-- with an arm for each value from 0 to a limit it is over the limit
pub over : (limit v : ℕ) → Rest Unit (span 0 (suc limit)) v → leb v limit ≡ false
over limit v h = lt-leb v limit (let l = after 0 (suc limit) v (none (span 0 (suc limit)) v h) (omega arith) in omega (arith, l))

-- a range has the values from its first to its last
pub inside : (first last v : ℕ) → first ≤ v → v ≤ last → within first last v ≡ true
inside first last v l m = and_from _ _ (le-leb first v l) (le-leb v last m)

pub below : (first last v : ℕ) → v < first → within first last v ≡ false
below first last v h = rw (lt-leb first v h)

pub beyond : (first last v : ℕ) → last < v → within first last v ≡ false
beyond first last v h = rw (lt-leb v last h, and-false)

-- with an arm for each value of a range it is outside the range
pub outside : (first n v : ℕ) → Rest Unit (span first (suc n)) v → within first (first + n) v ≡ false
outside first n v h =
    lt_cases v first (below first (first + n) v)
    (λ l. beyond first (first + n) v (let m = after first (suc n) v (none (span first (suc n)) v h) l in omega (arith, m)))

-- A check goes from row to row, until a row's test fails: t is the test, A the row's rule.
pub wrong_row : {t A : Bool} → t ≡ A → not t ≡ true → A ≡ false
wrong_row {t} e f = sym e ∙ not-true t f

pub right_row : {t A : Bool} → t ≡ A → not t ≡ false → A ≡ true
right_row {t} e f = sym e ∙ not-false t f

-- Where one test follows another by `&&`: t is what the tests before say, whose rule is A, and f what comes out. Where t holds, the next test decides, by its rule B;
pub goes_on : {t f A B : Bool} → t ≡ A → t ≡ true → f ≡ B → f ≡ (A && B)
goes_on e h g = rw (sym e ∙ h) g

-- where t fails, it stands
pub ends_there : {t f A : Bool} (B : Bool) → t ≡ A → t ≡ false → f ≡ t → f ≡ (A && B)
ends_there B e h g = rw (sym e ∙ h) (g ∙ h)
