-- Case splits on tests, and on the order of two numbers. A name that begins with the value of an `and` or an `or`
-- is of what follows from that value; those of std (lemmas.Bool) go the other way, or give a sum.
use mathlib.Core.Logic.{⊎_elim}
use Rattle.std.proofs.Common.{◌≡◌, ℕ, ◌<◌, ◌≤◌, Bool, true, false, ◌&&◌, ◌||◌, refl}
use Rattle.std.proofs.lemmas.Bool.{false≢true, and_parts, or_parts, and_cases, or_cases, cases_lt}

-- the two values of a test
pub bool_cases : {P : Type 0} (b : Bool) → (b ≡ true → P) → (b ≡ false → P) → P
bool_cases true f g = f refl
bool_cases false f g = g refl

-- which no test has at once
pub never : {P : Type 0} → ◌≡◌ {A = Bool} false true → P
never h = absurd (false≢true h)

-- the two orders of numbers
pub lt_cases : {P : Type 0} (m n : ℕ) → (m < n → P) → (n ≤ m → P) → P
lt_cases m n f g = ⊎_elim f g (cases_lt m n)

-- the parts of a conjunction that holds, and of a disjunction that fails
pub true_and_left : (a b : Bool) → (a && b) ≡ true → a ≡ true
true_and_left a b h = (and_parts a b h).0

pub true_and_right : (a b : Bool) → (a && b) ≡ true → b ≡ true
true_and_right a b h = (and_parts a b h).1

pub false_or_left : (a b : Bool) → (a || b) ≡ false → a ≡ false
false_or_left a b h = (or_parts a b h).0

pub false_or_right : (a b : Bool) → (a || b) ≡ false → b ≡ false
false_or_right a b h = (or_parts a b h).1

-- which part of a disjunction holds, or of a conjunction fails
pub true_or_cases : {P : Type 0} (a b : Bool) → (a ≡ true → P) → (b ≡ true → P) → (a || b) ≡ true → P
true_or_cases a b f g h = ⊎_elim f g (or_cases a b h)

pub false_and_cases : {P : Type 0} (a b : Bool) → (a ≡ false → P) → (b ≡ false → P) → (a && b) ≡ false → P
false_and_cases a b f g h = ⊎_elim f g (and_cases a b h)
