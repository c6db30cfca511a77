-- Which resolutions are listed: the order of the table does not matter, and two are one where they are packed alike.
use mathlib.Core.Path.{◌≡◌, refl, sym, ap, ◌∙◌}
use mathlib.Core.List.{List, [], ◌∷◌, map, reverse}
use mathlib.Core.Bool.{Bool, true, false, ◌&&◌, ◌||◌, or-true}
use Prim.Native.Nat.{ℕ, zero, suc, ◌≤◌, ◌<◌, ◌-◌, ◌/◌, ◌%◌}
use native.Mathlib.Nat.{le_of_suc-le-suc, not-suc-le-zero}
use native.Mathlib.Omega.{arith}
use lib.Dec.{eqb}
use lib.ListN.{length, take, get_or}
use borrow.Author.Tests.{eqb-true, eq-eqb, ne_eqb}
use Rattle.std.specs.List.{list_any}
use Rattle.std.proofs.lemmas.Bool.Decides.{nat_tests}
use Rattle.packet.proofs.Cases.{bool_cases, true_and_left, true_and_right, true_or_cases, never}
use Rattle.command.specs.Rules.{listed, pairs}
use Rattle.command.specs.declared.rules.Resolution.{Resolution}
use Rattle.command.specs.declared.rules.TheConstants.{SUPPORTED_RESOLUTIONS}

-- every pair of the first list is in the second
unfoldable pub all_listed : List (ℕ × ℕ) → List (ℕ × ℕ) → Bool
all_listed [] qs = true
all_listed (p ∷ ps) qs = listed p.0 p.1 qs && all_listed ps qs

listed_too : (ps qs : List (ℕ × ℕ)) → all_listed ps qs ≡ true → (x y : ℕ) → listed x y ps ≡ true → listed x y qs ≡ true
unfolding all_listed
listed_too [] qs h x y e = never e
listed_too (p ∷ ps) qs h x y e =
    true_or_cases (eqb x p.0 && eqb y p.1) (listed x y ps)
    (λ same.
    rw (eqb-true x p.0 (true_and_left _ (eqb y p.1) same), eqb-true y p.1 (true_and_right (eqb x p.0) _ same)) (true_and_left _ (all_listed ps qs) h))
    (λ later. listed_too ps qs (true_and_right (listed p.0 p.1 qs) _ h) x y later)
    e

-- the order in which pairs are listed does not matter
same_listed : (ps qs : List (ℕ × ℕ)) → all_listed ps qs ≡ true → all_listed qs ps ≡ true → (x y : ℕ) → listed x y ps ≡ listed x y qs
same_listed ps qs h i x y =
    bool_cases (listed x y ps)
    (λ e. e ∙ sym (listed_too ps qs h x y e))
    (λ e. bool_cases (listed x y qs) (λ f. never (sym e ∙ listed_too qs ps i x y f)) (λ f. e ∙ sym f))

-- X and Y are those of this resolution
abbrev pub is_at : ℕ → ℕ → Resolution → Bool
is_at x y r = eqb x r.x && eqb y r.y

-- the table has the pairs of document 01, in the guide's order
pub table_listed : (x y : ℕ) → list_any (is_at x y) (reverse SUPPORTED_RESOLUTIONS) ≡ listed x y pairs
unfolding all_listed
table_listed = same_listed (map (λ r. (r.x, r.y)) (reverse SUPPORTED_RESOLUTIONS)) pairs refl refl

-- what one comparison of packed numbers tells
pub packed_alike : (x y : ℕ) (r : Resolution) (m n : ℕ) → (m / 65536 ≡ x) × (m % 65536 ≡ y) → (n / 65536 ≡ r.x) × (n % 65536 ≡ r.y)
    → eqb m n ≡ is_at x y r
packed_alike x y r m n p q = grind (arith, nat_tests)

-- where they are equal, and where they differ
pub same : (x y : ℕ) (r : Resolution) (m n : ℕ) → (m / 65536 ≡ x) × (m % 65536 ≡ y) → (n / 65536 ≡ r.x) × (n % 65536 ≡ r.y) → m ≡ n → is_at x y r ≡ true
same x y r m n p q e = sym (packed_alike x y r m n p q) ∙ eq-eqb m n e

pub other : (x y : ℕ) (r : Resolution) (m n : ℕ) → (m / 65536 ≡ x) × (m % 65536 ≡ y) → (n / 65536 ≡ r.x) × (n % 65536 ≡ r.y) → (m ≡ n → ⊥)
    → is_at x y r ≡ false
other x y r m n p q d = sym (packed_alike x y r m n p q) ∙ ne_eqb m n d

-- the pairs of these resolutions
unfoldable pub entries : List Resolution → List (ℕ × ℕ)
entries = map (λ r. (r.x, r.y))

-- the resolution at a place
abbrev pub entry : List Resolution → ℕ → Resolution
entry rs k = get_or rs k (record { x = 0; y = 0 })

last_listed : (x y : ℕ) (rs : List Resolution) (k : ℕ) → k < length rs → is_at x y (entry rs k) ≡ true → listed x y (entries (take (suc k) rs)) ≡ true
unfolding entries
last_listed x y [] k h e = absurd (not-suc-le-zero h)
last_listed x y (r ∷ rs) zero h e = rw e
last_listed x y (r ∷ rs) (suc k) h e = ap (λ (b : Bool). is_at x y r || b) (last_listed x y rs k (le_of_suc-le-suc h) e) ∙ or-true (is_at x y r)

-- where the listed pairs are those of the first k of these, the last of the k is listed
pub found : (x y : ℕ) (rs : List Resolution) (k : ℕ) → (k ≤ length rs) × (listed x y pairs ≡ listed x y (entries (take k rs))) → 0 < k
    → is_at x y (entry rs (k - 1)) ≡ true → listed x y pairs ≡ true
found x y rs k l h e =
    let s : k ≡ suc (k - 1) = omega (arith, h) in
    l.1 ∙ ap (λ (n : ℕ). listed x y (entries (take n rs))) s ∙ last_listed x y rs (k - 1) (omega (arith, h, l.0)) e
