-- `count_in_limit` meets its contract: the product says what the division does.
use Prim.Native.Nat.{ℕ, zero, suc, ◌+◌, ◌*◌, ◌≤◌, ◌<◌}
use mathlib.Core.Path.{◌≡◌, sym, ◌∙◌}
use mathlib.Core.Logic.{◌↔◌}
use native.Mathlib.Nat.{le-div_iff_mul-le, mul-le-mul, suc-mul}
use native.Mathlib.Omega.{arith}
use lib.Dec.{leb}
use borrow.Author.Tests.{leb-true, leb-false, le-leb}
use Rattle.packet.proofs.Cases.{bool_cases}
use Rattle.command.specs.Rules.{most_patterns}
use Rattle.command.proofs.rules.count_in_limit.Goals as goal

-- what the product is held to
abbrev room : ℕ → ℕ
room depth = 95 + depth

by_product : (depth count : ℕ) → 0 < depth → (count * depth ≤ room depth) ↔ (count ≤ most_patterns depth)
by_product depth zero h = (λ _. omega arith, λ _. omega arith)
by_product depth (suc n) h =
    let last = le-div_iff_mul-le {k = depth} {x = n} {y = 95} h in
    let more = suc-mul n depth in
    (λ l. let m = last.1 (omega arith) in omega arith, λ l. let m = last.0 (omega arith) in omega arith)

tested : (depth count : ℕ) → 0 < depth → leb (count * depth) (room depth) ≡ leb count (most_patterns depth)
tested depth count h =
    let most = most_patterns depth in
    let limit = by_product depth count h in
    bool_cases (leb (count * depth) (room depth))
    (λ t. t ∙ sym (le-leb count most (limit.0 (leb-true (count * depth) (room depth) t))))
    (λ t.
    let over = leb-false (count * depth) (room depth) t in
    bool_cases (leb count most) (λ e. let l = limit.1 (leb-true count most e) in absurd (omega (arith, l, over))) (λ e. t ∙ sym e))

-- two bytes multiplied stay below 2^16
product : (m n : ℕ) → m < 256 → n < 256 → m * n < 65536
product m n a b = let p = mul-le-mul {n₁ = m} {m₁ = n} {n₂ = 255} {m₂ = 255} (omega arith) (omega arith) in omega arith

pub overflow_mul-result : goal.overflow_mul-result
overflow_mul-result c = record { fits = omega (arith, product c.args.count c.args.depth c.ranges.count.fits c.ranges.depth.fits) }

pub returns : goal.returns
returns c h = tested c.args.depth c.args.count h
