-- The packets stand at their place: what is left of a report is its end, and so is each body with what follows it.
use Rattle.std.proofs.Common.{◌≡◌, ◌≤◌, ◌-◌, ℕ, List, length, take, drop, sym, ap, ap₂, ◌∙◌, arith, length-drop, drop-drop}
use Rattle.check_report.proofs.explain.shipping_of.Goals as goal

-- what stands behind the first bytes of a list's end is its end too
behind : (r xs : List ℕ) (k : ℕ) {ys : List ℕ} → (length xs ≤ length r) × (xs ≡ drop (length r - length xs) r) → k ≤ length xs → ys ≡ drop k xs
    → (length ys ≤ length r) × (ys ≡ drop (length r - length ys) r)
behind r xs k {ys} i l e =
    let less : length ys ≡ length xs - k = ap length e ∙ length-drop k xs in (
      omega (arith, less, i.0),
      e ∙ ap (drop k) i.1 ∙ drop-drop k (length r - length xs) r ∙ ap (λ (n : ℕ). drop n r) (omega (arith, less, i.0, l)),
    )

-- the first bytes of a list's end stand where that end begins
front : (r xs : List ℕ) (place : ℕ) {k : ℕ} {ys : List ℕ} → xs ≡ drop (length r - length xs) r → length r - length xs ≡ place → ys ≡ take k xs → length ys ≡ k
    → ys ≡ take (length ys) (drop place r)
front r xs place i p e l = e ∙ ap₂ (λ (n : ℕ) (b : List ℕ). take n b) (sym l) (i ∙ ap (λ (n : ℕ). drop n r) p)

pub returns-then-word-eq-SHIPPING-clause-at_place : goal.returns-then-word-eq-SHIPPING-clause-at_place
returns-then-word-eq-SHIPPING-clause-at_place c =
    let r = c.args.r.now in
    let body = c.in-Some.ensures.cases in
    let end = behind r c.loop-header.rest.now 4 c.loop-header.invariant (omega (arith, body.2)) body.1 in
    front r c.in-Some.body.now _ end.1 (omega (arith, end.0, body.2)) c.split_at.ensures.front c.split_at.ensures.front_len

pub loop-header-preserved : goal.loop-header-preserved
loop-header-preserved c =
    let r = c.args.r.now in
    let body = c.in-Some.ensures.cases in
    let end = behind r c.loop-header.rest.now 4 c.loop-header.invariant (omega (arith, body.2)) body.1 in
    behind r c.in-Some.body.now c.min.result end (omega (arith, c.min.ensures)) c.split_at.ensures.back
