-- `supported` meets its contract.
use Rattle.std.proofs.Common.{◌≡◌, ℕ, ◌+◌, ◌-◌, ◌<◌, ◌≤◌, Bool, true, false, ◌||◌, List, length, get_or, take, refl, sym, ap, ◌∙◌, arith, eq-eqb}
use mathlib.Core.Bool.{or-false}
use Rattle.std.specs.List.{list_any}
use Rattle.std.proofs.lemmas.Bool.{ne_eqb}
use Rattle.std.proofs.lemmas.List.Folds.{list_any_at, list_any_more}
use Rattle.std.proofs.lemmas.List.Sorted.{IsPermutation-reverse, list_any-IsPermutation}
use Rattle.command.specs.Rules.{listed, pairs}
use Rattle.command.specs.declared.rules.Resolution.{Resolution}
use Rattle.command.specs.declared.rules.TheConstants.{SUPPORTED_RESOLUTIONS}
use Rattle.command.proofs.rules.Pairs.{is_at, packed_alike, table_listed}
use Rattle.command.proofs.rules.supported.Goals as goal

-- the table in the order in which it is tried has the same resolutions
in_table : (x y : ℕ) → list_any (is_at x y) SUPPORTED_RESOLUTIONS ≡ listed x y pairs
in_table x y = list_any-IsPermutation (is_at x y) SUPPORTED_RESOLUTIONS _ (IsPermutation-reverse SUPPORTED_RESOLUTIONS) ∙ table_listed x y

-- none is left to try
none_left : (p : Resolution → Bool) (rs : List Resolution) (k : ℕ) → k ≤ 0 → list_any p (take k rs) ≡ list_any p rs → false ≡ list_any p rs
none_left p rs k h e = let z : k ≡ 0 = omega (arith, h) in sym (ap (λ n. list_any p (take n rs)) z) ∙ e

module _ (p : Resolution → Bool) (rs : List Resolution) (d : Resolution) (k : ℕ) (h : 0 < k) (l : k ≤ length rs) where
  -- the resolution before a place is not the one: it is among those before
  further : p (get_or rs (k - 1) d) ≡ false → list_any p (take k rs) ≡ list_any p rs → list_any p (take (k - 1) rs) ≡ list_any p rs
  further f e =
      let s : k ≡ k - 1 + 1 = omega (arith, h) in
      sym (or-false (list_any p (take (k - 1) rs)))
      ∙ ap (λ b. list_any p (take (k - 1) rs) || b) (sym f)
      ∙ sym (list_any_more p rs (k - 1) d (omega (arith, h, l)))
      ∙ ap (λ n. list_any p (take n rs)) (sym s)
      ∙ e

  -- or it is
  found : p (get_or rs (k - 1) d) ≡ true → list_any p rs ≡ true
  found = list_any_at p rs (k - 1) d (omega (arith, h, l))

pub loop-k-init : goal.loop-k-init
loop-k-init c = refl

pub loop-k-preserved : goal.loop-k-preserved
loop-k-preserved c =
    let a = c.args in
    let f = sym (packed_alike a.x a.y _ _ _ c.packed-wanted.ensures c.packed.ensures) ∙ ne_eqb _ _ c.if-wanted-packed.false in
    further (is_at a.x a.y) SUPPORTED_RESOLUTIONS _ c.loop-k.k (omega (arith, c.loop-k-test.true)) c.loop-k.auto.k f c.loop-k.invariant

pub returns-then-wanted-packed : goal.returns-then-wanted-packed
returns-then-wanted-packed c =
    let a = c.args in
    let f = sym (packed_alike a.x a.y _ _ _ c.packed-wanted.ensures c.packed.ensures) ∙ eq-eqb _ _ c.if-wanted-packed.true in
    sym (found (is_at a.x a.y) SUPPORTED_RESOLUTIONS _ c.loop-k.k (omega (arith, c.loop-k-test.true)) c.loop-k.auto.k f) ∙ in_table a.x a.y

pub returns : goal.returns
returns c =
    let a = c.args in
    none_left (is_at a.x a.y) SUPPORTED_RESOLUTIONS c.loop-k.k (omega (arith, c.loop-k-test.false)) c.loop-k.invariant ∙ in_table a.x a.y
