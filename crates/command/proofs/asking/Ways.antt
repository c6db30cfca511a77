-- The ways that the call that carries out goes: a refusal, or what it carries out; and when the kept items are the same.
use Prim.Native.Nat.{ℕ, ◌<◌, ◌≤◌}
use mathlib.Core.Path.{◌≡◌, refl, ap, sym, ◌∙◌}
use mathlib.Core.Logic.{◌↔◌}
use mathlib.Core.Bool.{Bool, true, false, ◌&&◌}
use mathlib.Core.List.{List}
use Rattle.std.specs.Prelude.{Option, None, Some}
use Rattle.std.proofs.lemmas.Bool.{cond_both, and_from}
use lib.Dec.{eqb, ltb}
use lib.ListN.{length}
use borrow.Author.Tests.{ltb-true, ltb-false, eq-eqb, eqb-true}
use Rattle.packet.proofs.Cases.{true_and_left, true_and_right, never}
use Rattle.command.specs.Controller.{in_rule}
use Rattle.command.specs.Ruling.{forged, Items, items_of, items_kept, same_command, same_items}
use Rattle.command.specs.Data.{same_list}
use Rattle.command.specs.Asking.{Carrying, refused, carries, carry_call}
use Rattle.command.specs.Demand1.{OutOfRule}
use Rattle.command.specs.declared.controller.Controller.{Controller}
use Rattle.command.specs.declared.ruling.JudgementRecord.{JudgementRecord}
use Rattle.command.proofs.data.Laws.{list_true, list_refl}
use Rattle.command.proofs.Refusals.{controller_out}

-- a test of four parts
pub all_of_four : (a b c d : Bool) → (a && b && c && d) ≡ true → (a ≡ true) × (b ≡ true) × (c ≡ true) × (d ≡ true)
all_of_four a b c d h =
    let abc = true_and_left (a && b && c) d h in
    let ab = true_and_left (a && b) c abc in
    (true_and_left a b ab, true_and_right a b ab, true_and_right (a && b) c abc, true_and_right (a && b && c) d h)

-- The same kept items.

command_self : (c : Option (ℕ × ℕ)) → same_command c c ≡ true
command_self None = refl
command_self (Some c) = and_from _ _ (eq-eqb c.0 c.0 refl) (eq-eqb c.1 c.1 refl)

pub same_self : (i : Items) → same_items i i ≡ true
unfolding same_items
same_self i = rw (eq-eqb i.mode i.mode refl, command_self i.command, eq-eqb i.count i.count refl, list_refl i.held)

same_command_lem : (x y : Option (ℕ × ℕ)) → same_command x y ≡ true → x ≡ y
same_command_lem None None h = refl
same_command_lem None (Some d) h = never h
same_command_lem (Some c) None h = never h
same_command_lem (Some c) (Some d) h =
    let a : c.0 ≡ d.0 = eqb-true c.0 d.0 (true_and_left _ (eqb c.1 d.1) h) in
    let b : c.1 ≡ d.1 = eqb-true c.1 d.1 (true_and_right (eqb c.0 d.0) _ h) in
    ap Some (pair_eq a b)
  where
    pair_eq : c.0 ≡ d.0 → c.1 ≡ d.1 → c ≡ d
    pair_eq a b = λ i. (a i, b i)

items_eq : {a b : Items} → a.mode ≡ b.mode → a.command ≡ b.command → a.count ≡ b.count → a.held ≡ b.held → a ≡ b
items_eq e f g h = λ i. record { mode = e i; command = f i; count = g i; held = h i }

pub same_exactly : (a b : Items) → (same_items a b ≡ true) ↔ (a ≡ b)
unfolding same_items
same_exactly a b = (
  λ h.
      let s =
      all_of_four (eqb a.mode b.mode) (same_command a.command b.command) (eqb a.count b.count) (same_list a.held b.held) h in
      items_eq (eqb-true a.mode b.mode s.0) (same_command_lem a.command b.command s.1) (eqb-true a.count b.count s.2)
      (list_true a.held b.held s.3),
  λ e. rw e (same_self b),
)

other_items : (a b : Items) → same_items a b ≡ false → a ≡ b → ⊥
other_items a b h e = never (sym h ∙ (same_exactly a b).1 e)

-- a controller that 3 lets pass
pub let_pass : (c : Controller) → in_rule c ≡ true → OutOfRule c → ⊥
let_pass c h o = never (sym ((controller_out c).1 o) ∙ h)

-- The call.
module _ (c : Controller) (j : JudgementRecord) (out : List ℕ) where
  pub carry_ways : (P : Carrying → Type 0)
      → (length out < 64 → P (refused 1 c out))
      → (64 ≤ length out → OutOfRule c → P (refused 3 c out))
      → (64 ≤ length out → (OutOfRule c → ⊥) → forged j ≡ true → P (refused 2 c out))
      → (64 ≤ length out → (OutOfRule c → ⊥) → forged j ≡ false → (items_of c ≡ items_kept j → ⊥) → P (refused 4 c out))
      → (64 ≤ length out → (OutOfRule c → ⊥) → forged j ≡ false → items_of c ≡ items_kept j → P (carries c j out))
      → P (carry_call c j out)
  unfolding carry_call
  carry_ways P short outside bad stale good =
      cond_both (ltb (length out) 64) _ _ P
      (λ l. short (ltb-true (length out) 64 l))
      (λ l.
      let n = ltb-false (length out) 64 l in
      cond_both (in_rule c) _ _ P
      (λ r.
      cond_both (forged j) _ _ P
      (λ f. bad n (let_pass c r) f)
      (λ f.
      cond_both (same_items (items_of c) (items_kept j)) _ _ P
      (λ s. good n (let_pass c r) f ((same_exactly (items_of c) (items_kept j)).0 s))
      (λ s. stale n (let_pass c r) f (other_items (items_of c) (items_kept j) s))))
      (λ r. outside n ((controller_out c).0 r)))
