-- Laws of the table, and of settings as lists of values.
use Rattle.std.specs.Prelude.{Option, Some}
use Prim.Native.Nat.{ℕ, zero, suc, ◌≤◌}
use mathlib.Core.Path.{◌≡◌, refl, ap, sym, ◌∙◌}
use mathlib.Core.Bool.{Bool, true, false, cond}
use mathlib.Core.List.{List, [], ◌∷◌}
use native.Mathlib.Omega.{arith}
use lib.Dec.{eqb}
use borrow.Author.Tests.{eqb-true}
use lib.ListN.{length, get_or}
use Rattle.packet.specs.Packet.{sum}
use Rattle.packet.proofs.Cases.{bool_cases, true_and_left, true_and_right}
use Rattle.command.specs.Data.{Fit}
use Rattle.command.specs.Table.{table, cmd1_for, cmd2_for, has_code, find, command_of, same, layout, size_of}
use Rattle.command.specs.Settings.{values_of, settings_of}
use Rattle.command.specs.declared.table.Command.{Command}
use Rattle.command.specs.declared.table.Command.TheVariants.{DisplayMode, TestPattern, LedCurrent, StaticColour, DisplaySetting, VideoInput, VideoMode, PatternSequence, SequenceRun}

-- what holds of each command of the table holds of all
pub each : (P : Command → Type 0)
    → P DisplayMode × P TestPattern × P LedCurrent × P StaticColour × P DisplaySetting × P VideoInput × P VideoMode × P PatternSequence × P SequenceRun
    → (c : Command)
    → P c
each P h DisplayMode = h.0
each P h TestPattern = h.1
each P h LedCurrent = h.2
each P h StaticColour = h.3
each P h DisplaySetting = h.4
each P h VideoInput = h.5
each P h VideoMode = h.6
each P h PatternSequence = h.7
each P h SequenceRun = h.8

-- a command is found by its bytes
pub found : (c : Command) → command_of (cmd1_for c) (cmd2_for c) ≡ Some c
unfolding command_of find
found = each (λ c. command_of (cmd1_for c) (cmd2_for c) ≡ Some c) (refl, refl, refl, refl, refl, refl, refl, refl, refl)

has_code_lem : (a b : ℕ) (c : Command) → has_code a b c ≡ true → (a ≡ cmd1_for c) × (b ≡ cmd2_for c)
has_code_lem a b c h = (eqb-true _ _ (true_and_left _ _ h), eqb-true _ _ (true_and_right (eqb a (cmd1_for c)) _ h))

-- where the first command has other bytes, the search goes on
pub find_later : (d : Command) (cs : List Command) (a b : ℕ) (f : Option Command) → has_code a b d ≡ false → find a b (d ∷ cs) ≡ f → find a b cs ≡ f
unfolding find
find_later d cs a b f e h = sym (ap (λ (t : Bool). cond t (Some d) (find a b cs)) e) ∙ h

-- one command is found
pub same_known : (x y : Command) → Some x ≡ Some y → x ≡ y
same_known x y e = cc

-- what is found has those bytes
find_code : (cs : List Command) (a b : ℕ) (c : Command) → find a b cs ≡ Some c → (a ≡ cmd1_for c) × (b ≡ cmd2_for c)
unfolding find
find_code [] a b c h = let z : ◌≡◌ {A = ℕ} 0 1 = cc in absurd (omega arith)
find_code (d ∷ cs) a b c h =
    bool_cases (has_code a b d)
    (λ e. rw (same_known d c (sym (ap (λ (t : Bool). cond t (Some d) (find a b cs)) e) ∙ h)) at (has_code_lem a b d e))
    (λ e. find_code cs a b c (find_later d cs a b (Some c) e h))

pub known_code : (a b : ℕ) (c : Command) → command_of a b ≡ Some c → (a ≡ cmd1_for c) × (b ≡ cmd2_for c)
unfolding command_of
known_code a b c h = find_code table a b c h

pub same_eq : (a b : Command) → same a b ≡ true → a ≡ b
same_eq a b h = let e = has_code_lem (cmd1_for a) (cmd2_for a) b h in cc (found a, found b)

-- the data of every command are short
pub size_small : (c : Command) → size_of c ≤ 17
unfolding size_of sum
size_small = each (λ c. size_of c ≤ 17) (omega arith)

abbrev pub tab : ℕ → (ℕ → ℕ) → List ℕ
tab zero f = []
tab (suc n) f = f 0 ∷ tab n (λ i. f (suc i))

-- a list of n numbers is its n elements
pub full : (n : ℕ) (l : List ℕ) → length l ≡ n → tab n (λ i. get_or l i 0) ≡ l
full zero [] h = refl
full zero (x ∷ l) h = absurd (omega arith)
full (suc n) [] h = absurd (omega arith)
full (suc n) (x ∷ l) h = ap {B = List ℕ} (λ t. x ∷ t) (full n l (omega arith))

pub fit_length : (ws vs : List ℕ) → Fit ws vs → length vs ≡ length ws
fit_length [] [] h = refl
fit_length [] (v ∷ vs) h = absurd h
fit_length (w ∷ ws) [] h = absurd h
fit_length (w ∷ ws) (v ∷ vs) h = ap suc (fit_length ws vs h.1)

-- settings made from lists of values have those values
pub values_settings : (c : Command) (f : Command → List ℕ) → length (f c) ≡ length (layout c) → values_of c (settings_of f) ≡ f c
values_settings c f h =
    each (λ c. values_of c (settings_of f) ≡ tab (length (layout c)) (λ i. get_or (f c) i 0)) (refl, refl, refl, refl, refl, refl, refl, refl, refl) c
    ∙ full (length (layout c)) (f c) h
