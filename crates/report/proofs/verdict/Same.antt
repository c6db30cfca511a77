-- Settings with the same values of every command are equal, and the derived equality compares those values.
use mathlib.Core.Path.{◌≡◌, refl, ap, sym, ◌∙◌, fun_ext}
use mathlib.Core.Bool.{Bool, true, false, not}
use mathlib.Core.List.{List, [], ◌∷◌}
use native.Mathlib.Omega.{arith}
use borrow.Author.Tests.{not-true, not-false}
use Rattle.std.proofs.lemmas.Grind.{common_steps}
use Rattle.std.proofs.lemmas.Bool.{and_from}
use Rattle.packet.proofs.Cases.{true_and_left, true_and_right}
use Rattle.command.specs.Table.{table}
use Rattle.command.specs.Settings.{values_of, settings_of}
use Rattle.command.specs.declared.settings.Settings.{Settings}
use Rattle.command.specs.declared.table.Command.{Command}
use Rattle.command.specs.Data.{same_list}
use Rattle.command.specs.contracts.settings.SettingsPartialEq.TheImpl as derived
use Rattle.command.proofs.TableLaws.{each}
use Rattle.command.proofs.DataLaws.{list_true, list_refl}
use Rattle.report.specs.Report.{every, same_settings}

abbrev Every : (Command → Type 0) → List Command → Type 0
Every P [] = Unit {0}
Every P (c ∷ cs) = P c × Every P cs

every_true : (f : Command → Bool) (cs : List Command) → every f cs ≡ true → Every (λ c. f c ≡ true) cs
unfolding every
every_true f [] h = tt
every_true f (c ∷ cs) h = (true_and_left (f c) (every f cs) h, every_true f cs (true_and_right (f c) (every f cs) h))

every_all : (f : Command → Bool) → ((c : Command) → f c ≡ true) → (cs : List Command) → every f cs ≡ true
unfolding every
every_all f h [] = refl
every_all f h (c ∷ cs) = and_from (f c) (every f cs) (h c) (every_all f h cs)

pub settings_true : (a b : Settings) → same_settings a b ≡ true → a ≡ b
unfolding same_settings
settings_true a b h = ap settings_of (fun_ext equal)
  where
    e : Every (λ c. same_list (values_of c a) (values_of c b) ≡ true) table
    e = every_true (λ c. same_list (values_of c a) (values_of c b)) table h

    equal : (c : Command) → values_of c a ≡ values_of c b
    equal c = list_true (values_of c a) (values_of c b)
        (each (λ c. same_list (values_of c a) (values_of c b) ≡ true)
        (e.0, e.1.0, e.1.1.0, e.1.1.1.0, e.1.1.1.1.0, e.1.1.1.1.1.0, e.1.1.1.1.1.1.0, e.1.1.1.1.1.1.1.0, e.1.1.1.1.1.1.1.1.0) c)

pub settings_refl : (a : Settings) → same_settings a a ≡ true
unfolding same_settings
settings_refl a = every_all (λ c. same_list (values_of c a) (values_of c a)) (λ c. list_refl (values_of c a)) table

-- what `==` of settings answers
eq_is : (a b : Settings) → (derived.eq-value).it a b ≡ same_settings a b
unfolding same_list same_settings every
eq_is a b = grind (arith, common_steps)

-- and `!=`
module _ (a b : Settings) {r : Bool} (e : r ≡ not ((derived.eq-value).it a b)) where
  pub ne_true : r ≡ true → same_settings a b ≡ false
  ne_true h = sym (eq_is a b) ∙ not-true _ (sym e ∙ h)

  pub ne_false : r ≡ false → same_settings a b ≡ true
  ne_false h = sym (eq_is a b) ∙ not-false _ (sym e ∙ h)
