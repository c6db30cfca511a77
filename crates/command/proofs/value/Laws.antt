-- Laws of a command with its values.
use Prim.Native.Nat.{ℕ}
use mathlib.Core.Path.{◌≡◌, refl, subst, ◌∙◌}
use mathlib.Core.List.{List}
use lib.ListN.{length, get_or}
use denote.Enum.Declared.{tag_of}
use Rattle.command.specs.contracts.table.Command.{the_type as command-type}
use Rattle.command.specs.contracts.value.Value.{the_type as value-type}
use Rattle.command.specs.Table.{layout}
use Rattle.command.specs.Settings.{values_of}
use Rattle.command.specs.declared.settings.Settings.{Settings}
use Rattle.command.specs.declared.table.Command.{Command}
use Rattle.command.proofs.table.Laws.{each, tab, full}
use Rattle.command.specs.Value.{command_in, values_in, value_from, data_in, data_of}
use Rattle.command.specs.declared.value.Value.{Value}
use Rattle.command.specs.declared.value.Value.TheVariants as value

-- a value made of a command and a list has that command, and those values where the list has its length; and every value is made so
pub command_from : (c : Command) (v : List ℕ) → command_in (value_from c v) ≡ c
command_from c v = each (λ c. command_in (value_from c v) ≡ c) (refl, refl, refl, refl, refl, refl, refl, refl, refl) c

pub values_from : (c : Command) (v : List ℕ) → length v ≡ length (layout c) → values_in (value_from c v) ≡ v
values_from c v h =
    each (λ c. values_in (value_from c v) ≡ tab (length (layout c)) (λ i. get_or v i 0)) (refl, refl, refl, refl, refl, refl, refl, refl, refl) c
    ∙ full (length (layout c)) v h

pub value_from_lem : (v : Value) → value_from (command_in v) (values_in v) ≡ v
value_from_lem (value.DisplayMode m) = refl
value_from_lem (value.TestPattern p) = refl
value_from_lem (value.LedCurrent q) = refl
value_from_lem (value.StaticColour q) = refl
value_from_lem (value.DisplaySetting q) = refl
value_from_lem (value.VideoInput q) = refl
value_from_lem (value.VideoMode q) = refl
value_from_lem (value.PatternSequence q) = refl
value_from_lem (value.SequenceRun r) = refl

-- the value of a setting, as a write carries it
pub data_from : (c : Command) (s : Settings) → data_in (value_from c (values_of c s)) ≡ data_of c s
unfolding data_in data_of
data_from c s =
    each (λ c. data_in (value_from c (values_of c s)) ≡ data_of c s) (refl, refl, refl, refl, refl, refl, refl, refl, refl) c

-- a match on a value goes by its command
pub tag_value : (v : Value) → tag_of value-type v ≡ tag_of command-type (command_in v)
tag_value v =
    subst (λ (w : Value). tag_of value-type w ≡ tag_of command-type (command_in w)) (value_from_lem v)
    (each (λ c. tag_of value-type (value_from c (values_in v)) ≡ tag_of command-type (command_in (value_from c (values_in v)))) (refl, refl, refl, refl, refl, refl, refl, refl, refl) (command_in v))
