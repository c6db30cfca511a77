-- The numbers that the encoder and the standard list tell say their answer: no refusal has the number 0.
use mathlib.Core.Path.{◌≡◌, refl, ap, ◌∙◌}
use mathlib.Core.Bool.{Bool, true, false, cond}
use mathlib.Core.List.{List}
use Prim.Native.Nat.{ℕ}
use lib.Dec.{ltb}
use lib.ListN.{length}
use Rattle.std.proofs.lemmas.Bool.{cond_both}
use Rattle.command.specs.Rules.{allowed, settings_in_rule}
use Rattle.command.specs.Value.{command_in, values_in}
use Rattle.command.specs.Encoder.{Outcome, refusal_of, length_of, outcome_told, After, refused, encode_call, list_call}
use Rattle.command.specs.declared.settings.Settings.{Settings}
use Rattle.command.specs.declared.value.Value.{Value}
use Rattle.imjarlet.specs.Exports.{Emits}

abbrev pub Says : After → Type 0
Says x = outcome_told (refusal_of x.answer) (length_of x.answer) ≡ x.answer

-- the numbers of an answer that is that of x
pub emitted : (x : After) (answer : Outcome) {refusal size : ℕ} {output : List ℕ} → Says x → answer ≡ x.answer → (refusal ≡ refusal_of answer) × (size ≡ length_of answer)
    → output ≡ x.output → Emits x refusal size output
emitted x answer h a numbers o =
    let refused = numbers.0 ∙ ap refusal_of a in
    let count = numbers.1 ∙ ap length_of a in
    record { refused = refused; count = count; says = rw (refused, count) h; written = o }

pub encode_says : (v : Value) (out : List ℕ) → Says (encode_call v out)
unfolding encode_call
encode_says v out =
    cond_both (ltb (length out) 64) _ _ Says (λ _. refl) (λ _. cond_both (allowed (command_in v) (values_in v)) _ _ Says (λ _. refl) (λ _. refl))

pub list_says : (s : Settings) (out : List ℕ) → Says (list_call s out)
unfolding list_call
list_says s out = cond_both (ltb (length out) 128) _ _ Says (λ _. refl) (λ _. cond_both (settings_in_rule s) _ _ Says (λ _. refl) (λ _. refl))

pub unknown_says : (short : Bool) (out : List ℕ) → Says (refused (cond short 1 2) out)
unknown_says true out = refl
unknown_says false out = refl
