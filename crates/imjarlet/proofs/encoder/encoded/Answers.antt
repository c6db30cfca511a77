-- `encoded` meets its contract: the refusals have document 01's numbers.
use Rattle.std.proofs.Common.{refl, ap, ◌∙◌, rules}
use Rattle.command.specs.Encoder.{refusal_of, length_of, outcome_of}
use Rattle.command.specs.declared.encoder.EncodeRefusal.TheVariants.{ShortOutput, NotAllowed, OutOfRule}
use Rattle.imjarlet.proofs.answer.Laws.{numbered}
use Rattle.imjarlet.proofs.encoder.encoded.Goals as goal

pub returns : goal.returns
returns c =
    let a = numbered outcome_of (λ n. refl) (elim [ ShortOutput ↦ λ n is. search rules | NotAllowed ↦ λ n is. search rules | OutOfRule ↦ λ n is. search rules ])
    c.args.answer c.map_err.result c.map_err.ensures.cases in
    (c.told.ensures.0 ∙ ap refusal_of a, c.told.ensures.1 ∙ ap length_of a)
