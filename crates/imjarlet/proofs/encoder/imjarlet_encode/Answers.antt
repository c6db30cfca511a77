-- `imjarlet_encode` meets its contract: of a command in the table that of `command::encode`, its answer as numbers.
use Rattle.std.proofs.Common.{cond, ltb, length, refl, sym, ◌∙◌, Err}
use Rattle.command.specs.Encoder.{outcome_of, refused, encode_call}
use Rattle.imjarlet.specs.Exports.{write_call}
use Rattle.imjarlet.proofs.encoder.Laws.{emitted, encode_says, unknown_says}
use Rattle.imjarlet.proofs.encoder.imjarlet_encode.Goals as goal

pub returns-in_default : goal.returns-in_default
unfolding write_call
returns-in_default c =
    let out = c.args.out.now in
    let short = ltb (length out) 64 in
    rw (sym c.find.ensures ∙ c.in_default.is)
    (emitted (refused (cond short 1 2) out) (outcome_of (Err c.unknown.result)) (unknown_says short out) c.unknown.ensures c.encoded.ensures refl)

pub returns : goal.returns
unfolding write_call
returns c =
    let e = c.encode.ensures in
    rw (sym c.find.ensures ∙ c.in-Some.is, ← c.value_of.ensures)
    (emitted (encode_call c.value_of.result c.args.out.now) (outcome_of c.encode.result) (encode_says c.value_of.result c.args.out.now) e.0 c.encoded-2.ensures e.1)
