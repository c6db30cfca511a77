-- `encode` meets its contract, test by test.
use Rattle.std.proofs.Common.{refl, le-ltb, lt-ltb}
use Rattle.command.specs.Encoder.{encode_call}
use Rattle.command.proofs.encoder.encode.Goals as goal

pub returns-then-out-lt-OUTPUT : goal.returns-then-out-lt-OUTPUT
unfolding encode_call
returns-then-out-lt-OUTPUT c = let e = lt-ltb _ 64 c.if-out-lt-OUTPUT.true in rw e (refl, refl)

pub returns-then-not-allowed : goal.returns-then-not-allowed
unfolding encode_call
returns-then-not-allowed c =
    let e = le-ltb _ 64 c.if-out-lt-OUTPUT.false in
    rw (e, ← c.allowed.ensures, c.if-not-allowed.true) (refl, refl)

pub returns : goal.returns
unfolding encode_call
returns c =
    let e = le-ltb _ 64 c.if-out-lt-OUTPUT.false in
    rw (e, ← c.allowed.ensures, c.if-not-allowed.false, c.put.ensures.0, c.put.ensures.1) (refl, refl)
