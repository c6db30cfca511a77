-- `told` meets its contract: in each arm the answer is known.
use Rattle.std.proofs.Common.{refl}
use Rattle.imjarlet.specs.Exports.{verdict_of, refusal_in}
use Rattle.imjarlet.proofs.verdict.told.Goals as goal

pub returns-in-Ok : goal.returns-in-Ok
unfolding verdict_of refusal_in
returns-in-Ok c = rw c.in-Ok.is (refl, refl)

pub returns-in-Err : goal.returns-in-Err
unfolding verdict_of refusal_in
returns-in-Err c = rw (c.in-Err.is, c.factory.ensures, c.number.ensures) (refl, refl)
