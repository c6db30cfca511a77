-- `parse` meets its contract where the data have another size, and where nothing is held.
use Rattle.std.proofs.Common.{◌≡◌, ◌++◌, length, arith, length-append, eq-eqb, ne_eqb}
use Rattle.std.proofs.lemmas.Bool.Decides.{nat_tests}
use Rattle.std.proofs.lemmas.List.{nil_from_length}
use Rattle.command.specs.Table.{size_of}
use Rattle.command.specs.Inner.{parsed}
use Rattle.command.proofs.data.Laws.{size_layout, split_places}
use Rattle.command.proofs.value.parse.Goals as goal

pub returns-then-held-payload : goal.returns-then-held-payload
unfolding parsed
returns-then-held-payload c =
    let a = c.args in
    let joined = length-append a.held.now a.payload.now in
    rw (ne_eqb (length (a.held.now ++ a.payload.now)) (size_of a.c) (λ e. c.if-held-payload.true (omega (arith, size_layout a.c))))

pub returns-then-is_empty : goal.returns-then-is_empty
unfolding parsed
returns-then-is_empty c =
    let a = c.args in
    let empty : length a.held.now ≡ 0 = grind (arith, nat_tests) in
    let sized : length a.payload.now ≡ size_of a.c = omega (arith, size_layout a.c) in
    rw (nil_from_length a.held.now empty, eq-eqb _ _ sized, c.from.ensures, split_places)
