-- `codes_data` meets its contract: a byte after the others for each code that holds.
use Rattle.std.proofs.Common.{false, length, ap, append_assoc, arith}
use Rattle.command.specs.Faults.{list_if}
use Rattle.command.proofs.response.Listing.{listed_next}
use Rattle.command.proofs.response.codes_data.Goals as goal
use Rattle.command.proofs.response.codes_data.Goals.{then-holds, else-holds}

pub loop-holds-preserved : goal.loop-holds-preserved
unfolding list_if
loop-holds-preserved c =
    let next = listed_next _ _ _ (false, 0) c.loop-holds-test.true c.loop-holds.invariant.listed in
    elim c.if-holds.branch [
      | then-holds w ↦
          record {
            listed = rw (w.data-is, w.append-data.ensures.bytes, append_assoc) (rw w.if-holds.true at next);
            room = omega (arith, ap length w.data-is);
          }
      | else-holds w ↦ record { listed = rw w.data-is (rw w.if-holds.false at next); room = omega (arith, ap length w.data-is) }
    ]
