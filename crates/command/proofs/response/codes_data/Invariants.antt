-- `codes_data`: the codes so far, and then those of the rows that are left.
use Rattle.std.proofs.Common.{◌≡◌, ◌≤◌, ◌++◌, length, drop}
use Rattle.command.specs.Faults.{codes_of}
use Rattle.command.proofs.response.Listing.{listed}
use Rattle.command.proofs.response.codes_data.Given as goal

abbrev pub invariant-loop-holds : goal.invariant-loop-holds
invariant-loop-holds l =
    record {
      listed : l.data ++ listed (drop l.holds-index l.holds-items) ≡ codes_of l.fn.k;
      room : length l.data ≤ l.holds-index;
    }
