-- The loop of `supported`: X × Y is in the table where it is among the first k resolutions.
use Rattle.std.proofs.Common.{◌≡◌, take}
use Rattle.std.specs.List.{list_any}
use Rattle.command.proofs.rules.Pairs.{is_at}
use Rattle.command.proofs.rules.supported.Given as goal

abbrev pub invariant-loop-k : goal.invariant-loop-k
invariant-loop-k l = list_any (is_at l.x l.y) (take l.k l.table) ≡ list_any (is_at l.x l.y) l.table
