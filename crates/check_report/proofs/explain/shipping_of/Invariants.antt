-- What is left is the end of the report, and each turn passes a record's header.
use Rattle.std.proofs.Common.{◌≡◌, ◌≤◌, ◌-◌, length, drop}
use Rattle.check_report.proofs.explain.shipping_of.Given as goal

abbrev pub invariant-loop-header : goal.invariant-loop-header
invariant-loop-header l = (length l.rest ≤ length l.r) × (l.rest ≡ drop (length l.r - length l.rest) l.r)

abbrev pub decreases-loop-header : goal.decreases-loop-header
decreases-loop-header l = length l.rest
