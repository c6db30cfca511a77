-- `long_at` meets its contract.
use Rattle.std.proofs.Common.{ℕ, ◌+◌, ◌*◌, sym, ap₂, ◌∙◌}
use Rattle.report.proofs.record.Laws.{value_four}
use Rattle.report.proofs.record.long_at.Goals as goal

pub returns : goal.returns
returns c =
    ap₂ (λ (x y : ℕ). x + 65536 * y) c.word_at-low.ensures.0 c.word_at-high.ensures.0
    ∙ sym (value_four c.args.r.now c.args.at c.requires)
