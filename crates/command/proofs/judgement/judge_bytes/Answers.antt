-- `judge_bytes` meets its contract.
use Rattle.std.proofs.Common.{◌≡◌, ℕ, ◌≤◌, List, [], ◌∷◌, length, get_or, refl, ap, take, ◌∙◌, arith}
use Rattle.command.specs.Judgement.{judge}
use Rattle.command.specs.Controller.{transfer_in}
use Rattle.command.proofs.judgement.Laws.{packet_parts}
use Rattle.command.proofs.judgement.judge_bytes.Goals as goal

-- the first six bytes
six : (p : List ℕ) → 6 ≤ length p → get_or p 0 0 ∷ get_or p 1 0 ∷ get_or p 2 0 ∷ get_or p 3 0 ∷ get_or p 4 0 ∷ get_or p 5 0 ∷ [] ≡ take 6 p
six (a ∷ b ∷ c ∷ d ∷ e ∷ f ∷ p) h = refl
six p h = absurd (omega (arith, h))

pub returns : goal.returns
returns c =
    let a = c.args in
    let head = six a.p.now (omega (arith, c.requires.whole.0)) in
    c.judge.ensures ∙ ap (judge a.mode (transfer_in a.t a.buffer.now)) (packet_parts a.p.now a.right c.requires.whole.1 c.requires.sum head refl)
