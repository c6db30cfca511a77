-- Packets one after the other: what each draws, and the states at the end.
use Rattle.std.specs.Prelude.{ℕ, List, [], ◌∷◌, Result}
use Rattle.dlpc200.specs.Judgement.{arrived, judge, states_after}
use Rattle.dlpc200.specs.Response.{response}
use Rattle.dlpc200.specs.declared.table.Command.{Command}
use Rattle.dlpc200.specs.declared.status.Faults.{Faults}
use Rattle.dlpc200.specs.declared.states.States.{States}

-- a packet is judged
unfoldable pub judged : List ℕ → Result Command Faults
judged p = judge (arrived p)

-- draws a response
unfoldable pub answer_to : States → List ℕ → List ℕ
answer_to s p = response s (arrived p) (judged p)

-- and changes the states
unfoldable pub next : States → List ℕ → States
next s p = states_after s (judged p)

unfoldable pub responses : States → List (List ℕ) → List (List ℕ)
responses s [] = []
responses s (p ∷ ps) = answer_to s p ∷ responses (next s p) ps

unfoldable pub after : States → List (List ℕ) → States
after s [] = s
after s (p ∷ ps) = after (next s p) ps
