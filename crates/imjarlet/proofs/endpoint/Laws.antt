-- What the numbers of a receive call say: no refusal has the number 0, and a response has at least seven bytes.
use Prim.Native.Nat.{ℕ}
use mathlib.Core.Path.{◌≡◌, refl}
use mathlib.Core.Bool.{false}
use mathlib.Core.List.{List, [], ◌∷◌, ◌++◌}
use native.Mathlib.Omega.{arith}
use borrow.Author.Tests.{ne_eqb}
use lib.Dec.{eqb, ltb}
use lib.ListN.{length, length-append}
use Rattle.packet.specs.Packet.{whole, checksum, header, sealed, packet_of}
use Rattle.packet.specs.Receiver.{Received}
use Rattle.std.proofs.lemmas.Bool.{cond_both}
use Rattle.packet.proofs.Answering.{Sayable}
use Rattle.command.specs.Controller.{in_rule}
use Rattle.command.specs.Response.{response_type, response_data, response}
use Rattle.command.specs.Endpoint.{taken_by, arrived_in, judged_in, response_in, After, receive_call}
use Rattle.command.specs.declared.controller.Controller.{Controller}

some_bytes : (c : Controller) (t : Received) → eqb (length (response_in c t)) 0 ≡ false
unfolding response_in response packet_of sealed
some_bytes c t =
    let j = judged_in c t in
    let d = response_data c.settings j in
    let front = header (response_type j) (arrived_in t).cmd1 (arrived_in t).cmd2 whole (length d) ++ d in
    ne_eqb (length (response_in c t)) 0 (λ h. omega (arith, length-append front (checksum front ∷ [])))

pub answer_sayable : (c : Controller) (input out : List ℕ) → Sayable (receive_call c input out).answer
unfolding receive_call
answer_sayable c input out =
    cond_both (ltb (length out) 64) _ _ Says (λ _. refl)
    (λ _. cond_both (in_rule c) _ _ Says (λ _. cond_both (taken_by c input).complete _ _ Says (λ _. some_bytes c (taken_by c input)) (λ _. tt)) (λ _. refl))
  where
    Says : After → Type 0
    Says x = Sayable x.answer
