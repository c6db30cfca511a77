-- The numbers that a receive call tells say its answer: no refusal has the number 0, and no response is empty.
use Rattle.std.proofs.Common.{◌≡◌, ℕ, false, eqb, ltb, List, length, refl, arith, ne_eqb}
use Rattle.std.proofs.lemmas.Bool.{cond_both}
use Rattle.packet.specs.Receiver.{Received}
use Rattle.packet.proofs.Answering.{Sayable}
use Rattle.dlpc200.specs.Response.{response_type, response_data, response}
use Rattle.dlpc200.specs.Device.{in_rule, receiving}
use Rattle.dlpc200.specs.Endpoint.{arrived_in, judged_in, response_in, After, receive_call}
use Rattle.dlpc200.specs.declared.states.States.{States}
use Rattle.dlpc200.specs.declared.device.Device.{Device}
use Rattle.dlpc200.proofs.response.Laws.{length_packet}

drawn : (s : States) (t : Received) → eqb (length (response_in s t)) 0 ≡ false
unfolding response_in response
drawn s t =
    let l = length_packet (response_type (arrived_in t).cmd1) (response_data s (judged_in t)) in
    ne_eqb (length (response_in s t)) 0 (λ e. omega (arith, e, l))

pub answer_sayable : (d : Device) (input out : List ℕ) → Sayable (receive_call d input out).answer
unfolding receive_call
answer_sayable d input out =
    cond_both (ltb (length out) 64) _ _ Says (λ _. refl)
    (λ _. cond_both (in_rule d) _ _ Says (λ _. cond_both (receiving d input).complete _ _ Says (λ _. drawn d.states (receiving d input)) (λ _. tt)) (λ _. refl))
  where
    Says : After → Type 0
    Says x = Sayable x.answer
