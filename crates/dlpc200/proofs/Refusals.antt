-- When the receive call refuses: the tests are the words of ticket 1, and a refusal touches nothing lent.
use Rattle.std.proofs.Common.{◌≡◌, ℕ, ◌+◌, false, cond, ◌&&◌, ltb, leb, ◌↔◌, List, length, refl, arith, ltb-false, leb-false}
use Rattle.std.proofs.lemmas.Bool.Decides.{nat_tests}
use Rattle.std.proofs.lemmas.Bool.{cond_both}
use Rattle.packet.specs.Packet.{payload_length}
use Rattle.packet.specs.Answer.{Refuses, Waits, Answers, Answering}
use Rattle.packet.specs.Receiver.{packet_in_rule}
use Rattle.packet.proofs.Cases.{bool_cases, false_and_cases}
use Rattle.packet.proofs.Answering.{answering, refusal_number, all_taken}
use Rattle.dlpc200.specs.Packet.{after_cmd4}
use Rattle.dlpc200.specs.States.{in_range}
use Rattle.dlpc200.specs.Device.{in_rule, receiver_of, receiving}
use Rattle.dlpc200.specs.Endpoint.{response_in, After, refused, ended, receive_call}
use Rattle.dlpc200.specs.Request1.{OutOfRange, ParkOut, SequenceOut, EepromOut, FlashOut, LitOut, OutOfRule, BadState, HasAllBytes}
use Rattle.dlpc200.specs.declared.states.States.{States}
use Rattle.dlpc200.specs.declared.device.Device.{Device}

-- The states' ranges are those of their sections,
pub states_out : (s : States) → (in_range s ≡ false) ↔ OutOfRange s
states_out s = (forth, back)
  where
    forth : in_range s ≡ false → OutOfRange s
    forth h =
        let park = leb s.park 1 in
        let sequence = leb s.sequence 1 in
        let eeprom = leb s.eeprom 1 in
        let flash = leb s.flash 7 in
        false_and_cases (park && sequence && eeprom && flash) (leb s.lit 1)
        (false_and_cases (park && sequence && eeprom) flash
        (false_and_cases (park && sequence) eeprom
        (false_and_cases park sequence (λ n. ParkOut (leb-false s.park 1 n)) (λ n. SequenceOut (leb-false s.sequence 1 n)))
        (λ n. EepromOut (leb-false s.eeprom 1 n)))
        (λ n. FlashOut (leb-false s.flash 7 n)))
        (λ n. LitOut (leb-false s.lit 1 n))
        h

    back : OutOfRange s → in_range s ≡ false
    back (ParkOut h) = grind (arith, nat_tests)
    back (SequenceOut h) = grind (arith, nat_tests)
    back (EepromOut h) = grind (arith, nat_tests)
    back (FlashOut h) = grind (arith, nat_tests)
    back (LitOut h) = grind (arith, nat_tests)

-- and the test of refusal 3 is the ticket's sentence.
device_out : (d : Device) → (in_rule d ≡ false) ↔ OutOfRule d
unfolding packet_in_rule
device_out d = (forth, back)
  where
    forth : in_rule d ≡ false → OutOfRule d
    forth h =
        false_and_cases (in_range d.states) (ltb d.received (7 + payload_length d.header))
        (λ n. BadState ((states_out d.states).0 n))
        (λ n. HasAllBytes (ltb-false d.received (7 + payload_length d.header) n))
        h

    back : OutOfRule d → in_rule d ≡ false
    back (BadState h) = rw ((states_out d.states).1 h)
    back (HasAllBytes h) = grind (arith, nat_tests)

pub receive_refuses : (d : Device) (input out : List ℕ)
    → let r = receive_call d input out in
    let t = receiving d input in
    Answering (λ n. r.answer ≡ Refuses n) out 64 3 (OutOfRule d) ((r.device ≡ d) × (r.output ≡ out))
    (r.answer ≡ cond t.complete (Answers t.taken (length (response_in d.states t))) (Waits (length input)))
unfolding receive_call
receive_refuses d input out =
    let t = receiving d input in
    answering (λ (x : After) n. x.answer ≡ Refuses n) (λ x. (x.device ≡ d) × (x.output ≡ out))
    (λ x. x.answer ≡ cond t.complete (Answers t.taken (length (response_in d.states t))) (Waits (length input))) (refused 1 d out) (refused 3 d out)
    (ended d.states t out) out 64 3
    (λ n. refusal_number 1 n) (λ n. refusal_number 3 n)
    (λ n. cond_both t.complete _ _ (λ (x : After). x.answer ≡ Refuses n → ⊥) (λ _ h. cc) (λ _ h. cc))
    (λ h. omega arith) (refl, refl) (refl, refl)
    (bool_cases t.complete (λ e. rw e) (λ e. rw (e, all_taken after_cmd4 (receiver_of d) input e))) (in_rule d) (device_out d)
