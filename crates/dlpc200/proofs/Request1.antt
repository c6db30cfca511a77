-- Ticket 1.
use Rattle.std.proofs.Common.{◌≡◌, ℕ, ltb, ◌⊎◌, List, [], ◌∷◌, ◌++◌, length, get_or, take, drop, sym, refl, ap, ◌∙◌, subst, append-nil, arith, take_at, drop_at}
use Rattle.std.proofs.lemmas.Bool.{cond_both}
use Rattle.packet.specs.Answer.{Waits, Answers}
use Rattle.packet.specs.Receiver.{Received}
use Rattle.packet.specs.Stream.{packets}
use Rattle.packet.specs.Writer.{written}
use Rattle.packet.proofs.Cases.{bool_cases}
use Rattle.packet.proofs.Calls.{sent_same}
use Rattle.packet.proofs.StreamLaws.{IsPacket, packets_nil, packets_cons}
use Rattle.dlpc200.specs.Packet.{read_resp, packet_of}
use Rattle.dlpc200.specs.States.{park_after, in_range}
use Rattle.dlpc200.specs.Status.{no_faults, faults_held}
use Rattle.dlpc200.specs.Response.{response_type, response}
use Rattle.dlpc200.specs.Playing.{judged, answer_to, next, responses, after}
use Rattle.dlpc200.specs.Device.{device_with, in_rule, receiving}
use Rattle.dlpc200.specs.Endpoint.{arrived_in, judged_in, response_in, After, answered, receive_call}
use Rattle.dlpc200.specs.Sending.{serves, Ready, Boundary}
use Rattle.dlpc200.specs.Request1.{UnknownCommand, ReadAfter, OthersStay, OutOfRange, Request1}
use Rattle.dlpc200.specs.declared.table.Command.{Command}
use Rattle.dlpc200.specs.declared.table.Command.TheVariants.{ParkDmd, UnparkDmd}
use Rattle.dlpc200.specs.declared.states.States.{States}
use Rattle.dlpc200.specs.declared.device.Device.{Device}
use Rattle.dlpc200.proofs.Playing.{failed_leaves, all_failed_leave, failed_answer, done_answer, faults_counted, others_stay, reads_leave, read_after}
use Rattle.dlpc200.proofs.judgement.Laws.{cmd3_not_judged}
use Rattle.dlpc200.proofs.Faults.{hold_same, failed_exactly, done_exactly}
use Rattle.dlpc200.proofs.response.Laws.{response_whole, response_length, response_front}
use Rattle.dlpc200.proofs.Refusals.{states_out, receive_refuses}
use Rattle.dlpc200.proofs.endpoint.Laws.{rule_by, sum_begins, any_output}
use Rattle.dlpc200.proofs.endpoint.Following.{follows_sent}

-- what a command leaves, whatever the park state was, is read after it
told : (c : Command) (v : ℕ) → ((n : ℕ) → park_after c n ≡ v) → ReadAfter c v
told c v e d b s before between later p q z f h k r =
    let place : ℕ = length (before ++ (p ∷ between)) in
    ap (λ (rs : List (List ℕ)). get_or rs place [])
    ((follows_sent d b s z).given ∙ ap (responses d.states) f)
    ∙ read_after c d.states before between later p q h k r
    ∙ ap (λ (n : ℕ). packet_of read_resp (0x00 ∷ 0x00 ∷ n ∷ [])) (e (after d.states before).park)

-- a whole packet is the only one of its bytes
one_packet_lem : (p : List ℕ) → IsPacket p → packets p ≡ p ∷ []
one_packet_lem p i = sym (ap packets (append-nil p)) ∙ packets_cons p [] i ∙ ap {B = List (List ℕ)} (λ ps. p ∷ ps) packets_nil

begins_so : (s : States) → (OutOfRange s → ⊥) → Boundary (device_with s)
begins_so s h =
    record {
      ready =
          record {
            rule = bool_cases (in_range s) (λ e. rule_by (device_with s) e (omega arith)) (λ e. absurd (h ((states_out s).0 e)));
            header = refl;
            hold = refl;
          };
      received = refl;
    }

-- A call on a device of any values: what it leaves where it completes no packet, the states that it never changes, and its output where it completes a packet.
module _ (d : Device) (input out : List ℕ) where
  abbrev received : Received
  received = receiving d input

  left_waiting : (n : ℕ) → (receive_call d input out).answer ≡ Waits n
      → ((receive_call d input out).output ≡ out) × ((receive_call d input out).device.states ≡ d.states)
  unfolding receive_call
  left_waiting n =
      let P : After → Type 0 = λ x. x.answer ≡ Waits n → (x.output ≡ out) × (x.device.states ≡ d.states) in
      cond_both (ltb (length out) 64) _ _ P (λ _ h. cc)
      (λ _. cond_both (in_rule d) _ _ P (λ _. cond_both received.complete _ _ P (λ _ h. cc) (λ _ h. (refl, refl))) (λ _ h. cc))

  others_kept : OthersStay d.states (receive_call d input out).device.states
  unfolding receive_call
  others_kept =
      let P : After → Type 0 = λ x. OthersStay d.states x.device.states in
      let same : OthersStay d.states d.states = record { sequence = refl; eeprom = refl; flash = refl; lit = refl } in
      cond_both (ltb (length out) 64) _ _ P (λ _. same)
      (λ _. cond_both (in_rule d) _ _ P (λ _. cond_both received.complete _ _ P (λ _. others_stay d.states (judged_in received)) (λ _. same)) (λ _. same))

  answers_by : (n m : ℕ) → (receive_call d input out).answer ≡ Answers n m → receive_call d input out ≡ answered d.states received out
  unfolding receive_call
  answers_by n m =
      let P : After → Type 0 = λ x. x.answer ≡ Answers n m → x ≡ answered d.states received out in
      cond_both (ltb (length out) 64) _ _ P (λ _ h. cc)
      (λ _. cond_both (in_rule d) _ _ P (λ _. cond_both received.complete _ _ P (λ _ h. refl) (λ _ h. cc)) (λ _ h. cc))

  answer_length : (n m : ℕ) → (receive_call d input out).answer ≡ Answers n m → m ≡ length (response_in d.states received)
  answer_length n m h = let e = sym h ∙ ap (λ (x : After). x.answer) (answers_by n m h) in cc

  response_written : (n m : ℕ) → (receive_call d input out).answer ≡ Answers n m
      → (take m (receive_call d input out).output ≡ response_in d.states received) × (drop m (receive_call d input out).output ≡ drop m out)
  unfolding written
  response_written n m h =
      let r = response_in d.states received in
      rw (answers_by n m h, answer_length n m h)
      (take_at r (drop (length r) out) (length r) refl, drop_at r (drop (length r) out) (length r) refl)

  response_sized : (n m : ℕ) → (receive_call d input out).answer ≡ Answers n m → (m ≡ 9) ⊎ (m ≡ 10)
  unfolding response_in response
  response_sized n m h =
      subst (λ (k : ℕ). (k ≡ 9) ⊎ (k ≡ 10)) (sym (answer_length n m h))
      (response_length d.states (response_type (arrived_in received).cmd1) (judged_in received))

pub request_1 : Request1
request_1 =
    record {
      follows = follows_sent;
      cut = sent_same serves Ready 64 any_output;
      cmd3 = cmd3_not_judged;
      failed = failed_exactly;
      done = done_exactly;
      leaves = failed_leaves;
      bad_stream = λ d b s z h. (follows_sent d b s z).ends ∙ all_failed_leave d.states (packets b) h;
      status = failed_answer;
      alone = λ s p u h. failed_answer s p no_faults ((failed_exactly p no_faults).1 (h, UnknownCommand u));
      answers = done_answer;
      front = response_front;
      whole = λ s p. let w = response_whole s p in (one_packet_lem (answer_to s p) w.packet, w.right);
      faults = λ s p f h. faults_counted s p ∙ ap faults_held (sym (hold_same p f h));
      parked = told ParkDmd 1 (λ n. refl);
      unparked = told UnparkDmd 0 (λ n. refl);
      others = λ s p. unfold next in others_stay s (judged p);
      kept = others_kept;
      reads = reads_leave;
      begins = begins_so;
      sum = sum_begins;
      waits = left_waiting;
      behind = response_written;
      sized = response_sized;
      refuses = receive_refuses;
    }
