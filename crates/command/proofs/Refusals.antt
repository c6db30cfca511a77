-- When the calls refuse: the tests are the lines of document 01's table, and a refusal touches nothing lent.
use Rattle.std.specs.Prelude.{is_some}
use Prim.Native.Nat.{ℕ, ◌+◌}
use mathlib.Core.Path.{◌≡◌, refl, ap, sym, ◌∙◌}
use mathlib.Core.Logic.{◌↔◌}
use mathlib.Core.Bool.{false, cond, not, ◌&&◌, ◌||◌, and-false}
use mathlib.Core.List.{List, [], ◌∷◌}
use native.Mathlib.Omega.{arith}
use lib.Dec.{eqb, ltb, leb}
use lib.ListN.{length}
use borrow.Author.Tests.{le-ltb, lt-leb, leb-false, ltb-false, ne_eqb, eqb-true, eqb-false, not-true, not-false}
use Rattle.packet.specs.Packet.{payload_length}
use Rattle.packet.specs.Answer.{Refuses, Waits, Answers, Answering}
use Rattle.packet.specs.Receiver.{packet_in_rule}
use Rattle.packet.proofs.Answering.{answering, refusal_number, answers_not_refused, waits_not_refused, all_taken}
use Rattle.std.proofs.lemmas.Bool.{cond_both}
use Rattle.packet.proofs.Cases.{bool_cases, true_and_left, true_and_right, false_or_left, false_or_right, false_and_cases, never}
use Rattle.command.specs.Table.{table, command_of}
use Rattle.command.specs.Settings.{values_of}
use Rattle.command.specs.Rules.{allowed, blocked, all_allowed, settings_in_rule}
use Rattle.command.specs.Value.{command_in, values_in}
use Rattle.command.specs.Controller.{transfer_of, receiver_in, transfer_in_rule, parts_in_rule, in_rule}
use Rattle.command.specs.Endpoint.{taken_by, response_in, After, refused, waiting, answered, receive_call}
use Rattle.command.specs.Encoder.{encoded, standard_list, encode_call, list_call}
use Rattle.command.specs.Encoder as encoder
use Rattle.command.specs.Demand1.{SettingsOutOfRule, SettingNotAllowed, RunsOutsideMode, OutOfRule, BadSettings, HeldTooLong, OpenForUnknown, HasAllBytes}
use Rattle.command.specs.declared.table.Command.{Command}
use Rattle.command.specs.declared.settings.Settings.{Settings}
use Rattle.command.specs.declared.value.Value.{Value}
use Rattle.command.specs.declared.controller.Controller.{Controller}
use Rattle.command.proofs.rules.Laws.{kept_by}
use Rattle.command.proofs.faults.Laws.{named, unnamed}

-- The tests of refusal 3 are document 01's line.
one_not_allowed : (s : Settings) (cs : List Command) → all_allowed s cs ≡ false → SettingsOutOfRule s
unfolding all_allowed
one_not_allowed s [] h = never (sym h)
one_not_allowed s (c ∷ cs) h = false_and_cases (allowed c (values_of c s)) (all_allowed s cs) (SettingNotAllowed c) (one_not_allowed s cs) h

pub settings_out : (s : Settings) → (settings_in_rule s ≡ false) ↔ SettingsOutOfRule s
settings_out s = (forth, back)
  where
    forth : settings_in_rule s ≡ false → SettingsOutOfRule s
    forth h =
        unfold settings_in_rule blocked in
        false_and_cases (all_allowed s table) (not (eqb s.run 1 && not (eqb s.mode 4))) (one_not_allowed s table)
        (λ n.
        let r = not-false _ n in
        RunsOutsideMode (eqb-true s.run 1 (true_and_left _ _ r)) (eqb-false s.mode 4 (not-true _ (true_and_right (eqb s.run 1) _ r))))
        h

    back : SettingsOutOfRule s → settings_in_rule s ≡ false
    back (SettingNotAllowed c h) = bool_cases (settings_in_rule s) (λ k. never (sym h ∙ (kept_by s k).values c)) (λ k. k)
    back (RunsOutsideMode r m) =
        unfold settings_in_rule blocked in rw (r, ne_eqb s.mode 4 m, and-false)

pub controller_out : (c : Controller) → (in_rule c ≡ false) ↔ OutOfRule c
controller_out c = (forth, back)
  where
    forth : in_rule c ≡ false → OutOfRule c
    forth h =
        unfold parts_in_rule transfer_in_rule packet_in_rule in
        let t = transfer_of c.registers in
        let room = 7 + payload_length c.registers.header in
        let unknown = eqb t.active 0 || is_some (command_of t.cmd1 t.cmd2) in
        false_and_cases (settings_in_rule c.settings && (leb t.held 1024 && unknown)) (ltb c.registers.received room)
        (false_and_cases (settings_in_rule c.settings) (leb t.held 1024 && unknown)
        (λ n. BadSettings ((settings_out c.settings).0 n))
        (false_and_cases (leb t.held 1024) unknown
        (λ n. HeldTooLong (leb-false t.held 1024 n))
        (λ n.
        OpenForUnknown (eqb-false t.active 0 (false_or_left (eqb t.active 0) _ n))
        (λ d k. never (sym (false_or_right (eqb t.active 0) _ n) ∙ ap is_some (named t.cmd1 t.cmd2 d k))))))
        (λ n. HasAllBytes (ltb-false c.registers.received room n))
        h

    back : OutOfRule c → in_rule c ≡ false
    back (BadSettings h) = unfold parts_in_rule in rw ((settings_out c.settings).1 h)
    back (HeldTooLong h) = unfold parts_in_rule transfer_in_rule in rw (lt-leb c.registers.held 1024 h, and-false)
    back (OpenForUnknown h k) =
        unfold parts_in_rule transfer_in_rule in
        rw (ne_eqb c.registers.active 0 h, unnamed c.registers.cmd1 c.registers.cmd2 k, and-false, and-false)
    back (HasAllBytes h) =
        unfold parts_in_rule packet_in_rule in rw (le-ltb c.registers.received (7 + payload_length c.registers.header) h, and-false)

-- The receive call.
pub receive_refuses : (c : Controller) (input out : List ℕ)
    → let r = receive_call c input out in
    let t = taken_by c input in
    Answering (λ n. r.answer ≡ Refuses n) out 64 3 (OutOfRule c) ((r.controller ≡ c) × (r.output ≡ out))
    (r.answer ≡ cond t.complete (Answers t.taken (length (response_in c t))) (Waits (length input)))
unfolding receive_call
receive_refuses c input out =
    let t = taken_by c input in
    answering (λ (x : After) n. x.answer ≡ Refuses n) (λ x. (x.controller ≡ c) × (x.output ≡ out))
    (λ x. x.answer ≡ cond t.complete (Answers t.taken (length (response_in c t))) (Waits (length input))) (refused 1 c out) (refused 3 c out)
    (cond t.complete (answered c t out) (waiting c t out)) out 64 3
    (refusal_number 1) (refusal_number 3)
    (λ n. cond_both t.complete _ _ (λ (x : After). x.answer ≡ Refuses n → ⊥) (λ _ h. answers_not_refused h) (λ _ h. waits_not_refused h))
    (λ h. omega arith) (refl, refl) (refl, refl)
    (bool_cases t.complete (λ e. rw e) (λ e. rw (e, all_taken 0 (receiver_in c) input e))) (in_rule c) (controller_out c)

-- The encoder and the list.
module _ (out : List ℕ) where
  number : (k n : ℕ) → (encoder.Refuses k ≡ encoder.Refuses n) ↔ (n ≡ k)
  number k n = (λ h. cc, λ h. rw h)

  writing : (b : List ℕ) (n : ℕ) → (encoder.writes b out).answer ≡ encoder.Refuses n → ⊥
  writing b n h = let z : ◌≡◌ {A = ℕ} 0 1 = cc in omega arith

  pub encode_refuses : (v : Value)
      → let r = encode_call v out in
      Answering (λ n. r.answer ≡ encoder.Refuses n) out 64 2 (allowed (command_in v) (values_in v) ≡ false) (r.output ≡ out)
      (r.answer ≡ encoder.Writes (length (encoded v)))
  unfolding encode_call
  encode_refuses v =
      answering (λ (x : encoder.After) n. x.answer ≡ encoder.Refuses n) (λ x. x.output ≡ out) (λ x. x.answer ≡ encoder.Writes (length (encoded v)))
      (encoder.refused 1 out) (encoder.refused 2 out)
      (encoder.writes (encoded v) out) out 64 2 (number 1) (number 2) (writing (encoded v)) (λ h. omega arith) refl refl refl
      (allowed (command_in v) (values_in v)) (λ h. h, λ h. h)

  pub list_refuses : (s : Settings)
      → let r = list_call s out in
      Answering (λ n. r.answer ≡ encoder.Refuses n) out 128 3 (SettingsOutOfRule s) (r.output ≡ out) (r.answer ≡ encoder.Writes (length (standard_list s)))
  unfolding list_call
  list_refuses s =
      answering (λ (x : encoder.After) n. x.answer ≡ encoder.Refuses n) (λ x. x.output ≡ out) (λ x. x.answer ≡ encoder.Writes (length (standard_list s)))
      (encoder.refused 1 out) (encoder.refused 3 out)
      (encoder.writes (standard_list s) out) out 128 3 (number 1) (number 3) (writing (standard_list s)) (λ h. omega arith) refl refl refl
      (settings_in_rule s) (settings_out s)
