-- Packets one after the other: what they keep, and a read after park and unpark.
use Rattle.std.proofs.Common.{◌≡◌, ℕ, List, [], ◌∷◌, ◌++◌, length, get_or, refl, ap, ◌∙◌}
use Rattle.std.specs.Prelude.{Result, Ok, Err}
use Rattle.dlpc200.specs.Packet.{cmd1_of, read_resp, packet_of}
use Rattle.dlpc200.specs.Table.{cmd1_for}
use Rattle.dlpc200.specs.States.{shown_of, data_of, park_after}
use Rattle.dlpc200.specs.Status.{fault_bits, faults_held, data0, data1}
use Rattle.dlpc200.specs.Judgement.{arrived, faults_of, states_after}
use Rattle.dlpc200.specs.Response.{response_type, response}
use Rattle.dlpc200.specs.declared.table.Command.{Command}
use Rattle.dlpc200.specs.declared.table.Command.TheVariants.{ParkDmd, UnparkDmd, GetDmdSoftwareParkState, GetSeqRunState, GetEepromFault, GetInitFromParallelFlashFail, GetOverallLedLampLitState}
use Rattle.dlpc200.specs.declared.status.Faults.{Faults}
use Rattle.dlpc200.specs.declared.states.States.{States}
use Rattle.dlpc200.proofs.judgement.Laws as judgements
use Rattle.dlpc200.specs.Playing.{judged, answer_to, next, responses, after}
use Rattle.dlpc200.specs.Request1.{AllFail, NoneParks, OthersStay}

-- A failed packet leaves every state, and packets that all fail do.

pub failed_leaves : (s : States) (p : List ℕ) (f : Faults) → judged p ≡ Err f → next s p ≡ s
unfolding next
failed_leaves s p f h = ap (states_after s) h

pub all_failed_leave : (s : States) (ps : List (List ℕ)) → AllFail ps → after s ps ≡ s
unfolding after
all_failed_leave s [] h = refl
all_failed_leave s (p ∷ ps) h = ap (λ (a : States). after a ps) (failed_leaves s p h.0.0 h.0.1) ∙ all_failed_leave s ps h.1

-- The error bits of each response beside bit 6 are as many as the faults that hold of its packet.
pub faults_counted : (s : States) (p : List ℕ) → fault_bits (get_or (answer_to s p) 6 0) (get_or (answer_to s p) 7 0) ≡ faults_held (faults_of (arrived p))
unfolding answer_to judged
faults_counted s p = judgements.faults_told s (arrived p)

-- The response to a failed packet: the two status bytes only, as a read response for CMD1 04 and a write response otherwise.
pub failed_answer : (s : States) (p : List ℕ) (f : Faults) → judged p ≡ Err f → answer_to s p ≡ packet_of (response_type (cmd1_of p)) (data0 f ∷ data1 f ∷ [])
unfolding answer_to response
failed_answer s p f h = rw h

-- The response to a command that is carried out: no error bit, and the state that it reads.
pub done_answer : (s : States) (p : List ℕ) (c : Command) → judged p ≡ Ok c
    → answer_to s p ≡ packet_of (response_type (cmd1_for c)) (0x00 ∷ 0x00 ∷ data_of (shown_of s c))
unfolding answer_to response
done_answer s p c h =
    let e : cmd1_of p ≡ cmd1_for c = unfold judged in judgements.done_cmd1 (arrived p) c (unfold judged in h) in
    rw (h, e)

-- However a packet is judged, the states that are not the park state stay,
pub others_stay : (s : States) (j : Result Command Faults) → OthersStay s (states_after s j)
others_stay s (Err f) = record { sequence = refl; eeprom = refl; flash = refl; lit = refl }
others_stay s (Ok c) = record { sequence = refl; eeprom = refl; flash = refl; lit = refl }

-- and a command that neither parks nor unparks leaves every state.
command_leaves : (s : States) (c : Command) → (c ≡ ParkDmd → ⊥) → (c ≡ UnparkDmd → ⊥) → states_after s (Ok c) ≡ s
command_leaves s ParkDmd h k = absurd (h refl)
command_leaves s UnparkDmd h k = absurd (k refl)
command_leaves s GetDmdSoftwareParkState h k = refl
command_leaves s GetSeqRunState h k = refl
command_leaves s GetEepromFault h k = refl
command_leaves s GetInitFromParallelFlashFail h k = refl
command_leaves s GetOverallLedLampLitState h k = refl

pub reads_leave : (s : States) (p : List ℕ) (c : Command) → judged p ≡ Ok c → (c ≡ ParkDmd → ⊥) → (c ≡ UnparkDmd → ⊥) → next s p ≡ s
unfolding next
reads_leave s p c e h k = ap (states_after s) e ∙ command_leaves s c h k

-- What neither parks nor unparks leaves the park state.

park_kept : (s : States) (j : Result Command Faults) → (j ≡ Ok ParkDmd → ⊥) → (j ≡ Ok UnparkDmd → ⊥) → (states_after s j).park ≡ s.park
park_kept s (Err f) h k = refl
park_kept s (Ok c) h k = ap (λ (a : States). a.park) (command_leaves s c (λ e. h (ap Ok e)) (λ e. k (ap Ok e)))

parks_kept : (s : States) (ps : List (List ℕ)) → NoneParks ps → (after s ps).park ≡ s.park
unfolding after next
parks_kept s [] h = refl
parks_kept s (p ∷ ps) h = parks_kept (next s p) ps h.2 ∙ park_kept s (judged p) h.0 h.1

after_append : (s : States) (ps qs : List (List ℕ)) → after s (ps ++ qs) ≡ after (after s ps) qs
unfolding after
after_append s [] qs = refl
after_append s (p ∷ ps) qs = after_append (next s p) ps qs

-- the response to a packet of a stream
response_at : (s : States) (ps qs : List (List ℕ)) (q : List ℕ) → get_or (responses s (ps ++ (q ∷ qs))) (length ps) [] ≡ answer_to (after s ps) q
unfolding responses after
response_at s [] qs q = refl
response_at s (p ∷ ps) qs q = response_at (next s p) ps qs q

-- A read of 0015 after a command that was carried out, none between them being a park or an unpark that was.
pub read_after : (c : Command) (s : States) (before between later : List (List ℕ)) (p q : List ℕ)
    → judged p ≡ Ok c → NoneParks between → judged q ≡ Ok GetDmdSoftwareParkState
    → get_or (responses s ((before ++ (p ∷ between)) ++ (q ∷ later))) (length (before ++ (p ∷ between))) []
    ≡ packet_of read_resp (0x00 ∷ 0x00 ∷ park_after c (after s before).park ∷ [])
unfolding after next
read_after c s before between later p q h k r =
    response_at s (before ++ (p ∷ between)) later q
    ∙ done_answer (after s (before ++ (p ∷ between))) q GetDmdSoftwareParkState r
    ∙ ap (λ (v : ℕ). packet_of read_resp (0x00 ∷ 0x00 ∷ v ∷ []))
    (ap (λ (a : States). a.park) (after_append s before (p ∷ between))
    ∙ parks_kept (next (after s before) p) between k
    ∙ ap (λ (j : Result Command Faults). (states_after (after s before) j).park) h)
