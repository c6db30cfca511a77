-- What a judgement says of its packet, and what it keeps.
use Rattle.std.proofs.Common.{◌≡◌, ℕ, suc, Bool, ◌+◌, ◌*◌, true, false, leb, List, ◌∷◌, get_or, sym, refl, ap, ◌∙◌, arith}
use Rattle.std.specs.Prelude.{Option, None, Some, Result, Ok, Err}
use Rattle.std.proofs.lemmas.Bool.Decides.{nat_tests}
use Rattle.std.proofs.lemmas.Bool.{cond_both}
use lib.Count.{ones_in, ones}
use Rattle.packet.specs.Number.{bytes_of}
use Rattle.packet.specs.Packet.{payload}
use Rattle.dlpc200.specs.Packet.{checksum, right_sum, packet_of}
use Rattle.dlpc200.specs.Table.{cmd1_for}
use Rattle.dlpc200.specs.States.{park_after, in_range}
use Rattle.dlpc200.specs.Status.{any_fault, no_faults, fault_bits, faults_held}
use Rattle.dlpc200.specs.Judgement.{arrived, wrong_cmd1, faults_of, judge_command, judge, with_park, states_after}
use Rattle.dlpc200.specs.Response.{response_type, response_data, response}
use Rattle.dlpc200.specs.declared.table.Command.{Command}
use Rattle.dlpc200.specs.declared.table.Command.TheVariants.{ParkDmd, UnparkDmd, GetDmdSoftwareParkState, GetSeqRunState, GetEepromFault, GetInitFromParallelFlashFail, GetOverallLedLampLitState}
use Rattle.dlpc200.specs.declared.status.Faults.{Faults}
use Rattle.dlpc200.specs.declared.judgement.Arrived.{Arrived}
use Rattle.dlpc200.specs.declared.states.States.{States}
use Rattle.dlpc200.proofs.status.Laws.{faults_counted}

-- what holds of each command of the table holds of all
pub each : (P : Command → Type 0)
    → P ParkDmd × P UnparkDmd × P GetDmdSoftwareParkState × P GetSeqRunState × P GetEepromFault × P GetInitFromParallelFlashFail × P GetOverallLedLampLitState
    → (c : Command)
    → P c
each P h ParkDmd = h.0
each P h UnparkDmd = h.1
each P h GetDmdSoftwareParkState = h.2
each P h GetSeqRunState = h.3
each P h GetEepromFault = h.4
each P h GetInitFromParallelFlashFail = h.5
each P h GetOverallLedLampLitState = h.6

-- A packet that is carried out has none of the faults, and its command is known.

abbrev faults : Bool → Bool → Bool → Bool → Bool → Faults
faults checksum cmd1 cmd2 cmd4 size = record { checksum = checksum; cmd1 = cmd1; cmd2 = cmd2; cmd4 = cmd4; size = size }

pub same_faults : (f g : Faults) → f.checksum ≡ g.checksum → f.cmd1 ≡ g.cmd1 → f.cmd2 ≡ g.cmd2 → f.cmd4 ≡ g.cmd4 → f.size ≡ g.size → f ≡ g
same_faults f g sum one two four size =
    let e : faults f.checksum f.cmd1 f.cmd2 f.cmd4 f.size ≡ faults g.checksum g.cmd1 g.cmd2 g.cmd4 g.size = cc in e

pub none_hold : (f : Faults) → any_fault f ≡ false → f ≡ no_faults
none_hold f h = same_faults f no_faults (grind arith) (grind arith) (grind arith) (grind arith) (grind arith)

known_done : (f : Option Command) (c : Command) → judge_command f ≡ Ok c → f ≡ Some c
known_done None c h = cc
known_done (Some d) c h = cc

pub done_faultless : (p : Arrived) (c : Command) → judge p ≡ Ok c → (any_fault (faults_of p) ≡ false) × (p.command ≡ Some c)
unfolding judge
done_faultless p c =
    cond_both (any_fault (faults_of p)) _ _ (λ j. j ≡ Ok c → (any_fault (faults_of p) ≡ false) × (p.command ≡ Some c))
    (λ e h. cc)
    (λ e h. (e, known_done p.command c h))

right_cmd1 : (c : Command) (n : ℕ) → wrong_cmd1 (Some c) n ≡ false → n ≡ cmd1_for c
unfolding wrong_cmd1
right_cmd1 c n h = grind (arith, nat_tests)

-- and CMD1 is the command's
pub done_cmd1 : (p : Arrived) (c : Command) → judge p ≡ Ok c → p.cmd1 ≡ cmd1_for c
unfolding faults_of
done_cmd1 p c h =
    let k : p.command ≡ Some c = (done_faultless p c h).1 in
    let n = none_hold (faults_of p) (done_faultless p c h).0 in
    right_cmd1 c p.cmd1 (sym (ap (λ (x : Option Command). wrong_cmd1 x p.cmd1) k) ∙ ap (λ (f : Faults). f.cmd1) n)

-- A packet fails otherwise: with its faults if it has one, and with none of their bits if its command alone is unknown.

pub fails : (p : Arrived) → any_fault (faults_of p) ≡ true → judge p ≡ Err (faults_of p)
unfolding judge
fails p h = rw h

pub unknown_alone : (p : Arrived) → any_fault (faults_of p) ≡ false → p.command ≡ None → judge p ≡ Err no_faults
unfolding judge
unknown_alone p h k = rw (h, k)

-- CMD3 is not judged: a packet with another is the same to the rules.

six : (n : ℕ) → 6 + n ≡ suc (suc (suc (suc (suc (suc n)))))
six n = omega arith

pub cmd3_not_judged : (a b c c' : ℕ) (q : List ℕ) → arrived (a ∷ b ∷ c ∷ q) ≡ arrived (a ∷ b ∷ c' ∷ q)
unfolding right_sum payload checksum
cmd3_not_judged a b c c' q = rw (six (get_or q 1 0 + 256 * get_or q 2 0))

-- In range stays in range.

park_bit : (c : Command) (v : ℕ) → leb v 1 ≡ true → leb (park_after c v) 1 ≡ true
park_bit c v h = each (λ c. leb (park_after c v) 1 ≡ true) (refl, refl, h, h, h, h, h) c

with_range : (s : States) (v : ℕ) → in_range s ≡ true → (leb s.park 1 ≡ true → leb v 1 ≡ true) → in_range (with_park s v) ≡ true
with_range s v h k = grind (arith, nat_tests, k)

pub in_range_kept : (s : States) (j : Result Command Faults) → in_range s ≡ true → in_range (states_after s j) ≡ true
in_range_kept s (Err f) h = h
in_range_kept s (Ok c) h = with_range s (park_after c s.park) h (park_bit c s.park)

-- The error bits of every response beside bit 6 are as many as the faults that hold of its packet.

none_held : (f : Faults) → any_fault f ≡ false → faults_held f ≡ 0
unfolding faults_held
none_held f h = ap faults_held (none_hold f h)

bits_of : (s : States) (n : ℕ) (j : Result Command Faults) → ℕ
bits_of s n j = fault_bits (get_or (packet_of n (response_data s j)) 6 0) (get_or (packet_of n (response_data s j)) 7 0)

bits_failed : (s : States) (n : ℕ) (f : Faults) → bits_of s n (Err f) ≡ faults_held f
unfolding bits_of packet_of bytes_of
bits_failed s n f = faults_counted f

bits_command : (s : States) (n : ℕ) (c : Option Command) → bits_of s n (judge_command c) ≡ 0
unfolding bits_of packet_of bytes_of
bits_command s n None = faults_counted no_faults ∙ (unfold faults_held in refl)
bits_command s n (Some c) = unfold fault_bits ones ones_in in refl

pub faults_told : (s : States) (p : Arrived) → fault_bits (get_or (response s p (judge p)) 6 0) (get_or (response s p (judge p)) 7 0) ≡ faults_held (faults_of p)
unfolding response judge bits_of
faults_told s p =
    cond_both (any_fault (faults_of p)) _ _ (λ j. bits_of s (response_type p.cmd1) j ≡ faults_held (faults_of p))
    (λ e. bits_failed s (response_type p.cmd1) (faults_of p))
    (λ e. bits_command s (response_type p.cmd1) p.command ∙ sym (none_held (faults_of p) e))
