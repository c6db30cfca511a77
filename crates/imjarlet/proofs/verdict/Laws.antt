-- A verdict as numbers says the verdict: no refusal has the number 0.
use Prim.Native.Nat.{ℕ}
use mathlib.Core.Path.{◌≡◌, refl, sym}
use mathlib.Core.Bool.{false}
use mathlib.Core.List.{List}
use lib.Dec.{eqb}
use Rattle.packet.specs.Number.{Bytes}
use Rattle.report.specs.Report.{Verdict, Accepted, Refused, verdict}
use Rattle.report.specs.Refusals.{Fault, F11, F12, F13, F14, F15, F16, F17, F18, F19, F20, Refusal, Long, Later}
use Rattle.report.proofs.Refusals.{refused_exactly}
use Rattle.imjarlet.specs.Exports.{verdict_of, refusal_in, told_by}

fault_number : {r : List ℕ} (n p : ℕ) → Fault r n p → eqb n 0 ≡ false
fault_number n p (F11 kind at left due short) = refl
fault_number n p (F12 kind at left other body more due is small differs) = refl
fault_number n p (F13 kind at left body more due is size) = refl
fault_number n p (F14 version count more is small differs) = refl
fault_number n p (F15 more is) = refl
fault_number n p (F16 ts k more begins counted small above) = refl
fault_number n p (F20 ts k ship x more is scores named) = refl
fault_number n p (F17 ts k ship laid lowest) = refl
fault_number n p (F18 ts k ship m laid lowest first) = refl
fault_number n p (F19 ts k ship laid lowest ships equal) = refl

refusal_number : {r : List ℕ} (n p : ℕ) → Refusal r n p → eqb n 0 ≡ false
refusal_number n p (Long over) = refl
refusal_number n p (Later m k short fault) = fault_number m k fault

pub told_verdict : (r : List ℕ) → Bytes r → (v : Verdict) → v ≡ verdict r → told_by (refusal_in v) (verdict_of v) ≡ v
unfolding told_by verdict_of refusal_in
told_verdict r b (Accepted k score s) e = refl
told_verdict r b (Refused n p) e = rw (refusal_number n p ((refused_exactly r n p b).0 (sym e)))
