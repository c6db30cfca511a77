-- The judge call: the data that a judgement holds, and how the steps of the code make up the call.
use Prim.Native.Nat.{ℕ, ◌≤◌}
use mathlib.Core.Path.{◌≡◌, refl, ◌∙◌}
use mathlib.Core.Bool.{true, false}
use mathlib.Core.List.{List, ◌++◌}
use Rattle.std.specs.Prelude.{None, Some}
use native.Mathlib.Nat.{zero-add}
use native.Mathlib.Omega.{arith}
use lib.ListN.{length, length-append}
use lib.Seq.{sets}
use borrow.Author.Tests.{eq-eqb}
use Rattle.packet.specs.Packet.{cmd1_of, cmd2_of, payload, error}
use Rattle.packet.specs.Stream.{size, has_packet}
use Rattle.packet.specs.Writer.{written}
use Rattle.packet.proofs.BytesLaws.{sets_append, sets_front}
use Rattle.command.specs.Transfer.{Transfer, held}
use Rattle.command.specs.Faults.{Arrived, arrived}
use Rattle.command.specs.Judgement.{judge}
use Rattle.command.specs.Response.{response_type}
use Rattle.command.specs.Player.{judged}
use Rattle.command.specs.Controller.{transfer_of, transfer_in, in_rule}
use Rattle.command.specs.Ruling.{data_for, ruling_of}
use Rattle.command.specs.Asking.{Judging, one_packet, refused_with, judge_call}
use Rattle.command.specs.Inner.{held_by, record_of}
use Rattle.command.specs.declared.transfer.TransferState.{TransferState}
use Rattle.command.specs.declared.faults.Codes.{Codes}
use Rattle.command.specs.declared.judgement.Judgement.{Judgement}
use Rattle.command.specs.declared.judgement.Judgement.TheVariants.{Error, Hold, Write, Read}
use Rattle.command.specs.declared.controller.Controller.{Controller}
use Rattle.command.specs.declared.ruling.Ruling.{Ruling}
use Rattle.command.specs.declared.ruling.JudgementRecord.{JudgementRecord}
use Rattle.command.proofs.transfer.Laws.{fits_hold, held_is}
use Rattle.command.proofs.judgement.Laws.{judge_cases}
use Rattle.command.proofs.controller.Laws.{rule_parts}

-- The data that a judgement holds: with an error those that were held, else the packet's too.

pub data_error : (h b : List ℕ) (j : Judgement) → response_type j ≡ error → data_for h b j ≡ h
data_error h b (Error k) e = refl
data_error h b (Hold c) e = absurd (omega arith)
data_error h b (Write v) e = absurd (omega arith)
data_error h b (Read c) e = absurd (omega arith)

pub data_accepted : (h b : List ℕ) (j : Judgement) → ((k : Codes) → j ≡ Error k → ⊥) → data_for h b j ≡ h ++ b
data_accepted h b (Error k) e = absurd (e k refl)
data_accepted h b (Hold c) e = refl
data_accepted h b (Write v) e = refl
data_accepted h b (Read c) e = refl

-- they have room
pub data_fit : (mode : ℕ) (t : Transfer) (p : Arrived) → length (held t) ≤ 1024 → length p.body ≡ p.size → length (data_for (held t) p.body (judge mode t p)) ≤ 1024
data_fit mode t p h n =
    judge_cases (λ (j : Judgement). length (data_for (held t) p.body j) ≤ 1024) mode t p (λ _. h)
    (λ c k e.
    let f : length (held t ++ p.body) ≤ 1024 = omega (arith, length-append (held t) p.body, fits_hold (Some c) t p e) in
    record {
      hold = λ _. f;
      read = λ _ _ _. f;
      asked = λ _ _ _. h;
      size = λ _ _ _. h;
      value = λ _ _ _ _. h;
      blocks = λ _ _ _ _ _. h;
      write = λ _ _ _ _. f;
    })

-- stored one after the other they stand at the array's start, the rest untouched
pub stored_first : (h d : List ℕ) → length h ≤ length d → sets d 0 h ≡ written h d
unfolding written
stored_first h d l = sets_front h d l

pub stored_both : (h b d : List ℕ) → length (h ++ b) ≤ length d → sets (sets d 0 h) (length h) b ≡ written (h ++ b) d
unfolding written
stored_both h b d l = rw zero-add at (sets_append h b d 0) ∙ sets_front (h ++ b) d l

-- The call.

-- its refusals
pub out_of_rule : (c : Controller) (b : List ℕ) (lent : JudgementRecord) → in_rule c ≡ false → refused_with 3 lent ≡ judge_call c b lent
unfolding judge_call
out_of_rule c b lent h = rw h

pub not_one : (c : Controller) (b : List ℕ) (lent : JudgementRecord) → in_rule c ≡ true → one_packet b ≡ false → refused_with 5 lent ≡ judge_call c b lent
unfolding judge_call
not_one c b lent h g = rw (h, g)

-- The judge call does not look at the payload of a packet that is coming in: any other in its place draws the same.
pub hold_unseen : (c : Controller) (hold b : List ℕ) (lent : JudgementRecord)
    → judge_call (record { settings = c.settings; registers = c.registers; buffer = c.buffer; hold = hold }) b lent ≡ judge_call c b lent
unfolding judge_call
hold_unseen c hold b lent = refl

-- and the judgement of one packet
module _ (c : Controller) (b lent : List ℕ) (n : Ruling) (rule : in_rule c ≡ true) (packet : has_packet b ≡ true) (whole : size b ≡ length b) where
  pub judges : {t : TransferState} {body : List ℕ} {j : Judgement} {count : ℕ} {joined : List ℕ} {m : Ruling}
      → t ≡ transfer_of c.registers
      → body ≡ payload b
      → j ≡ judge c.settings.mode (transfer_in t c.buffer) (arrived b)
      → count ≡ length (data_for (held_by t c.buffer) body j)
      → joined ≡ written (data_for (held_by t c.buffer) body j) lent
      → m ≡ ruling_of c.settings c.registers (cmd1_of b) (cmd2_of b) count j
      → ◌≡◌ {A = Judging} record { refusal = None; judgement = record_of m joined } (judge_call c b (record_of n lent))
  unfolding judge_call one_packet judged
  judges et eb ej ec ed em =
      rw (em, ed, ec, ej, eb, et, rule, packet, eq-eqb (size b) (length b) whole, held_is (transfer_of c.registers) (rule_parts c.settings c.registers rule).transfer c.buffer)
