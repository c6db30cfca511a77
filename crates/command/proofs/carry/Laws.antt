-- Carrying out a judgement by the controller's numbers: it is what document 01 says of the transfer, and the transfer stays in rule.
use Rattle.std.specs.Prelude.{Some}
use Prim.Native.Nat.{ℕ, ◌+◌, ◌<◌, ◌≤◌}
use mathlib.Core.Path.{◌≡◌, refl, ap, sym, ◌∙◌}
use mathlib.Core.Bool.{true}
use mathlib.Core.List.{List, ◌++◌}
use native.Mathlib.Omega.{arith}
use lib.ListN.{length, take, drop, length-append}
use lib.Seq.{sets, sets-eq, length-sets, take_at, length-take-le}
use borrow.Author.Tests.{le-leb}
use Rattle.command.specs.Transfer.{Transfer, Opened, held}
use Rattle.command.specs.Faults.{Arrived}
use Rattle.command.specs.Judgement.{judge}
use Rattle.command.specs.Carry.{transfer_after}
use Rattle.command.specs.Controller.{held_in, transfer_in, transfer_in_rule, transfer_state_after, buffer_after}
use Rattle.command.specs.declared.transfer.TransferState.{TransferState}
use Rattle.command.specs.declared.judgement.Judgement.{Judgement}
use Rattle.command.specs.declared.judgement.Judgement.TheVariants.{Error, Hold, Write, Read}
use Rattle.command.proofs.table.Laws.{found}
use Rattle.command.proofs.transfer.Laws.{fits_hold, count_most, held_most, held_is}
use Rattle.command.proofs.judgement.Laws.{judge_cases}

-- A transfer that is added to keeps within 1,024 bytes.

abbrev pub Bounded : ℕ → Judgement → Type 0
Bounded n (Error k) = Unit {0}
Bounded n (Hold c) = n ≤ 1024
Bounded n (Write v) = Unit {0}
Bounded n (Read c) = Unit {0}

pub bounded : (mode : ℕ) (t : Transfer) (p : Arrived) → Bounded (length (held t) + p.size) (judge mode t p)
bounded mode t p =
    judge_cases (Bounded (length (held t) + p.size)) mode t p (λ _. tt)
    (λ c k e. record {
      hold = λ _. fits_hold (Some c) t p e;
      read = λ _ _ _. tt;
      asked = λ _ _ _. tt;
      size = λ _ _ _. tt;
      value = λ _ _ _ _. tt;
      blocks = λ _ _ _ _ _. tt;
      write = λ _ _ _ _. tt;
    })

-- n is the payload's length, of which the body is as much as was held
pub transfer_kept_lem : (t : TransferState) (body : List ℕ) (n : ℕ) (j : Judgement) → length body ≤ n → transfer_in_rule t ≡ true → Bounded (held_in t + n) j
    → transfer_in_rule (transfer_state_after t body j) ≡ true
unfolding transfer_in_rule
transfer_kept_lem t body n (Error k) l r b = refl
transfer_kept_lem t body n (Hold c) l r b = rw (le-leb (held_in t + length body) 1024 (omega arith), found c)
transfer_kept_lem t body n (Write v) l r b = refl
transfer_kept_lem t body n (Read c) l r b = r

-- the count of held bytes fits its field, whatever the judgement
pub count_fits : (t : TransferState) (body : List ℕ) (j : Judgement) → transfer_in_rule t ≡ true → length body ≤ 1024 → (transfer_state_after t body j).held < 65536
count_fits t body (Error k) r l = omega arith
count_fits t body (Hold c) r l = omega (arith, held_most t r)
count_fits t body (Write v) r l = omega arith
count_fits t body (Read c) r l = omega (arith, count_most t r)

pub buffer_kept : (t : TransferState) (buffer body : List ℕ) (j : Judgement) → length (buffer_after t buffer body j) ≡ length buffer
buffer_kept t buffer body (Error k) = refl
buffer_kept t buffer body (Hold c) = length-sets buffer (held_in t) body
buffer_kept t buffer body (Write v) = refl
buffer_kept t buffer body (Read c) = refl

-- the list up to the end of what was stored at a place of it
pub stored_part : (d xs : List ℕ) (i n : ℕ) → length xs ≡ n → i + n ≤ length d → take (i + n) (sets d i xs) ≡ take i d ++ xs
stored_part d xs i n l h =
    let t : length (take i d) ≡ i = length-take-le i d (omega arith) in
    rw (sets-eq xs d i (omega arith)) (take_at (take i d ++ xs) (drop (i + length xs) d) (i + n) (length-append (take i d) xs ∙ omega arith))

pub carried_transfer : (t : TransferState) (buffer body : List ℕ) (p : Arrived) (j : Judgement) → transfer_in_rule t ≡ true → length buffer ≡ 1024
    → length p.body ≡ p.size → (p.size ≤ 1024 → body ≡ p.body) → Bounded (held_in t + p.size) j
    → transfer_in (transfer_state_after t body j) (buffer_after t buffer body j) ≡ transfer_after (transfer_in t buffer) p j
carried_transfer t buffer body p (Error k) r n l e b = refl
carried_transfer t buffer body p (Hold c) r n l e b =
    rw (found c, e (omega arith))
    (ap (Opened c)
    (stored_part buffer p.body (held_in t) (length p.body) refl (omega arith) ∙ ap (λ (x : List ℕ). x ++ p.body) (sym (held_is t r buffer))))
carried_transfer t buffer body p (Write v) r n l e b = refl
carried_transfer t buffer body p (Read c) r n l e b = refl
