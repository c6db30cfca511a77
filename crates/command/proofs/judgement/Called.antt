-- A judgement is an error with these codes exactly when the faults of the packet call for them.
use Rattle.std.specs.Prelude.{Option, None, Some}
use Prim.Native.Nat.{ℕ}
use mathlib.Core.Path.{◌≡◌, refl, ap, sym, subst, ◌∙◌}
use mathlib.Core.Logic.{◌↔◌}
use mathlib.Core.Bool.{true, false, not, ◌&&◌}
use mathlib.Core.List.{List, [], ◌∷◌, Memᴰ}
use native.Mathlib.Omega.{arith}
use lib.Dec.{eqb}
use lib.ListN.{length, get_or}
use borrow.Author.Tests.{eq-eqb, ne_eqb, eqb-true, eqb-false, not-true}
use Rattle.packet.specs.Packet.{error, host_write, host_read, whole, last, sum}
use Rattle.packet.specs.Number.{value_of}
use Rattle.packet.proofs.Cases.{bool_cases, true_and_left, true_and_right, never}
use Rattle.command.specs.Table.{command_of, same, layout, size_of}
use Rattle.command.specs.Rules.{wrong_byte, blocked}
use Rattle.command.specs.Data.{split_all}
use Rattle.command.specs.Transfer.{Transfer}
use Rattle.command.specs.Faults.{Arrived, faults, any_fault, size_fault, value_fault, mode_fault, list_if, codes_of}
use Rattle.command.specs.Judgement.{judge_read, judge_write, completes, judge_data, judge_as, judge}
use Rattle.command.specs.Response.{response_type, codes_in}
use Rattle.command.specs.Demand1.{Names, Completes, FirstFault, UnknownType, joined_data, LaterFault, WrongSize, DataInRead, ValueNotAllowed, RunOutsideMode, Draws, FirstGroup, Alone}
use Rattle.command.specs.declared.table.Command.{Command}
use Rattle.command.specs.declared.table.Command.TheVariants.{SequenceRun}
use Rattle.command.specs.declared.faults.Codes.{Codes}
use Rattle.command.specs.declared.judgement.Judgement.{Judgement}
use Rattle.command.specs.declared.judgement.Judgement.TheVariants.{Error, Hold, Write, Read}
use Rattle.command.proofs.table.Laws.{known_code, same_eq}
use Rattle.command.proofs.judgement.Laws.{judge_cases, unknown_fault}
use Rattle.command.proofs.faults.Laws.{two_true, true_two, named, codes_ascending, same_ascending, first_group, codes_some, codes_exactly, no_fault, fault_any, faultless_test}

-- From a judgement to the faults: an error has the codes that the packet's faults call for.

-- what holds of an error's codes
abbrev IfError : (List ℕ → Type 0) → Judgement → Type 0
IfError P (Error k) = P (codes_of k)
IfError P (Hold c) = Unit {0}
IfError P (Write v) = Unit {0}
IfError P (Read c) = Unit {0}

-- the judgement is an error with these codes
pub record IsError (j : Judgement) (codes : List ℕ) : Type 0 where
  pub type : response_type j ≡ error
  pub lists : codes_in j ≡ codes

is_error : {j : Judgement} (k : Codes) → j ≡ Error k → IsError j (codes_of k)
is_error k e = record { type = rw e; lists = rw e }

error_called : (P : List ℕ → Type 0) (j : Judgement) (codes : List ℕ) → IsError j codes → IfError P j → P codes
error_called P (Error k) codes h d = subst P h.lists d
error_called P (Hold c) codes h d = absurd (omega (arith, h.type))
error_called P (Write v) codes h d = absurd (omega (arith, h.type))
error_called P (Read c) codes h d = absurd (omega (arith, h.type))

-- run 1 is the one byte 1
run_one : (d : List ℕ) → length d ≡ 1 → get_or (split_all (layout SequenceRun) d) 0 0 ≡ 1 → d ≡ 1 ∷ []
unfolding split_all value_of
run_one [] n h = absurd (omega arith)
run_one (x ∷ []) n h = let e : x ≡ 1 = omega arith in rw e
run_one (x ∷ y ∷ d) n h = absurd (omega arith)

module _ (mode : ℕ) (t : Transfer) (p : Arrived) where
  calls : IfError (Draws mode t p) (judge mode t p)
  unfolding codes_of list_if size_of sum blocked
  calls =
      judge_cases (IfError (Draws mode t p)) mode t p
      (λ h. FirstGroup (codes_of (first_group t p)) (codes_some t p h) (codes_ascending (first_group t p)) (codes_exactly t p))
      (λ c e h.
      let none : (n : ℕ) → FirstFault t p n → ⊥ = no_fault t p (ap (λ (f : Option Command). any_fault (faults f t p)) e ∙ h) in
      let names : Names p.cmd1 p.cmd2 c = known_code p.cmd1 p.cmd2 c e in
      let write : eqb p.type host_read ≡ false → p.type ≡ host_write = λ r.
      bool_cases (eqb p.type host_write) (λ w. eqb-true p.type host_write w)
      (λ w. absurd (none 0x02 (UnknownType (eqb-false p.type host_write w) (eqb-false p.type host_read r)))) in
      let d : List ℕ = joined_data t p in
      let alone : (n : ℕ) → completes p.flags ≡ true → LaterFault mode t p n → Draws mode t p (n ∷ []) = λ n f l. Alone n none (two_true p.flags whole last f) l in
      record {
        hold = λ _. tt;
        read = λ _ _ _. tt;
        asked = λ f r n. alone 0x0A f (DataInRead (eqb-true p.type host_read r) (eqb-false (length d) 0 n));
        size = λ f r n. alone 0x0A f (WrongSize c (write r) names (eqb-false (length d) (size_of c) n));
        value = λ f r n a. alone 0x03 f (ValueNotAllowed c (write r) names (eqb-true (length d) (size_of c) n) a);
        blocks = λ f r n a b.
            let one = true_and_left (same c SequenceRun && eqb (get_or (split_all (layout c) d) 0 0) 1) (not (eqb mode 4)) b in
            let run : c ≡ SequenceRun = same_eq c SequenceRun (true_and_left (same c SequenceRun) _ one) in
            alone 0x07 f
            (RunOutsideMode (write r) (rw run at names)
            (run_one d (rw run at (eqb-true (length d) (size_of c) n)) (rw run at (eqb-true (get_or (split_all (layout c) d) 0 0) 1 (true_and_right (same c SequenceRun) _ one))))
            (eqb-false mode 4 (not-true _ (true_and_right (same c SequenceRun && eqb (get_or (split_all (layout c) d) 0 0) 1) _ b))));
        write = λ _ _ _ _. tt;
      })

  -- From the faults to the judgement.

  -- one of the first group holds
  judged_first : any_fault (first_group t p) ≡ true → judge mode t p ≡ Error (first_group t p)
  unfolding judge
  judged_first h = go (command_of p.cmd1 p.cmd2) refl h
    where
      go : (f : Option Command) → command_of p.cmd1 p.cmd2 ≡ f → any_fault (faults f t p) ≡ true → judge_as f mode t p ≡ Error (faults f t p)
      go None e k = unfold judge_as in refl
      go (Some c) e k = unfold judge_as in rw k

  -- none does
  module _ (none : (n : ℕ) → FirstFault t p n → ⊥) where
    judged_later : (c : Command) → Names p.cmd1 p.cmd2 c → judge mode t p ≡ judge_data c mode p.type p.flags (joined_data t p)
    unfolding judge judge_as
    judged_later c n =
        let e : command_of p.cmd1 p.cmd2 ≡ Some c = named p.cmd1 p.cmd2 c n in
        let h : any_fault (faults (Some c) t p) ≡ false = rw e at (faultless_test t p none) in
        rw e (rw h)

    -- the command is in the table
    known : {P : Type 0} → ((c : Command) → Names p.cmd1 p.cmd2 c → P) → P
    known {P} g = go (command_of p.cmd1 p.cmd2) refl
      where
        go : (f : Option Command) → command_of p.cmd1 p.cmd2 ≡ f → P
        go None e = never (sym (rw e at (faultless_test t p none)) ∙ unknown_fault t p)
        go (Some c) e = g c (known_code p.cmd1 p.cmd2 c e)

    later_judged : Completes p.flags → (n : ℕ) → LaterFault mode t p n → IsError (judge mode t p) (n ∷ [])
    unfolding codes_of list_if judge_data judge_read judge_write size_of sum split_all value_of blocked
    later_judged f n (WrongSize c w k h) =
        is_error size_fault (judged_later c k ∙ rw (true_two p.flags whole last f, w, ne_eqb (length (joined_data t p)) (size_of c) h))
    later_judged f n (DataInRead r h) =
        known (λ c k. is_error size_fault (judged_later c k ∙ rw (true_two p.flags whole last f, r, ne_eqb (length (joined_data t p)) 0 h)))
    later_judged f n (ValueNotAllowed c w k s h) =
        is_error (value_fault (wrong_byte c (split_all (layout c) (joined_data t p)))) (judged_later c k ∙ rw (true_two p.flags whole last f, w, eq-eqb (length (joined_data t p)) (size_of c) s, h))
    later_judged f n (RunOutsideMode w k e h) =
        is_error mode_fault (judged_later SequenceRun k ∙ rw (true_two p.flags whole last f, w, e, ne_eqb mode 4 h))

  judged_called : (codes : List ℕ) → Draws mode t p codes → IsError (judge mode t p) codes
  judged_called codes (FirstGroup _ some up exactly) =
      subst (IsError (judge mode t p))
      (same_ascending (codes_of (first_group t p)) codes 0 (codes_ascending (first_group t p)) up
      (λ n m. (exactly n).1 ((codes_exactly t p n).0 m))
      (λ n m. (codes_exactly t p n).1 ((exactly n).0 m)))
      (is_error (first_group t p) (judged_first (one codes some exactly)))
    where
      one : (l : List ℕ) → (l ≡ [] → ⊥) → ((n : ℕ) → Memᴰ n l ↔ FirstFault t p n) → any_fault (first_group t p) ≡ true
      one [] s x = absurd (s refl)
      one (n ∷ l) s x = fault_any t p n ((x n).0 (Memᴰ.head refl))
  judged_called _ (Alone n none f l) = later_judged none f n l

  -- the judgement is an error with these codes exactly when the faults call for them
  pub exactly_called : (codes : List ℕ) → IsError (judge mode t p) codes ↔ Draws mode t p codes
  exactly_called codes = (λ h. error_called (Draws mode t p) (judge mode t p) codes h calls, judged_called codes)
