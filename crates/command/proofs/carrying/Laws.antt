-- What a record means by the code's steps, the kept items by the code's tests, and what carrying out leaves.
use Prim.Native.Nat.{ℕ, ◌+◌, ◌-◌, ◌≤◌}
use mathlib.Core.Path.{◌≡◌, refl, ap, sym, ◌∙◌}
use Rattle.std.specs.Cmp.Lexicographic.{pointwise}
use mathlib.Core.Bool.{Bool, true, false, cond, ◌&&◌, ◌||◌, and_assoc, and-true, and-false, not-not}
use mathlib.Core.List.{List, [], ◌∷◌, ◌++◌}
use Rattle.std.specs.Prelude.{Option, None, Some}
use native.Mathlib.Omega.{arith}
use lib.Dec.{eqb, leb, ltb}
use lib.ListN.{length, take, drop}
use lib.Seq.{length-take-le, take-add, drop_at}
use borrow.Author.Tests.{eqb-true, leb-true, le-ltb, not-false}
use Rattle.packet.proofs.Cases.{bool_cases, true_and_left, true_and_right}
use Rattle.command.specs.Table.{command_of, layout, size_of}
use Rattle.command.specs.Rules.{allowed, blocked}
use Rattle.command.specs.Data.{split_all, same_list}
use Rattle.command.specs.Value.{value_from}
use Rattle.command.specs.Faults.{codes_of, list_if}
use Rattle.command.specs.Judgement.{judge_write}
use Rattle.command.specs.Response.{codes_in}
use Rattle.command.specs.Controller.{receiver_in, transfer_of, held_in, transfer_in_rule, transfer_state_after, buffer_after, in_rule}
use Rattle.command.specs.Ruling.{codes_told, acceptable, accepted_as, command_for, in_order, writable, brought_in, meant, drawable, forged, items_in, items_of, items_kept, same_items, same_command, holds, writes, reads, no_wrong, transfer_of_kept}
use Rattle.packet.specs.Writer.{written}
use Rattle.command.specs.Response.{response_to}
use Rattle.command.specs.Encoder.{Writes}
use Rattle.command.specs.Endpoint.{carried_out}
use Rattle.command.specs.Asking.{response_for, carry_call}
use Rattle.command.specs.Inner.{open_for_in, ruling_in_rule, if_write, accepted_by, any_code, same_numbers, record_of}
use Rattle.command.specs.declared.table.Command.{Command}
use Rattle.command.specs.declared.table.Command.TheVariants.{DisplayMode}
use Rattle.command.specs.declared.controller.Controller.{Controller}
use Rattle.command.specs.declared.transfer.TransferState.{TransferState}
use Rattle.command.specs.declared.judgement.Judgement.{Judgement}
use Rattle.command.specs.declared.judgement.Judgement.TheVariants.{Error, Write, Read, Hold}
use Rattle.command.specs.declared.ruling.Ruling.{Ruling}
use Rattle.command.specs.declared.ruling.JudgementRecord.{JudgementRecord}
use Rattle.command.proofs.faults.Laws.{any_code_lem}
use Rattle.command.proofs.transfer.Laws.{open_is, open_for_is}

-- equality of bytes, as `==` on slices has it
pub same_bytes : (a b : List ℕ) → pointwise eqb a b ≡ same_list a b
unfolding same_list
same_bytes [] [] = refl
same_bytes [] (y ∷ b) = refl
same_bytes (x ∷ a) [] = refl
same_bytes (x ∷ a) (y ∷ b) = ap (λ (t : Bool). eqb x y && t) (same_bytes a b)

-- The kept items.

-- their commands and how many bytes are held
same_numbers_lem : (t k : TransferState)
    → (same_command (items_in 0 t []).command (items_in 0 k []).command && eqb (held_in t) (held_in k)) ≡ same_numbers t k
same_numbers_lem t k =
    bool_cases (eqb t.active 0)
    (λ e. bool_cases (eqb k.active 0) (λ f. rw (e, f)) (λ f. rw (e, f)))
    (λ e. bool_cases (eqb k.active 0) (λ f. rw (e, f)) (λ f. rw (e, f)))

same_held : (t k : TransferState) → same_numbers t k ≡ true → held_in t ≡ held_in k
same_held t k h =
    eqb-true (held_in t) (held_in k)
    (true_and_right (same_command (items_in 0 t []).command (items_in 0 k []).command) (eqb (held_in t) (held_in k)) (same_numbers_lem t k ∙ h))

-- of transfers with the same numbers as many bytes are looked at
pub same_items_lem : (m n : ℕ) (t k : TransferState) (a b : List ℕ)
    → same_items (items_in m t a) (items_in n k b) ≡ (eqb m n && same_numbers t k && same_list (take (held_in t) a) (take (held_in t) b))
unfolding same_items
same_items_lem m n t k a b =
    rw (and_assoc (eqb m n), same_numbers_lem t k)
    (bool_cases (same_numbers t k) (λ e. rw (same_held t k e)) (λ e. rw (e, and-false (eqb m n))))

-- What a record means.

-- what it draws, unless it is forged
abbrev pub drawn : JudgementRecord → Option Judgement
drawn j = cond (forged j) None (Some (meant j))

pub drawn_none : (j : JudgementRecord) → None ≡ drawn j → forged j ≡ true
drawn_none j h = bool_cases (forged j) (λ e. e) (λ e. let g = rw e at h in cc)

pub drawn_some : (j : JudgementRecord) (m : Judgement) → Some m ≡ drawn j → (forged j ≡ false) × (m ≡ meant j)
drawn_some j m h = bool_cases (forged j) (λ e. let g = rw e at h in let z : ◌≡◌ {A = ℕ} 0 1 = cc in absurd (omega arith)) (λ e. let g = rw e at h in (e, cc))

-- a record with codes, of which one may be known
pub drawn_told : (n : Ruling) (d : List ℕ) → eqb n.codes 0 ≡ false
    → drawn (record_of n d) ≡ cond (any_code (codes_told n.codes)) (Some (Error (codes_told n.codes))) None
unfolding forged meant drawable
drawn_told n d e =
    rw (e, any_code_lem (codes_told n.codes), and-true)
    (bool_cases (any_code (codes_told n.codes)) (λ f. rw f) (λ f. rw f))

-- one without has none in its meaning
pub no_codes : (f : Option Command) (j : JudgementRecord) → codes_in (accepted_as f j) ≡ []
unfolding codes_told codes_of list_if
no_codes None j = refl
no_codes (Some c) j =
    bool_cases (eqb j.ruling.accepts holds) (λ e. rw e)
    (λ e. rw e (bool_cases (eqb j.ruling.accepts writes) (λ f. rw f)
    (λ f. rw f (bool_cases (eqb j.ruling.accepts reads) (λ g. rw g) (λ g. rw g)))))

-- a write is judged so exactly where it is writable
write_is : (c : Command) (mode : ℕ) (d : List ℕ)
    → if_write (judge_write c mode d) ≡ cond (writable c mode d) (Some (Write (value_from c (split_all (layout c) d)))) None
unfolding judge_write
write_is c mode d =
    bool_cases (eqb (length d) (size_of c))
    (λ e. rw e (bool_cases (allowed c (split_all (layout c) d))
    (λ f. rw f (bool_cases (blocked c (split_all (layout c) d) mode) (λ g. rw g) (λ g. rw g)))
    (λ f. rw f)))
    (λ e. rw e)

-- what the numbers say that keep the rules
pub record InRule (n : Ruling) : Type 0 where
  pub transfer : transfer_in_rule (transfer_of_kept n.kept) ≡ true
  pub least : held_in (transfer_of_kept n.kept) ≤ n.count
  pub most : n.count ≤ 1024

pub in_rule_lem : (n : Ruling) → ruling_in_rule n ≡ true → InRule n
in_rule_lem n r =
    let t = transfer_of_kept n.kept in
    let m = eqb n.wrong no_wrong && allowed DisplayMode (n.kept.mode ∷ []) in
    let l = leb (held_in t) n.count in
    let h = true_and_left (m && transfer_in_rule t && l) (leb n.count 1024) r in
    record {
      transfer = true_and_right m (transfer_in_rule t) (true_and_left (m && transfer_in_rule t) l h);
      least = leb-true (held_in t) n.count (true_and_right (m && transfer_in_rule t) l h);
      most = leb-true n.count 1024 (true_and_right (m && transfer_in_rule t && l) (leb n.count 1024) r);
    }

module _ (n : Ruling) (d : List ℕ) where
  -- the tests of the numbers, and then that of the command
  drawable_is : drawable (record_of n d) ≡ (eqb n.codes 0 && (ruling_in_rule n && acceptable (command_for (record_of n d)) (record_of n d)))
  unfolding drawable
  drawable_is = simp and_assoc

  -- a record without codes is drawn where they hold
  drawn_is : eqb n.codes 0 ≡ true
      → drawn (record_of n d) ≡ cond (ruling_in_rule n && acceptable (command_for (record_of n d)) (record_of n d)) (Some (accepted_as (command_for (record_of n d)) (record_of n d))) None
  unfolding forged meant
  drawn_is e =
      rw (drawable_is, e, no_codes (command_for (record_of n d)) (record_of n d))
      (bool_cases (ruling_in_rule n && acceptable (command_for (record_of n d)) (record_of n d)) (λ f. rw f) (λ f. rw f))

  pub drawn_out : eqb n.codes 0 ≡ true → ruling_in_rule n ≡ false → drawn (record_of n d) ≡ None
  drawn_out e r = drawn_is e ∙ rw r

  pub drawn_unknown : eqb n.codes 0 ≡ true → command_of n.cmd1 n.cmd2 ≡ None → drawn (record_of n d) ≡ None
  drawn_unknown e u = drawn_is e ∙ rw (u, and-false (ruling_in_rule n))

  -- for a command
  module _ (c : Command) (r : transfer_in_rule (transfer_of_kept n.kept) ≡ true) where
    in_order_is : in_order c (record_of n d) ≡ (eqb n.kept.active 0 || open_for_in (Some c) (transfer_of_kept n.kept))
    in_order_is =
        let t = transfer_of_kept n.kept in
        rw (open_is t r d, open_for_is t r d (Some c), not-not (eqb n.kept.active 0))

    accepted_is : accepted_by c n (take n.count d) ≡ cond (acceptable (Some c) (record_of n d)) (Some (accepted_as (Some c) (record_of n d))) None
    accepted_is =
        bool_cases (eqb n.accepts holds)
        (λ e. rw (eqb-true n.accepts holds e, in_order_is))
        (λ e. rw e (bool_cases (eqb n.accepts writes)
        (λ f. rw (eqb-true n.accepts writes f, in_order_is, write_is c n.kept.mode (take n.count d))
        (bool_cases (eqb n.kept.active 0 || open_for_in (Some c) (transfer_of_kept n.kept)) (λ g. rw g) (λ g. rw g)))
        (λ f. rw f (bool_cases (eqb n.accepts reads)
        (λ g. rw (g, open_is (transfer_of_kept n.kept) r d, not-not (eqb n.kept.active 0)))
        (λ g. rw g)))))

  pub drawn_known : (c : Command) → eqb n.codes 0 ≡ true → command_of n.cmd1 n.cmd2 ≡ Some c → ruling_in_rule n ≡ true
      → drawn (record_of n d) ≡ accepted_by c n (take n.count d)
  drawn_known c e k r = drawn_is e ∙ rw (k, r) (sym (accepted_is c (in_rule_lem n r).transfer))

-- Carrying out.

-- a part of a list behind the bytes before it, and that part by its two cuts
parts_join : (l : List ℕ) (h e : ℕ) → h ≤ e → take h l ++ take (e - h) (drop h l) ≡ take e l
parts_join l h e p = let n : h + (e - h) ≡ e = omega arith in sym (take-add h (e - h) l) ∙ ap (λ (i : ℕ). take i l) n

pub part_is : (l : List ℕ) (h e : ℕ) → h ≤ e → e ≤ length l → take (e - h) (drop h l) ≡ drop h (take e l)
part_is l h e p q = rw (← parts_join l h e p) (sym (drop_at (take h l) (take (e - h) (drop h l)) h (length-take-le h l (omega arith))))

-- what was brought is looked at only where it is held
brought_for : (j : Judgement) (t : TransferState) (buffer x y : List ℕ) → ((c : Command) → j ≡ Hold c → x ≡ y)
    → (transfer_state_after t x j ≡ transfer_state_after t y j) × (buffer_after t buffer x j ≡ buffer_after t buffer y j)
brought_for (Error k) t buffer x y h = (refl, refl)
brought_for (Hold c) t buffer x y h = rw (h c refl) (refl, refl)
brought_for (Write v) t buffer x y h = (refl, refl)
brought_for (Read c) t buffer x y h = (refl, refl)

-- a judgement that is not refused
module _
    (c : Controller)
    (j : JudgementRecord)
    (f : forged j ≡ false)
    (i : same_items (items_of c) (items_kept j) ≡ true) where
  held_kept : held_in (transfer_of c.registers) ≡ held_in (transfer_of_kept j.ruling.kept)
  held_kept =
      let m = c.settings.mode in
      let t = transfer_of c.registers in
      let k = transfer_of_kept j.ruling.kept in
      same_held t k
      (true_and_right (eqb m j.ruling.kept.mode) (same_numbers t k)
      (true_and_left (eqb m j.ruling.kept.mode && same_numbers t k) (same_list (take (held_in t) c.buffer) (take (held_in t) j.joined))
      (sym (same_items_lem m j.ruling.kept.mode t k c.buffer j.joined) ∙ i)))

  -- data that are held are drawn by a packet, and are in rule
  held_in_rule : (d : Command) → meant j ≡ Hold d → InRule j.ruling
  unfolding forged
  held_in_rule d e =
      let a = acceptable (command_for j) j in
      in_rule_lem j.ruling
      (true_and_left (ruling_in_rule j.ruling) a
      (true_and_right (eqb j.ruling.codes 0) (ruling_in_rule j.ruling && a) (sym (drawable_is j.ruling j.joined) ∙ not-false (drawable j) (rw e at f))))

  -- the bytes that the packet brought stand from the held ones up to here, where the judgement holds them
  pub brought : (end : ℕ) → (held_in (transfer_of c.registers) ≤ j.ruling.count → j.ruling.count ≤ 1024 → end ≡ j.ruling.count)
      → (d : Command) → meant j ≡ Hold d → drop (held_in (transfer_of c.registers)) (take end j.joined) ≡ brought_in j
  brought end known d e =
      let k = held_in_rule d e in
      rw (known (omega (arith, held_kept, k.least)) k.most, held_kept)

  -- what is left, body being what the code takes for those bytes
  pub carry_call_lem : (out body : List ℕ) → 64 ≤ length out → in_rule c ≡ true → ((d : Command) → meant j ≡ Hold d → body ≡ brought_in j)
      → let b = body in
      carry_call c j out
      ≡ record {
        answer = Writes (length (response_to j.ruling.cmd1 j.ruling.cmd2 c.settings (meant j)));
        controller = carried_out c (receiver_in c) b (meant j);
        output = written (response_to j.ruling.cmd1 j.ruling.cmd2 c.settings (meant j)) out;
      }
  unfolding carry_call response_for
  carry_call_lem out body l e h =
      let b = brought_for (meant j) (transfer_of c.registers) c.buffer body (brought_in j) h in
      rw (le-ltb (length out) 64 l, e, f, i, b.0, b.1)

-- The call neither looks at the payload of a packet that is coming in, nor touches it: with any other in its place it
-- answers and leaves the same, but for that payload.
pub hold_passed : (c : Controller) (hold : List ℕ) (j : JudgementRecord) (out : List ℕ)
    → let x = carry_call c j out in
    carry_call (record { settings = c.settings; registers = c.registers; buffer = c.buffer; hold = hold }) j out
    ≡ record {
      answer = x.answer;
      controller = record { settings = x.controller.settings; registers = x.controller.registers; buffer = x.controller.buffer; hold = hold };
      output = x.output;
    }
unfolding carry_call response_for
hold_passed c hold j out =
    bool_cases (ltb (length out) 64) (λ e. rw e)
    (λ e. rw e (bool_cases (in_rule c)
    (λ f. rw f (bool_cases (forged j) (λ g. rw g)
    (λ g. rw g (bool_cases (same_items (items_of c) (items_kept j)) (λ h. rw h) (λ h. rw h)))))
    (λ f. rw f)))
