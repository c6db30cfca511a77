-- The ways a packet can be judged, what is known of a write that is carried out, and how the steps of the code make up the judgement.
use Rattle.std.specs.Prelude.{Option, None, Some}
use Rattle.std.proofs.lemmas.Bool.{cond_both}
use Prim.Native.Nat.{ℕ, ◌-◌, ◌<◌}
use mathlib.Core.Path.{◌≡◌, refl, ap, sym}
use mathlib.Core.Bool.{Bool, true, false, cond, not, ◌||◌, or-true}
use mathlib.Core.List.{List, ◌++◌}
use native.Mathlib.Omega.{arith}
use lib.Dec.{eqb}
use lib.Seq.{get_or-take}
use lib.ListN.{length, take, drop, get_or}
use borrow.Author.Tests.{eqb-true}
use Rattle.packet.specs.Number.{Bytes}
use Rattle.packet.specs.Packet.{type_of, cmd1_of, cmd2_of, flags_of, payload_length, payload, right_sum, host_write, host_read}
use Rattle.packet.specs.Stream.{size}
use Rattle.packet.proofs.Cases.{bool_cases}
use Rattle.command.specs.Table.{command_of, layout, size_of}
use Rattle.command.specs.Rules.{allowed, wrong_byte, blocked}
use Rattle.command.specs.Data.{split_all, Fit}
use Rattle.command.specs.Value.{command_in, values_in, value_from}
use Rattle.command.specs.Transfer.{Transfer, held}
use Rattle.command.specs.Faults.{Arrived, arrived, wrong_command, faults, any_fault, size_fault, value_fault, mode_fault}
use Rattle.command.specs.Judgement.{judge_write, judge_read, completes, judge_data, judge_as, judge}
use Rattle.command.specs.Controller.{held_in, transfer_in, transfer_in_rule, packet_in}
use Rattle.command.specs.Inner.{is_open_in, open_for_in, parsed, faults_of}
use Rattle.command.specs.declared.table.Command.{Command}
use Rattle.command.specs.declared.transfer.TransferState.{TransferState}
use Rattle.command.specs.declared.faults.Codes.{Codes}
use Rattle.command.specs.declared.judgement.Judgement.{Judgement}
use Rattle.command.specs.declared.judgement.Judgement.TheVariants.{Error, Hold, Write, Read}
use Rattle.command.specs.declared.value.Value.{Value}
use Rattle.command.proofs.rules.Laws.{Writable}
use Rattle.command.proofs.data.Laws.{split_length, fit_split}
use Rattle.command.proofs.value.Laws.{command_from, values_from}
use Rattle.command.proofs.transfer.Laws.{held_is, faults_are}

-- What holds of every judgement that a packet can come to holds of its judgement. Past the first group, with c the command and d the joined data:
pub record Later (P : Judgement → Type 0) (mode type flags : ℕ) (c : Command) (d : List ℕ) : Type 0 where
  pub hold : completes flags ≡ false → P (Hold c)
  pub read : completes flags ≡ true → eqb type host_read ≡ true → eqb (length d) 0 ≡ true → P (Read c)
  pub asked : completes flags ≡ true → eqb type host_read ≡ true → eqb (length d) 0 ≡ false → P (Error size_fault)
  pub size : completes flags ≡ true → eqb type host_read ≡ false → eqb (length d) (size_of c) ≡ false → P (Error size_fault)
  pub value : completes flags ≡ true → eqb type host_read ≡ false → eqb (length d) (size_of c) ≡ true → allowed c (split_all (layout c) d) ≡ false
      → P (Error (value_fault (wrong_byte c (split_all (layout c) d))))
  pub blocks : completes flags ≡ true → eqb type host_read ≡ false → eqb (length d) (size_of c) ≡ true → allowed c (split_all (layout c) d) ≡ true
      → blocked c (split_all (layout c) d) mode ≡ true → P (Error mode_fault)
  pub write : completes flags ≡ true → eqb type host_read ≡ false → length d ≡ size_of c → Writable mode c (split_all (layout c) d)
      → P (Write (value_from c (split_all (layout c) d)))

later : (P : Judgement → Type 0) (mode type flags : ℕ) (c : Command) (d : List ℕ) → Later P mode type flags c d → P (judge_data c mode type flags d)
unfolding judge_data judge_read judge_write
later P mode type flags c d l =
    cond_both (completes flags) _ _ P
    (λ f.
    cond_both (eqb type host_read) _ _ P
    (λ r. cond_both (eqb (length d) 0) _ _ P (λ n. l.read f r n) (λ n. l.asked f r n))
    (λ r.
    cond_both (eqb (length d) (size_of c)) _ _ P
    (λ n.
    cond_both (allowed c (split_all (layout c) d)) _ _ P
    (λ a.
    cond_both (blocked c (split_all (layout c) d) mode) _ _ P
    (λ b. l.blocks f r n a b)
    (λ b. l.write f r (eqb-true (length d) (size_of c) n) (record { full = split_length (layout c) d; values = a; free = b })))
    (λ a. l.value f r n a))
    (λ n. l.size f r n)))
    (λ f. l.hold f)

-- a command that is not in the table is a fault
pub unknown_fault : (t : Transfer) (p : Arrived) → any_fault (faults None t p) ≡ true
unfolding any_fault faults faults_of wrong_command
unknown_fault t p = rw (or-true (not (eqb p.type host_write || eqb p.type host_read)))

pub judge_cases : (P : Judgement → Type 0) (mode : ℕ) (t : Transfer) (p : Arrived)
    → let f = command_of p.cmd1 p.cmd2 in
    (any_fault (faults f t p) ≡ true → P (Error (faults f t p)))
    → ((c : Command) → f ≡ Some c → any_fault (faults (Some c) t p) ≡ false → Later P mode p.type p.flags c (held t ++ p.body))
    → P (judge mode t p)
unfolding judge
judge_cases P mode t p first rest = go (command_of p.cmd1 p.cmd2) refl first
  where
    go : (f : Option Command) → command_of p.cmd1 p.cmd2 ≡ f → (any_fault (faults f t p) ≡ true → P (Error (faults f t p))) → P (judge_as f mode t p)
    go None e g = unfold judge_as in g (unknown_fault t p)
    go (Some c) e g =
        unfold judge_as in
        cond_both (any_fault (faults (Some c) t p)) _ _ P g (λ n. later P mode p.type p.flags c (held t ++ p.body) (rest c e n))

-- what holds of a write that a judgement carries out, and of every other judgement
abbrev pub OfWrite : (Command → List ℕ → Type 0) → Judgement → Type 0
OfWrite P (Error k) = Unit {0}
OfWrite P (Hold c) = Unit {0}
OfWrite P (Write v) = P (command_in v) (values_in v)
OfWrite P (Read c) = Unit {0}

-- whatever holds of data that are carried out holds of the write: its values are those of its data
pub of_judge : (P : Command → List ℕ → Type 0) (mode : ℕ) (t : Transfer) (p : Arrived)
    → let f = command_of p.cmd1 p.cmd2 in
    let d = held t ++ p.body in
    ((c : Command) → f ≡ Some c → any_fault (faults (Some c) t p) ≡ false → eqb p.type host_read ≡ false → length d ≡ size_of c
    → Writable mode c (split_all (layout c) d) → P c (split_all (layout c) d))
    → OfWrite P (judge mode t p)
of_judge P mode t p h =
    judge_cases (OfWrite P) mode t p (λ _. tt)
    (λ c k e. record {
      hold = λ _. tt;
      read = λ _ _ _. tt;
      asked = λ _ _ _. tt;
      size = λ _ _ _. tt;
      value = λ _ _ _ _. tt;
      blocks = λ _ _ _ _ _. tt;
      write = λ _ r n w. rw (command_from c (split_all (layout c) (held t ++ p.body)), values_from c (split_all (layout c) (held t ++ p.body)) w.full) (h c k e r n w);
    })

-- a write that is carried out may be
abbrev pub Sound : ℕ → Judgement → Type 0
Sound mode j = OfWrite (Writable mode) j

pub sound : (mode : ℕ) (t : Transfer) (p : Arrived) → Sound mode (judge mode t p)
sound mode t p = of_judge (Writable mode) mode t p (λ c _ _ _ _ w. w)

-- the values that stand in bytes fit their fields
abbrev pub Fitting : Judgement → Type 0
Fitting j = OfWrite (λ c v. Fit (layout c) v) j

pub fitting : (mode : ℕ) (t : Transfer) (p : Arrived) → Bytes (held t ++ p.body) → Fitting (judge mode t p)
unfolding size_of
fitting mode t p b =
    of_judge (λ c v. Fit (layout c) v) mode t p (λ c _ _ _ n _. fit_split (layout c) (held t ++ p.body) b (omega arith))

-- How the code's steps of judging make up the judgement.

-- a write, by what reading its data finds
abbrev pub judge_parsed : ℕ → Option Value → Judgement
judge_parsed mode None = Error size_fault
judge_parsed mode (Some v) =
    cond (allowed (command_in v) (values_in v)) (cond (blocked (command_in v) (values_in v) mode) (Error mode_fault) (Write v))
    (Error (value_fault (wrong_byte (command_in v) (values_in v))))

pub write_parsed : (c : Command) (mode : ℕ) (d : List ℕ) → judge_write c mode d ≡ judge_parsed mode (parsed c d)
unfolding judge_write parsed
write_parsed c mode d =
    bool_cases (eqb (length d) (size_of c))
    (λ e. rw (e, command_from c (split_all (layout c) d), values_from c (split_all (layout c) d) (split_length (layout c) d)))
    (λ e. rw e)

-- a packet, by the controller's numbers
module _ (mode : ℕ) (t : TransferState) (header : List ℕ) (right : Bool) (buffer body : List ℕ) (r : transfer_in_rule t ≡ true) (n : length buffer ≡ 1024) (f : Option Command) where
  abbrev pub codes_by : Codes
  codes_by = faults_of f (is_open_in t) (open_for_in f t) (held_in t) (type_of header) (flags_of header) (payload_length header) right

  codes_are : faults f (transfer_in t buffer) (packet_in header right body) ≡ codes_by
  codes_are = faults_are t r buffer n f (packet_in header right body)

  module _ (e : f ≡ command_of (cmd1_of header) (cmd2_of header)) where
    pub judge_unknown : f ≡ None → Error codes_by ≡ judge mode (transfer_in t buffer) (packet_in header right body)
    unfolding judge judge_as
    judge_unknown u = rw (← e, u) (ap Error (sym (rw u at codes_are)))

    pub judge_known : (c : Command) → f ≡ Some c
        → cond (any_fault codes_by) (Error codes_by) (judge_data c mode (type_of header) (flags_of header) (take (held_in t) buffer ++ body))
        ≡ judge mode (transfer_in t buffer) (packet_in header right body)
    unfolding judge judge_as
    judge_known c k = rw (← e, k, rw k at codes_are, held_is t r buffer)

-- A packet of bytes, its header cut off, is what is judged.
pub packet_parts : (p : List ℕ) (right : Bool) → size p ≡ length p → right ≡ right_sum p
    → {header body : List ℕ} → header ≡ take 6 p → body ≡ take (length p - 1 - 6) (drop 6 p)
    → packet_in header right body ≡ arrived p
unfolding size payload
packet_parts p right e r h b =
    let n : length p - 1 - 6 ≡ payload_length p = omega arith in
    let at : (k : ℕ) → k < 6 → get_or (take 6 p) k 0 ≡ get_or p k 0 = λ k l. get_or-take 6 p k 0 l in
    rw (h, r, b, n, at 0 (omega arith), at 1 (omega arith), at 2 (omega arith), at 3 (omega arith), at 4 (omega arith), at 5 (omega arith))
