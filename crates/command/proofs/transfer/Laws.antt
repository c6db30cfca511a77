-- What no fault of the first group says of a packet, and a transfer by the controller's numbers.
use Rattle.std.specs.Prelude.{Option, None, Some, is_some}
use Prim.Native.Nat.{ℕ, ◌+◌, ◌≤◌}
use mathlib.Core.Path.{◌≡◌, refl, ap, ap₂, sym, subst, ◌∙◌}
use mathlib.Core.Bool.{Bool, true, false, not, ◌&&◌, ◌||◌, and-true}
use mathlib.Core.List.{List}
use native.Mathlib.Omega.{arith}
use lib.Dec.{eqb, ltb, leb}
use lib.ListN.{length, take}
use lib.Seq.{length-take-le}
use borrow.Author.Tests.{eq-eqb, ne_eqb, eqb-true, eqb-false, ltb-false, leb-true, not-false}
use Rattle.packet.specs.Packet.{host_write, host_read, whole, beginning, intermediate, last}
use Rattle.packet.proofs.Cases.{bool_cases, true_and_left, true_and_right, false_or_left, false_or_right}
use Rattle.command.specs.Table.{cmd1_for, cmd2_for, has_code, command_of, same, readable}
use Rattle.command.specs.Transfer.{Transfer, Closed, Opened, is_open, held, open_for}
use Rattle.command.specs.Faults.{Arrived, continues, wrong_command, too_long, wrong_order, faults, any_fault}
use Rattle.command.specs.Controller.{held_in, transfer_in, transfer_in_rule}
use Rattle.command.specs.Inner.{is_open_in, open_for_in, faults_of}
use Rattle.command.specs.declared.table.Command.{Command}
use Rattle.command.specs.declared.transfer.TransferState.{TransferState}
use Rattle.command.proofs.table.Laws.{known_code}

-- No fault of the first group.

none_of_four : (a b c d : Bool) → (a || b || c || d) ≡ false → (a ≡ false) × (b ≡ false) × (c ≡ false) × (d ≡ false)
none_of_four a b c d h =
    let abc = false_or_left (a || b || c) d h in
    let ab = false_or_left (a || b) c abc in
    (false_or_left a b ab, false_or_right a b ab, false_or_right (a || b) c abc, false_or_right (a || b || c) d h)

pub record Faultless (f : Option Command) (t : Transfer) (p : Arrived) : Type 0 where
  pub command : wrong_command f p.type ≡ false
  pub memory : too_long (is_open t) (length (held t)) p.flags p.size ≡ false
  pub checksum : p.right ≡ true
  pub continuation : wrong_order (is_open t) (open_for f t) p.type p.flags ≡ false

pub faultless : (f : Option Command) (t : Transfer) (p : Arrived) → any_fault (faults f t p) ≡ false → Faultless f t p
unfolding any_fault faults faults_of
faultless f t p h =
    let n =
    none_of_four (wrong_command f p.type) (too_long (is_open t) (length (held t)) p.flags p.size) (not p.right) (wrong_order (is_open t) (open_for f t) p.type p.flags) h in
    record { command = n.0; memory = n.1; checksum = not-false p.right n.2; continuation = n.3 }

-- flags that are in order, by the four parts of the rule
order_parts : (opened ours : Bool) (type flags : ℕ) → wrong_order opened ours type flags ≡ false
    → (ltb last flags ≡ false)
    × ((not (eqb type host_write) && not (eqb flags whole)) ≡ false)
    × ((continues flags && not ours) ≡ false)
    × (((eqb flags whole || eqb flags beginning) && opened) ≡ false)
unfolding wrong_order
order_parts opened ours type flags h =
    none_of_four (ltb last flags) (not (eqb type host_write) && not (eqb flags whole)) (continues flags && not ours)
    ((eqb flags whole || eqb flags beginning) && opened) h

-- while a transfer is open, they continue it
continues_open : (o : Bool) (type flags : ℕ) → wrong_order true o type flags ≡ false → continues flags ≡ true
continues_open o type flags h =
    let n = order_parts true o type flags h in
    let w : (eqb flags whole || eqb flags beginning) ≡ false = sym (and-true (eqb flags whole || eqb flags beginning)) ∙ n.3 in
    bool_cases (eqb flags intermediate)
    (λ e. rw e)
    (λ e. rw e
    (eq-eqb flags last
    (omega (
      arith,
      ltb-false last flags n.0,
      eqb-false flags whole (false_or_left (eqb flags whole) (eqb flags beginning) w),
      eqb-false flags beginning (false_or_right (eqb flags whole) (eqb flags beginning) w),
      eqb-false flags intermediate e,
    ))))

-- and are of its own command
own_command : (o : Bool) (type flags : ℕ) → wrong_order true o type flags ≡ false → o ≡ true
own_command o type flags h =
    not-false o (sym (ap (λ (b : Bool). b && not o) (continues_open o type flags h)) ∙ (order_parts true o type flags h).2)

pub in_order_lem : (c : Command) (t : Transfer) (p : Arrived) → any_fault (faults (Some c) t p) ≡ false → (not (is_open t) || open_for (Some c) t) ≡ true
in_order_lem c t p h = go t (faultless (Some c) t p h).continuation
  where
    go : (t : Transfer) → wrong_order (is_open t) (open_for (Some c) t) p.type p.flags ≡ false → (not (is_open t) || open_for (Some c) t) ≡ true
    go Closed o = refl
    go (Opened d x) o = own_command (same c d) p.type p.flags o

-- a read comes while no transfer is open, and its command can be read
pub reads_alone : (c : Command) (t : Transfer) (p : Arrived) → any_fault (faults (Some c) t p) ≡ false → eqb p.type host_read ≡ true
    → (is_open t ≡ false) × (readable c ≡ true)
unfolding wrong_command
reads_alone c t p h r =
    let k = faultless (Some c) t p h in
    let e : p.type ≡ host_read = eqb-true p.type host_read r in
    let n = order_parts (is_open t) (open_for (Some c) t) host_read p.flags (rw e at k.continuation) in
    let w : wrong_command (Some c) host_read ≡ false = rw e at k.command in (
      sym (ap (λ (b : Bool). (b || eqb p.flags beginning) && is_open t) (not-false (eqb p.flags whole) n.1)) ∙ n.3,
      not-false (readable c) w,
    )

-- the held bytes and the payload fit the hold
pub fits_hold : (f : Option Command) (t : Transfer) (p : Arrived) → any_fault (faults f t p) ≡ false → length (held t) + p.size ≤ 1024
fits_hold f t p h = let k = faultless f t p h in go t k.memory k.continuation
  where
    go : (t : Transfer) → too_long (is_open t) (length (held t)) p.flags p.size ≡ false → wrong_order (is_open t) (open_for f t) p.type p.flags ≡ false
        → length (held t) + p.size ≤ 1024
    go Closed l o = unfold too_long in omega (arith, ltb-false 1024 p.size (false_or_left (ltb 1024 p.size) (continues p.flags && false && ltb 1024 (0 + p.size)) l))
    go (Opened c d) l o =
        unfold too_long in
        ltb-false 1024 (length d + p.size)
        (sym (ap (λ (b : Bool). b && true && ltb 1024 (length d + p.size)) (continues_open (open_for f (Opened c d)) p.type p.flags o))
        ∙ false_or_right (ltb 1024 p.size) (continues p.flags && true && ltb 1024 (length d + p.size)) l)

-- A transfer by the controller's numbers, in rule: none is open, or one for a command of the table.
module _ (t : TransferState) (r : transfer_in_rule t ≡ true) where
  pub by_transfer : {P : Type 0} → (eqb t.active 0 ≡ true → P) → ((c : Command) → eqb t.active 0 ≡ false → command_of t.cmd1 t.cmd2 ≡ Some c → P) → P
  unfolding transfer_in_rule
  by_transfer none some =
      bool_cases (eqb t.active 0) none
      (λ e. known (command_of t.cmd1 t.cmd2) refl
      (subst (λ (b : Bool). (b || is_some (command_of t.cmd1 t.cmd2)) ≡ true) e
      (true_and_right (leb t.held 1024) (eqb t.active 0 || is_some (command_of t.cmd1 t.cmd2)) r))
      (λ c k. some c e k))
    where
      known : {P : Type 0} (f : Option Command) → command_of t.cmd1 t.cmd2 ≡ f → is_some f ≡ true → ((c : Command) → command_of t.cmd1 t.cmd2 ≡ Some c → P) → P
      known None e k g = let z : ◌≡◌ {A = ℕ} 0 1 = cc in absurd (omega arith)
      known (Some c) e k g = g c e

  pub count_most : t.held ≤ 1024
  unfolding transfer_in_rule
  count_most = leb-true t.held 1024 (true_and_left (leb t.held 1024) (eqb t.active 0 || is_some (command_of t.cmd1 t.cmd2)) r)

  pub held_most : held_in t ≤ 1024
  held_most = bool_cases (eqb t.active 0) (λ e. rw e (omega arith)) (λ e. rw e count_most)

  same_code : (c d : Command) → command_of t.cmd1 t.cmd2 ≡ Some d → same c d ≡ has_code t.cmd1 t.cmd2 c
  same_code c d k =
      let q = known_code t.cmd1 t.cmd2 d k in
      rw (q.0, q.1) (ap₂ ◌&&◌ (eqb_swap (cmd1_for c) (cmd1_for d)) (eqb_swap (cmd2_for c) (cmd2_for d)))
    where
      eqb_swap : (a b : ℕ) → eqb a b ≡ eqb b a
      eqb_swap a b =
          bool_cases (eqb a b)
          (λ e. e ∙ sym (eq-eqb b a (sym (eqb-true a b e))))
          (λ e. e ∙ sym (ne_eqb b a (λ h. eqb-false a b e (sym h))))

  -- It is document 01's transfer, its held data being the first bytes of the buffer.
  module _ (buffer : List ℕ) where
    pub held_is : held (transfer_in t buffer) ≡ take (held_in t) buffer
    held_is = by_transfer (λ e. rw e) (λ c e k. rw (e, k))

    pub open_is : is_open (transfer_in t buffer) ≡ is_open_in t
    open_is = by_transfer (λ e. rw e) (λ c e k. rw (e, k))

    pub open_for_is : (f : Option Command) → open_for f (transfer_in t buffer) ≡ open_for_in f t
    open_for_is None = refl
    open_for_is (Some c) = by_transfer (λ e. rw e) (λ d e k. rw (e, k) (same_code c d k))

    module _ (n : length buffer ≡ 1024) where
      pub held_length : length (held (transfer_in t buffer)) ≡ held_in t
      held_length = ap length held_is ∙ length-take-le (held_in t) buffer (omega (arith, held_most))

      -- the codes of the first group
      pub faults_are : (f : Option Command) (p : Arrived)
          → faults f (transfer_in t buffer) p ≡ faults_of f (is_open_in t) (open_for_in f t) (held_in t) p.type p.flags p.size p.right
      unfolding faults faults_of
      faults_are f p = rw (open_is, open_for_is f, held_length)
