-- Write packets: the encoder's packet is judged as its write, and an accepted whole write encodes to its own bytes.
use Rattle.std.specs.Prelude.{Option, Some, is_some}
use Prim.Native.Nat.{ℕ, ◌≤◌}
use mathlib.Core.Path.{◌≡◌, refl, ap, sym, subst, ◌∙◌}
use mathlib.Core.Bool.{Bool, true, false, cond, not, ◌&&◌, ◌||◌, and-false}
use mathlib.Core.List.{List, ◌++◌}
use native.Mathlib.Omega.{arith}
use lib.Dec.{eqb}
use lib.ListN.{length}
use borrow.Author.Tests.{eq-eqb, eqb-true, le-ltb}
use Rattle.packet.specs.Number.{Bytes}
use Rattle.packet.specs.Packet.{type_of, cmd1_of, cmd2_of, flags_of, payload_length, payload, sealed, packet_of, host_write, host_read, whole}
use Rattle.packet.proofs.NumberLaws.{bytes_take, bytes_drop}
use Rattle.packet.proofs.StreamLaws.{IsPacket}
use Rattle.packet.proofs.WriterLaws.{length_written, packet_written, payload_written, sum_written, packet_remade}
use Rattle.command.specs.Table.{cmd1_for, cmd2_for, can_read, layout, size_of}
use Rattle.command.specs.Settings.{store}
use Rattle.command.specs.Rules.{allowed, blocked}
use Rattle.command.specs.Data.{join_all, Fit}
use Rattle.command.specs.Value.{command_in, values_in, value_from, widths, data_in}
use Rattle.command.specs.Transfer.{Transfer, Closed, Opened, is_open, held, open_for}
use Rattle.command.specs.Inner.{faults_of}
use Rattle.command.specs.Faults.{Arrived, arrived, wrong_command, too_long, wrong_order, faults, any_fault, mode_fault}
use Rattle.command.specs.Judgement.{judge_write, judge_data, judge_as, judge}
use Rattle.command.specs.Player.{State, from, judged, next}
use Rattle.command.specs.Encoder.{write_packet, encoded}
use Rattle.command.specs.declared.table.Command.{Command}
use Rattle.command.specs.declared.settings.Settings.{Settings}
use Rattle.command.specs.declared.value.Value.{Value}
use Rattle.command.specs.declared.judgement.Judgement.TheVariants.{Error, Write}
use Rattle.command.proofs.table.Laws.{fit_length, found, known_code, size_small}
use Rattle.command.proofs.rules.Laws.{fit_data}
use Rattle.command.proofs.data.Laws.{split_join, length_join, join_split}
use Rattle.command.proofs.value.Laws.{command_from, values_from, value_from_lem}
use Rattle.command.proofs.transfer.Laws.{faultless}
use Rattle.command.proofs.judgement.Laws.{OfWrite, of_judge}

-- a packet of given fields and data, as it arrives
abbrev pub packet_with : ℕ → ℕ → ℕ → ℕ → List ℕ → Arrived
packet_with type cmd1 cmd2 flags d =
    record { type = type; cmd1 = cmd1; cmd2 = cmd2; flags = flags; size = length d; right = true; body = d }

pub arrived_written : (type cmd1 cmd2 flags : ℕ) (d : List ℕ) → length d ≤ 65535 → arrived (packet_of type cmd1 cmd2 flags d) ≡ packet_with type cmd1 cmd2 flags d
arrived_written type cmd1 cmd2 flags d h =
    rw (length_written type cmd1 cmd2 flags d h, sum_written type cmd1 cmd2 flags d h, payload_written type cmd1 cmd2 flags d h)
    (unfold packet_of sealed in refl)

-- one without flags that this layer makes
abbrev pub plain : ℕ → Command → List ℕ → Arrived
plain type c d = packet_with type (cmd1_for c) (cmd2_for c) whole d

pub arrived_plain : (type : ℕ) (c : Command) (d : List ℕ) → length d ≤ 65535 → arrived (packet_of type (cmd1_for c) (cmd2_for c) whole d) ≡ plain type c d
arrived_plain type c d h = arrived_written type (cmd1_for c) (cmd2_for c) whole d h

-- At a packet boundary with no transfer open it has no fault of the first group, and is judged by its command and data alone.
module _ (type : ℕ) (c : Command) (d : List ℕ) (w : wrong_command (Some c) type ≡ false) (h : length d ≤ 1024) where
  no_faults_lem : any_fault (faults (Some c) Closed (plain type c d)) ≡ false
  unfolding any_fault faults faults_of too_long wrong_order
  no_faults_lem = rw (w, le-ltb 1024 (length d) h, and-false (not (eqb type host_write)))

  pub alone : (mode : ℕ) → judge mode Closed (plain type c d) ≡ judge_data c mode type whole d
  unfolding judge judge_as
  alone mode = rw (found c, no_faults_lem)

  pub judge_plain : (mode : ℕ) → judge mode Closed (arrived (packet_of type (cmd1_for c) (cmd2_for c) whole d)) ≡ judge_data c mode type whole d
  judge_plain mode = rw (arrived_plain type c d (omega arith)) (alone mode)

-- Values of the code's types that are allowed.
module _ (c : Command) (v : List ℕ) (f : Fit (widths c) v) (a : allowed c v ≡ true) where
  fit : Fit (layout c) v
  fit = fit_data c v a f

  length_data : length (join_all (layout c) v) ≡ size_of c
  unfolding size_of
  length_data = length_join (layout c) v (fit_length (layout c) v fit)

  -- the packet of a legal write is judged as that write; only run 1 outside mode 4 draws 07 instead
  pub judged_write : (mode : ℕ) → judge mode Closed (arrived (write_packet c (join_all (layout c) v))) ≡ cond (blocked c v mode) (Error mode_fault) (Write (value_from c v))
  unfolding write_packet wrong_command judge_data judge_write
  judged_write mode =
      judge_plain host_write c (join_all (layout c) v) refl (omega (arith, length_data, size_small c)) mode
      ∙ rw (eq-eqb (length (join_all (layout c) v)) (size_of c) length_data, split_join (layout c) v fit, a)

  pub write_packet_lem : IsPacket (write_packet c (join_all (layout c) v))
  unfolding write_packet
  write_packet_lem = packet_written host_write (cmd1_for c) (cmd2_for c) whole (join_all (layout c) v) (omega (arith, length_data, size_small c))

  -- a write that is not blocked is carried out
  pub next_write : (s : Settings) → blocked c v s.mode ≡ false
      → (judged (from s) (write_packet c (join_all (layout c) v)) ≡ Write (value_from c v)) × (next (from s) (write_packet c (join_all (layout c) v)) ≡ from (store c v s))
  unfolding judged next
  next_write s b =
      let e : judge s.mode Closed (arrived (write_packet c (join_all (layout c) v))) ≡ Write (value_from c v) = judged_write s.mode ∙ rw b in
      (e, rw (e, command_from c v, values_from c v (fit_length (layout c) v fit)))

-- Demand 2: our own encoder's packet for a legal write, on a head with no transfer open, is judged as that same write; only run 1 outside mode 4 draws 07 instead.
pub encoder_judged : (v : Value) (s : Settings) → Fit (widths (command_in v)) (values_in v) → allowed (command_in v) (values_in v) ≡ true
    → IsPacket (encoded v) × (judged (from s) (encoded v) ≡ cond (blocked (command_in v) (values_in v) s.mode) (Error mode_fault) (Write v))
unfolding encoded data_in judged
encoder_judged v s f a = (
  write_packet_lem (command_in v) (values_in v) f a,
  judged_write (command_in v) (values_in v) f a s.mode
      ∙ ap (λ (x : Value). cond (blocked (command_in v) (values_in v) s.mode) (Error mode_fault) (Write x)) (value_from_lem v),
)

-- Every write accepted in one packet encodes to the bytes it arrived as.

-- flags 00 are in order only with no transfer open
whole_closed : (t : Transfer) (o : Bool) (type : ℕ) → wrong_order (is_open t) o type whole ≡ false → t ≡ Closed
unfolding wrong_order
whole_closed Closed o type h = refl
whole_closed (Opened c d) o type h = go (not (eqb type host_write)) h
  where
    go : (x : Bool) → (((x && false) || false) || true) ≡ false → Opened c d ≡ Closed
    go true h = let z : ◌≡◌ {A = ℕ} 0 1 = cc in absurd (omega arith)
    go false h = let z : ◌≡◌ {A = ℕ} 0 1 = cc in absurd (omega arith)

-- a type that is not wrong and is no read is a write
type_write : (f : Option Command) (type : ℕ) → wrong_command f type ≡ false → eqb type host_read ≡ false → type ≡ host_write
unfolding wrong_command
type_write f type h e = eqb-true type host_write (go (eqb type host_write) (eqb type host_read) (is_some f) (can_read f) h e)
  where
    go : (w r k c : Bool) → (not (w || r) || not k || (r && not c)) ≡ false → r ≡ false → w ≡ true
    go true r k c h e = refl
    go false true k c h e = let z : ◌≡◌ {A = ℕ} 0 1 = cc in absurd (omega arith)
    go false false k c h e = let z : ◌≡◌ {A = ℕ} 0 1 = cc in absurd (omega arith)

pub packet_eq : {t t' a a' b b' f f' : ℕ} {d d' : List ℕ} → t ≡ t' → a ≡ a' → b ≡ b' → f ≡ f' → d ≡ d' → packet_of t a b f d ≡ packet_of t' a' b' f' d'
packet_eq e1 e2 e3 e4 e5 = cc

payload_bytes : (p : List ℕ) → Bytes p → Bytes (payload p)
unfolding payload
payload_bytes p b = bytes_take (payload_length p) _ (bytes_drop 6 p b)

pub accepted_encodes : (p : List ℕ) → Bytes p → IsPacket p → (a : State) (v : Value) → flags_of p ≡ whole → judged a p ≡ Write v → encoded v ≡ p
unfolding judged encoded data_in write_packet size_of
accepted_encodes p b i a v z h =
    subst (OfWrite Remade) h
    (of_judge Remade a.settings.mode a.transfer (arrived p)
    (λ c k e r n w.
    let g = faultless (Some c) a.transfer (arrived p) e in
    let code = known_code (cmd1_of p) (cmd2_of p) c k in
    let d : held a.transfer ++ payload p ≡ payload p =
    ap (λ (x : Transfer). held x ++ payload p)
    (whole_closed a.transfer (open_for (Some c) a.transfer) (type_of p) (rw z at g.continuation)) in
    packet_eq (sym (type_write (Some c) (type_of p) g.command r)) (sym code.0) (sym code.1) (sym z)
    (rw d (join_split (layout c) (payload p) (payload_bytes p b) (rw d at n)))
    ∙ packet_remade p b i g.checksum))
  where
    Remade : Command → List ℕ → Type 0
    Remade c u = packet_of host_write (cmd1_for c) (cmd2_for c) whole (join_all (layout c) u) ≡ p
