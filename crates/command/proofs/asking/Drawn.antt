-- A judgement without error codes that the test `drawable` finds is drawn: there are a controller and a packet that draw it.
use Prim.Native.Nat.{ℕ, ◌+◌, ◌%◌, ◌<◌, ◌≤◌}
use mathlib.Core.Path.{◌≡◌, refl, ap, sym, ◌∙◌}
use mathlib.Core.Bool.{Bool, true, false, cond, not, ◌&&◌, ◌||◌, and-false}
use mathlib.Core.List.{List, [], ◌∷◌, ◌++◌}
use Rattle.std.specs.Prelude.{Option, None, Some}
use Rattle.std.proofs.lemmas.Bool.{cond_both}
use native.Mathlib.Omega.{arith}
use lib.Dec.{eqb, leb}
use lib.ListN.{length, take, length-drop, take-append-drop}
use lib.Seq.{take-take, length-take-le}
use borrow.Author.Tests.{eqb-true, leb-true, le-ltb, not-true}
use Rattle.packet.specs.Number.{Bytes, bytes_of}
use Rattle.packet.specs.Packet.{payload, sum, checksum, sealed, packet_of, host_write, host_read, whole, beginning, intermediate, last}
use Rattle.packet.specs.Receiver.{packet_in_rule}
use Rattle.packet.specs.Writer.{written}
use Rattle.packet.proofs.Cases.{true_and_left, true_and_right, never}
use Rattle.packet.proofs.NumberLaws.{bytes_append, bytes_take, bytes_drop, bytes_bytes}
use Rattle.packet.proofs.WriterLaws.{packet_written, payload_written}
use Rattle.command.specs.Table.{cmd1_for, cmd2_for, layout, size_of, readable}
use Rattle.command.specs.Settings.{factory, values_after, store}
use Rattle.command.specs.Rules.{allowed, blocked}
use Rattle.command.specs.Data.{split_all}
use Rattle.command.specs.Value.{value_from}
use Rattle.command.specs.Transfer.{is_open, held}
use Rattle.command.specs.Faults.{Arrived, wrong_command, too_long, wrong_order, any_fault}
use Rattle.command.specs.Judgement.{completes, judge_read, judge_write, judge_data, judge_as, judge}
use Rattle.command.specs.Response.{wrong_in}
use Rattle.command.specs.Player.{judged}
use Rattle.command.specs.Controller.{held_in, state_of, receiver_in, transfer_in_rule, zeros, fresh}
use Rattle.command.specs.Endpoint.{registers_of}
use Rattle.command.specs.Sending.{Ready}
use Rattle.command.specs.Inner.{is_open_in, open_for_in, faults_of}
use Rattle.command.specs.Ruling.{mask_in, holds, writes, reads, acceptance, no_wrong, wrong_told, data_for, transfer_kept, open_kept, joined_in, brought_in, command_for, kept_in_rule, joined_in_rule, in_order, asks_only, acceptable, drawable}
use Rattle.command.specs.Asking.{Judging, judge_call}
use Rattle.command.specs.Request5.{Made, Drawn}
use Rattle.command.specs.declared.table.Command.{Command}
use Rattle.command.specs.declared.table.Command.TheVariants.{DisplayMode}
use Rattle.command.specs.declared.controller.Controller.{Controller}
use Rattle.command.specs.declared.transfer.TransferState.{TransferState}
use Rattle.command.specs.declared.judgement.Judgement.{Judgement}
use Rattle.command.specs.declared.judgement.Judgement.TheVariants.{Error, Hold, Write, Read}
use Rattle.command.specs.declared.ruling.Kept.{Kept}
use Rattle.command.specs.declared.ruling.Ruling.{Ruling}
use Rattle.command.specs.declared.ruling.JudgementRecord.{JudgementRecord}
use Rattle.command.proofs.table.Laws.{each, known_code}
use Rattle.command.proofs.rules.Laws.{Writable, in_rule_of, kept_store, kept_factory}
use Rattle.command.proofs.controller.Laws.{rule_whole}
use Rattle.command.proofs.transfer.Laws.{open_is, open_for_is, held_is, faults_are}
use Rattle.command.proofs.encoder.Laws.{packet_with, arrived_written}
use Rattle.command.proofs.asking.Ways.{all_of_four}
use Rattle.command.proofs.asking.Carried.{one_packet_lem}

-- the first bytes written where they stand
written_same : (n : ℕ) (d : List ℕ) → n ≤ length d → written (take n d) d ≡ d
unfolding written
written_same n d h = rw (length-take-le n d h) (take-append-drop n d)

-- A judgement that says how a packet is accepted has no code, names no byte, and joins the data.
record Plain (j : Judgement) : Type 0 where
  codes : mask_in j ≡ 0
  wrong : wrong_in j ≡ None
  joins : (h d : List ℕ) → data_for h d j ≡ h ++ d

plain : (j : Judgement) → eqb (acceptance j) 0 ≡ false → Plain j
plain (Error k) h = never (sym h)
plain (Hold c) h = record { codes = refl; wrong = refl; joins = λ _ _. refl }
plain (Write v) h = record { codes = refl; wrong = refl; joins = λ _ _. refl }
plain (Read c) h = record { codes = refl; wrong = refl; joins = λ _ _. refl }

-- The controller: a fresh one with what the judgement keeps.

abbrev keeper : JudgementRecord → Controller
keeper j =
    record {
      settings = store DisplayMode (j.ruling.kept.mode ∷ []) factory;
      registers = registers_of (transfer_kept j) (receiver_in fresh);
      buffer = j.joined;
      hold = zeros;
    }

keeper_ready : (j : JudgementRecord) → Made j → kept_in_rule j ≡ true → Ready (keeper j)
keeper_ready j m k =
    let v : List ℕ = j.ruling.kept.mode ∷ [] in
    let w : Writable factory.mode DisplayMode v =
    record { full = refl; values = true_and_left _ (transfer_in_rule (transfer_kept j)) k; free = unfold blocked in refl } in
    record {
      rule =
          rule_whole _ _
          (record {
            settings = in_rule_of (store DisplayMode v factory) (kept_store DisplayMode v factory kept_factory w);
            transfer = true_and_right (allowed DisplayMode v) _ k;
            packet = unfold packet_in_rule in refl;
          });
      header = refl;
      buffer = m.size;
      hold = unfold zeros in refl;
    }

-- a packet of bytes
command_bytes : (c : Command) → (cmd1_for c < 256) × (cmd2_for c < 256)
command_bytes = each (λ c. (cmd1_for c < 256) × (cmd2_for c < 256)) (omega arith)

bytes_packet : (type cmd1 cmd2 flags : ℕ) (d : List ℕ) → Bytes (type ∷ cmd1 ∷ cmd2 ∷ flags ∷ []) → Bytes d → Bytes (packet_of type cmd1 cmd2 flags d)
unfolding packet_of sealed checksum
bytes_packet type cmd1 cmd2 flags d b h =
    let front = type ∷ cmd1 ∷ cmd2 ∷ flags ∷ bytes_of 2 (length d) ++ d in
    bytes_append front (sum front % 256 ∷ [])
    (bytes_append (type ∷ cmd1 ∷ cmd2 ∷ flags ∷ []) (bytes_of 2 (length d) ++ d) b (bytes_append (bytes_of 2 (length d)) d (bytes_bytes 2 (length d)) h))
    (omega arith, tt)

-- the flags of a write that completes its data or not, with a transfer open or none
abbrev flags_for : Bool → Bool → ℕ
flags_for complete opened = cond complete (cond opened last whole) (cond opened intermediate beginning)

flags_for_lem : (complete opened ours : Bool) → (not opened || ours) ≡ true
    → let flags = flags_for complete opened in
    (completes flags ≡ complete) × (wrong_order opened ours host_write flags ≡ false) × (flags < 256)
unfolding wrong_order
flags_for_lem complete true false h = never h
flags_for_lem true true true h = (refl, refl, omega arith)
flags_for_lem false true true h = (refl, refl, omega arith)
flags_for_lem true false ours h = (refl, refl, omega arith)
flags_for_lem false false ours h = (refl, refl, omega arith)

-- the same parts make the same record
ruling_eq : (n : Ruling) {codes accepts wrong count cmd1 cmd2 : ℕ} {kept : Kept}
    → codes ≡ n.codes → accepts ≡ n.accepts → wrong ≡ n.wrong → count ≡ n.count → cmd1 ≡ n.cmd1 → cmd2 ≡ n.cmd2 → kept ≡ n.kept
    → record { codes = codes; accepts = accepts; wrong = wrong; count = count; cmd1 = cmd1; cmd2 = cmd2; kept = kept } ≡ n
ruling_eq n e1 e2 e3 e4 e5 e6 e7 = rw (e1, e2, e3, e4, e5, e6, e7)

judging_eq : (j : JudgementRecord) {n : Ruling} {d : List ℕ} → n ≡ j.ruling → d ≡ j.joined
    → ◌≡◌ {A = Judging} (record { refusal = None; judgement = record { ruling = n; joined = d } }) (record { refusal = None; judgement = j })
judging_eq j e f = rw (e, f)

module _ (j : JudgementRecord) (m : Made j) (z : j.ruling.codes ≡ 0) (v : j.ruling.wrong ≡ no_wrong) (k : kept_in_rule j ≡ true) (b : joined_in_rule j ≡ true)
    (c : Command) (e : command_for j ≡ Some c) where
  abbrev numbers : TransferState
  numbers = transfer_kept j

  in_rule_lem : transfer_in_rule numbers ≡ true
  in_rule_lem = true_and_right (allowed DisplayMode (j.ruling.kept.mode ∷ [])) _ k

  least : held_in numbers ≤ j.ruling.count
  least = leb-true (held_in numbers) j.ruling.count (true_and_left _ (leb j.ruling.count 1024) b)

  most : j.ruling.count ≤ 1024
  most = leb-true j.ruling.count 1024 (true_and_right (leb (held_in numbers) j.ruling.count) _ b)

  count_is : length (joined_in j) ≡ j.ruling.count
  count_is = length-take-le j.ruling.count j.joined (omega (arith, most, m.size))

  -- the held data, and behind them those that are brought
  brought_length : held_in numbers + length (brought_in j) ≡ j.ruling.count
  brought_length = omega (arith, length-drop (held_in numbers) (joined_in j), count_is, least)

  brought_small : length (brought_in j) ≤ 1024
  brought_small = omega (arith, brought_length, most)

  joined_is : take (held_in numbers) j.joined ++ brought_in j ≡ joined_in j
  joined_is =
      ap (λ (x : List ℕ). x ++ brought_in j) (sym (take-take (held_in numbers) j.ruling.count j.joined least))
      ∙ take-append-drop (held_in numbers) (joined_in j)

  -- a packet that brings them, with no fault of the first group
  module _ (type flags : ℕ) (w : wrong_command (Some c) type ≡ false)
      (o : wrong_order (is_open_in numbers) (open_for_in (Some c) numbers) type flags ≡ false) where
    abbrev bringer : List ℕ
    bringer = packet_of type j.ruling.cmd1 j.ruling.cmd2 flags (brought_in j)

    no_faults_lem : any_fault (faults_of (Some c) (is_open_in numbers) (open_for_in (Some c) numbers) (held_in numbers) type flags (length (brought_in j)) true)
        ≡ false
    unfolding any_fault faults_of too_long
    no_faults_lem =
        rw (
          w,
          o,
          le-ltb 1024 (length (brought_in j)) brought_small,
          le-ltb 1024 (held_in numbers + length (brought_in j)) (omega (arith, brought_length, most)),
          and-false,
        )

    judged_bringer : judged (state_of (keeper j)) bringer ≡ judge_data c j.ruling.kept.mode type flags (joined_in j)
    unfolding judged judge judge_as store values_after
    judged_bringer =
        let p : Arrived = packet_with type j.ruling.cmd1 j.ruling.cmd2 flags (brought_in j) in
        ap (λ (x : Arrived). judge j.ruling.kept.mode (open_kept j) x)
        (arrived_written type j.ruling.cmd1 j.ruling.cmd2 flags (brought_in j) (omega (arith, brought_small)))
        ∙ rw (e, faults_are numbers in_rule_lem j.joined m.size (Some c) p, no_faults_lem, held_is numbers in_rule_lem j.joined, joined_is)

    -- it draws the record, if it is accepted so
    drawn_by : (x : Judgement) → judge_data c j.ruling.kept.mode type flags (joined_in j) ≡ x
        → eqb j.ruling.accepts (acceptance x) ≡ true
        → eqb (acceptance x) 0 ≡ false
        → type < 256
        → flags < 256
        → Drawn j
    drawn_by x y a n type-small flags-small =
        let code = known_code j.ruling.cmd1 j.ruling.cmd2 c e in
        let small = command_bytes c in
        record {
          controller = keeper j;
          ready = keeper_ready j m k;
          keeps = unfold store values_after in refl;
          packet = bringer;
          bytes =
              bytes_packet type j.ruling.cmd1 j.ruling.cmd2 flags (brought_in j)
              (type-small, (omega (arith, code.0, small.0), (omega (arith, code.1, small.1), (flags-small, tt))))
              (bytes_drop (held_in numbers) (joined_in j) (bytes_take j.ruling.count j.joined m.bytes));
          draws =
              unfold judge_call packet_of sealed store values_after in
              rw (
                (keeper_ready j m k).rule,
                one_packet_lem bringer (packet_written type j.ruling.cmd1 j.ruling.cmd2 flags (brought_in j) (omega (arith, brought_small))),
                judged_bringer ∙ y,
              )
              (judging_eq j
              (ruling_eq j.ruling ((plain x n).codes ∙ sym z) (sym (eqb-true j.ruling.accepts (acceptance x) a)) (ap wrong_told (plain x n).wrong ∙ sym v)
              (ap length data_is ∙ count_is) refl refl refl)
              (ap (λ (d : List ℕ). written d j.joined) data_is ∙ written_same j.ruling.count j.joined (omega (arith, most, m.size))));
        }
      where
        data_is : data_for (held (open_kept j)) (payload bringer) x ≡ joined_in j
        data_is =
            (plain x n).joins (held (open_kept j)) (payload bringer)
            ∙ rw (
              held_is numbers in_rule_lem j.joined,
              payload_written type j.ruling.cmd1 j.ruling.cmd2 flags (brought_in j) (omega (arith, brought_small)),
            ) joined_is

  open_kept_lem : is_open (open_kept j) ≡ is_open_in numbers
  open_kept_lem = open_is numbers in_rule_lem j.joined

  drawn_write : (complete : Bool) → in_order c j ≡ true → (x : Judgement)
      → cond complete (judge_write c j.ruling.kept.mode (joined_in j)) (Hold c) ≡ x
      → eqb j.ruling.accepts (acceptance x) ≡ true
      → eqb (acceptance x) 0 ≡ false
      → Drawn j
  unfolding judge_data wrong_command
  drawn_write complete o x y a n =
      let ours : (not (is_open_in numbers) || open_for_in (Some c) numbers) ≡ true =
      rw (open_kept_lem, open_for_is numbers in_rule_lem j.joined (Some c)) at o in
      let f = flags_for_lem complete (is_open_in numbers) (open_for_in (Some c) numbers) ours in
      drawn_by host_write (flags_for complete (is_open_in numbers)) refl f.1 x (rw f.0 y) a n (omega arith) f.2

  drawn_read : eqb j.ruling.accepts reads ≡ true → asks_only c j ≡ true → Drawn j
  unfolding judge_data judge_read wrong_command wrong_order
  drawn_read r a =
      let first = true_and_left (not (is_open (open_kept j)) && readable c) _ a in
      let closed : is_open_in numbers ≡ false = sym open_kept_lem ∙ not-true (is_open (open_kept j)) (true_and_left _ (readable c) first) in
      let empty : length (joined_in j) ≡ 0 = count_is ∙ eqb-true j.ruling.count 0 (true_and_right (not (is_open (open_kept j)) && readable c) _ a) in
      drawn_by host_read whole (rw (true_and_right (not (is_open (open_kept j))) (readable c) first)) (rw closed) (Read c) (rw empty) r refl (omega arith) (omega arith)

  drawn_accepted : acceptable (Some c) j ≡ true → Drawn j
  unfolding judge_write
  drawn_accepted =
      let sized = eqb (length (joined_in j)) (size_of c) in
      let fine = allowed c (split_all (layout c) (joined_in j)) in
      let stopped = blocked c (split_all (layout c) (joined_in j)) j.ruling.kept.mode in
      cond_both (eqb j.ruling.accepts holds) _ _ Gives
      (λ h o. drawn_write false o (Hold c) refl h refl)
      (λ _.
      cond_both (eqb j.ruling.accepts writes) _ _ Gives
      (λ h a.
      let w : (sized && fine && not stopped) ≡ true = true_and_right (in_order c j) _ a in
      let g = true_and_left (sized && fine) _ w in
      drawn_write true (true_and_left _ _ a) (Write (value_from c (split_all (layout c) (joined_in j))))
      (rw (true_and_left sized fine g, true_and_right sized fine g, not-true stopped (true_and_right (sized && fine) _ w))) h refl)
      (λ _. cond_both (eqb j.ruling.accepts reads) _ _ Gives drawn_read (λ _ a. never a)))
    where
      Gives : Bool → Type 0
      Gives b = b ≡ true → Drawn j

-- a judgement that is found is drawn
pub found_drawn : (j : JudgementRecord) → Made j → drawable j ≡ true → Drawn j
unfolding drawable
found_drawn j m h = go (command_for j) refl (true_and_right first _ h)
  where
    first : Bool
    first = eqb j.ruling.codes 0 && eqb j.ruling.wrong no_wrong && kept_in_rule j && joined_in_rule j

    go : (f : Option Command) → command_for j ≡ f → acceptable f j ≡ true → Drawn j
    go None e a = never a
    go (Some c) e a =
        let r = all_of_four (eqb j.ruling.codes 0) (eqb j.ruling.wrong no_wrong) (kept_in_rule j) (joined_in_rule j) (true_and_left first _ h) in
        drawn_accepted j m (eqb-true j.ruling.codes 0 r.0) (eqb-true j.ruling.wrong no_wrong r.1) r.2 r.3 c e a
