-- Demand 1: bad packets, good packets and bad calls.
use Prim.Native.Nat.{ℕ, ◌+◌, ◌<◌}
use mathlib.Core.Path.{◌≡◌, refl, ap, sym, ◌∙◌}
use mathlib.Core.Logic.{◌↔◌, ◌⊎◌, inl, inr}
use mathlib.Core.Bool.{true, false}
use mathlib.Core.List.{List, [], ◌∷◌, ◌++◌}
use native.Mathlib.Omega.{arith}
use Rattle.std.specs.Prelude.{Option, Some}
use Rattle.std.proofs.lemmas.Bool.{cond_both, and_from}
use lib.Dec.{eqb, ltb}
use lib.ListN.{length, take, drop, get_or, length-append}
use lib.Seq.{take_at, drop_at}
use borrow.Author.Tests.{eq-eqb, ne_eqb, eqb-true, eqb-false}
use Rattle.packet.specs.Packet.{packet_of, error, host_write, host_read, whole, beginning, intermediate, last, type_of, cmd1_of, cmd2_of, flags_of, payload_length, payload, right_sum, checksum, header, sealed}
use Rattle.packet.specs.Answer.{Refuses, Waits, Answers}
use Rattle.packet.specs.Receiver.{Received}
use Rattle.packet.specs.Stream.{packets}
use Rattle.packet.specs.Writer.{written}
use Rattle.packet.specs.Number.{bytes_of}
use Rattle.packet.proofs.Cases.{bool_cases, false_or_left, false_or_right, never}
use Rattle.command.specs.Table.{cmd1_for, cmd2_for, same, layout}
use Rattle.command.specs.Settings.{store}
use Rattle.command.specs.Rules.{wrong_byte}
use Rattle.command.specs.Data.{split_all}
use Rattle.command.specs.Value.{data_of, value_from}
use Rattle.command.specs.Transfer.{Transfer, Closed, Opened, held}
use Rattle.command.specs.Faults.{Arrived, arrived, faults, any_fault, size_fault, value_fault, mode_fault, codes_of}
use Rattle.command.specs.Judgement.{completes, judge}
use Rattle.command.specs.Carry.{settings_after, transfer_after}
use Rattle.command.specs.Response.{response_type, codes_in, response}
use Rattle.command.specs.Player.{State, from, judged, next, judgements, after, end_settings, end_offence}
use Rattle.command.specs.Controller.{transfer_of, state_of, transfer_state_after, in_rule}
use Rattle.command.specs.Endpoint.{taken_by, arrived_in, judged_in, response_in, After, answered, receive_call}
use Rattle.command.specs.Sending.{Sending, sent_to, Boundary}
use Rattle.command.specs.Demand1.{Names, Continues, Starts, Completes, FirstFault, UnknownType, UnknownFlags, NoWriteInParts, NoneOpen, OpenForAnother, StillOpen, SettingsOutOfRule, DrawsOn, error_packet, write_response_to, Accepted, Opens, Adds, CarriesOut, Stores, ReadsOut, ErrorSent, accepted_writes, store_all, AllBad, NoPacket, BadPacket, Demand1}
use Rattle.command.specs.declared.table.Command.{Command}
use Rattle.command.specs.declared.settings.Settings.{Settings}
use Rattle.command.specs.declared.faults.Codes.{Codes}
use Rattle.command.specs.declared.judgement.Judgement.{Judgement}
use Rattle.command.specs.declared.judgement.Judgement.TheVariants.{Error, Hold, Write, Read}
use Rattle.command.specs.declared.transfer.TransferState.{TransferState}
use Rattle.command.specs.declared.controller.Controller.{Controller}
use Rattle.command.proofs.table.Laws.{known_code, same_eq}
use Rattle.command.proofs.value.Laws.{command_from, values_from}
use Rattle.command.proofs.faults.Laws.{two_true, first_group, no_fault}
use Rattle.command.proofs.judgement.Laws.{judge_cases}
use Rattle.command.proofs.judgement.Called.{IsError, exactly_called}
use Rattle.command.proofs.endpoint.Boundary.{follows_played}
use Rattle.command.proofs.Refusals.{settings_out, receive_refuses, encode_refuses, list_refuses}

-- The bytes of the response.

-- a packet shows its type and its data
data_shown : (d e : List ℕ) (x y : ℕ) → d ++ (x ∷ []) ≡ e ++ (y ∷ []) → d ≡ e
data_shown d e x y h =
    let n : length d ≡ length e = omega (arith, simp length-append at (ap length h)) in
    sym (take_at d (x ∷ []) (length d) refl) ∙ ap (take (length d)) h ∙ take_at e (y ∷ []) (length d) (sym n)

packet_shows : (a b cmd1 cmd2 : ℕ) (d e : List ℕ) → packet_of a cmd1 cmd2 whole d ≡ packet_of b cmd1 cmd2 whole e → (a ≡ b) × (d ≡ e)
unfolding packet_of sealed bytes_of
packet_shows a b cmd1 cmd2 d e h = (
  ap (λ (p : List ℕ). type_of p) h,
  data_shown d e (checksum (header a cmd1 cmd2 whole (length d) ++ d)) (checksum (header b cmd1 cmd2 whole (length e) ++ e)) (ap (drop 6) h),
)

module _ (s : Settings) (p : Arrived) where
  -- a response is an error packet exactly when the judgement is an error
  pub error_response : (j : Judgement) (codes : List ℕ) → IsError j codes → response s p j ≡ error_packet p codes
  unfolding response
  error_response (Error k) codes h = rw h.lists
  error_response (Hold c) codes h = absurd (omega (arith, h.type))
  error_response (Write v) codes h = absurd (omega (arith, h.type))
  error_response (Read c) codes h = absurd (omega (arith, h.type))

  pub response_error : (j : Judgement) (codes : List ℕ) → response s p j ≡ error_packet p codes → IsError j codes
  unfolding response
  response_error (Error k) codes h = record { type = refl; lists = (packet_shows error error p.cmd1 p.cmd2 (codes_of k) codes h).1 }
  response_error (Hold c) codes h = absurd (omega (arith, (packet_shows (response_type (Hold c)) error p.cmd1 p.cmd2 [] codes h).0))
  response_error (Write v) codes h = absurd (omega (arith, (packet_shows (response_type (Write v)) error p.cmd1 p.cmd2 [] codes h).0))
  response_error (Read c) codes h = absurd (omega (arith, (packet_shows (response_type (Read c)) error p.cmd1 p.cmd2 (data_of c s) codes h).0))

-- what an error packet leaves
error_leaves : (s : Settings) (j : Judgement) → response_type j ≡ error → settings_after s j ≡ s
error_leaves s (Error k) h = refl
error_leaves s (Hold c) h = refl
error_leaves s (Write v) h = absurd (omega arith)
error_leaves s (Read c) h = refl

error_closes : (t : Transfer) (p : Arrived) (j : Judgement) → response_type j ≡ error → transfer_after t p j ≡ Closed
error_closes t p (Error k) h = refl
error_closes t p (Hold c) h = absurd (omega arith)
error_closes t p (Write v) h = refl
error_closes t p (Read c) h = absurd (omega arith)

-- "A bad packet gets the error packet its faults call for and leaves all settings as they stood."
module _ (a : State) (q : List ℕ) where
  packet_called : (codes : List ℕ) → (response a.settings (arrived q) (judged a q) ≡ error_packet (arrived q) codes) ↔ DrawsOn a (arrived q) codes
  unfolding judged
  packet_called codes =
      let j = judge a.settings.mode a.transfer (arrived q) in
      let e = exactly_called a.settings.mode a.transfer (arrived q) codes in
      (λ h. e.0 (response_error a.settings (arrived q) j codes h), λ d. error_response a.settings (arrived q) j codes (e.1 d))

  bad_leaves : (codes : List ℕ) → DrawsOn a (arrived q) codes → next a q ≡ from a.settings
  unfolding next judged
  bad_leaves codes d =
      let j = judge a.settings.mode a.transfer (arrived q) in
      let e = (exactly_called a.settings.mode a.transfer (arrived q) codes).1 d in
      rw (error_leaves a.settings j e.type, error_closes a.transfer (arrived q) j e.type)

-- What is known of a packet with none of the first group's faults: its type, its flags and the transfer that is open.
module _ (t : Transfer) (p : Arrived) (none : (n : ℕ) → FirstFault t p n → ⊥) where
  -- it is a write if it is no read
  write_type : eqb p.type host_read ≡ false → p.type ≡ host_write
  write_type r =
      bool_cases (eqb p.type host_write) (λ w. eqb-true p.type host_write w)
      (λ w. absurd (none 0x02 (UnknownType (eqb-false p.type host_write w) (eqb-false p.type host_read r))))

  -- flags other than 00 are a write's
  part_type : (p.flags ≡ whole → ⊥) → p.type ≡ host_write
  part_type f =
      bool_cases (eqb p.type host_write) (λ w. eqb-true p.type host_write w)
      (λ w. absurd (none 0x0B (NoWriteInParts (eqb-false p.type host_write w) f)))

  -- and a read's are 00
  read_flags : p.type ≡ host_read → p.flags ≡ whole
  read_flags r =
      bool_cases (eqb p.flags whole) (λ w. eqb-true p.flags whole w)
      (λ w. absurd (omega (arith, part_type (eqb-false p.flags whole w))))

  -- flags that complete no write are 01 or 02
  part_flags : completes p.flags ≡ false → (p.flags ≡ beginning) ⊎ (p.flags ≡ intermediate)
  part_flags f =
      let w = eqb-false p.flags whole (false_or_left _ _ f) in
      let l = eqb-false p.flags last (false_or_right (eqb p.flags whole) _ f) in
      bool_cases (eqb p.flags beginning) (λ b. inl (eqb-true p.flags beginning b))
      (λ b. inr (known_flags w (eqb-false p.flags beginning b) l (λ o. none 0x0B (UnknownFlags o))))
    where
      known_flags : (p.flags ≡ whole → ⊥) → (p.flags ≡ beginning → ⊥) → (p.flags ≡ last → ⊥) → (last < p.flags → ⊥) → p.flags ≡ intermediate
      known_flags w b l o = omega arith

  -- flags 00 or 01 come with no transfer open, 02 or 03 with one for their command
  none_open : Starts p.flags → t ≡ Closed
  none_open f = go t refl
    where
      go : (u : Transfer) → t ≡ u → t ≡ Closed
      go Closed e = e
      go (Opened c d) e = absurd (none 0x0B (StillOpen c d f e))

  open_for_lem : (c : Command) → Names p.cmd1 p.cmd2 c → Continues p.flags → t ≡ Opened c (held t)
  open_for_lem c k f = go t refl
    where
      go : (u : Transfer) → t ≡ u → u ≡ Opened c (held u)
      go Closed e = absurd (none 0x0B (NoneOpen f e))
      go (Opened b d) e =
          bool_cases (same c b) (λ s. rw (same_eq c b s))
          (λ s. absurd (none 0x0B (OpenForAnother b d f e
          (λ n. never (sym s ∙ and_from _ _ (eq-eqb (cmd1_for c) (cmd1_for b) (sym k.0 ∙ n.0)) (eq-eqb (cmd2_for c) (cmd2_for b) (sym k.1 ∙ n.1)))))))

-- A packet with no fault is accepted.
module _ (a : State) (q : List ℕ) where
  -- a judgement that is no error is that of an accepted packet
  abbrev Accepts : Judgement → Type 0
  Accepts j =
      ((codes : List ℕ) → IsError j codes → ⊥)
      → Accepted a q (response a.settings (arrived q) j)
      (record { settings = settings_after a.settings j; transfer = transfer_after a.transfer (arrived q) j })

  no_error : (k : Codes) → Accepts (Error k)
  no_error k n = absurd (n (codes_of k) (record { type = refl; lists = refl }))

  module _ (c : Command) (k : Names (cmd1_of q) (cmd2_of q) c) (none : (n : ℕ) → FirstFault a.transfer (arrived q) n → ⊥) where
    accepts_part : completes (flags_of q) ≡ false → Accepts (Hold c)
    unfolding response
    accepts_part f _ = go (part_flags a.transfer (arrived q) none f)
      where
        write : type_of q ≡ host_write
        write = part_type a.transfer (arrived q) none (eqb-false (flags_of q) whole (false_or_left _ _ f))

        go : (flags_of q ≡ beginning) ⊎ (flags_of q ≡ intermediate)
            → Accepted a q (write_response_to q) (record { settings = a.settings; transfer = Opened c (held a.transfer ++ payload q) })
        go (inl b) = let e = none_open a.transfer (arrived q) none (inr b) in rw (ap (λ (u : Transfer). held u) e) (Opens c write b k e)
        go (inr i) = Adds c (held a.transfer) write i k (open_for_lem a.transfer (arrived q) none c k (inl i))

    accepts_write : completes (flags_of q) ≡ true → eqb (type_of q) host_read ≡ false
        → let v = split_all (layout c) (held a.transfer ++ payload q) in
        length v ≡ length (layout c) → Accepts (Write (value_from c v))
    unfolding response
    accepts_write f r n _ =
        let v = split_all (layout c) (held a.transfer ++ payload q) in
        rw (command_from c v, values_from c v n) (go (two_true (flags_of q) whole last f))
      where
        write : type_of q ≡ host_write
        write = write_type a.transfer (arrived q) none r

        go : Completes (flags_of q)
            → Accepted a q (write_response_to q) (from (store c (split_all (layout c) (held a.transfer ++ payload q)) a.settings))
        go (inl w) = let e = none_open a.transfer (arrived q) none (inl w) in rw (ap (λ (u : Transfer). held u) e) (Stores c write w k e)
        go (inr l) = CarriesOut c (held a.transfer) write l k (open_for_lem a.transfer (arrived q) none c k (inr l))

    accepts_read : type_of q ≡ host_read → Accepts (Read c)
    unfolding response
    accepts_read r _ = ReadsOut c r (read_flags a.transfer (arrived q) none r) k

  good_accepted : ((codes : List ℕ) → DrawsOn a (arrived q) codes → ⊥) → Accepted a q (response a.settings (arrived q) (judged a q)) (next a q)
  unfolding next judged
  good_accepted free =
      judge_cases Accepts a.settings.mode a.transfer (arrived q) (λ _. no_error (first_group a.transfer (arrived q)))
      (λ c e h.
      let k : Names (cmd1_of q) (cmd2_of q) c = known_code (cmd1_of q) (cmd2_of q) c e in
      let none : (n : ℕ) → FirstFault a.transfer (arrived q) n → ⊥ =
      no_fault a.transfer (arrived q) (ap (λ (f : Option Command). any_fault (faults f a.transfer (arrived q))) e ∙ h) in
      record {
        hold = accepts_part c k none;
        read = λ _ r _. accepts_read c k none (eqb-true (type_of q) host_read r);
        asked = λ _ _ _. no_error size_fault;
        size = λ _ _ _. no_error size_fault;
        value = λ _ _ _ _. no_error (value_fault (wrong_byte c (split_all (layout c) (held a.transfer ++ payload q))));
        blocks = λ _ _ _ _ _. no_error mode_fault;
        write = λ f r _ w. accepts_write c k none f r w.full;
      })
      (λ codes i. free codes ((exactly_called a.settings.mode a.transfer (arrived q) codes).0 i))

wrong_sum_lem : (q : List ℕ) → ((arrived q).right ≡ false) ↔ (get_or q (6 + payload_length q) 0 ≡ checksum (take (6 + payload_length q) q) → ⊥)
unfolding right_sum
wrong_sum_lem q = (
  eqb-false (get_or q (6 + payload_length q) 0) (checksum (take (6 + payload_length q) q)),
  ne_eqb (get_or q (6 + payload_length q) 0) (checksum (take (6 + payload_length q) q)),
)

-- The same on the call.
error_inactive : (t : TransferState) (body : List ℕ) (j : Judgement) → response_type j ≡ error → (transfer_state_after t body j).active ≡ 0
error_inactive t body (Error k) h = refl
error_inactive t body (Hold c) h = absurd (omega arith)
error_inactive t body (Write v) h = refl
error_inactive t body (Read c) h = absurd (omega arith)

module _ (c : Controller) (input out : List ℕ) where
  abbrev received : Received
  received = taken_by c input

  pub answers_by : (n m : ℕ) → (receive_call c input out).answer ≡ Answers n m → receive_call c input out ≡ answered c received out
  unfolding receive_call
  answers_by n m =
      let P : After → Type 0 = λ x. x.answer ≡ Answers n m → x ≡ answered c received out in
      cond_both (ltb (length out) 64) _ _ P (λ _ h. refuses h)
      (λ _. cond_both (in_rule c) _ _ P (λ _. cond_both received.complete _ _ P (λ _ h. refl) (λ _ h. waits h)) (λ _ h. refuses h))
    where
      refuses : {P : Type 0} {k : ℕ} → Refuses k ≡ Answers n m → P
      refuses h = let z : ◌≡◌ {A = ℕ} 0 1 = cc in absurd (omega arith)

      waits : {P : Type 0} {k : ℕ} → Waits k ≡ Answers n m → P
      waits h = let z : ◌≡◌ {A = ℕ} 0 1 = cc in absurd (omega arith)

  pub answer_length : (n m : ℕ) → (receive_call c input out).answer ≡ Answers n m → m ≡ length (response_in c received)
  answer_length n m h = same_answer (sym h ∙ ap (λ (x : After). x.answer) (answers_by n m h))
    where
      same_answer : {k l : ℕ} → Answers n m ≡ Answers k l → m ≡ l
      same_answer e = cc

  -- what a call leaves that completes no packet, and what stands behind the response of one that does
  left_waiting : (n : ℕ) → (receive_call c input out).answer ≡ Waits n
      → ((receive_call c input out).output ≡ out) × (state_of (receive_call c input out).controller ≡ state_of c)
  unfolding receive_call
  left_waiting n =
      let P : After → Type 0 = λ x. x.answer ≡ Waits n → (x.output ≡ out) × (state_of x.controller ≡ state_of c) in
      cond_both (ltb (length out) 64) _ _ P (λ _ h. refuses h)
      (λ _. cond_both (in_rule c) _ _ P (λ _. cond_both received.complete _ _ P (λ _ h. answers h) (λ _ h. (refl, refl))) (λ _ h. refuses h))
    where
      refuses : {P : Type 0} {k : ℕ} → Refuses k ≡ Waits n → P
      refuses h = let z : ◌≡◌ {A = ℕ} 0 1 = cc in absurd (omega arith)

      answers : {P : Type 0} {k m : ℕ} → Answers k m ≡ Waits n → P
      answers h = let z : ◌≡◌ {A = ℕ} 0 1 = cc in absurd (omega arith)

  left_behind : (n m : ℕ) → (receive_call c input out).answer ≡ Answers n m → drop m (receive_call c input out).output ≡ drop m out
  unfolding written
  left_behind n m h =
      let r = response_in c received in
      rw (answers_by n m h, answer_length n m h) (drop_at r (drop (length r) out) (length r) refl)

  error_sent : (n m : ℕ) → (receive_call c input out).answer ≡ Answers n m → type_of (receive_call c input out).output ≡ error → ErrorSent c input out m
  unfolding response_in judged_in written response packet_of sealed
  error_sent n m h b =
      let e = answers_by n m h in
      let j = judged_in c received in
      let type : response_type j ≡ error = rw e at b in
      let bytes : response_in c received ≡ error_packet (arrived_in received) (codes_in j) =
      error_response c.settings (arrived_in received) j (codes_in j) (record { type = type; lists = refl }) in
      record {
        codes = codes_in j;
        called = (exactly_called (state_of c).settings.mode (state_of c).transfer (arrived_in received) (codes_in j)).0 (record { type = type; lists = refl });
        packet = ap (λ (x : After). x.output) e ∙ ap (λ (x : List ℕ). written x out) bytes;
        size = answer_length n m h ∙ ap length bytes;
        settings = ap (λ (x : After). x.controller.settings) e ∙ error_leaves c.settings j type;
        inactive = ap (λ (x : After). x.controller.registers.active) e ∙ error_inactive (transfer_of c.registers) (arrived_in received).body j type;
        closed =
            ap (λ (x : After). (state_of x.controller).transfer) e
            ∙ rw (error_inactive (transfer_of c.registers) (arrived_in received).body j type);
      }

  error_owed : (codes : List ℕ) (n m : ℕ) → (receive_call c input out).answer ≡ Answers n m → DrawsOn (state_of c) (arrived_in received) codes
      → take m (receive_call c input out).output ≡ error_packet (arrived_in received) codes
  unfolding written
  error_owed codes n m h d =
      ap (λ (x : After). take m x.output) (answers_by n m h)
      ∙ take_at (response_in c received) (drop (length (response_in c received)) out) m (sym (answer_length n m h))
      ∙ bytes
    where
      bytes : response_in c received ≡ error_packet (arrived_in received) codes
      bytes =
          unfold response_in judged_in in
          error_response c.settings (arrived_in received) (judge (state_of c).settings.mode (state_of c).transfer (arrived_in received)) codes
          ((exactly_called (state_of c).settings.mode (state_of c).transfer (arrived_in received) codes).1 d)

-- Over whole streams: the settings are the accepted writes alone, stored one after the other.
store_first : (j : Judgement) (js : List Judgement) (s : Settings) → store_all (accepted_writes (j ∷ js)) s ≡ store_all (accepted_writes js) (settings_after s j)
unfolding accepted_writes store_all
store_first (Error k) js s = refl
store_first (Hold c) js s = refl
store_first (Write v) js s = refl
store_first (Read c) js s = refl

stream_stores : (a : State) (qs : List (List ℕ)) → (after a qs).settings ≡ store_all (accepted_writes (judgements a qs)) a.settings
unfolding after judgements next
stream_stores a [] = unfold store_all accepted_writes in refl
stream_stores a (q ∷ qs) = stream_stores (next a q) qs ∙ sym (store_first (judged a q) (judgements (next a q) qs) a.settings)

-- packets that all draw errors leave all settings
bad_stream_lem : {a : State} {qs : List (List ℕ)} → AllBad a qs → (after a qs).settings ≡ a.settings
unfolding after
bad_stream_lem NoPacket = refl
bad_stream_lem {a} (BadPacket {q = q} codes d r) = bad_stream_lem r ∙ ap (λ (x : State). x.settings) (bad_leaves a q codes d)

-- so it is on the head to which they are sent
sent_settings : (c : Controller) (b : List ℕ) (s : Sending b) → Boundary c → (sent_to c s).state.settings ≡ (after (state_of c) (packets b)).settings
sent_settings c b s k = ap (λ (a : State). a.settings) (follows_played c b s k).ends

-- settings out of rule are not played
not_played : (s : Settings) (b : List ℕ) → SettingsOutOfRule s → (end_settings s b ≡ s) × (end_offence s b ≡ Some 0)
not_played s b h = rw ((settings_out s).1 h) (refl, refl)

-- Demand 1, whole.
pub demand1 : Demand1
demand1 =
    record {
      called = packet_called;
      wrong_sum = wrong_sum_lem;
      good = good_accepted;
      leaves = bad_leaves;
      sent = error_sent;
      owed = error_owed;
      waits = left_waiting;
      behind = left_behind;
      stream = λ c b s k. sent_settings c b s k ∙ stream_stores (state_of c) (packets b);
      bad_stream = λ c b s k d. sent_settings c b s k ∙ bad_stream_lem d;
      receive = receive_refuses;
      play = not_played;
      encode = λ v out. encode_refuses out v;
      list = λ s out. list_refuses out s;
    }
