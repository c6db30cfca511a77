-- Demand 2, proved.
use Prim.Native.Nat.{ℕ, ◌≤◌}
use mathlib.Core.Path.{◌≡◌, refl, ap, ap₂, sym, subst, ◌∙◌}
use mathlib.Core.Bool.{Bool, true, false, cond, not, ◌&&◌}
use mathlib.Core.List.{List, [], ◌∷◌, ◌++◌, append-nil}
use native.Mathlib.Omega.{arith}
use lib.Dec.{eqb}
use lib.ListN.{length, take, drop, take-append-drop, get_or}
use lib.Seq.{take_at}
use borrow.Author.Tests.{eqb-true, le-ltb}
use Rattle.packet.specs.Calls.{Served}
use Rattle.packet.specs.Number.{Bytes, bytes_of}
use Rattle.packet.specs.Packet.{type_of, flags_of, packet_of, sealed, checksum, sum, error, host_write, host_read, write_response, whole}
use Rattle.packet.specs.Receiver.{Receiver, with, packet_in_rule}
use Rattle.packet.specs.Stream.{size, has_packet, packets, rest}
use Rattle.packet.specs.Writer.{written}
use Rattle.packet.proofs.Cases.{bool_cases, true_and_left}
use Rattle.packet.proofs.StreamLaws.{IsPacket, packets_cons, rest_cons, packets_none, first_packet, packets_nil, rest_nil}
use Rattle.packet.proofs.ReceiverLaws.{with_nil}
use Rattle.packet.proofs.WriterLaws.{packet_written}
use Rattle.command.specs.Table.{cmd1_for, cmd2_for, same, layout, size_of, readable}
use Rattle.command.specs.Settings.{factory, values_after, store}
use Rattle.command.specs.Rules.{allowed, blocked}
use Rattle.command.specs.Data.{join_all}
use Rattle.command.specs.Value.{command_in, values_in, data_in, data_of}
use Rattle.command.specs.Transfer.{Transfer, Closed}
use Rattle.command.specs.Faults.{Arrived, arrived, wrong_command, mode_fault, list_if, codes_of}
use Rattle.command.specs.Judgement.{completes, judge_read, judge_data}
use Rattle.command.specs.Carry.{settings_after, transfer_after}
use Rattle.command.specs.Response.{response_type, response}
use Rattle.command.specs.Player.{State, from, judged, next, responses, after}
use Rattle.command.specs.Controller.{transfer_of, transfer_in, state_of, transfer_in_rule, zeros, fresh}
use Rattle.command.specs.Encoder.{After as Encoding, write_packet, encoded, writes, encode_call}
use Rattle.command.specs.Sending.{Sending, responses_in, sent_to, Ready, Boundary, Idle}
use Rattle.command.specs.Demand2.{Follows, Legal, at_start, packet_by, acknowledgement, not_in_mode, read_packet, read_answer, ReadBack, Blocked, Remade, Demand2}
use Rattle.command.specs.declared.table.Command.{Command}
use Rattle.command.specs.declared.table.Command.TheVariants.{SequenceRun}
use Rattle.command.specs.declared.settings.Settings.{Settings}
use Rattle.command.specs.declared.value.Value.{Value}
use Rattle.command.specs.declared.transfer.TransferState.{TransferState}
use Rattle.command.specs.declared.judgement.Judgement.{Judgement}
use Rattle.command.specs.declared.judgement.Judgement.TheVariants.{Error, Hold, Write, Read}
use Rattle.command.specs.declared.controller.Controller.{Controller}
use Rattle.command.proofs.table.Laws.{each, same_eq, fit_length, size_small}
use Rattle.command.proofs.rules.Laws.{fit_data, values_store, Writable, kept_factory, in_rule_of}
use Rattle.command.proofs.data.Laws.{length_join}
use Rattle.command.proofs.transfer.Laws.{by_transfer}
use Rattle.command.proofs.judgement.Laws.{judge_cases, Sound, sound}
use Rattle.command.proofs.controller.Laws.{rule_parts, rule_whole}
use Rattle.command.proofs.endpoint.Laws.{replies_anyhow}
use Rattle.command.proofs.endpoint.Boundary.{follows_played}
use Rattle.command.proofs.encoder.Laws.{plain, arrived_plain, judge_plain, write_packet_lem, encoder_judged, accepted_encodes}

-- However the byte stream was cut.
cut_anyhow : (c : Controller) (b : List ℕ) (s t : Sending b) → Ready c → sent_to c s ≡ sent_to c t
cut_anyhow c b s t k = ap responses_in (replies_anyhow c b s t k)

-- One whole packet alone.

pub alone : (p : List ℕ) → IsPacket p → (packets p ≡ p ∷ []) × (rest p ≡ [])
alone p i = (
  sym (ap packets (append-nil p)) ∙ packets_cons p [] i ∙ ap {B = List (List ℕ)} (λ ps. p ∷ ps) packets_nil,
  sym (ap rest (append-nil p)) ∙ rest_cons p [] i ∙ rest_nil,
)

first_of_two : (q p : List ℕ) (qs ps : List (List ℕ)) → q ∷ qs ≡ p ∷ ps → q ≡ p
first_of_two q p qs ps f = cc

-- bytes of which all are one packet are a whole packet
pub is_packet : (p : List ℕ) → packets p ≡ p ∷ [] → IsPacket p
is_packet p e =
    bool_cases (has_packet p)
    (λ h.
    let q : List ℕ = take (size p) p in
    let d : List ℕ = drop (size p) p in
    let f : q ∷ packets d ≡ p ∷ [] = sym (packets_cons q d (first_packet p h)) ∙ ap packets (take-append-drop (size p) p) ∙ e in
    subst IsPacket (first_of_two q p (packets d) [] f) (first_packet p h))
    (λ h. let f = sym (packets_none p h) ∙ e in let z : ◌≡◌ {A = ℕ} 0 1 = cc in absurd (omega arith))

-- A head with no transfer open.

state_closed : (c : Controller) → Idle c → state_of c ≡ from c.settings
state_closed c i = rw i.closed

none_active : (t : TransferState) (buffer : List ℕ) → transfer_in_rule t ≡ true → transfer_in t buffer ≡ Closed → t.active ≡ 0
none_active t buffer r e =
    by_transfer t r (λ a. eqb-true t.active 0 a)
    (λ c a k.
    let f = sym (rw (a, k) at e) in
    let z : ◌≡◌ {A = ℕ} 0 1 = cc in absurd (omega arith))

-- what a run leaves with no packet half sent and no transfer open
left_idle : {c : Controller} {b : List ℕ} {r : Served Controller (List ℕ)} {s : Settings} → Follows c b r → rest b ≡ [] → after (state_of c) (packets b) ≡ from s → Idle r.state
left_idle {c} {b} {r} f e g =
    record {
      boundary = record {
        ready = f.ready;
        received = ap (λ (x : Receiver). x.received) (f.unfinished ∙ ap (with 0 f.base) e ∙ with_nil 0 f.base) ∙ f.boundary;
      };
      closed =
          none_active (transfer_of r.state.registers) r.state.buffer (rule_parts r.state.settings r.state.registers f.ready.rule).transfer
          (ap (λ (a : State). a.transfer) (f.ends ∙ g));
    }

-- one whole packet sent to such a head, and judged so that no transfer is opened
record Once (c : Controller) (p : List ℕ) (j : Judgement) (r : Served Controller (List ℕ)) : Type 0 where
  given : r.given ≡ response c.settings (arrived p) j ∷ []
  settings : r.state.settings ≡ settings_after c.settings j
  idle : Idle r.state

once : (c : Controller) (p : List ℕ) (s : Sending p) (j : Judgement) → Idle c → IsPacket p → judged (from c.settings) p ≡ j
    → transfer_after Closed (arrived p) j ≡ Closed → Once c p j (sent_to c s)
unfolding responses after next
once c p s j i k e t =
    let f = follows_played c p s i.boundary in
    let a : after (state_of c) (packets p) ≡ from (settings_after c.settings j) =
    ap₂ after (state_closed c i) (alone p k).0
    ∙ ap (λ (x : Judgement). record { settings = settings_after c.settings x; transfer = transfer_after Closed (arrived p) x }) e
    ∙ ap (λ (x : Transfer). record { settings = settings_after c.settings j; transfer = x }) t in
    record {
      given =
          f.given
          ∙ ap₂ responses (state_closed c i) (alone p k).0
          ∙ ap {B = List (List ℕ)} (λ (x : Judgement). response c.settings (arrived p) x ∷ []) e;
      settings = ap (λ (x : State). x.settings) (f.ends ∙ a);
      idle = left_idle f (alone p k).1 a;
    }

-- Our own encoder's packet.

encodes : (v : Value) (out : List ℕ) → allowed (command_in v) (values_in v) ≡ true → 64 ≤ length out → encode_call v out ≡ writes (encoded v) out
unfolding encode_call
encodes v out a l = rw (le-ltb (length out) 64 l, a)

module _ (v : Value) (g : Legal v) where
  full : length (values_in v) ≡ length (layout (command_in v))
  full = fit_length (layout (command_in v)) (values_in v) (fit_data (command_in v) (values_in v) g.values g.fit)

  packet_is : (out : List ℕ) → 64 ≤ length out → packet_by v out ≡ encoded v
  unfolding written
  packet_is out l =
      ap (λ (r : Encoding). at_start r.answer r.output) (encodes v out g.values l)
      ∙ take_at (encoded v) (drop (length (encoded v)) out) (length (encoded v)) refl

  -- judged, with no transfer open
  judged_as_lem : (s : Settings) → judged (from s) (encoded v) ≡ cond (blocked (command_in v) (values_in v) s.mode) (Error mode_fault) (Write v)
  judged_as_lem s = (encoder_judged v s g.fit g.values).1

  one_packet_lem : IsPacket (encoded v)
  unfolding encoded data_in
  one_packet_lem = write_packet_lem (command_in v) (values_in v) g.fit g.values

  arrives : arrived (encoded v) ≡ plain host_write (command_in v) (data_in v)
  unfolding encoded write_packet data_in size_of
  arrives =
      let n = length_join (layout (command_in v)) (values_in v) full in
      arrived_plain host_write (command_in v) (join_all (layout (command_in v)) (values_in v)) (omega (arith, n, size_small (command_in v)))

-- the two responses that it can draw, byte by byte
acknowledged_by : (c : Command) → packet_of write_response (cmd1_for c) (cmd2_for c) whole [] ≡ acknowledgement c
unfolding packet_of sealed checksum sum bytes_of
acknowledged_by =
    each (λ c. packet_of write_response (cmd1_for c) (cmd2_for c) whole [] ≡ acknowledgement c) (refl, refl, refl, refl, refl, refl, refl, refl, refl)

blocked_run : (c : Command) (v : List ℕ) (mode : ℕ) → blocked c v mode ≡ true → packet_of error (cmd1_for c) (cmd2_for c) whole (codes_of mode_fault) ≡ not_in_mode
unfolding blocked packet_of sealed checksum sum bytes_of codes_of list_if
blocked_run c v mode b =
    ap (λ (d : Command). packet_of error (cmd1_for d) (cmd2_for d) whole (codes_of mode_fault))
    (same_eq c SequenceRun (true_and_left (same c SequenceRun) (eqb (get_or v 0 0) 1) (true_and_left (same c SequenceRun && eqb (get_or v 0 0) 1) (not (eqb mode 4)) b)))

module _ (v : Value) (out : List ℕ) (g : Legal v) (l : 64 ≤ length out) where
  abbrev p : List ℕ
  p = packet_by v out

  p_is : p ≡ encoded v
  p_is = packet_is v g out l

  p_packet : IsPacket p
  p_packet = subst IsPacket (sym p_is) (one_packet_lem v g)

  p_judged : (s : Settings) → judged (from s) p ≡ cond (blocked (command_in v) (values_in v) s.mode) (Error mode_fault) (Write v)
  p_judged s = ap (judged (from s)) p_is ∙ judged_as_lem v g s

  p_arrives : arrived p ≡ plain host_write (command_in v) (data_in v)
  p_arrives = ap arrived p_is ∙ arrives v g

  written_whole : (encode_call v out ≡ writes p out) × (packets p ≡ p ∷ [])
  written_whole = (encodes v out g.values l ∙ sym (ap (λ (x : List ℕ). writes x out) p_is), (alone p p_packet).0)

  acknowledges : (s : Settings) → response s (arrived p) (Write v) ≡ acknowledgement (command_in v)
  unfolding response
  acknowledges s = ap (λ (q : Arrived). response s q (Write v)) p_arrives ∙ acknowledged_by (command_in v)

  module _ (c : Controller) (i : Idle c) where
    read_back : (s : Sending p) → blocked (command_in v) (values_in v) c.settings.mode ≡ false → ReadBack v c p (sent_to c s)
    read_back s b =
        let w : judged (from c.settings) p ≡ Write v = p_judged c.settings ∙ rw b in
        let o = once c p s (Write v) i p_packet w refl in
        record {
          judgement = ap (λ (a : State). judged a p) (state_closed c i) ∙ w;
          given = o.given ∙ ap {B = List (List ℕ)} (λ r. r ∷ []) (acknowledges c.settings);
          settings = o.settings;
          idle = o.idle;
        }

    blocked_back : (s : Sending p) → blocked (command_in v) (values_in v) c.settings.mode ≡ true → Blocked c p (sent_to c s)
    unfolding response
    blocked_back s b =
        let w : judged (from c.settings) p ≡ Error mode_fault = p_judged c.settings ∙ rw b in
        let o = once c p s (Error mode_fault) i p_packet w refl in
        record {
          judgement = ap (λ (a : State). judged a p) (state_closed c i) ∙ w;
          given =
              o.given
              ∙ ap {B = List (List ℕ)} (λ (q : Arrived). response c.settings q (Error mode_fault) ∷ []) p_arrives
              ∙ ap {B = List (List ℕ)} (λ r. r ∷ []) (blocked_run (command_in v) (values_in v) c.settings.mode b);
          settings = o.settings;
          idle = o.idle;
        }

-- A read that follows a write.

-- every readable command is answered with its values, in the layout of its write
read_answers : (s : Settings) (c : Command) → readable c ≡ true → response s (arrived (read_packet c)) (judged (from s) (read_packet c)) ≡ read_answer c (data_of c s)
unfolding response judged wrong_command judge_data judge_read
read_answers s c r =
    ap (response s (arrived (read_packet c))) (judge_plain host_read c [] (rw r) (omega arith) s.mode)
    ∙ ap (λ (q : Arrived). response s q (Read c)) (arrived_plain host_read c [] (omega arith))

same_refl : (c : Command) → same c c ≡ true
same_refl = each (λ c. same c c ≡ true) (refl, refl, refl, refl, refl, refl, refl, refl, refl)

data_store : (v : Value) (s : Settings) → length (values_in v) ≡ length (layout (command_in v)) → data_of (command_in v) (store (command_in v) (values_in v) s) ≡ data_in v
unfolding data_of data_in values_after
data_store v s h = rw (values_store (command_in v) (values_in v) s h (command_in v), same_refl (command_in v))

reads_back : (v : Value) (out : List ℕ) → Legal v → 64 ≤ length out → (c : Controller) (s : Sending (packet_by v out ++ read_packet (command_in v))) → Idle c
    → blocked (command_in v) (values_in v) c.settings.mode ≡ false → readable (command_in v) ≡ true
    → (sent_to c s).given ≡ acknowledgement (command_in v) ∷ read_answer (command_in v) (data_in v) ∷ []
unfolding responses next
reads_back v out g l c s i b r =
    let x : Settings = c.settings in
    let y : Settings = store (command_in v) (values_in v) c.settings in
    let p : List ℕ = packet_by v out in
    let q : List ℕ = read_packet (command_in v) in
    let k : IsPacket (read_packet (command_in v)) = packet_written host_read (cmd1_for (command_in v)) (cmd2_for (command_in v)) whole [] (omega arith) in
    let both : packets (p ++ q) ≡ p ∷ q ∷ [] = packets_cons p q (p_packet v out g l) ∙ ap {B = List (List ℕ)} (λ ps. p ∷ ps) (alone q k).0 in
    let w : judged (from x) p ≡ Write v = p_judged v out g l x ∙ rw b in
    let stored : next (from x) p ≡ from y = rw w in
    (follows_played c (p ++ q) s i.boundary).given
    ∙ ap₂ responses (state_closed c i) both
    ∙ ap₂ {C = List (List ℕ)} (λ m ms. m ∷ ms)
    (ap (response x (arrived p)) w ∙ acknowledges v out g l x)
    (ap (λ (a : State). responses a (q ∷ [])) stored
    ∙ ap {B = List (List ℕ)} (λ m. m ∷ [])
    (read_answers y (command_in v) r
    ∙ ap (read_answer (command_in v)) (data_store v x (full v g))))

-- Every write accepted in one packet.

-- with flags 00 nothing is held
abbrev NotHeld : Judgement → Type 0
NotHeld (Error k) = Unit {0}
NotHeld (Hold c) = ⊥
NotHeld (Write v) = Unit {0}
NotHeld (Read c) = Unit {0}

not_held : (a : State) (p : List ℕ) → flags_of p ≡ whole → NotHeld (judged a p)
unfolding judged
not_held a p z =
    judge_cases NotHeld a.settings.mode a.transfer (arrived p) (λ _. tt)
    (λ c k e. record {
      hold = λ f. let y : ◌≡◌ {A = Bool} true false = sym (ap completes z) ∙ f in let x : ◌≡◌ {A = ℕ} 0 1 = cc in absurd (omega arith);
      read = λ _ _ _. tt;
      asked = λ _ _ _. tt;
      size = λ _ _ _. tt;
      value = λ _ _ _ _. tt;
      blocks = λ _ _ _ _ _. tt;
      write = λ _ _ _ _. tt;
    })

-- so that what is acknowledged is a write carried out
acknowledged_write : {P : Type 0} (j : Judgement) → NotHeld j → response_type j ≡ write_response → ((v : Value) → j ≡ Write v → P) → P
acknowledged_write (Error k) n t f = absurd (omega arith)
acknowledged_write (Hold c) n t f = absurd n
acknowledged_write (Write v) n t f = f v refl
acknowledged_write (Read c) n t f = absurd (omega arith)

-- a response's type is that of its judgement
type_of_lem : (s : Settings) (q : Arrived) (j : Judgement) (m : List ℕ) → m ∷ [] ≡ response s q j ∷ [] → type_of m ≡ response_type j
unfolding response packet_of sealed
type_of_lem s q j m e = ap type_of (first_of_two m (response s q j) [] [] e)

remakes : (c : Controller) (p m : List ℕ) (s : Sending p) → Boundary c → Bytes p → packets p ≡ p ∷ [] → flags_of p ≡ whole
    → (sent_to c s).given ≡ m ∷ [] → type_of m ≡ write_response → Remade c p (sent_to c s)
unfolding responses after next
remakes c p m s q b o z e t =
    let f = follows_played c p s q in
    let a : State = state_of c in
    let drew : m ∷ [] ≡ response a.settings (arrived p) (judged a p) ∷ [] = sym e ∙ f.given ∙ ap (responses a) o in
    acknowledged_write (judged a p) (not_held a p z) (sym (type_of_lem a.settings (arrived p) (judged a p) m drew) ∙ t)
    (λ v w. record {
      write = v;
      judgement = w;
      settings = ap (λ (x : State). x.settings) (f.ends ∙ ap (after a) o) ∙ ap (settings_after a.settings) w;
      encodes = λ out l.
          encodes v out (writable a p v w).values l ∙ ap (λ (x : List ℕ). writes x out) (accepted_encodes p b (is_packet p o) a v z w);
    })
  where
    writable : (a : State) (p : List ℕ) (v : Value) → judged a p ≡ Write v → Writable a.settings.mode (command_in v) (values_in v)
    writable a p v w = subst (Sound a.settings.mode) w (unfold judged in sound a.settings.mode a.transfer (arrived p))

-- A fresh head.
fresh_idle : Idle fresh
unfolding transfer_in_rule packet_in_rule zeros
fresh_idle =
    record {
      boundary = record {
        ready = record {
          rule = rule_whole _ _ (record { settings = in_rule_of factory kept_factory; transfer = refl; packet = refl });
          header = refl;
          buffer = refl;
          hold = refl;
        };
        received = refl;
      };
      closed = refl;
    }

pub demand2 : Demand2
demand2 =
    record {
      cut = cut_anyhow;
      follows = follows_played;
      encoder = written_whole;
      accepted = λ v out g l c s i b. read_back v out g l c i s b;
      blocks = λ v out g l c s i b. blocked_back v out g l c i s b;
      reads = reads_back;
      remade = remakes;
      begins = fresh_idle;
    }
