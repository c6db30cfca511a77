-- What the judge call gives, and what carrying it out does: it is what document 01 says of the packet.
use Prim.Native.Nat.{ℕ, ◌+◌, ◌<◌, ◌≤◌}
use mathlib.Core.Path.{◌≡◌, refl, ap, ap₂, sym, subst, ◌∙◌}
use mathlib.Core.Bool.{Bool, true, false, not, ◌&&◌, ◌||◌, and-false}
use mathlib.Core.List.{List, [], ◌∷◌, ◌++◌, map, append-nil, append_assoc}
use Rattle.std.specs.Prelude.{Option, None, Some}
use Rattle.std.proofs.lemmas.Bool.{cond_both, and_from}
use native.Mathlib.Omega.{arith}
use lib.Dec.{eqb}
use lib.ListN.{length, take, drop, length-append}
use lib.Seq.{take_at, drop_at}
use borrow.Author.Tests.{le-ltb, lt-ltb, le-leb, eq-eqb, eqb-true}
use Rattle.packet.specs.Answer.{Answers}
use Rattle.packet.specs.Packet.{type_of, cmd1_of, cmd2_of, payload_length, payload, host_read}
use Rattle.packet.specs.Stream.{size}
use Rattle.packet.specs.Writer.{written}
use Rattle.packet.proofs.Cases.{bool_cases, lt_cases}
use Rattle.packet.proofs.StreamLaws.{IsPacket, payload_length_lem, has_packet_lem}
use Rattle.command.specs.Table.{command_of, layout, size_of}
use Rattle.command.specs.Rules.{wrong_byte}
use Rattle.command.specs.Data.{split_all}
use Rattle.command.specs.Value.{value_from}
use Rattle.command.specs.Transfer.{Transfer, Closed, held, is_open, open_for}
use Rattle.command.specs.Faults.{arrived, faults, any_fault, size_fault, value_fault, mode_fault, list_if, codes_of}
use Rattle.command.specs.Judgement.{judge}
use Rattle.command.specs.Response.{response_type, response_to, response, codes_in, wrong_in}
use Rattle.command.specs.Player.{judged, next, is_nil, judgements, responses, after}
use Rattle.command.specs.Controller.{transfer_of, held_in, opened_for, transfer_in, state_of, receiver_in}
use Rattle.command.specs.Endpoint.{receive_call, carried_out}
use Rattle.command.specs.Encoder.{Writes}
use Rattle.command.specs.Sending.{Sending, sent_to, wrong_to, Ready, Boundary}
use Rattle.command.specs.Ruling.{mask_of, codes_told, mask_in, wrong_told, data_for, no_wrong, ruling_for, open_kept, joined_in, brought_in, accepted_as, meant, kept_in_rule, joined_in_rule, in_order, writable, asks_only, acceptable, drawable, uncoded, forged, Items, items_in, items_of, items_kept, same_items}
use Rattle.command.specs.Asking.{Judging, one_packet, judged_as, judge_call, Carrying, refused, response_for, carries, carry_call}
use Rattle.command.specs.Request5.{OnePacket, judgement_of, Says, Obeys, Alike}
use Rattle.command.specs.declared.table.Command.{Command}
use Rattle.command.specs.declared.table.Command.TheVariants.{DisplayMode}
use Rattle.command.specs.declared.faults.Codes.{Codes}
use Rattle.command.specs.declared.transfer.TransferState.{TransferState}
use Rattle.command.specs.declared.judgement.Judgement.{Judgement}
use Rattle.command.specs.declared.judgement.Judgement.TheVariants.{Error, Hold, Write, Read}
use Rattle.command.specs.declared.controller.Controller.{Controller}
use Rattle.command.specs.declared.ruling.JudgementRecord.{JudgementRecord}
use Rattle.command.proofs.rules.Laws.{Writable, kept_by}
use Rattle.command.proofs.transfer.Laws.{fits_hold, held_is, in_order_lem, reads_alone}
use Rattle.command.proofs.faults.Laws.{codes_some}
use Rattle.command.proofs.ruling.Laws.{codes_alone, mask_told}
use Rattle.command.proofs.judgement.Laws.{judge_cases}
use Rattle.command.proofs.controller.Laws.{rule_parts}
use Rattle.command.proofs.endpoint.Laws.{held_same}
use Rattle.command.proofs.endpoint.Boundary.{carried_state, drawn, Takes, takes_packet, between_of, follows_played, wrong_played}
use Rattle.command.proofs.asking.Ways.{same_self}
use Rattle.command.proofs.asking.Runs.{half_stays, rule_stays}
use Rattle.command.proofs.Demand2.{is_packet}

-- What a record says of a judgement: all but the byte that is wrong, which it has beside it.
abbrev pub told : Judgement → Judgement
told (Error k) = Error (codes_alone k)
told (Hold c) = Hold c
told (Write v) = Write v
told (Read c) = Read c

-- what does not look at that byte is the same
told_same : {A : Type 0} (f : Judgement → A) → ((k : Codes) → f (Error (codes_alone k)) ≡ f (Error k)) → (j : Judgement) → f (told j) ≡ f j
told_same f e (Error k) = e k
told_same f e (Hold c) = refl
told_same f e (Write v) = refl
told_same f e (Read c) = refl

codes_told_lem : (j : Judgement) → codes_in (told j) ≡ codes_in j
unfolding codes_of
codes_told_lem = told_same codes_in (λ _. refl)

response_told : (cmd1 cmd2 : ℕ) (d : Controller) (j : Judgement) → response_to cmd1 cmd2 d.settings (told j) ≡ response_to cmd1 cmd2 d.settings j
unfolding codes_of
response_told cmd1 cmd2 d = told_same (response_to cmd1 cmd2 d.settings) (λ _. refl)

-- The data of a record: those that were held, and those that the packet brings.

data_cases : (P : List ℕ → Type 0) (h b : List ℕ) → P h → P (h ++ b) → (j : Judgement) → P (data_for h b j)
data_cases P h b x y (Error k) = x
data_cases P h b x y (Hold c) = y
data_cases P h b x y (Write v) = y
data_cases P h b x y (Read c) = y

held_first : (h b more : List ℕ) (n : ℕ) → length h ≡ n → (j : Judgement) → take n (data_for h b j ++ more) ≡ h
held_first h b more n e =
    data_cases (λ d. take n (d ++ more) ≡ h) h b (take_at h more n e) (ap (take n) (append_assoc h b more) ∙ take_at h (b ++ more) n e)

-- what the packet brings is carried out, where it is held
brought_out : (d : Controller) (h b : List ℕ) (n : ℕ) → length h ≡ n → (j : Judgement)
    → carried_out d (receiver_in d) (drop n (data_for h b j)) j ≡ carried_out d (receiver_in d) b j
brought_out d h b n e (Error k) = refl
brought_out d h b n e (Hold c) = ap (λ (x : List ℕ). carried_out d (receiver_in d) x (Hold c)) (drop_at h b n e)
brought_out d h b n e (Write v) = refl
brought_out d h b n e (Read c) = refl

-- The items that are kept.

-- they say the transfer
abbrev transfer_by : Option (ℕ × ℕ) → List ℕ → Transfer
transfer_by None d = Closed
transfer_by (Some c) d = opened_for (command_of c.0 c.1) d

by_items : (mode : ℕ) (t : TransferState) (buffer : List ℕ) → transfer_in t buffer ≡ transfer_by (items_in mode t buffer).command (items_in mode t buffer).held
by_items mode t buffer = bool_cases (eqb t.active 0) (λ e. rw e) (λ e. rw e)

pub same_transfer : (m n : ℕ) (t u : TransferState) (x y : List ℕ) → items_in m t x ≡ items_in n u y → transfer_in t x ≡ transfer_in u y
same_transfer m n t u x y e = by_items m t x ∙ ap (λ (i : Items). transfer_by i.command i.held) e ∙ sym (by_items n u y)

-- The record of a judgement j of the packet p.
module _ (c : Controller) (k : Ready c) (p : List ℕ) (lent : JudgementRecord) where
  abbrev record_for : Judgement → JudgementRecord
  record_for j = (judged_as c p j lent).judgement

  -- the transfer by its numbers, and its data
  abbrev numbers : TransferState
  numbers = transfer_of c.registers

  abbrev held_data : List ℕ
  held_data = held (state_of c).transfer

  joined_is : (j : Judgement) → joined_in (record_for j) ≡ data_for held_data (payload p) j
  unfolding written
  joined_is j =
      take_at (data_for held_data (payload p) j) (drop (length (data_for held_data (payload p) j)) lent.joined) (length (data_for held_data (payload p) j)) refl

  -- it keeps the items
  items_kept_lem : (j : Judgement) → items_kept (record_for j) ≡ items_of c
  unfolding written
  items_kept_lem j =
      ap (λ (x : List ℕ). record { mode = c.settings.mode; command = (items_of c).command; count = held_in numbers; held = x })
      (held_first held_data (payload p) (drop (length (data_for held_data (payload p) j)) lent.joined) (held_in numbers) (held_same c k) j
      ∙ held_is numbers (rule_parts c.settings c.registers k.rule).transfer c.buffer)

  open_kept_lem : (j : Judgement) → open_kept (record_for j) ≡ (state_of c).transfer
  open_kept_lem j = same_transfer c.settings.mode c.settings.mode numbers numbers (record_for j).joined c.buffer (items_kept_lem j)

  -- it says the judgement, and is not refused with 2
  record Genuine (j : Judgement) : Type 0 where
    means : meant (record_for j) ≡ told j
    drawn : forged (record_for j) ≡ false

  module _ (codes : Codes) where
    no_codes : (f : Option Command) → accepted_as f (record_for (Error codes)) ≡ Error (codes_told 0)
    no_codes None = refl
    no_codes (Some d) = refl

    error_means : meant (record_for (Error codes)) ≡ Error (codes_alone codes)
    unfolding meant
    error_means =
        cond_both (eqb (mask_of codes) 0) _ _ (λ m. m ≡ Error (codes_told (mask_of codes)))
        (λ e. no_codes (command_of (cmd1_of p) (cmd2_of p)) ∙ ap (λ (n : ℕ). Error (codes_told n)) (sym (eqb-true (mask_of codes) 0 e)))
        (λ _. refl)
        ∙ ap Error (mask_told codes)

    error_genuine : is_nil (codes_of codes) ≡ false → Genuine (Error codes)
    unfolding forged codes_of
    error_genuine h =
        record {
          means = error_means;
          drawn = ap (λ (m : Judgement). is_nil (codes_in m) && not (drawable (record_for (Error codes)))) error_means ∙ rw h;
        }

  -- what a packet with no fault draws
  abbrev NoFault : Command → Type 0
  NoFault d = any_fault (faults (Some d) (state_of c).transfer (arrived p)) ≡ false

  module _ (i : IsPacket p) (d : Command) (e : command_of (cmd1_of p) (cmd2_of p) ≡ Some d) (n : NoFault d) where
    accepted_genuine : (j : Judgement) → mask_in j ≡ 0 → wrong_in j ≡ None → data_for held_data (payload p) j ≡ held_data ++ payload p
        → accepted_as (Some d) (record_for j) ≡ told j → acceptable (Some d) (record_for j) ≡ true → Genuine j
    unfolding meant forged drawable
    accepted_genuine j m w x a g =
        let q = rule_parts c.settings c.registers k.rule in
        let f = fits_hold (Some d) (state_of c).transfer (arrived p) n in
        let s = held_same c k in
        let l : length (data_for held_data (payload p) j) ≡ held_in numbers + payload_length p =
        ap length x ∙ length-append held_data (payload p) ∙ omega (arith, s, payload_length_lem p i.exact) in
        let kept : kept_in_rule (record_for j) ≡ true = and_from _ _ ((kept_by c.settings q.settings).values DisplayMode) q.transfer in
        let joined : joined_in_rule (record_for j) ≡ true =
        and_from _ _ (le-leb (held_in numbers) (length (data_for held_data (payload p) j)) (omega (arith, l)))
        (le-leb (length (data_for held_data (payload p) j)) 1024 (omega (arith, l, f, s))) in
        let draws : drawable (record_for j) ≡ true =
        and_from _ _
        (and_from _ _ (and_from _ _ (and_from _ _ (eq-eqb (mask_in j) 0 m) (ap (λ (o : Option ℕ). eqb (wrong_told o) no_wrong) w)) kept) joined)
        (ap (λ (f : Option Command). acceptable f (record_for j)) e ∙ g) in
        record {
          means = rw (m, e) a;
          drawn = ap (λ (b : Bool). uncoded (record_for j) && not b) draws ∙ and-false (uncoded (record_for j));
        }

    continues_own : (j : Judgement) → in_order d (record_for j) ≡ true
    continues_own j = ap (λ (t : Transfer). not (is_open t) || open_for (Some d) t) (open_kept_lem j) ∙ in_order_lem d (state_of c).transfer (arrived p) n

    asks_only_lem : eqb (type_of p) host_read ≡ true → eqb (length (held_data ++ payload p)) 0 ≡ true → asks_only d (record_for (Read d)) ≡ true
    asks_only_lem r z =
        let a = reads_alone d (state_of c).transfer (arrived p) n r in
        and_from _ _ (and_from _ _ (ap (λ (t : Transfer). not (is_open t)) (open_kept_lem (Read d)) ∙ ap not a.0) a.1) z

    may_write : length (held_data ++ payload p) ≡ size_of d → Writable c.settings.mode d (split_all (layout d) (held_data ++ payload p))
        → writable d c.settings.mode (held_data ++ payload p) ≡ true
    may_write l w = and_from _ _ (and_from _ _ (eq-eqb (length (held_data ++ payload p)) (size_of d) l) w.values) (ap not w.free)

  genuine : IsPacket p → Genuine (judged (state_of c) p)
  unfolding judged codes_of list_if
  genuine i =
      judge_cases Genuine c.settings.mode (state_of c).transfer (arrived p)
      (λ f.
      error_genuine (faults (command_of (cmd1_of p) (cmd2_of p)) (state_of c).transfer (arrived p))
      (some_code _ (codes_some (state_of c).transfer (arrived p) f)))
      (λ d e n.
      let b : List ℕ = held_data ++ payload p in
      record {
        hold = λ _. accepted_genuine i d e n (Hold d) refl refl refl refl (continues_own i d e n (Hold d));
        read = λ _ r z. accepted_genuine i d e n (Read d) refl refl refl refl (asks_only_lem i d e n r z);
        asked = λ _ _ _. error_genuine size_fault refl;
        size = λ _ _ _. error_genuine size_fault refl;
        value = λ _ _ _ _. error_genuine (value_fault (wrong_byte d (split_all (layout d) b))) refl;
        blocks = λ _ _ _ _ _. error_genuine mode_fault refl;
        write = λ _ _ l w.
            let v = Write (value_from d (split_all (layout d) b)) in
            accepted_genuine i d e n v refl refl refl
            (ap (λ (x : List ℕ). Write (value_from d (split_all (layout d) x))) (joined_is v))
            (and_from _ _ (continues_own i d e n v) (ap (writable d c.settings.mode) (joined_is v) ∙ may_write i d e n l w));
      })
    where
      some_code : (l : List ℕ) → (l ≡ [] → ⊥) → is_nil l ≡ false
      some_code [] h = absurd (h refl)
      some_code (x ∷ l) h = refl

-- The judge call on a head in rule and a packet.

pub one_packet_lem : (p : List ℕ) → IsPacket p → one_packet p ≡ true
unfolding one_packet
one_packet_lem p i = and_from _ _ (has_packet_lem p i.least (omega (arith, i.exact))) (eq-eqb (size p) (length p) i.exact)

judge_is : (c : Controller) (p : List ℕ) (lent : JudgementRecord) → Ready c → OnePacket p → judge_call c p lent ≡ judged_as c p (judged (state_of c) p) lent
unfolding judge_call
judge_is c p lent k o = rw (k.rule, one_packet_lem p (is_packet p o))

module _ (c : Controller) (p : List ℕ) (lent : JudgementRecord) (k : Ready c) (o : OnePacket p) where
  record_is : judgement_of c p lent ≡ record_for c k p lent (judged (state_of c) p)
  record_is = ap (λ (r : Judging). r.judgement) (judge_is c p lent k o)

  -- what it means
  judgement_meant : meant (judgement_of c p lent) ≡ told (judged (state_of c) p)
  judgement_meant = ap meant record_is ∙ (genuine c k p lent (is_packet p o)).means

  -- it is never refused with 2
  pub never_forged : forged (judgement_of c p lent) ≡ false
  never_forged = ap forged record_is ∙ (genuine c k p lent (is_packet p o)).drawn

  -- it keeps the items
  pub keeps_items : items_kept (judgement_of c p lent) ≡ items_of c
  keeps_items = ap (λ (j : JudgementRecord). items_kept j) record_is ∙ items_kept_lem c k p lent (judged (state_of c) p)

pub judging_says : (c : Controller) (p : List ℕ) (lent : JudgementRecord) → Ready c → OnePacket p
    → ((judge_call c p lent).refusal ≡ None) × Says c p (judgement_of c p lent)
judging_says c p lent k o =
    let e = judge_is c p lent k o in
    let m = judgement_meant c p lent k o in (
      ap (λ (r : Judging). r.refusal) e,
      record {
        codes = ap (λ (r : Judging). r.judgement.ruling.codes) e;
        accepts = ap (λ (r : Judging). r.judgement.ruling.accepts) e;
        wrong = ap (λ (r : Judging). r.judgement.ruling.wrong) e;
        cmd1 = ap (λ (r : Judging). r.judgement.ruling.cmd1) e;
        cmd2 = ap (λ (r : Judging). r.judgement.ruling.cmd2) e;
        sends = ap codes_in m ∙ codes_told_lem (judged (state_of c) p);
        type = ap response_type m ∙ told_same response_type (λ _. refl) (judged (state_of c) p);
      },
    )

-- bytes that are written twice
written_twice : (b out : List ℕ) → written b (written b out) ≡ written b out
unfolding written
written_twice b out = ap (λ (x : List ℕ). b ++ x) (drop_at b (drop (length b) out) (length b) refl)

pub judging_twice : (c : Controller) (p : List ℕ) (lent : JudgementRecord) → Ready c → OnePacket p
    → judge_call c p (judgement_of c p lent) ≡ judge_call c p lent
judging_twice c p lent k o =
    let j = judged (state_of c) p in
    let b = data_for (held (state_of c).transfer) (payload p) j in
    judge_is c p (judgement_of c p lent) k o
    ∙ ap (judged_as c p j) (record_is c p lent k o)
    ∙ ap (λ (x : List ℕ). record { refusal = None; judgement = record { ruling = ruling_for c p j; joined = x } }) (written_twice b lent.joined)
    ∙ sym (judge_is c p lent k o)

-- Carrying it out, on a head d that has the items.
module _ (c d : Controller) (p : List ℕ) (lent : JudgementRecord) (k : Ready c) (l : Ready d) (o : OnePacket p) (e : items_of d ≡ items_of c) where
  -- the judgement that was handed out
  abbrev given : JudgementRecord
  given = judgement_of c p lent

  judged_alike : judged (state_of c) p ≡ judged (state_of d) p
  unfolding judged
  judged_alike =
      ap₂ (λ (m : ℕ) (t : Transfer). judge m t (arrived p)) (ap (λ (i : Items). i.mode) (sym e))
      (same_transfer c.settings.mode d.settings.mode (transfer_of c.registers) (transfer_of d.registers) c.buffer d.buffer (sym e))

  means_there : meant given ≡ told (judged (state_of d) p)
  means_there = judgement_meant c p lent k o ∙ ap told judged_alike

  carry_is : (out : List ℕ) → 64 ≤ length out → carry_call d given out ≡ carries d given out
  unfolding carry_call
  carry_is out h =
      let s = ap (same_items (items_of d)) (keeps_items c p lent k o ∙ sym e) ∙ same_self (items_of d) in
      rw (le-ltb (length out) 64 h, l.rule, never_forged c p lent k o, s)

  response_is : response_for d given ≡ drawn d p
  unfolding response_for response
  response_is =
      ap (λ (x : JudgementRecord). response_to x.ruling.cmd1 x.ruling.cmd2 d.settings (meant given)) (record_is c p lent k o)
      ∙ ap (response_to (cmd1_of p) (cmd2_of p) d.settings) means_there
      ∙ response_told (cmd1_of p) (cmd2_of p) d (judged (state_of d) p)

  brought_is : brought_in given ≡ drop (held_in (transfer_of c.registers)) (data_for (held (state_of c).transfer) (payload p) (judged (state_of c) p))
  brought_is =
      ap (λ (x : JudgementRecord). brought_in x) (record_is c p lent k o)
      ∙ ap (drop (held_in (transfer_of c.registers))) (joined_is c k p lent (judged (state_of c) p))

  left_is : carried_out d (receiver_in d) (brought_in given) (meant given) ≡ carried_out d (receiver_in d) (payload p) (judged (state_of d) p)
  left_is =
      let n = held_in (transfer_of c.registers) in
      let x = judged (state_of c) p in
      let b = data_for (held (state_of c).transfer) (payload p) x in
      ap₂ (carried_out d (receiver_in d)) brought_is (judgement_meant c p lent k o)
      ∙ told_same (carried_out d (receiver_in d) (drop n b)) (λ _. refl) x
      ∙ brought_out d (held (state_of c).transfer) (payload p) n (held_same c k) x
      ∙ ap (carried_out d (receiver_in d) (payload p)) judged_alike

  state_is : state_of (carried_out d (receiver_in d) (brought_in given) (meant given)) ≡ next (state_of d) p
  state_is = ap state_of left_is ∙ carried_state d l p (is_packet p o) (receiver_in d) (payload p) (λ _. refl)

  -- it is what document 01 says of the packet there
  obeys : (out : List ℕ) → 64 ≤ length out → Obeys d p out (carry_call d given out)
  obeys out h =
      let r = carry_is out h in
      record {
        answer = ap (λ (x : Carrying). x.answer) r ∙ ap (λ (m : List ℕ). Writes (length m)) response_is;
        output = ap (λ (x : Carrying). x.output) r ∙ ap (λ (m : List ℕ). written m out) response_is;
        state = ap (λ (x : Carrying). state_of x.controller) r ∙ state_is;
        receiver = half_stays d given out;
        ready = rule_stays d given out l;
      }

pub carrying_follows : (c d : Controller) (p : List ℕ) (lent : JudgementRecord) (out : List ℕ) → Ready c → Ready d → OnePacket p → 64 ≤ length out
    → items_of d ≡ items_of c
    → Obeys d p out (carry_call d (judgement_of c p lent) out)
carrying_follows c d p lent out k l o h e = obeys c d p lent k l o e out h

-- The receive call does what judging and carrying out does.

-- a response is written only where there is room for it
writes_room : (c : Controller) (j : JudgementRecord) (out : List ℕ) (n : ℕ) → (carry_call c j out).answer ≡ Writes n → 64 ≤ length out
writes_room c j out n w =
    lt_cases (length out) 64
    (λ h. let e = sym (ap (λ (x : Carrying). x.answer) (short h)) ∙ w in let z : ◌≡◌ {A = ℕ} 0 1 = cc in absurd (omega arith))
    (λ h. h)
  where
    short : length out < 64 → carry_call c j out ≡ refused 1 c out
    short h = unfold carry_call in rw (lt-ltb (length out) 64 h)

same_count : (m n : ℕ) → Writes m ≡ Writes n → m ≡ n
same_count m n e = cc

module _ (c : Controller) (p : List ℕ) (lent : JudgementRecord) (out : List ℕ) (n : ℕ) (q : Boundary c) (o : OnePacket p) where
  abbrev carried : Carrying
  carried = carry_call c (judgement_of c p lent) out

  module _ (w : carried.answer ≡ Writes n) where
    room : 64 ≤ length out
    room = writes_room c (judgement_of c p lent) out n w

    obeyed : Obeys c p out carried
    obeyed = obeys c c p lent q.ready q.ready o refl out room

    count_is : length (drawn c p) ≡ n
    count_is = same_count (length (drawn c p)) n (sym obeyed.answer ∙ w)

    takes : Takes out c p (receive_call c p out)
    takes =
        subst (λ (x : List ℕ). Takes out c p (receive_call c x out)) (append-nil p)
        (takes_packet out room c q.ready (between_of q) p [] (is_packet p o))

    -- the controller that is left
    left : carried.controller ≡ carried_out c (receiver_in c) (payload p) (judged (state_of c) p)
    left = ap (λ (x : Carrying). x.controller) (carry_is c c p lent q.ready q.ready o refl out room) ∙ left_is c c p lent q.ready q.ready o refl

    output_is : take n carried.output ≡ drawn c p
    unfolding written
    output_is = ap (take n) obeyed.output ∙ take_at (drawn c p) (drop (length (drawn c p)) out) n count_is

pub receive_obeys : (c : Controller) (p : List ℕ) (lent : JudgementRecord) (out : List ℕ) (n : ℕ) → Boundary c → OnePacket p
    → let r = carry_call c (judgement_of c p lent) out in r.answer ≡ Writes n → Alike c p out n (judgement_of c p lent) r
receive_obeys c p lent out n q o w =
    let t = takes c p lent out n q o w in
    let x = left c p lent out n q o w in
    record {
      answer = t.answer ∙ ap (Answers (length p)) (count_is c p lent out n q o w);
      wrong = ap wrong_told t.wrong ∙ sym (judging_says c p lent q.ready o).1.wrong;
      output = t.output ∙ sym (obeyed c p lent out n q o w).output;
      settings = ap (λ (d : Controller). d.settings) t.controller ∙ sym (ap (λ (d : Controller). d.settings) x);
      transfer = ap (λ (d : Controller). transfer_of d.registers) t.controller ∙ sym (ap (λ (d : Controller). transfer_of d.registers) x);
      buffer = ap (λ (d : Controller). d.buffer) t.controller ∙ sym (ap (λ (d : Controller). d.buffer) x);
    }

pub cut_obeys : (c : Controller) (p : List ℕ) (s : Sending p) (lent : JudgementRecord) (out : List ℕ) (n : ℕ) → Boundary c → OnePacket p
    → let r = carry_call c (judgement_of c p lent) out in
    r.answer ≡ Writes n
    → ((sent_to c s).given ≡ take n r.output ∷ [])
    × (map wrong_told (wrong_to c s) ≡ (judgement_of c p lent).ruling.wrong ∷ [])
    × (state_of (sent_to c s).state ≡ state_of r.controller)
unfolding responses after judgements
cut_obeys c p s lent out n q o w =
    let f = follows_played c p s q in (
      f.given ∙ ap (responses (state_of c)) o ∙ ap {B = List (List ℕ)} (λ (x : List ℕ). x ∷ []) (sym (output_is c p lent out n q o w)),
      ap (map wrong_told) (wrong_played c p s q ∙ ap (λ (ps : List (List ℕ)). map wrong_in (judgements (state_of c) ps)) o)
          ∙ ap (λ (m : ℕ). m ∷ []) (sym (judging_says c p lent q.ready o).1.wrong),
      f.ends ∙ ap (after (state_of c)) o ∙ sym (obeyed c p lent out n q o w).state,
    )
