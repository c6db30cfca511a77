-- Playing bytes packet by packet: what a turn of the loop needs of the definitions.
use Prim.Native.Nat.{ℕ, ◌+◌, ◌-◌, ◌<◌, ◌≤◌}
use mathlib.Core.Path.{◌≡◌, refl, ap, sym, subst, ◌∙◌}
use mathlib.Core.Bool.{Bool, true, false, cond}
use mathlib.Core.List.{List, [], ◌∷◌, ◌++◌}
use Rattle.std.specs.Prelude.{Option, None, Some}
use native.Mathlib.Nat.{zero-add}
use native.Mathlib.Omega.{arith}
use lib.Dec.{ltb}
use borrow.Author.Tests.{lt-ltb, le-ltb}
use lib.ListN.{length, take, drop, length-drop, take-append-drop, drop_of_length-le}
use lib.Seq.{drop-drop, length-take-le}
use Rattle.packet.specs.Packet.{payload_length, payload, right_sum}
use Rattle.packet.specs.Stream.{size, has_packet, next_in, packets, bytes_in, rest}
use Rattle.packet.specs.declared.stream.WholePacket.{WholePacket}
use Rattle.packet.proofs.Cases.{lt_cases}
use Rattle.packet.proofs.StreamLaws.{IsPacket, payload_length_lem, first_packet, seven, size_within, packets_cons, rest_cons, packets_none, rest_none, next_some, right_front}
use Rattle.command.specs.Faults.{arrived}
use Rattle.command.specs.Response.{acknowledged}
use Rattle.command.specs.Transfer.{Transfer, is_open}
use Rattle.command.specs.Judgement.{judge}
use Rattle.command.specs.Carry.{settings_after, transfer_after}
use Rattle.command.specs.Controller.{held_in, transfer_in, transfer_in_rule, transfer_state_after, buffer_after}
use Rattle.std.specs.Option.{option_or}
use Rattle.command.specs.Inner.{state_in}
use Rattle.command.specs.Player.{State, from, judged, next, after, play, is_nil, not_acknowledged, left_open, unfinished, earlier, offence}
use Rattle.command.specs.declared.settings.Settings.{Settings}
use Rattle.command.specs.declared.transfer.TransferState.{TransferState}
use Rattle.command.specs.declared.judgement.Judgement.{Judgement}
use Rattle.command.proofs.transfer.Laws.{held_length}
use Rattle.command.proofs.carry.Laws.{Bounded, bounded, transfer_kept_lem, carried_transfer}

-- One packet that is judged as j on a head of these settings, this transfer and this buffer.
module _
    (s : Settings)
    (t : TransferState)
    (buffer p : List ℕ)
    {j : Judgement}
    {body : List ℕ}
    (r : transfer_in_rule t ≡ true)
    (n : length buffer ≡ 1024)
    (w : size p ≡ length p)
    (eb : body ≡ take (length p - 1 - 6) (drop 6 p))
    (ej : j ≡ judge s.mode (transfer_in t buffer) (arrived p)) where
  fits : Bounded (held_in t + payload_length p) j
  fits = rw ej (rw (held_length t r buffer n) at (bounded s.mode (transfer_in t buffer) (arrived p)))

  same_body : body ≡ payload p
  unfolding size payload
  same_body =
      let m : length p - 1 - 6 ≡ payload_length p = omega arith in
      rw (eb, m)

  pub next_packet : state_in (settings_after s j) (transfer_state_after t body j) (buffer_after t buffer body j) ≡ next (state_in s t buffer) p
  unfolding next judged
  next_packet =
      rw (same_body)
      (ap (λ (x : Transfer). record { settings = settings_after s j; transfer = x })
      (carried_transfer t buffer (payload p) (arrived p) j r n (payload_length_lem p w) (λ _. refl) fits)
      ∙ ap (λ (x : Judgement). record { settings = settings_after s x; transfer = transfer_after (transfer_in t buffer) (arrived p) x }) ej)

  pub rule_kept : transfer_in_rule (transfer_state_after t body j) ≡ true
  rule_kept = rw same_body (transfer_kept_lem t (payload p) (payload_length p) j (omega (arith, payload_length_lem p w)) r fits)

-- The bytes up to `at` were played from s, and left the state a. `first` is where the first packet began that was not acknowledged, if one was not, and `opener` where the one did that opened the transfer of a, if one is open.
pub record Going (s : Settings) (b : List ℕ) (a : State) (first : Option ℕ) (opener at : ℕ) : Type 0 where
  pub state : play s b ≡ after a (packets (drop at b))
  pub refusals : not_acknowledged 0 (from s) (packets b) ≡ option_or first (not_acknowledged at a (packets (drop at b)))
  pub openers : left_open 0 0 (from s) (packets b) ≡ left_open opener at a (packets (drop at b))
  pub left : rest b ≡ rest (drop at b)
  pub whole : bytes_in (packets b) ≡ at + bytes_in (packets (drop at b))

-- the start: nothing is played, with no transfer open
pub going_start : (s : Settings) (b : List ℕ) → Going s b (from s) None 0 0
unfolding play
going_start s b =
    record {
      state = refl;
      refusals = refl;
      openers = refl;
      left = refl;
      whole = sym (zero-add (bytes_in (packets b)));
    }

-- the list has an element
some_left : (l : List ℕ) → 0 < length l → is_nil l ≡ false
some_left [] h = absurd (omega arith)
some_left (x ∷ l) h = refl

-- what is known of them after one packet more
or_more : (first : Option ℕ) (at : ℕ) (good : Bool) (later : Option ℕ) → option_or first (cond good later (Some at)) ≡ option_or (option_or first (cond good None (Some at))) later
or_more (Some n) at good later = refl
or_more None at true later = refl
or_more None at false later = refl

-- What the packet at a place is, and where the play stands after it.
pub record Turned (s : Settings) (b : List ℕ) (a : State) (first : Option ℕ) (opener at n : ℕ) (right : Bool) : Type 0 where
  pub least : 7 ≤ n
  pub within : at + n ≤ length b
  pub whole : size (take n (drop at b)) ≡ length (take n (drop at b))
  pub sum : right ≡ right_sum (take n (drop at b))
  pub going : Going s b (next a (take n (drop at b))) (option_or first (cond (acknowledged (judged a (take n (drop at b)))) None (Some at)))
      (cond (is_open a.transfer) opener at) (at + n)

module _ {s : Settings} {b : List ℕ} {a : State} {first : Option ℕ} {opener at : ℕ} (g : Going s b a first opener at) where
  one_packet_lem : (p q : List ℕ) → IsPacket p → p ++ q ≡ drop at b → drop (at + length p) b ≡ q
      → Going s b (next a p) (option_or first (cond (acknowledged (judged a p)) None (Some at))) (cond (is_open a.transfer) opener at) (at + length p)
  unfolding after not_acknowledged left_open bytes_in
  one_packet_lem p q i j d =
      record {
        state = g.state ∙ rw (← j, packets_cons p q i, d);
        refusals =
            g.refusals
            ∙ ap (λ (x : List (List ℕ)). option_or first (not_acknowledged at a x)) (ap packets (sym j) ∙ packets_cons p q i)
            ∙ or_more first at (acknowledged (judged a p)) (not_acknowledged (at + length p) (next a p) (packets q))
            ∙ rw d;
        openers = g.openers ∙ rw (← j, packets_cons p q i, d);
        left = g.left ∙ rw (← j, rest_cons p q i, d);
        whole = g.whole ∙ rw (← j, packets_cons p q i, d) (omega arith);
      }

  -- a packet stands there
  pub going_packet : (found : WholePacket) → next_in (drop at b) ≡ Some found → at ≤ length b → Turned s b a first opener at found.size found.right
  going_packet found e l =
      let f = next_some (drop at b) found e in
      subst (λ (m : ℕ). Turned s b a first opener at m found.right) f.1 (go f.0 f.2)
    where
      go : has_packet (drop at b) ≡ true → right_sum (drop at b) ≡ found.right → Turned s b a first opener at (size (drop at b)) found.right
      go h r =
          let d : List ℕ = drop at b in
          let p : List ℕ = take (size (drop at b)) (drop at b) in
          let q : List ℕ = drop (size (drop at b)) (drop at b) in
          let i : IsPacket (take (size (drop at b)) (drop at b)) = first_packet (drop at b) h in
          let m : length (take (size (drop at b)) (drop at b)) ≡ size (drop at b) = length-take-le (size (drop at b)) (drop at b) (size_within (drop at b) h) in
          let w : drop (at + length p) b ≡ q = ap (λ (k : ℕ). drop (at + k) b) m ∙ sym (drop-drop (size (drop at b)) at b) in
          record {
            least = seven (drop at b);
            within = omega (arith, size_within (drop at b) h, length-drop at b);
            whole = i.exact;
            sum = sym (right_front (drop at b) h ∙ r);
            going = rw m at (one_packet_lem p q i (take-append-drop (size (drop at b)) (drop at b)) w);
          }

  -- no packet stands there: the settings, and the earlier offence
  module _ (h : has_packet (drop at b) ≡ false) (l : at ≤ length b) where
    no_more : packets (drop at b) ≡ []
    no_more = packets_none (drop at b) h

    -- bytes are left exactly where it is not the end
    unfinished_at : unfinished b ≡ cond (ltb at (length b)) (Some at) None
    unfolding unfinished bytes_in
    unfinished_at =
        let n : bytes_in (packets b) ≡ at = rw no_more at g.whole ∙ omega arith in
        lt_cases at (length b)
        (λ k. rw (g.left ∙ rest_none (drop at b) h, some_left (drop at b) (simp length-drop (omega arith)), n, lt-ltb at (length b) k))
        (λ k. rw (g.left ∙ rest_none (drop at b) h ∙ drop_of_length-le b {i = at} k, le-ltb at (length b) k))

    open_at : left_open 0 0 (from s) (packets b) ≡ cond (is_open a.transfer) (Some opener) None
    unfolding left_open
    open_at = g.openers ∙ rw no_more

    first_at : not_acknowledged 0 (from s) (packets b) ≡ first
    unfolding not_acknowledged
    first_at = g.refusals ∙ rw no_more (or_none first)
      where
        or_none : (o : Option ℕ) → option_or o None ≡ o
        or_none None = refl
        or_none (Some n) = refl

    pub going_end : (a.settings ≡ (play s b).settings)
        × (earlier first (earlier (cond (ltb at (length b)) (Some at) None) (cond (is_open a.transfer) (Some opener) None)) ≡ offence s b)
    unfolding offence after
    going_end = (sym (ap (λ (x : State). x.settings) (g.state ∙ ap (after a) no_more)), rw (first_at, unfinished_at, open_at))
