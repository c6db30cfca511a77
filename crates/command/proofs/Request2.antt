-- Request 2, proved: the row of 04 00, and what cites it.
use Prim.Native.Nat.{ℕ, zero, suc, ◌*◌, ◌<◌, ◌≤◌}
use mathlib.Core.Path.{◌≡◌, refl, ap, ap₂, sym, subst, ◌∙◌}
use mathlib.Core.Logic.{◌↔◌, ◌⊎◌, inl, inr}
use mathlib.Core.Bool.{Bool, true, false, ◌&&◌, and-true, and-false}
use mathlib.Core.List.{List, [], ◌∷◌}
use native.Mathlib.Nat.{le-div_iff_mul-le}
use native.Mathlib.Omega.{arith}
use lib.Dec.{leb}
use lib.ListN.{length, take, get_or, replicate}
use borrow.Author.Tests.{le-ltb, le-leb, lt-leb, leb-true, leb-false}
use Rattle.packet.specs.Answer.{Answers}
use Rattle.packet.specs.Number.{bytes_of}
use Rattle.packet.specs.Packet.{type_of, packet_of, sealed, checksum, sum, error, whole}
use Rattle.packet.proofs.Cases.{bool_cases, never}
use Rattle.command.specs.Fields.{sequence_values}
use Rattle.command.specs.Settings.{values_of}
use Rattle.command.specs.Table.{layout}
use Rattle.command.specs.Rules.{within, most_patterns, allowed, settings_in_rule}
use Rattle.command.specs.Data.{split_all}
use Rattle.command.specs.Faults.{Arrived, arrived}
use Rattle.command.specs.Response.{acknowledged}
use Rattle.command.specs.Player.{State, judged}
use Rattle.command.specs.Controller.{state_of, parts_in_rule}
use Rattle.command.specs.Endpoint.{taken_by, arrived_in, receive_call, refused}
use Rattle.command.specs.Encoder.{encode_call, list_call}
use Rattle.command.specs.Encoder as encoder
use Rattle.command.specs.Sending.{Sending, sent_to, Ready}
use Rattle.command.specs.Demand1.{ValueNotAllowed, Alone, joined_data, SettingNotAllowed, DrawsOn}
use Rattle.command.specs.Request2.{TooMany, ShownWhole, Asks, not_allowed, Request2}
use Rattle.command.specs.declared.table.Command.TheVariants.{PatternSequence}
use Rattle.command.specs.declared.settings.Settings.{Settings}
use Rattle.command.specs.declared.settings.PatternSequence.{PatternSequence as Sequence}
use Rattle.command.specs.declared.value.Value.TheVariants as value
use Rattle.command.specs.declared.controller.Controller.{Controller}
use Rattle.command.proofs.rules.Laws.{kept_by, Kept}
use Rattle.command.proofs.judgement.Called.{exactly_called}
use Rattle.command.proofs.controller.Laws.{rule_parts}
use Rattle.command.proofs.endpoint.Laws.{sent_in_rule}
use Rattle.command.proofs.Refusals.{settings_out}
use Rattle.command.proofs.Demand1.{demand1}

-- The patterns are numbered from 0, and the last number times the depth is at most 95.
most_numbered : (depth n : ℕ) → 0 < depth → (n < most_patterns depth) ↔ (n * depth ≤ 95)
most_numbered depth n h =
    let d = le-div_iff_mul-le {k = depth} {x = n} {y = 95} h in
    (λ m. d.0 (omega arith), λ m. let q = d.1 m in omega arith)

-- the second of some tests, moved to their end
moved : (first second others : Bool) → (first && (second && others)) ≡ (first && others && second)
moved first true others = sym (and-true (first && others))
moved first false others = and-false first ∙ sym (and-false (first && others))

count_alone : (depth count : ℕ) (others : List ℕ)
    → allowed PatternSequence (depth ∷ count ∷ others) ≡ allowed PatternSequence (depth ∷ 1 ∷ others) && within 1 (most_patterns depth) count
count_alone depth count others = rw (le-leb 1 (most_patterns depth) (omega arith)) (moved (within 1 8 depth) (within 1 (most_patterns depth) count) _)

no_depth : (depth count : ℕ) (others : List ℕ) → (depth < 1) ⊎ (8 < depth) → allowed PatternSequence (depth ∷ count ∷ others) ≡ false
no_depth depth count others (inl h) = rw (lt-leb 1 depth h)
no_depth depth count others (inr h) = rw (lt-leb depth 8 h, and-false)

up_to_most : (depth count : ℕ) → 1 ≤ depth → depth ≤ 8 → 1 ≤ count → count ≤ most_patterns depth → allowed PatternSequence (depth ∷ count ∷ replicate 6 0) ≡ true
up_to_most depth count a b c d = rw (le-leb 1 depth a, le-leb depth 8 b, le-leb 1 count c, le-leb count (most_patterns depth) d)

-- a larger count is not allowed
too_many : (v : List ℕ) → most_patterns (get_or v 0 0) < get_or v 1 0 → allowed PatternSequence v ≡ false
too_many v h = simp (lt-leb (get_or v 1 0) (most_patterns (get_or v 0 0)) h, and-false)

out_of_rule : (s : Settings) → TooMany s.sequence → settings_in_rule s ≡ false
out_of_rule s h = (settings_out s).1 (SettingNotAllowed PatternSequence (too_many (values_of PatternSequence s) h))

-- settings in rule have no more than are shown
pub shown_whole : (s : Settings) → Kept s → ShownWhole s.sequence
shown_whole s k =
    let q = s.sequence in
    bool_cases (leb q.count (most_patterns q.depth)) (leb-true q.count (most_patterns q.depth))
    (λ e. never (sym (too_many (values_of PatternSequence s) (leb-false q.count (most_patterns q.depth) e)) ∙ k.values PatternSequence))

draws_value : (a : State) (p : Arrived) (q : Sequence) → Asks a p q → TooMany q → DrawsOn a p (0x03 ∷ [])
draws_value a p q k h =
    Alone 0x03 k.first k.completes
    (ValueNotAllowed PatternSequence k.write k.names k.size
    (too_many (split_all (layout PatternSequence) (joined_data a.transfer p)) (subst TooMany (sym k.sequence) h)))

-- a packet that draws it is not acknowledged
pub not_acknowledged_lem : (a : State) (p : List ℕ) (q : Sequence) → Asks a (arrived p) q → TooMany q → acknowledged (judged a p) ≡ false
unfolding judged
not_acknowledged_lem a p q k h =
    rw ((exactly_called a.settings.mode a.transfer (arrived p) (0x03 ∷ [])).1 (draws_value a (arrived p) q k h)).type

-- what begins with the error type, of the bytes that are told, does
told_error : (m : ℕ) (b : List ℕ) → type_of (take m b) ≡ error → type_of b ≡ error
told_error zero b h = absurd (omega arith)
told_error (suc m) [] h = h
told_error (suc m) (x ∷ b) h = h

answers_so : (c : Controller) (input out : List ℕ) (n m : ℕ) (q : Sequence) → (receive_call c input out).answer ≡ Answers n m
    → Asks (state_of c) (arrived_in (taken_by c input)) q
    → TooMany q
    → (take m (receive_call c input out).output ≡ not_allowed) × ((receive_call c input out).controller.settings ≡ c.settings)
unfolding packet_of sealed checksum sum bytes_of
answers_so c input out n m q h k t =
    let p = arrived_in (taken_by c input) in
    let e : take m (receive_call c input out).output ≡ not_allowed =
    demand1.owed c input out (0x03 ∷ []) n m h (draws_value (state_of c) p q k t)
    ∙ ap₂ (λ cmd1 cmd2. packet_of error cmd1 cmd2 whole (0x03 ∷ [])) k.names.0 k.names.1 in
    (e, (demand1.sent c input out n m h (told_error m (receive_call c input out).output (ap type_of e))).settings)

head_shows : (c : Controller) (b : List ℕ) (s : Sending b) → Ready c → ShownWhole (sent_to c s).state.settings.sequence
head_shows c b s k =
    let r = (sent_to c s).state in
    shown_whole r.settings (kept_by r.settings (rule_parts r.settings r.registers (sent_in_rule c b s k).rule).settings)

receive_refused : (c : Controller) (input out : List ℕ) → 64 ≤ length out → TooMany c.settings.sequence → receive_call c input out ≡ refused 3 c out
unfolding receive_call parts_in_rule
receive_refused c input out l h = rw (le-ltb (length out) 64 l, out_of_rule c.settings h)

list_refused : (s : Settings) (out : List ℕ) → 128 ≤ length out → TooMany s.sequence → list_call s out ≡ encoder.refused 3 out
unfolding list_call
list_refused s out l h = rw (le-ltb (length out) 128 l, out_of_rule s h)

encode_refused : (q : Sequence) (out : List ℕ) → 64 ≤ length out → TooMany q → encode_call (value.PatternSequence q) out ≡ encoder.refused 2 out
unfolding encode_call
encode_refused q out l h = rw (le-ltb (length out) 64 l, too_many (sequence_values q) h)

pub request_2 : Request2
request_2 =
    record {
      limits = refl;
      numbered = most_numbered;
      counts = count_alone;
      depths = no_depth;
      allows = up_to_most;
      draws = draws_value;
      answered = answers_so;
      heads = head_shows;
      receive = receive_refused;
      list = list_refused;
      play = λ s b h. demand1.play s b ((settings_out s).0 (out_of_rule s h));
      encode = encode_refused;
    }
