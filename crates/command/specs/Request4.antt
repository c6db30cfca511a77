-- Request 4: "The value check should name the first data byte, counted from 0, of the first field not allowed, in layout order; a rule between two fields counts
-- against the later one. With code 03 the receive call reports it beside the response, whose bytes stay the same." And where bytes that are played offend, which is
-- the place of refusal 18: of reports it is crates/report/specs/Request4.antt.
use Rattle.std.specs.Prelude.{ℕ, ◌+◌, ◌<◌, ◌≤◌, ◌≡◌, ◌↔◌, ◌⊎◌, Bool, true, false, ◌&&◌, ◌||◌, List, [], ◌∷◌, ◌++◌, map, eqb, length, take, drop, get_or, Option, None, Some}
use Rattle.packet.specs.Answer.{Answers}
use Rattle.packet.specs.Stream.{packets}
use Rattle.command.specs.Table.{same, layout}
use Rattle.command.specs.Rules.{within, pairs, listed, most_patterns, Field, field, fields_of, all_valid, allowed, wrong_byte, settings_in_rule}
use Rattle.command.specs.Data.{split_all}
use Rattle.command.specs.Transfer.{Transfer, Closed}
use Rattle.command.specs.Faults.{Arrived, arrived, value_fault}
use Rattle.command.specs.Response.{response, wrong_in}
use Rattle.command.specs.Player.{State, judged, judgements, play, judgements_on, all_acknowledged, half_sent, Offends, offending, Earliest, end_offence}
use Rattle.command.specs.Controller.{state_of}
use Rattle.command.specs.Endpoint.{taken_by, arrived_in, receive_call}
use Rattle.command.specs.Sending.{Sending, wrong_to, Ready, Boundary}
use Rattle.command.specs.Demand1.{Names, joined_data, DrawsOn, error_packet}
use Rattle.command.specs.declared.table.Command.{Command}
use Rattle.command.specs.declared.table.Command.TheVariants.{VideoInput, PatternSequence}
use Rattle.command.specs.declared.settings.Settings.{Settings}
use Rattle.command.specs.declared.judgement.Judgement.TheVariants.{Error}
use Rattle.command.specs.declared.controller.Controller.{Controller}

-- The value check.

-- the first bytes of fields of these widths, of which the first begins with this byte
abbrev pub starts_from : ℕ → List ℕ → List ℕ
starts_from at [] = []
starts_from at (w ∷ ws) = at ∷ starts_from (at + w) ws

-- n is "the first data byte of the first field not allowed, in layout order": the fields before it are allowed
pub record FirstNotAllowed (fs : List Field) (n : ℕ) : Type 0 where
  pub before : List Field
  pub wrong : Field
  pub behind : List Field
  pub fields : fs ≡ before ++ (wrong ∷ behind)
  pub passed : all_valid before ≡ true
  pub fails : wrong.valid ≡ false
  pub byte : wrong.byte ≡ n

-- the fields, by their number from 0, that a rule ties to an earlier one: Y to X; count, inversion and trigger to the depth
abbrev pub tied : Command → ℕ → Bool
tied c i = (same c VideoInput && eqb i 1) || (same c PatternSequence && within 1 3 i)

-- whether field number i is allowed, and its byte
abbrev pub field_at : Command → List ℕ → ℕ → Field
field_at c v i = get_or (fields_of c v) i (field 0 true)

-- the rules of 04 00 in numbers: of the depth itself, and what it asks of count, inversion and trigger
abbrev pub Depth : ℕ → Type 0
Depth depth = (1 ≤ depth) × (depth ≤ 8)

abbrev pub Count : ℕ → ℕ → Type 0
Count depth count = (1 ≤ count) × (count ≤ most_patterns depth)

abbrev pub Inversion : ℕ → ℕ → Type 0
Inversion depth inversion = (inversion ≤ 2) × ((inversion ≡ 0) ⊎ (depth ≡ 1))

abbrev pub Trigger : ℕ → ℕ → Type 0
Trigger depth trigger = (trigger ≤ 6) × ((trigger ≡ 6 → ⊥) ⊎ (depth ≡ 1))

-- A packet that is judged, and the receive call.

-- n is that byte of the data that the packet p completes: of its payload, in a transfer of the joined data
pub record NamedIn (t : Transfer) (p : Arrived) (n : ℕ) : Type 0 where
  pub command : Command
  pub names : Names p.cmd1 p.cmd2 command
  pub first : FirstNotAllowed (fields_of command (split_all (layout command) (joined_data t p))) n

-- the call answers with the error packet whose only code is 03
pub record Draws03 (c : Controller) (input out : List ℕ) : Type 0 where
  pub taken : ℕ
  pub size : ℕ
  pub answer : (receive_call c input out).answer ≡ Answers taken size
  pub packet : take size (receive_call c input out).output ≡ error_packet (arrived_in (taken_by c input)) (0x03 ∷ [])

pub record Request4 : Type 0 where
  -- the fields of a command begin where its layout has them
  pub fields : (c : Command) (v : List ℕ) → map (λ (f : Field). f.byte) (fields_of c v) ≡ starts_from 0 (layout c)
  -- a byte is named exactly when the values are not allowed,
  pub names : (c : Command) (v : List ℕ) → (wrong_byte c v ≡ None) ↔ (allowed c v ≡ true)
  -- and it is the first of the first field not allowed
  pub first : (c : Command) (v : List ℕ) (n : ℕ) → (wrong_byte c v ≡ Some n) ↔ FirstNotAllowed (fields_of c v) n
  -- a field that no rule ties to another is judged by its own value alone
  pub own : (c : Command) (v w : List ℕ) (i : ℕ) → tied c i ≡ false → get_or v i 0 ≡ get_or w i 0 → field_at c v i ≡ field_at c w i
  -- "a rule between two fields counts against the later one": no field is judged by a value behind it;
  pub later : (c : Command) (v w : List ℕ) (k : ℕ) → take k v ≡ take k w → take k (fields_of c v) ≡ take k (fields_of c w)
  -- X and Y that are no listed pair are named at Y, whatever X is;
  pub pair : (x y : ℕ) (others : List ℕ) → listed x y pairs ≡ false → wrong_byte VideoInput (x ∷ y ∷ others) ≡ Some 2
  -- of 04 00 the depth at its own byte, whatever the others are; then count, inversion and trigger at theirs
  pub depth : (depth : ℕ) (others : List ℕ) → (Depth depth → ⊥) → wrong_byte PatternSequence (depth ∷ others) ≡ Some 0
  pub count : (depth count : ℕ) (others : List ℕ) → Depth depth → (Count depth count → ⊥) → wrong_byte PatternSequence (depth ∷ count ∷ others) ≡ Some 1
  pub inversion : (depth count inversion : ℕ) (others : List ℕ) → Depth depth → Count depth count → (Inversion depth inversion → ⊥)
      → wrong_byte PatternSequence (depth ∷ count ∷ inversion ∷ others) ≡ Some 2
  pub trigger : (depth count inversion trigger : ℕ) (others : List ℕ) → Depth depth → Count depth count → Inversion depth inversion
      → (Trigger depth trigger → ⊥)
      → wrong_byte PatternSequence (depth ∷ count ∷ inversion ∷ trigger ∷ others) ≡ Some 3
  -- a packet names a byte exactly when the only code that it draws is 03, and that byte
  pub judges : (a : State) (p : List ℕ) (n : ℕ) → (wrong_in (judged a p) ≡ Some n) ↔ (DrawsOn a (arrived p) (0x03 ∷ []) × NamedIn a.transfer (arrived p) n)
  pub owed : (a : State) (p : List ℕ) → DrawsOn a (arrived p) (0x03 ∷ []) → wrong_in (judged a p) ≡ None → ⊥
  -- "With code 03 the receive call reports it": whatever the controller, it reports a byte exactly when the response's only code is 03, and that byte
  pub exactly : (c : Controller) (input out : List ℕ) (n : ℕ)
      → ((receive_call c input out).wrong ≡ Some n) ↔ (Draws03 c input out × NamedIn (state_of c).transfer (arrived_in (taken_by c input)) n)
  pub reports : (c : Controller) (input out : List ℕ) → Draws03 c input out → (receive_call c input out).wrong ≡ None → ⊥
  -- over whole streams, however they were cut: with each response the byte of the packet that drew it, as it is judged when it comes
  pub streams : (c : Controller) (b : List ℕ) (s : Sending b) → Boundary c → wrong_to c s ≡ map wrong_in (judgements (state_of c) (packets b))
  pub cut : (c : Controller) (b : List ℕ) (s t : Sending b) → Ready c → wrong_to c s ≡ wrong_to c t
  -- "beside the response, whose bytes stay the same": the error packet with 03 alone does not depend on it
  pub beside : (s : Settings) (p : Arrived) (w x : Option ℕ) → response s p (Error (value_fault w)) ≡ response s p (Error (value_fault x))
  -- the play call, given settings in rule, names the earliest place that offends, and none exactly when each packet is acknowledged and no transfer or packet is
  -- left half sent;
  pub offends : (s : Settings) (b : List ℕ) (n : ℕ) → settings_in_rule s ≡ true → (end_offence s b ≡ Some n) ↔ Earliest s b n
  pub clean : (s : Settings) (b : List ℕ) → settings_in_rule s ≡ true
      → (end_offence s b ≡ None) ↔ ((all_acknowledged (judgements_on s b) ≡ true) × ((play s b).transfer ≡ Closed) × (half_sent b ≡ []))
  -- and what offends stands at its place
  pub stands : (s : Settings) (b : List ℕ) (n : ℕ) (o : Offends s b n) → (take (length (offending o)) (drop n b) ≡ offending o) × (n < length b)
