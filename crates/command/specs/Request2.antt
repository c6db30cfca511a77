-- Request 2: "04 00 may ask for at most 1 plus the whole part of 95/depth. Settings, refusal 3, the encoder and the report checker follow the new rule, for old reports
-- too. Refusals: 03 for a larger count, in its old place." Of reports it is crates/report/specs/Request2.antt.
use Rattle.std.specs.Prelude.{ℕ, ◌*◌, ◌<◌, ◌≤◌, ◌≡◌, ◌↔◌, ◌⊎◌, true, false, ◌&&◌, List, [], ◌∷◌, map, length, take, replicate, Some}
use Rattle.packet.specs.Answer.{Answers}
use Rattle.packet.specs.Packet.{host_write}
use Rattle.command.specs.Table.{layout, size_of}
use Rattle.command.specs.Fields.{sequence_from}
use Rattle.command.specs.Rules.{within, most_patterns, allowed}
use Rattle.command.specs.Data.{split_all}
use Rattle.command.specs.Faults.{Arrived}
use Rattle.command.specs.Player.{State, end_settings, end_offence}
use Rattle.command.specs.Controller.{state_of}
use Rattle.command.specs.Endpoint.{taken_by, arrived_in, receive_call, refused}
use Rattle.command.specs.Encoder.{encode_call, list_call}
use Rattle.command.specs.Encoder as encoder
use Rattle.command.specs.Sending.{Sending, sent_to, Ready}
use Rattle.command.specs.Demand1.{Names, Completes, FirstFault, joined_data, DrawsOn}
use Rattle.command.specs.declared.table.Command.TheVariants.{PatternSequence}
use Rattle.command.specs.declared.settings.Settings.{Settings}
use Rattle.command.specs.declared.settings.PatternSequence.{PatternSequence as Sequence}
use Rattle.command.specs.declared.value.Value.TheVariants as value
use Rattle.command.specs.declared.controller.Controller.{Controller}

-- a sequence of more patterns than its depth has, and one that the head shows whole
abbrev pub TooMany : Sequence → Type 0
TooMany q = most_patterns q.depth < q.count

abbrev pub ShownWhole : Sequence → Type 0
ShownWhole q = q.count ≤ most_patterns q.depth

-- The packet p comes to the head a and completes a write of this sequence, in one packet or as the last of a transfer: no code comes before 03.
pub record Asks (a : State) (p : Arrived) (q : Sequence) : Type 0 where
  pub first : (n : ℕ) → FirstFault a.transfer p n → ⊥
  pub completes : Completes p.flags
  pub write : p.type ≡ host_write
  pub names : Names p.cmd1 p.cmd2 PatternSequence
  pub size : length (joined_data a.transfer p) ≡ size_of PatternSequence
  pub sequence : sequence_from (split_all (layout PatternSequence) (joined_data a.transfer p)) ≡ q

-- the error packet of 04 00 with code 03
abbrev pub not_allowed : List ℕ
not_allowed = 0x01 ∷ 0x04 ∷ 0x00 ∷ 0x00 ∷ 0x01 ∷ 0x00 ∷ 0x03 ∷ 0x09 ∷ []

pub record Request2 : Type 0 where
  -- "at most 1 plus the whole part of 95/depth", for the depths 1 to 8
  pub limits : map most_patterns (1 ∷ 2 ∷ 3 ∷ 4 ∷ 5 ∷ 6 ∷ 7 ∷ 8 ∷ []) ≡ 96 ∷ 48 ∷ 32 ∷ 24 ∷ 20 ∷ 16 ∷ 14 ∷ 12 ∷ []
  -- "numbers patterns from 0 to 95 divided by the bits per pattern": n is the number of one exactly when n times the depth is at most 95
  pub numbered : (depth n : ℕ) → 0 < depth → (n < most_patterns depth) ↔ (n * depth ≤ 95)
  -- a count is allowed by its depth alone, from 1 to that many; what is allowed of the other fields does not depend on it
  pub counts : (depth count : ℕ) (others : List ℕ)
      → allowed PatternSequence (depth ∷ count ∷ others) ≡ allowed PatternSequence (depth ∷ 1 ∷ others) && within 1 (most_patterns depth) count
  -- a depth that is not from 1 to 8, 0 among them, is not allowed, whatever the count
  pub depths : (depth count : ℕ) (others : List ℕ) → (depth < 1) ⊎ (8 < depth) → allowed PatternSequence (depth ∷ count ∷ others) ≡ false
  -- "may ask": every count up to that is allowed, with all else 0
  pub allows : (depth count : ℕ) → 1 ≤ depth → depth ≤ 8 → 1 ≤ count → count ≤ most_patterns depth → allowed PatternSequence (depth ∷ count ∷ replicate 6 0) ≡ true
  -- "03 for a larger count, in its old place": on the state of any head, alone,
  pub draws : (a : State) (p : Arrived) (q : Sequence) → Asks a p q → TooMany q → DrawsOn a p (0x03 ∷ [])
  -- so that the receive call that such a packet completes answers it, and leaves the settings
  pub answered : (c : Controller) (input out : List ℕ) (n m : ℕ) (q : Sequence) → (receive_call c input out).answer ≡ Answers n m
      → Asks (state_of c) (arrived_in (taken_by c input)) q
      → TooMany q
      → (take m (receive_call c input out).output ≡ not_allowed) × ((receive_call c input out).controller.settings ≡ c.settings)
  -- "Settings": whatever bytes are sent to a head in rule, in the middle of a packet too, however they are cut, it never has more patterns than it shows
  pub heads : (c : Controller) (b : List ℕ) (s : Sending b) → Ready c → ShownWhole (sent_to c s).state.settings.sequence
  -- "refusal 3": a controller whose settings have more is refused by the receive call, and settings that have more by the standard list; they are not played
  pub receive : (c : Controller) (input out : List ℕ) → 64 ≤ length out → TooMany c.settings.sequence → receive_call c input out ≡ refused 3 c out
  pub list : (s : Settings) (out : List ℕ) → 128 ≤ length out → TooMany s.sequence → list_call s out ≡ encoder.refused 3 out
  pub play : (s : Settings) (b : List ℕ) → TooMany s.sequence → (end_settings s b ≡ s) × (end_offence s b ≡ Some 0)
  -- "the encoder": refusal 2
  pub encode : (q : Sequence) (out : List ℕ) → 64 ≤ length out → TooMany q → encode_call (value.PatternSequence q) out ≡ encoder.refused 2 out
