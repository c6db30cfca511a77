-- Playing bytes from given settings, and the play call.
use Rattle.std.specs.Prelude.{ℕ, ◌+◌, ◌≤◌, min, ◌≡◌, Bool, true, false, ◌&&◌, cond, List, [], ◌∷◌, ◌++◌, length, Option, None, Some}
use Rattle.packet.specs.Calls.{joined}
use Rattle.packet.specs.Stream.{packets, bytes_in, rest}
use Rattle.command.specs.Rules.{settings_in_rule}
use Rattle.command.specs.Transfer.{Transfer, Closed, is_open}
use Rattle.command.specs.Faults.{arrived}
use Rattle.command.specs.Judgement.{judge}
use Rattle.command.specs.Carry.{settings_after, transfer_after}
use Rattle.command.specs.Response.{acknowledged, response}
use Rattle.command.specs.declared.settings.Settings.{Settings}
use Rattle.command.specs.declared.judgement.Judgement.{Judgement}

-- the settings, and one open transfer or none
pub record State : Type 0 where
  pub settings : Settings
  pub transfer : Transfer

-- it begins with none
abbrev pub from : Settings → State
from s = record { settings = s; transfer = Closed }

-- a packet is judged on the state
unfoldable pub judged : State → List ℕ → Judgement
judged a p = judge a.settings.mode a.transfer (arrived p)

-- and changes it
unfoldable pub next : State → List ℕ → State
next a p =
    record {
      settings = settings_after a.settings (judged a p);
      transfer = transfer_after a.transfer (arrived p) (judged a p);
    }

-- packets one after the other: how each is judged, what each draws, and the state at the end
unfoldable pub judgements : State → List (List ℕ) → List Judgement
judgements a [] = []
judgements a (p ∷ ps) = judged a p ∷ judgements (next a p) ps

unfoldable pub responses : State → List (List ℕ) → List (List ℕ)
responses a [] = []
responses a (p ∷ ps) = response a.settings (arrived p) (judged a p) ∷ responses (next a p) ps

unfoldable pub after : State → List (List ℕ) → State
after a [] = a
after a (p ∷ ps) = after (next a p) ps

-- playing bytes: they are cut into packets, until too few are left for one
unfoldable pub play : Settings → List ℕ → State
play s b = after (from s) (packets b)

-- how each packet of the bytes is judged, what each draws, and what is left of the bytes: too few for a packet
abbrev pub judgements_on : Settings → List ℕ → List Judgement
judgements_on s b = judgements (from s) (packets b)

abbrev pub answers_to : Settings → List ℕ → List ℕ
answers_to s b = joined (responses (from s) (packets b))

abbrev pub half_sent : List ℕ → List ℕ
half_sent b = rest b

unfoldable pub all_acknowledged : List Judgement → Bool
all_acknowledged [] = true
all_acknowledged (j ∷ js) = acknowledged j && all_acknowledged js

-- there are no bytes
abbrev pub is_nil : List ℕ → Bool
is_nil [] = true
is_nil (x ∷ xs) = false

-- Where bytes that are played offend: "the first byte of the offending packet, or of the unfinished one, or of the packet that opened the transfer left open; of
-- these the earliest" (request 4). Places are counted from the first byte played.

-- the first packet that is not acknowledged, the first of these packets being at this place
unfoldable pub not_acknowledged : ℕ → State → List (List ℕ) → Option ℕ
not_acknowledged at a [] = None
not_acknowledged at a (p ∷ ps) = cond (acknowledged (judged a p)) (not_acknowledged (at + length p) (next a p) ps) (Some at)

-- the packet that opened the transfer that is left open. A packet that comes while none is open opens the one that is open after it; the transfer that is open
-- before these packets, if there is one, was opened at the place `opener`.
unfoldable pub left_open : ℕ → ℕ → State → List (List ℕ) → Option ℕ
left_open opener at a [] = cond (is_open a.transfer) (Some opener) None
left_open opener at a (p ∷ ps) = left_open (cond (is_open a.transfer) opener at) (at + length p) (next a p) ps

-- the unfinished packet: it begins where the whole packets end
unfoldable pub unfinished : List ℕ → Option ℕ
unfinished b = cond (is_nil (half_sent b)) None (Some (bytes_in (packets b)))

-- the earlier of two places
abbrev pub earlier : Option ℕ → Option ℕ → Option ℕ
earlier None o = o
earlier (Some m) None = Some m
earlier (Some m) (Some n) = Some (min m n)

-- the earliest of the three
unfoldable pub offence : Settings → List ℕ → Option ℕ
offence s b = earlier (not_acknowledged 0 (from s) (packets b)) (earlier (unfinished b) (left_open 0 0 (from s) (packets b)))

-- The same once more as the request lists it, a case for each of the three: the play call names the earliest of these (`Request4.offends`). Bytes that are played from
-- the settings s offend at this place:
pub data Offends (s : Settings) (b : List ℕ) : ℕ → Type 0 where
  -- "the first byte of the offending packet": one that is not acknowledged
  NotAcknowledged : (before : List (List ℕ)) (p : List ℕ) (behind : List (List ℕ)) → packets b ≡ before ++ (p ∷ behind)
      → acknowledged (judged (after (from s) before) p) ≡ false
      → Offends s b (bytes_in before)
  -- "or of the unfinished one"
  Unfinished : (half_sent b ≡ [] → ⊥) → Offends s b (bytes_in (packets b))
  -- "or of the packet that opened the transfer left open": none was open before it, and one is after it and after each packet behind it
  LeftOpen : (before : List (List ℕ)) (p : List ℕ) (behind : List (List ℕ)) → packets b ≡ before ++ (p ∷ behind)
      → (after (from s) before).transfer ≡ Closed
      → ((early late : List (List ℕ)) → behind ≡ early ++ late → (after (from s) (before ++ (p ∷ early))).transfer ≡ Closed → ⊥)
      → Offends s b (bytes_in before)

-- the packet that does, or what there is of the unfinished one
abbrev pub offending : {s : Settings} {b : List ℕ} {n : ℕ} → Offends s b n → List ℕ
offending (NotAcknowledged before p behind c e) = p
offending {b = b} (Unfinished h) = half_sent b
offending (LeftOpen before p behind c z w) = p

-- "of these the earliest"
pub record Earliest (s : Settings) (b : List ℕ) (n : ℕ) : Type 0 where
  pub offends : Offends s b n
  pub first : (m : ℕ) → Offends s b m → n ≤ m

-- The play call: settings out of rule are not played. They stay, and the place is 0, also where there is no byte.
abbrev pub end_settings : Settings → List ℕ → Settings
end_settings s b = cond (settings_in_rule s) (play s b).settings s

abbrev pub end_offence : Settings → List ℕ → Option ℕ
end_offence s b = cond (settings_in_rule s) (offence s b) (Some 0)
