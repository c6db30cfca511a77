-- Playing: what it keeps, and packets in two runs.
use Prim.Native.Nat.{ℕ}
use mathlib.Core.Path.{◌≡◌, refl}
use mathlib.Core.List.{List, [], ◌∷◌, ◌++◌}
use Rattle.packet.specs.Number.{Bytes}
use Rattle.packet.specs.Packet.{payload_length, payload}
use Rattle.packet.specs.Stream.{packets}
use Rattle.packet.proofs.NumberLaws.{bytes_append, bytes_take, bytes_drop}
use Rattle.packet.proofs.StreamLaws.{AllBytes, packets_bytes}
use Rattle.command.specs.Data.{Fit}
use Rattle.command.specs.Table.{layout}
use Rattle.command.specs.Settings.{store}
use Rattle.command.specs.Value.{command_in, values_in}
use Rattle.command.specs.Transfer.{Transfer, held}
use Rattle.command.specs.Faults.{Arrived, arrived}
use Rattle.command.specs.Judgement.{judge}
use Rattle.command.specs.Carry.{settings_after, transfer_after}
use Rattle.command.specs.Player.{State, from, judged, next, after, play}
use Rattle.command.specs.declared.table.Command.{Command}
use Rattle.command.specs.declared.settings.Settings.{Settings}
use Rattle.command.specs.declared.judgement.Judgement.{Judgement}
use Rattle.command.specs.declared.judgement.Judgement.TheVariants.{Error, Hold, Write, Read}
use Rattle.command.proofs.rules.Laws.{Kept, Fits, Writable, kept_store, fits_store}
use Rattle.command.proofs.judgement.Laws.{OfWrite, Sound, sound, fitting}

-- the state keeps the rules: its settings do, their values fit, and what is held are bytes
pub record Holding (a : State) : Type 0 where
  pub rules : Kept a.settings
  pub fits : Fits a.settings
  pub bytes : Bytes (held a.transfer)

-- what a store of such values keeps, a judgement keeps that carries out no other
carried : (P : Settings → Type 0) (Q : Command → List ℕ → Type 0) (s : Settings) → ((c : Command) (v : List ℕ) → P s → Q c v → P (store c v s))
    → (j : Judgement) → P s → OfWrite Q j → P (settings_after s j)
carried P Q s k (Error _) h w = h
carried P Q s k (Hold _) h w = h
carried P Q s k (Write v) h w = k (command_in v) (values_in v) h w
carried P Q s k (Read _) h w = h

pub kept_judgement : (s : Settings) (j : Judgement) → Kept s → Sound s.mode j → Kept (settings_after s j)
kept_judgement s j = carried Kept (Writable s.mode) s (λ c v. kept_store c v s) j

bytes_judgement : (t : Transfer) (p : Arrived) (j : Judgement) → Bytes (held t) → Bytes (held t ++ p.body) → Bytes (held (transfer_after t p j))
bytes_judgement t p (Error k) h b = tt
bytes_judgement t p (Hold c) h b = b
bytes_judgement t p (Write v) h b = tt
bytes_judgement t p (Read c) h b = h

bytes_joined : (t : Transfer) (p : List ℕ) → Bytes (held t) → Bytes p → Bytes (held t ++ payload p)
unfolding payload
bytes_joined t p ht hp = bytes_append (held t) (payload p) ht (bytes_take (payload_length p) _ (bytes_drop 6 p hp))

holding_next : (a : State) (p : List ℕ) → Holding a → Bytes p → Holding (next a p)
unfolding next judged
holding_next a p h b =
    let d = bytes_joined a.transfer p h.bytes b in
    let j = judge a.settings.mode a.transfer (arrived p) in
    record {
      rules = kept_judgement a.settings j h.rules (sound a.settings.mode a.transfer (arrived p));
      fits = carried Fits (λ c v. Fit (layout c) v) a.settings (λ c v. fits_store c v a.settings) j h.fits (fitting a.settings.mode a.transfer (arrived p) d);
      bytes = bytes_judgement a.transfer (arrived p) j h.bytes d;
    }

holding_after : (a : State) (ps : List (List ℕ)) → Holding a → AllBytes ps → Holding (after a ps)
unfolding after
holding_after a [] h b = h
holding_after a (p ∷ ps) h b = holding_after (next a p) ps (holding_next a p h b.0) b.1

-- In rule stays in rule: whatever bytes are played, the settings keep the rules.
pub holding_play : (s : Settings) (b : List ℕ) → Kept s → Fits s → Bytes b → Holding (play s b)
unfolding play
holding_play s b k f h = holding_after (from s) (packets b) (record { rules = k; fits = f; bytes = tt }) (packets_bytes b h)

-- The same of the rules alone, whether or not what is played are bytes.
kept_after : (a : State) (ps : List (List ℕ)) → Kept a.settings → Kept (after a ps).settings
unfolding after next judged
kept_after a [] h = h
kept_after a (p ∷ ps) h =
    let j = judge a.settings.mode a.transfer (arrived p) in
    kept_after (next a p) ps (kept_judgement a.settings j h (sound a.settings.mode a.transfer (arrived p)))

pub kept_play : (s : Settings) (b : List ℕ) → Kept s → Kept (play s b).settings
unfolding play
kept_play s b h = kept_after (from s) (packets b) h

-- Packets in two runs.
pub after_append : (a : State) (ps qs : List (List ℕ)) → after a (ps ++ qs) ≡ after (after a ps) qs
unfolding after
after_append a [] qs = refl
after_append a (p ∷ ps) qs = after_append (next a p) ps qs
