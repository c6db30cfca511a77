-- Lists of writes: played on a head they store what they were made from.
use Prim.Native.Nat.{ℕ, zero, suc, ◌+◌, ◌<◌, ◌≤◌}
use mathlib.Core.Path.{◌≡◌, refl, ap, ap₂, sym, ◌∙◌}
use mathlib.Core.Bool.{true, false}
use mathlib.Core.List.{List, [], ◌∷◌, ◌++◌, append_assoc, append-nil}
use native.Mathlib.Omega.{arith}
use lib.ListN.{length, get_or, take, length-append}
use Rattle.packet.specs.Packet.{sum, host_write, whole}
use Rattle.packet.specs.Stream.{packets, rest}
use Rattle.packet.proofs.StreamLaws.{IsPacket, packets_nil, rest_nil, packets_cons, rest_cons}
use Rattle.packet.proofs.WriterLaws.{size_written}
use Rattle.command.specs.Table.{table, cmd1_for, cmd2_for, layout, size_of}
use Rattle.command.specs.Settings.{values_of, factory, values_after, store}
use Rattle.command.specs.Rules.{blocked}
use Rattle.command.specs.Value.{data_of, value_from}
use Rattle.command.specs.Player.{State, from, judgements, after, play, judgements_on, half_sent, all_acknowledged}
use Rattle.command.specs.Encoder.{write_packet, encoded, list_of, standard_list}
use Rattle.command.specs.declared.table.Command.{Command}
use Rattle.command.specs.declared.settings.Settings.{Settings}
use Rattle.command.proofs.table.Laws.{each, size_small}
use Rattle.command.proofs.rules.Laws.{Kept, Fits, length_values}
use Rattle.command.proofs.data.Laws.{length_join}
use Rattle.command.proofs.value.Laws.{command_from, data_from}
use Rattle.command.proofs.encoder.Laws.{write_packet_lem, next_write}

-- the settings t after the values of s were written with each command of a list
unfoldable pub store_all : List Command → Settings → Settings → Settings
store_all [] s t = t
store_all (c ∷ cs) s t = store_all cs s (store c (values_of c s) t)

-- none of these writes is blocked when its turn comes
abbrev pub Free : List Command → Settings → Settings → Type 0
Free [] s t = Unit {0}
Free (c ∷ cs) s t = (blocked c (values_of c s) t.mode ≡ false) × Free cs s (store c (values_of c s) t)

-- what playing a list does: each packet is acknowledged, the values are stored, and nothing is left
pub record Plays (cs : List Command) (s t : Settings) : Type 0 where
  pub good : all_acknowledged (judgements (from t) (packets (list_of cs s))) ≡ true
  pub ends : play t (list_of cs s) ≡ from (store_all cs s t)
  pub none : rest (list_of cs s) ≡ []

-- the bytes of a list: the data of each command and seven more
unfoldable pub sizes : List Command → ℕ
sizes [] = 0
sizes (c ∷ cs) = size_of c + 7 + sizes cs

-- the data of a command have its size
data_length : (c : Command) (s : Settings) → length (data_of c s) ≡ size_of c
unfolding data_of size_of
data_length c s = length_join (layout c) (values_of c s) (length_values s c)

write_length : (c : Command) (s : Settings) → length (write_packet c (data_of c s)) ≡ size_of c + 7
unfolding write_packet
write_length c s =
    size_written host_write (cmd1_for c) (cmd2_for c) whole (data_of c s) (omega (arith, data_length c s, size_small c)) ∙ ap (λ (m : ℕ). m + 7) (data_length c s)

pub write_most : (c : Command) (s : Settings) → length (write_packet c (data_of c s)) ≤ 24
write_most c s = omega (arith, write_length c s, size_small c)

pub list_size : (cs : List Command) (s : Settings) → length (list_of cs s) ≡ sizes cs
unfolding list_of sizes
list_size [] s = refl
list_size (c ∷ cs) s =
    length-append (write_packet c (data_of c s)) (list_of cs s)
    ∙ ap (λ (n : ℕ). n + length (list_of cs s)) (write_length c s)
    ∙ ap (λ (n : ℕ). (size_of c + 7) + n) (list_size cs s)

-- one write more
pub list_more : (cs : List Command) (k : ℕ) (d : Command) (s : Settings) → k < length cs
    → list_of (take (k + 1) cs) s ≡ list_of (take k cs) s ++ write_packet (get_or cs k d) (data_of (get_or cs k d) s)
unfolding list_of
list_more [] k d s h = absurd (omega arith)
list_more (c ∷ cs) zero d s h = append-nil (write_packet c (data_of c s))
list_more (c ∷ cs) (suc k) d s h =
    let e : suc k + 1 ≡ suc (k + 1) = omega arith in
    rw e
    (ap (λ (x : List ℕ). write_packet c (data_of c s) ++ x) (list_more cs k d s (omega arith))
    ∙ sym (append_assoc (write_packet c (data_of c s)) (list_of (take k cs) s) (write_packet (get_or cs k d) (data_of (get_or cs k d) s))))

-- a list that is not done leaves eight bytes at least
size_least : (c : Command) → 1 ≤ size_of c
unfolding size_of sum
size_least = each (λ c. 1 ≤ size_of c) (omega arith)

pub list_left : (cs : List Command) (k : ℕ) → k < length cs → sizes (take k cs) + 8 ≤ sizes cs
unfolding sizes
list_left [] k h = absurd (omega arith)
list_left (c ∷ cs) zero h = omega (arith, size_least c)
list_left (c ∷ cs) (suc k) h = omega (arith, list_left cs k (omega arith))

-- by induction over the list of writes
module _ (s : Settings) (k : Kept s) (f : Fits s) where
  write_of : (c : Command) → IsPacket (write_packet c (data_of c s))
  unfolding data_of
  write_of c = write_packet_lem c (values_of c s) (f c) (k.values c)

  pub plays : (cs : List Command) (t : Settings) → Free cs s t → Plays cs s t
  unfolding play list_of after judgements all_acknowledged store_all data_of
  plays [] t g = record { good = rw packets_nil; ends = rw packets_nil; none = rest_nil }
  plays (c ∷ cs) t g =
      let cut = packets_cons (write_packet c (data_of c s)) (list_of cs s) (write_of c) in
      let n = next_write c (values_of c s) (f c) (k.values c) t g.0 in
      let i = plays cs (store c (values_of c s) t) g.1 in
      record {
        good = rw (cut, n.1, n.0) i.good;
        ends = ap (after (from t)) cut ∙ ap (λ (x : State). after x (packets (list_of cs s))) n.1 ∙ i.ends;
        none = rest_cons (write_packet c (data_of c s)) (list_of cs s) (write_of c) ∙ i.none;
      }

  -- every command in table order: the sequence is run last, when the mode is set
  free_table : Free table s factory
  unfolding blocked store values_after
  free_table = (refl, (refl, (refl, (refl, (refl, (refl, (refl, (refl, (k.running, tt)))))))))

  all_stored : store_all table s factory ≡ s
  unfolding store_all store values_after
  all_stored = refl

  -- Standard list: played from factory values it ends at exactly the settings it was made from, all acknowledged, nothing left.
  pub standard_plays : play factory (standard_list s) ≡ from s
  unfolding standard_list
  standard_plays = (plays table factory free_table).ends ∙ ap from all_stored

  pub standard_acknowledged : all_acknowledged (judgements_on factory (standard_list s)) ≡ true
  unfolding standard_list
  standard_acknowledged = (plays table factory free_table).good

  pub standard_finished : half_sent (standard_list s) ≡ []
  unfolding standard_list
  standard_finished = (plays table factory free_table).none

-- 111 bytes
pub standard_size : (s : Settings) → length (standard_list s) ≡ 111
unfolding standard_list sizes size_of sum
standard_size s = list_size table s

-- the write of a setting's value
pub encoded_value : (c : Command) (s : Settings) → encoded (value_from c (values_of c s)) ≡ write_packet c (data_of c s)
unfolding encoded
encoded_value c s = ap₂ write_packet (command_from c (values_of c s)) (data_from c s)
