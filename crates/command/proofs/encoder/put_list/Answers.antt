-- `put_list` meets its contract.
use Rattle.std.proofs.Common.{◌≡◌, ℕ, ◌+◌, ◌-◌, ◌<◌, ◌≤◌, List, ◌++◌, length, get_or, take, drop, refl, sym, ◌∙◌, arith, length-take, length-drop, length-append}
use borrow.Rule.Slice.PartMut.{put_mid}
use Rattle.packet.specs.Packet.{sum}
use Rattle.packet.specs.Writer.{written}
use Rattle.packet.proofs.WriterLaws.{written_none, written_part}
use Rattle.command.specs.Table.{table, size_of}
use Rattle.command.specs.Value.{data_of}
use Rattle.command.specs.Encoder.{write_packet, list_of, standard_list}
use Rattle.command.specs.declared.table.Command.TheVariants.{DisplayMode}
use Rattle.command.specs.declared.settings.Settings.{Settings}
use Rattle.command.proofs.encoder.Lists.{list_size, list_more, list_left, write_most, encoded_value, sizes}
use Rattle.command.proofs.encoder.put_list.Goals as goal

-- the output with p after b: p was written to the part that lies after b
more : (b p o out : List ℕ) (at : ℕ) (part : List ℕ) → at ≡ length b → out ≡ written b o → length b ≤ length o
    → part ≡ written p (take (length out - at) (drop at out))
    → put_mid at (length out - at) out part ≡ written (b ++ p) o
more b p o out at part e f h g = rw (g, e, f) (written_part b p o h)

-- where the next packet goes there is room for it
room : (s : Settings) (n at k : ℕ) → 128 ≤ n → k < 9 → at ≡ length (list_of (take k table) s) → at + 25 ≤ n
unfolding sizes size_of sum
room s n at k l h e = omega (arith, e ∙ list_size (take k table) s, list_left table k h)

pub loop-c-init : goal.loop-c-init
unfolding list_of
loop-c-init c = record { size = refl; output = sym (written_none c.args.out.now) }

pub slice_bounds-put-count : goal.slice_bounds-put-count
slice_bounds-put-count c = omega (arith, room _ _ _ _ c.requires c.loop-c-test.true c.loop-c.invariant.size)

pub slice_bounds-put-start : goal.slice_bounds-put-start
slice_bounds-put-start c = omega (arith, room _ _ _ _ c.requires c.loop-c-test.true c.loop-c.invariant.size)

pub put-at-requires : goal.put-at-requires
put-at-requires c = simp (length-take, length-drop) (omega (arith, room _ _ _ _ c.requires c.loop-c-test.true c.loop-c.invariant.size))

pub overflow_add-at : goal.overflow_add-at
overflow_add-at c =
    let wrote = rw (c.value_of.ensures, encoded_value) at c.put-at.ensures in
    omega (arith, room _ _ _ _ c.requires c.loop-c-test.true c.loop-c.invariant.size, wrote.0, write_most)

pub loop-c-preserved : goal.loop-c-preserved
loop-c-preserved c =
    let s = c.args.s in
    let l = c.loop-c in
    -- what the call wrote: the packet of the command in line k
    let d = get_or table l.c-index DisplayMode in
    let wrote = rw (c.value_of.ensures, encoded_value) at c.put-at.ensures in
    let b = list_of (take l.c-index table) s in
    let p = write_packet d (data_of d s) in
    let m : list_of (take (l.c-index + 1) table) s ≡ b ++ p = list_more table l.c-index DisplayMode s (omega arith) in
    let r = room _ _ _ _ c.requires c.loop-c-test.true l.invariant.size in
    record {
      size = rw m (omega (arith, wrote.0, length-append b p));
      output = rw m (more b p _ _ _ _ l.invariant.size l.invariant.output (omega (arith, r)) wrote.1);
    }

pub returns : goal.returns
unfolding standard_list
returns c =
    let k : c.loop-c.c-index ≡ 9 = omega arith in
    (rw k at c.loop-c.invariant.size, rw k at c.loop-c.invariant.output)
