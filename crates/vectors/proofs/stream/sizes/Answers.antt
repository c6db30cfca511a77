-- A packet that stands at a place has a byte at least, and ends within the bytes.
use Rattle.std.proofs.Common.{◌≡◌, ℕ, ◌+◌, ◌<◌, ◌≤◌, List, length, drop, sym, arith, length-drop}
use Rattle.std.specs.Prelude.{Some}
use Rattle.packet.specs.Stream.{next_in}
use Rattle.packet.specs.declared.stream.WholePacket.{WholePacket}
use Rattle.packet.proofs.StreamLaws.{next_some, size_within, seven}
use Rattle.vectors.proofs.stream.sizes.Goals as goal

within : (b : List ℕ) (at : ℕ) (p : WholePacket) → Some p ≡ next_in (drop at b) → at ≤ length b → (0 < p.size) × (at + p.size ≤ length b)
within b at p e h =
    let f = next_some (drop at b) p (sym e) in
    (omega (arith, seven (drop at b), f.1), omega (arith, size_within (drop at b) f.0, f.1, length-drop at b))

pub overflow_add-at : goal.overflow_add-at
overflow_add-at g c =
    let h = within c.args.b.now c.loop-packet.at _ c.in-Some.ensures c.loop-packet.invariant in
    omega arith

pub loop-packet-smaller : goal.loop-packet-smaller
loop-packet-smaller g c =
    let h = within c.args.b.now c.loop-packet.at _ c.in-Some.ensures c.loop-packet.invariant in
    omega arith

pub loop-packet-preserved : goal.loop-packet-preserved
loop-packet-preserved g c =
    let h = within c.args.b.now c.loop-packet.at _ c.in-Some.ensures c.loop-packet.invariant in
    omega arith
