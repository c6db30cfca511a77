-- `play` meets its contract.
use Rattle.std.proofs.Common.{◌≡◌, ℕ, ◌+◌, ◌-◌, Bool, true, false, cond, List, length, take, drop, refl, sym, ap, ◌∙◌, arith}
use Rattle.std.specs.Prelude.{Option, None, Some, ltb}
use Rattle.std.specs.Bool.{then_some}
use Rattle.std.proofs.lemmas.List.{length-take-le, length-drop}
use Rattle.packet.proofs.StreamLaws.{next_none}
use Rattle.command.specs.Controller.{transfer_in_rule}
use Rattle.command.specs.Inner.{is_open_in}
use Rattle.command.specs.Player.{State, judged}
use Rattle.command.specs.declared.settings.Settings.{Settings}
use Rattle.command.proofs.transfer.Laws.{open_is}
use Rattle.command.proofs.carry.Laws.{buffer_kept}
use Rattle.command.proofs.player.Turns.{Turned, going_start, going_packet, going_end, next_packet, rule_kept}
use Rattle.command.proofs.player.play.Goals as goal
use Rattle.command.proofs.player.play.Goals.{then-not-is_open, else-not-is_open}

-- the slice that is handed on is the packet
handed : (b : List ℕ) (at n : ℕ) → take (at + n - at) (drop at b) ≡ take n (drop at b)
handed b at n =
    let e : at + n - at ≡ n = omega arith in
    ap (λ (i : ℕ). take i (drop at b)) e

-- it has as many bytes as it says
counted : {s : Settings} (b : List ℕ) {a : State} {first : Option ℕ} {opener at n : ℕ} {right : Bool} → Turned s b a first opener at n right
    → length (take n (drop at b)) ≡ n
counted b {at = at} {n = n} t = length-take-le n (drop at b) (omega (arith, t.within, length-drop at b))

-- a place that is told where a test holds
then_some_is : (b : Bool) (n : ℕ) → then_some b n ≡ cond b (Some n) None
then_some_is true n = refl
then_some_is false n = refl

pub loop-size-init : goal.loop-size-init
unfolding transfer_in_rule
loop-size-init c = (omega arith, refl, refl, going_start c.args.s c.args.b.now)

pub overflow_add-p : goal.overflow_add-p
overflow_add-p c =
    let o = c.loop-size in
    let t = going_packet o.invariant.3 c.in-Some.field-0 (sym c.next_packet.ensures ∙ c.in-Some.is) o.invariant.0 in
    omega (arith, t.within)

pub slice_bounds-p-end : goal.slice_bounds-p-end
slice_bounds-p-end c =
    let o = c.loop-size in
    let t = going_packet o.invariant.3 c.in-Some.field-0 (sym c.next_packet.ensures ∙ c.in-Some.is) o.invariant.0 in
    omega (arith, t.within)

pub judge_bytes-j-requires : goal.judge_bytes-j-requires
judge_bytes-j-requires c =
    let o = c.loop-size in
    let b = c.args.b.now in
    let t = going_packet o.invariant.3 c.in-Some.field-0 (sym c.next_packet.ensures ∙ c.in-Some.is) o.invariant.0 in
    rw (handed b o.at c.in-Some.field-0.size)
    (record { rule = o.invariant.1; whole = (omega (arith, counted b t, t.least), t.whole); sum = t.sum })

pub overflow_sub-size : goal.overflow_sub-size
overflow_sub-size c =
    let o = c.loop-size in
    let t = going_packet o.invariant.3 c.in-Some.field-0 (sym c.next_packet.ensures ∙ c.in-Some.is) o.invariant.0 in
    omega (arith, t.least)

pub slice_bounds-transfer_after-count : goal.slice_bounds-transfer_after-count
slice_bounds-transfer_after-count c =
    let o = c.loop-size in
    let t = going_packet o.invariant.3 c.in-Some.field-0 (sym c.next_packet.ensures ∙ c.in-Some.is) o.invariant.0 in
    omega (arith, t.least)

pub slice_bounds-transfer_after-start : goal.slice_bounds-transfer_after-start
slice_bounds-transfer_after-start c =
    let o = c.loop-size in
    let b = c.args.b.now in
    let t = going_packet o.invariant.3 c.in-Some.field-0 (sym c.next_packet.ensures ∙ c.in-Some.is) o.invariant.0 in
    let n = counted b t in
    omega (arith, t.least, n, ap length (handed b o.at c.in-Some.field-0.size))

pub transfer_after-transfer-requires : goal.transfer_after-transfer-requires
transfer_after-transfer-requires c = c.loop-size.invariant.1

pub overflow_add-at : goal.overflow_add-at
overflow_add-at c =
    let o = c.loop-size in
    let t = going_packet o.invariant.3 c.in-Some.field-0 (sym c.next_packet.ensures ∙ c.in-Some.is) o.invariant.0 in
    omega (arith, t.within)

pub loop-size-smaller : goal.loop-size-smaller
loop-size-smaller c =
    let o = c.loop-size in
    let t = going_packet o.invariant.3 c.in-Some.field-0 (sym c.next_packet.ensures ∙ c.in-Some.is) o.invariant.0 in
    omega (arith, t.least, t.within)

pub loop-size-preserved : goal.loop-size-preserved
unfolding judged
loop-size-preserved c =
    let o = c.loop-size in
    let b = c.args.b.now in
    let t = going_packet o.invariant.3 c.in-Some.field-0 (sym c.next_packet.ensures ∙ c.in-Some.is) o.invariant.0 in
    let n = counted b t in
    let p : List ℕ = take c.in-Some.field-0.size (drop o.at b) in
    let h = handed b o.at c.in-Some.field-0.size in
    let j = rw h at c.judge_bytes-j.ensures in
    let x = rw h at c.transfer_after-transfer.ensures.0 in
    let y = rw h at c.transfer_after-transfer.ensures.1 in
    let z = ap (λ (i : ℕ). take (i - 1 - 6) (drop 6 p)) (sym n) in
    let opener : c.if-not-is_open.opener ≡ cond (is_open_in o.transfer) o.opener o.at =
    elim c.if-not-is_open.branch [
      | then-not-is_open w ↦ rw (← c.is_open.ensures, w.if-not-is_open.true) w.opener-is
      | else-not-is_open w ↦ rw (← c.is_open.ensures, w.if-not-is_open.false) w.opener-is
    ] in (
      t.within,
      rw x (rule_kept o.settings o.transfer o.buffer p o.invariant.1 o.invariant.2 t.whole z j),
      rw y (buffer_kept o.transfer o.buffer (take (c.in-Some.field-0.size - 1 - 6) (drop 6 p)) c.judge_bytes-j.result ∙ o.invariant.2),
      rw (
        c.settings_after-settings.ensures,
        x,
        y,
        next_packet o.settings o.transfer o.buffer p o.invariant.1 o.invariant.2 t.whole z j,
        c.or-first.ensures,
        c.unacknowledged.ensures,
        opener,
        ← open_is o.transfer o.invariant.1 o.buffer,
        j,
      ) t.going,
    )

pub returns : goal.returns
returns c =
    let o = c.loop-size in
    let b = c.args.b.now in
    let g = going_end o.invariant.3 (next_none (drop o.at b) (sym c.next_packet.ensures ∙ c.in_default.is)) o.invariant.0 in
    rw (sym c.settings_in_rule.ensures ∙ c.if-not-settings_in_rule.false) (
      g.0,
      c.earlier-2.ensures
          ∙ rw (
            c.earlier.ensures,
            c.then_some-unfinished.ensures,
            then_some_is (ltb o.at (length b)) o.at,
            c.then_some-left_open.ensures,
            then_some_is c.is_open-2.result o.opener,
            c.is_open-2.ensures,
            ← open_is o.transfer o.invariant.1 o.buffer,
          ) g.1,
    )
