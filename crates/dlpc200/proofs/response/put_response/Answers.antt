-- `put_response` meets its contract: the bytes are stored piece after piece, and the last is their running sum.
use Rattle.std.proofs.Common.{◌≡◌, ◌+◌, ◌%◌, length, ap, sym, ◌∙◌, arith, take_all}
use Rattle.std.specs.List.{fold}
use Rattle.std.proofs.lemmas.List.Sums.{fold_more}
use Rattle.packet.proofs.BytesLaws.{fold_sum}
use Rattle.dlpc200.proofs.response.Laws.{stored_pieces, length_packet}
use Rattle.dlpc200.proofs.response.put_response.Goals as goal

pub loop-i-preserved : goal.loop-i-preserved
loop-i-preserved c =
    let d = c.args.payload.now in
    rw c.loop-i.invariant (sym (fold_more (λ s x. (s + x) % 256) (length d) d c.loop-i.i 0 (omega (arith, c.loop-i-test.true))))

pub returns : goal.returns
returns c =
    let a = c.args in
    let n = length a.payload.now in
    let s : c.loop-i.sum ≡ fold (λ s x. (s + x) % 256) n a.payload.now =
    c.loop-i.invariant ∙ ap (fold (λ s x. (s + x) % 256) n) (take_all c.loop-i.i a.payload.now (omega (arith, c.loop-i-test.false))) in (
      sym (length_packet a.cmd1 a.payload.now),
      rw (c.store-2.ensures, c.store.ensures)
          (stored_pieces a.out.now a.cmd1 a.payload.now c.requires.few c.requires.room (s ∙ fold_sum n a.payload.now c.requires.few)),
    )
