-- `keep` meets its contract: the held data are stored first, and behind them the packet's, unless it is an error.
use Rattle.std.proofs.Common.{◌≡◌, ℕ, ◌+◌, true, List, length, take, length-append, sym, ap, ◌∙◌, arith, rules}
use Rattle.std.proofs.lemmas.List.{length-take-le}
use Rattle.std.proofs.lemmas.List.Edits.{sets}
use Rattle.command.specs.Controller.{held_in, transfer_in_rule}
use Rattle.command.specs.Inner.{held_by}
use Rattle.command.specs.Ruling.{data_for}
use Rattle.command.specs.declared.transfer.TransferState.{TransferState}
use Rattle.command.proofs.transfer.Laws.{held_most}
use Rattle.command.proofs.asking.Laws.{data_accepted, stored_first, stored_both}
use Rattle.command.proofs.asking.keep.Goals as goal

-- that many bytes are held
counted : (t : TransferState) (buffer : List ℕ) (n : ℕ) → transfer_in_rule t ≡ true → length buffer ≡ 1024 → n ≡ held_in t → length (take n buffer) ≡ n
counted t buffer n r l e = length-take-le n buffer (omega (arith, held_most t r))

pub shared_ref_as_front-store : goal.shared_ref_as_front-store
shared_ref_as_front-store c = rw c.held-held.ensures (held_most c.args.t c.requires.rule)

pub returns-in-Error : goal.returns-in-Error
returns-in-Error c =
    let a = c.args in
    let long : length a.buffer.now ≡ 1024 = search rules in
    let d : List ℕ = held_by a.t a.buffer.now in
    let h = ap (λ (n : ℕ). take n a.buffer.now) c.held-held.ensures in
    let e : data_for d a.payload.now a.j ≡ d = rw c.in-Error.is in
    rw e (
      sym (counted a.t a.buffer.now _ c.requires.rule long c.held-held.ensures) ∙ ap length h,
      c.store.ensures ∙ ap (sets a.joined.now 0) h ∙ stored_first d a.joined.now (omega (arith, ap length e, c.requires.room, c.told-joined)),
    )

pub returns : goal.returns
returns c =
    let a = c.args in
    let long : length a.buffer.now ≡ 1024 = search rules in
    let d : List ℕ = held_by a.t a.buffer.now in
    let b : List ℕ = a.payload.now in
    let h = ap (λ (n : ℕ). take n a.buffer.now) c.held-held.ensures in
    let e = data_accepted d b a.j c.in_default.not-Error in
    let k : c.held-held.result ≡ length d = sym (counted a.t a.buffer.now _ c.requires.rule long c.held-held.ensures) ∙ ap length h in
    rw e (
      ap (λ (i : ℕ). i + length b) k ∙ sym (length-append d b),
      c.store-2.ensures
          ∙ ap (λ (x : List ℕ). sets x c.held-held.result b) (c.store.ensures ∙ ap (sets a.joined.now 0) h)
          ∙ ap (λ (i : ℕ). sets (sets a.joined.now 0 d) i b) k
          ∙ stored_both d b a.joined.now (omega (arith, ap length e, c.requires.room, c.told-joined)),
    )
