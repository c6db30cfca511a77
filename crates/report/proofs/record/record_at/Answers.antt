-- `record_at` meets its contract.
use Rattle.std.proofs.Common.{◌≡◌, ℕ, ◌+◌, ◌-◌, List, take, drop, sym, ap, ◌∙◌, arith, drop-drop}
use Rattle.std.specs.List.{slice_range}
use Rattle.std.proofs.lemmas.List.{take-take, drop-take}
use Rattle.packet.specs.Number.{value_of}
use Rattle.report.specs.Inner.{kind_number}
use Rattle.report.proofs.record.Laws.{no_header, no_body, not_due, not_sized, record_is}
use Rattle.report.proofs.record.record_at.Goals as goal

-- the two numbers of a header that was cut off at a place stand there
body_length : (r : List ℕ) (at : ℕ) {header : List ℕ} {n : ℕ} → header ≡ slice_range r at (at + 4) → n ≡ value_of (take 2 (drop 0 header)) → n ≡ value_of (take 2 (drop at r))
body_length r at e f =
    let four : at + 4 - at ≡ 4 = omega arith in
    f ∙ rw (e, four) (ap value_of (take-take 2 4 (drop at r) (omega arith)))

kind_bytes : (r : List ℕ) (at : ℕ) → take 2 (drop 2 (take 4 (drop at r))) ≡ take 2 (drop (at + 2) r)
kind_bytes r at =
    ap (take 2) (drop-take 2 2 (drop at r)) ∙ take-take 2 2 (drop 2 (drop at r)) (omega arith) ∙ ap (take 2) (drop-drop 2 at r)

its_kind : (r : List ℕ) (at : ℕ) {header : List ℕ} {k : ℕ} → header ≡ slice_range r at (at + 4) → k ≡ value_of (take 2 (drop 2 header)) → k ≡ value_of (take 2 (drop (at + 2) r))
its_kind r at e f =
    let four : at + 4 - at ≡ 4 = omega arith in
    f ∙ rw (e, four) (ap value_of (kind_bytes r at))

pub returns-in_default : goal.returns-in_default
returns-in_default c =
    let a = c.args in rw c.at.ensures (no_header a.r.now (kind_number a.kind) a.at c.requires (omega (arith, c.in_default.ensures.lookup.0)))

pub returns-in_default-get : goal.returns-in_default-get
returns-in_default-get c =
    let a = c.args in
    let h = c.in-Some.ensures.lookup.0 in
    rw c.at-in_default-get.ensures
    (no_body a.r.now (kind_number a.kind) a.at c.requires (body_length a.r.now a.at h.2 c.word_at-n.ensures.0) (its_kind a.r.now a.at h.2 c.word_at-k.ensures.0)
    (omega (arith, c.in_default-get.ensures.lookup.0)))

pub returns-then-k-number : goal.returns-then-k-number
returns-then-k-number c =
    let a = c.args in
    let h = c.in-Some.ensures.lookup.0 in
    rw c.at-then-k-number.ensures
    (not_due a.r.now (kind_number a.kind) a.at c.requires (body_length a.r.now a.at h.2 c.word_at-n.ensures.0) (its_kind a.r.now a.at h.2 c.word_at-k.ensures.0)
    (omega (arith, c.in-Some-get.ensures.lookup.0)) (rw c.number.ensures at c.if-k-number.true))

pub returns-then-not-has_size : goal.returns-then-not-has_size
returns-then-not-has_size c =
    let a = c.args in
    let h = c.in-Some.ensures.lookup.0 in
    rw c.at-then-not-has_size.ensures
    (not_sized a.r.now (kind_number a.kind) a.at c.requires (body_length a.r.now a.at h.2 c.word_at-n.ensures.0) (its_kind a.r.now a.at h.2 c.word_at-k.ensures.0)
    (omega (arith, c.in-Some-get.ensures.lookup.0)) (c.if-k-number.false ∙ c.number.ensures) (sym c.has_size.ensures ∙ c.if-not-has_size.true))

pub returns : goal.returns
returns c =
    let a = c.args in
    let h = c.in-Some.ensures.lookup.0 in
    record_is a.r.now (kind_number a.kind) a.at c.requires (body_length a.r.now a.at h.2 c.word_at-n.ensures.0) (its_kind a.r.now a.at h.2 c.word_at-k.ensures.0)
    (omega (arith, c.in-Some-get.ensures.lookup.0)) (c.if-k-number.false ∙ c.number.ensures) (sym c.has_size.ensures ∙ c.if-not-has_size.false)
