-- Kind 1 by the code's own numbers.
use Prim.Native.Nat.{ℕ, ◌<◌, ◌≤◌}
use mathlib.Core.Path.{◌≡◌, refl, ap, sym, ◌∙◌}
use mathlib.Core.Bool.{not}
use mathlib.Core.List.{List}
use native.Mathlib.Omega.{arith}
use lib.Dec.{eqb}
use borrow.Author.Tests.{le-leb, lt-leb, eq-eqb, ne_eqb}
use lib.ListN.{length, take, drop}
use Rattle.packet.specs.Number.{value_of}
use Rattle.report.specs.Record.{Bad, Good, ◌>>=◌, ◌>>◌, need, reading}
use Rattle.report.specs.Report.{read_head}
use Rattle.report.specs.Inner.{RecordIs, HeadIs}
use Rattle.report.proofs.record.Laws.{pass, fail, size_head, body_parts}

pub head_long : (r : List ℕ) → 60000 < length r → read_head r ≡ Bad 10 0
unfolding read_head need ◌>>=◌
head_long r h = rw (lt-leb (length r) 60000 h)

module _ (r : List ℕ) (short : length r ≤ 60000) where
  pub head_missed : {n p : ℕ} → reading 1 0 r ≡ Bad n p → read_head r ≡ Bad n p
  unfolding read_head need ◌>>=◌
  head_missed e = rw (le-leb (length r) 60000 short, e)

  module _ {n v m : ℕ} (f : RecordIs r 1 0 n) (version : v ≡ value_of (take 2 (drop 4 r))) (count : m ≡ value_of (take 2 (drop 6 r))) where
    head_words : read_head r ≡ (need (eqb v 1) 14 0 >> (need (not (eqb m 0)) 15 0 >> Good m))
    unfolding read_head need ◌>>=◌
    head_words =
        let p = body_parts f 2 2 (size_head f) in
        rw (le-leb (length r) 60000 short, f.reads, p.0, p.1, sym version, sym count)

    pub head_14 : (v ≡ 1 → ⊥) → read_head r ≡ Bad 14 0
    head_14 h = head_words ∙ fail _ 14 0 _ (ne_eqb v 1 h)

    pub head_15 : v ≡ 1 → m ≡ 0 → read_head r ≡ Bad 15 0
    head_15 h z = head_words ∙ pass _ 14 0 _ (eq-eqb v 1 h) (fail _ 15 0 _ (ap not (eq-eqb m 0 z)))

    pub head_is : v ≡ 1 → (m ≡ 0 → ⊥) → HeadIs r m
    head_is h z =
        record {
          reads = head_words ∙ pass _ 14 0 _ (eq-eqb v 1 h) (pass _ 15 0 _ (ap not (ne_eqb m 0 z)) refl);
          some = omega (arith, z);
          within = omega (arith, f.within, size_head f);
          short = short;
        }
