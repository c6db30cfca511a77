-- Kinds 3 and 4 by the code's own numbers.
use Prim.Native.Nat.{ℕ, ◌+◌, ◌<◌, ◌≤◌}
use mathlib.Core.Path.{◌≡◌, refl, ap, sym, ◌∙◌}
use mathlib.Core.Bool.{false}
use mathlib.Core.List.{List, [], ◌∷◌}
use native.Mathlib.Omega.{arith}
use lib.Dec.{ltb}
use borrow.Author.Tests.{ne_eqb, lt-ltb, le-ltb}
use lib.ListN.{length, take, drop, length-drop, drop_of_length-le}
use lib.Seq.{take_all}
use Rattle.packet.specs.Number.{value_of}
use Rattle.command.specs.Player.{is_nil}
use Rattle.report.specs.Record.{Out, Bad, Good, ◌>>=◌, ◌>>◌, need, reading}
use Rattle.report.specs.Report.{Trial, Report, read_end}
use Rattle.report.specs.Inner.{RecordIs, named_at, WinnerIs}
use Rattle.report.proofs.record.Laws.{run, stop, pass, fail, size_winner, body_long}

some_left : (b : List ℕ) → 0 < length b → is_nil b ≡ false
some_left [] h = absurd (omega arith)
some_left (x ∷ b) h = refl

module _ (r : List ℕ) (at n best : ℕ) where
  -- what stands after these trials
  abbrev End : List Trial → Out Report
  End ts = read_end n (record { list = ts; at = at; left = drop at r })

  -- a refusal of the reading
  pub end_no : {x p : ℕ} → ((ts : List Trial) → End ts ≡ Bad x p) → (ts : List Trial) → named_at r at n best ts ≡ Bad x p
  unfolding named_at
  end_no h ts = stop (End ts) _ (h ts)

  pub winner_missed : {x p : ℕ} → reading 3 at (drop at r) ≡ Bad x p → (ts : List Trial) → named_at r at n best ts ≡ Bad x p
  unfolding read_end
  winner_missed e = end_no (λ ts. stop (reading 3 at (drop at r)) _ e)

  module _ {two w : ℕ} (f : RecordIs r 3 at two) (winner : w ≡ value_of (take 2 (drop (at + 4) r))) where
    end_words : (ts : List Trial) → End ts
        ≡ (need (ltb w n) 16 at
        >> (reading 4 (at + 6) (drop (at + 6) r)
        >>= λ s. need (is_nil s.left) 20 (at + 10 + length s.body) >> Good (record { trials = ts; winner = w; shipping = s.body; place = at })))
    unfolding read_end ◌>>=◌
    end_words ts =
        let six : at + 4 + 2 ≡ at + 6 = omega arith in
        rw (f.reads, size_winner f, sym winner, six)

    pub end_16 : n ≤ w → (ts : List Trial) → named_at r at n best ts ≡ Bad 16 at
    end_16 h = end_no (λ ts. end_words ts ∙ fail _ 16 at _ (le-ltb w n h))

    module _ (below : w < n) where
      pub shipping_missed : {x p : ℕ} → reading 4 (at + 6) (drop (at + 6) r) ≡ Bad x p → (ts : List Trial) → named_at r at n best ts ≡ Bad x p
      shipping_missed e = end_no (λ ts. end_words ts ∙ pass _ 16 at _ (lt-ltb w n below) (stop (reading 4 (at + 6) (drop (at + 6) r)) _ e))

      module _ {m : ℕ} (g : RecordIs r 4 (at + 6) m) where
        end_four : (ts : List Trial) → End ts
            ≡ (need (is_nil (drop (at + 6 + 4 + m) r)) 20 (at + 6 + 4 + m)
            >> Good (record { trials = ts; winner = w; shipping = take m (drop (at + 6 + 4) r); place = at }))
        end_four ts =
            let ten : at + 10 + m ≡ at + 6 + 4 + m = omega arith in
            end_words ts ∙ pass _ 16 at _ (lt-ltb w n below) (run (reading 4 (at + 6) (drop (at + 6) r)) _ g.reads (rw (body_long g, ten)))

        pub end_20 : at + 6 + 4 + m < length r → (ts : List Trial) → named_at r at n best ts ≡ Bad 20 (at + 6 + 4 + m)
        end_20 h = end_no (λ ts. end_four ts ∙ fail _ 20 _ _ (some_left (drop (at + 6 + 4 + m) r) (omega (arith, length-drop (at + 6 + 4 + m) r))))

        module _ (whole : length r ≤ at + 6 + 4 + m) where
          end_whole : (ts : List Trial) → End ts ≡ Good (record { trials = ts; winner = w; shipping = drop (at + 10) r; place = at })
          end_whole ts =
              let ten : at + 6 + 4 ≡ at + 10 = omega arith in
              end_four ts
              ∙ pass _ 20 _ _ (ap is_nil (drop_of_length-le r {i = at + 6 + 4 + m} whole))
              (rw (ten, take_all m (drop (at + 10) r) (omega (arith, length-drop (at + 10) r))))

          pub end_17 : (w ≡ best → ⊥) → (ts : List Trial) → named_at r at n best ts ≡ Bad 17 at
          unfolding named_at
          end_17 h ts = run (End ts) _ (end_whole ts) (fail _ 17 at _ (ne_eqb w best h))

          pub end_is : w ≡ best → WinnerIs r at n best w
          end_is h = record { reads = end_whole; named = h; within = omega (arith, g.within) }
