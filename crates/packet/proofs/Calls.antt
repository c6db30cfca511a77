-- Cutting a stream anywhere, into any number of calls, changes nothing: for every call that keeps the laws of `Streaming`, and with an output of its own for each
-- call, where what a call shows does not depend on the output lent.
use Rattle.std.proofs.Common.{◌≡◌, ℕ, zero, suc, ◌+◌, ◌<◌, ◌≤◌, List, [], ◌∷◌, ◌++◌, length, drop, sym, refl, ap, ◌∙◌, subst, arith, length-append, length-drop}
use Rattle.std.specs.Prelude.{Option, None, Some}
use lib.Seq.{drop-append-add, drop-append-le}
use Rattle.packet.specs.Calls.{Call, Served, and_then, calls_on, served_one, served, joined, Counted, lent, Sending, sent}

pub option_cases : {E P : Type 0} (o : Option E) → (o ≡ None → P) → ((e : E) → o ≡ Some e → P) → P
option_cases None f g = f refl
option_cases (Some e) f g = g e refl

-- the call with n bytes taken before
abbrev pub shifted : {S E : Type 0} → ℕ → Call S E → Call S E
shifted n t = record { taken = n + t.taken; gives = t.gives; state = t.state }

-- what is asked of a call, on states of which I holds
pub record Streaming {S E : Type 0} (call : S → List ℕ → Call S E) (I : S → Type 0) : Type 0 where
  pub keeps : (s : S) (b : List ℕ) → I s → I (call s b).state
  pub empty : (s : S) → I s → call s [] ≡ record { taken = 0; gives = None; state = s }
  pub cut : (s : S) (a b : List ℕ) → I s → (call s a).gives ≡ None → call s (a ++ b) ≡ shifted (length a) (call (call s a).state b)
  pub behind : (s : S) (a b : List ℕ) (e : E) → I s → (call s a).gives ≡ Some e → call s (a ++ b) ≡ call s a
  pub least : (s : S) (a : List ℕ) (e : E) → I s → (call s a).gives ≡ Some e → 1 ≤ (call s a).taken
  pub most : (s : S) (a : List ℕ) (e : E) → I s → (call s a).gives ≡ Some e → (call s a).taken ≤ length a

module _ {S E : Type 0} (call : S → List ℕ → Call S E) (I : S → Type 0) (laws : Streaming call I) where
  -- what one call makes of what follows it
  abbrev first : Call S E → Served S E → Served S E
  first t r = and_then t.gives t.state r

  shorter : (s : S) (b : List ℕ) (e : E) (n : ℕ) → I s → (call s b).gives ≡ Some e → length b ≤ suc n → length (drop (call s b).taken b) ≤ n
  shorter s b e n i g l = simp length-drop (omega (arith, laws.least s b e i g))

  -- what follows a call that completes no packet does not matter
  ends : (t : Call S E) (r q : Served S E) → t.gives ≡ None → first t r ≡ first t q
  ends t r q g = ap (λ o. and_then o t.state r) g ∙ sym (ap (λ o. and_then o t.state q) g)

  no_bytes : (n : ℕ) (s : S) → I s → calls_on call n s [] ≡ record { given = []; state = s }
  unfolding calls_on
  no_bytes zero s i = refl
  no_bytes (suc n) s i = ap (λ (t : Call S E). first t (calls_on call n (call s []).state (drop (call s []).taken []))) (laws.empty s i)

  -- more calls than bytes change nothing
  pub same_calls : (m n : ℕ) (s : S) (b : List ℕ) → I s → length b ≤ m → length b ≤ n → calls_on call m s b ≡ calls_on call n s b
  unfolding calls_on
  same_calls zero n s [] i hm hn = sym (no_bytes n s i)
  same_calls zero n s (x ∷ b) i hm hn = absurd (omega arith)
  same_calls (suc m) zero s [] i hm hn = no_bytes (suc m) s i
  same_calls (suc m) zero s (x ∷ b) i hm hn = absurd (omega arith)
  same_calls (suc m) (suc n) s b i hm hn =
      option_cases (call s b).gives
      (λ g. ends (call s b) (calls_on call m (call s b).state (drop (call s b).taken b)) (calls_on call n (call s b).state (drop (call s b).taken b)) g)
      (λ e g.
      ap (first (call s b))
      (same_calls m n (call s b).state (drop (call s b).taken b) (laws.keeps s b i) (shorter s b e m i g hm) (shorter s b e n i g hn)))

  -- two runs of calls, one after the other
  abbrev followed : Served S E → Served S E → Served S E
  followed r q = record { given = r.given ++ q.given; state = q.state }

  joins : ℕ → S → List ℕ → List ℕ → Type 0
  joins n s a b =
      calls_on call (suc (length (a ++ b))) s (a ++ b)
      ≡ followed (calls_on call n s a) (calls_on call (suc (length b)) (calls_on call n s a).state b)

  -- a first call that completes no packet: what comes behind goes on where it stopped
  pub goes_on : (s : S) (a b : List ℕ) → I s → (call s a).gives ≡ None → served_one call s (a ++ b) ≡ served_one call (call s a).state b
  unfolding served_one calls_on
  goes_on s a b i g =
      let s' : S = (call s a).state in
      let t : Call S E = call s' b in
      let i' : I (call s a).state = laws.keeps s a i in
      let more : calls_on call (length (a ++ b)) t.state (drop (length a + t.taken) (a ++ b)) ≡ calls_on call (length (a ++ b)) t.state (drop t.taken b) =
      ap (calls_on call (length (a ++ b)) t.state) (drop-append-add a b t.taken) in
      ap (λ (c : Call S E). first c (calls_on call (length (a ++ b)) c.state (drop c.taken (a ++ b)))) (laws.cut s a b i g)
      ∙ ap (first t) more
      ∙ same_calls (suc (length (a ++ b))) (suc (length b)) s' b i' (omega (arith, length-append a b)) (omega arith)

  join_none : (n : ℕ) (s : S) (a b : List ℕ) → I s → (call s a).gives ≡ None → joins (suc n) s a b
  unfolding served_one calls_on joins
  join_none n s a b i g =
      let one : calls_on call (suc n) s a ≡ record { given = []; state = (call s a).state } =
      ap (λ o. and_then o (call s a).state (calls_on call n (call s a).state (drop (call s a).taken a))) g in
      goes_on s a b i g ∙ sym (ap (λ (r : Served S E). followed r (calls_on call (suc (length b)) r.state b)) one)

  join_calls : (n : ℕ) (s : S) (a b : List ℕ) → I s → length a < n → joins n s a b
  unfolding calls_on joins
  join_calls zero s a b i l = absurd (omega arith)
  join_calls (suc n) s a b i l =
      option_cases (call s a).gives
      (λ g. join_none n s a b i g)
      (λ e g.
      let s' : S = (call s a).state in
      let k : ℕ = (call s a).taken in
      let i' : I (call s a).state = laws.keeps s a i in
      let lk = laws.least s a e i g in
      let mk = laws.most s a e i g in
      let ld : length (drop k a) + k ≡ length a = simp length-drop (omega arith) in
      let rest : calls_on call (length (a ++ b)) s' (drop k (a ++ b)) ≡ calls_on call (suc (length (drop k a ++ b))) s' (drop k a ++ b) =
      ap (calls_on call (length (a ++ b)) s') (drop-append-le k a b mk)
      ∙ same_calls (length (a ++ b)) (suc (length (drop k a ++ b))) s' (drop k a ++ b) i'
      (omega (arith, length-append a b, length-append (drop k a) b)) (omega arith) in
      let one : calls_on call (suc n) s a ≡ record { given = e ∷ (calls_on call n s' (drop k a)).given; state = (calls_on call n s' (drop k a)).state } =
      ap (λ o. and_then o s' (calls_on call n s' (drop k a))) g in
      ap (λ (c : Call S E). first c (calls_on call (length (a ++ b)) c.state (drop c.taken (a ++ b)))) (laws.behind s a b e i g)
      ∙ ap (λ o. and_then o s' (calls_on call (length (a ++ b)) s' (drop k (a ++ b)))) g
      ∙ ap (λ (r : Served S E). and_then (Some e) s' r) (rest ∙ join_calls n s' (drop k a) b i' (omega arith))
      ∙ sym (ap (λ (r : Served S E). followed r (calls_on call (suc (length b)) r.state b)) one))

  -- what each call keeps, some calls keep
  pub keeps_calls : (n : ℕ) (s : S) (b : List ℕ) → I s → I (calls_on call n s b).state
  unfolding calls_on
  keeps_calls zero s b i = i
  keeps_calls (suc n) s b i =
      go (call s b).gives (call s b).state (calls_on call n (call s b).state (drop (call s b).taken b)) (laws.keeps s b i)
      (keeps_calls n (call s b).state (drop (call s b).taken b) (laws.keeps s b i))
    where
      go : (o : Option E) (s : S) (r : Served S E) → I s → I r.state → I (and_then o s r).state
      go None s r i j = i
      go (Some e) s r i j = j

  -- the pieces one after the other are the joined bytes at once
  pub in_pieces : (s : S) (bs : List (List ℕ)) → I s → served call s bs ≡ served_one call s (joined bs)
  unfolding served served_one joined joins
  in_pieces s [] i = sym (no_bytes 1 s i)
  in_pieces s (b ∷ bs) i =
      ap (followed (calls_on call (suc (length b)) s b)) (in_pieces (calls_on call (suc (length b)) s b).state bs (keeps_calls (suc (length b)) s b i))
      ∙ sym (join_calls (suc (length b)) s b (joined bs) i (omega arith))

-- Calls with an output each are as good as calls with one, where a call shows the same with every output that is long enough.
pub record AnyOutput {S E : Type 0} (call : List ℕ → S → List ℕ → Call S E) (I : S → Type 0) (shortest : ℕ) : Type 0 where
  pub streams : (out : List ℕ) → shortest ≤ length out → Streaming (call out) I
  pub same : (out other : List ℕ) (s : S) (b : List ℕ) → shortest ≤ length out → shortest ≤ length other → I s → call out s b ≡ call other s b

module _ {S E : Type 0} (call : List ℕ → S → List ℕ → Call S E) (I : S → Type 0) (shortest : ℕ) (laws : AnyOutput call I shortest) where
  -- the calls without their count
  abbrev uncounted : Served (Counted S) E → Served S E
  uncounted r = record { given = r.given; state = r.state.state }

  uncounted_then : (o : Option E) (c : Counted S) (r : Served (Counted S) E) → uncounted (and_then o c r) ≡ and_then o c.state (uncounted r)
  uncounted_then None c r = refl
  uncounted_then (Some e) c r = refl

  module _ (outs : ℕ → List ℕ) (room : (i : ℕ) → shortest ≤ length (outs i)) (out : List ℕ) (l : shortest ≤ length out) where
    lent_keeps : (c : Counted S) (b : List ℕ) → I c.state → I (lent call outs c b).state.state
    lent_keeps c b i = (laws.streams (outs c.calls) (room c.calls)).keeps c.state b i

    same_on : (n : ℕ) (c : Counted S) (b : List ℕ) → I c.state → uncounted (calls_on (lent call outs) n c b) ≡ calls_on (call out) n c.state b
    unfolding calls_on
    same_on zero c b i = refl
    same_on (suc n) c b i =
        let t = lent call outs c b in
        uncounted_then t.gives t.state (calls_on (lent call outs) n t.state (drop t.taken b))
        ∙ ap (and_then t.gives t.state.state) (same_on n t.state (drop t.taken b) (lent_keeps c b i))
        ∙ ap (λ (x : Call S E). and_then x.gives x.state (calls_on (call out) n x.state (drop x.taken b)))
        (laws.same (outs c.calls) out c.state b (room c.calls) l i)

    kept_on : (n : ℕ) (c : Counted S) (b : List ℕ) → I c.state → I (calls_on (lent call outs) n c b).state.state
    kept_on n c b i =
        subst I (sym (ap (λ (r : Served S E). r.state) (same_on n c b i))) (keeps_calls (call out) I (laws.streams out l) n c.state b i)

    same_served : (c : Counted S) (bs : List (List ℕ)) → I c.state → uncounted (served (lent call outs) c bs) ≡ served (call out) c.state bs
    unfolding served served_one
    same_served c [] i = refl
    same_served c (b ∷ bs) i =
        let n = suc (length b) in
        let x = calls_on (lent call outs) n c b in
        ap (λ (y : Served S E). record { given = x.given ++ y.given; state = y.state }) (same_served x.state bs (kept_on n c b i))
        ∙ ap (λ (y : Served S E). record { given = y.given ++ (served (call out) y.state bs).given; state = (served (call out) y.state bs).state })
        (same_on n c b i)

  -- However the byte stream was cut, and whatever outputs were lent, it is as if it came at once.
  pub at_once : (out : List ℕ) → shortest ≤ length out → (s : S) (b : List ℕ) (w : Sending shortest b) → I s → sent call s w ≡ served_one (call out) s b
  at_once out l s b w i =
      same_served w.outs w.room out l (record { calls = 0; state = s }) w.pieces i
      ∙ in_pieces (call out) I (laws.streams out l) s w.pieces i
      ∙ ap (served_one (call out) s) w.bytes

  -- so that every way of sending the same bytes gives the same
  pub sent_same : (s : S) (b : List ℕ) (v w : Sending shortest b) → I s → sent call s v ≡ sent call s w
  sent_same s b v w i = at_once (v.outs 0) (v.room 0) s b v i ∙ sym (at_once (v.outs 0) (v.room 0) s b w i)
