-- A stream handed over in pieces, call after call, "however the byte stream was cut": for any state, and whatever a complete packet gives.
use Rattle.std.specs.Prelude.{◌≡◌, ℕ, zero, suc, ◌+◌, ◌≤◌, List, [], ◌∷◌, ◌++◌, length, drop, Option, None, Some}

-- one call: how many bytes of its input it took, what the packet gave that it completed, and the state afterwards
pub record Call (S E : Type 0) : Type 0 where
  pub taken : ℕ
  pub gives : Option E
  pub state : S

-- some calls: what the packets gave, in order, and the state afterwards
pub record Served (S E : Type 0) : Type 0 where
  pub given : List E
  pub state : S

-- a call and those that follow it on what it left of its input; a call that completes no packet has left nothing
abbrev pub and_then : {S E : Type 0} → Option E → S → Served S E → Served S E
and_then None s r = record { given = []; state = s }
and_then (Some e) s r = record { given = e ∷ r.given; state = r.state }

-- at most n calls on one piece
unfoldable pub calls_on : {S E : Type 0} → (S → List ℕ → Call S E) → ℕ → S → List ℕ → Served S E
calls_on call zero s b = record { given = []; state = s }
calls_on call (suc n) s b = and_then (call s b).gives (call s b).state (calls_on call n (call s b).state (drop (call s b).taken b))

-- one piece, call after call until all of it is taken
unfoldable pub served_one : {S E : Type 0} → (S → List ℕ → Call S E) → S → List ℕ → Served S E
served_one call s b = calls_on call (suc (length b)) s b

-- the pieces one after the other
unfoldable pub served : {S E : Type 0} → (S → List ℕ → Call S E) → S → List (List ℕ) → Served S E
served call s [] = record { given = []; state = s }
served call s (b ∷ bs) =
    record {
      given = (served_one call s b).given ++ (served call (served_one call s b).state bs).given;
      state = (served call (served_one call s b).state bs).state;
    }

-- the pieces joined
unfoldable pub joined : List (List ℕ) → List ℕ
joined [] = []
joined (b ∷ bs) = b ++ joined bs

-- Calls that are lent an output, each one of its own.

-- a state, and how many calls there were on it
pub record Counted (S : Type 0) : Type 0 where
  pub calls : ℕ
  pub state : S

abbrev pub counted : {S E : Type 0} → ℕ → Call S E → Call (Counted S) E
counted n t = record { taken = t.taken; gives = t.gives; state = record { calls = n; state = t.state } }

-- the next call: call number i is lent the output `outs i`
abbrev pub lent : {S E : Type 0} → (List ℕ → S → List ℕ → Call S E) → (ℕ → List ℕ) → Counted S → List ℕ → Call (Counted S) E
lent call outs c b = counted (c.calls + 1) (call (outs c.calls) c.state b)

-- a way of sending the bytes b: cut into any pieces, with outputs that are not shorter than the shortest that will do, whatever stands in them
pub record Sending (shortest : ℕ) (b : List ℕ) : Type 0 where
  pub pieces : List (List ℕ)
  pub bytes : joined pieces ≡ b
  pub outs : ℕ → List ℕ
  pub room : (i : ℕ) → shortest ≤ length (outs i)

-- the bytes sent so, by a call that is lent its output first: what the packets gave, in order, and the state afterwards
abbrev pub sent : {S E : Type 0} → (List ℕ → S → List ℕ → Call S E) → S → {shortest : ℕ} {b : List ℕ} → Sending shortest b → Served S E
sent call s w =
    let r = served (lent call w.outs) (record { calls = 0; state = s }) w.pieces in
    record { given = r.given; state = r.state.state }
