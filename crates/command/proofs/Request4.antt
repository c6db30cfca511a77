-- Request 4, proved: the byte that the value check names, what the receive call reports, and where playing offends (proofs/player/Offences).
use Rattle.std.specs.Prelude.{is_none, Option, None, Some}
use Rattle.std.proofs.lemmas.Bool.{cond_both, and_from, or_right}
use Prim.Native.Nat.{ℕ, zero, suc, ◌<◌, ◌≤◌}
use mathlib.Core.Path.{◌≡◌, refl, ap, ap₂, sym, ◌∙◌}
use mathlib.Core.Logic.{◌↔◌, inl, inr}
use mathlib.Core.Bool.{Bool, true, false, cond, not, ◌&&◌, ◌||◌}
use mathlib.Core.List.{List, [], ◌∷◌, ◌++◌, map}
use native.Mathlib.Omega.{arith}
use lib.Dec.{eqb, leb, ltb}
use lib.ListN.{length, take, get_or}
use lib.Seq.{get_or-take, take_at}
use borrow.Author.Tests.{eq-eqb, eqb-true, eqb-false, le-leb, leb-true, not-true}
use Rattle.packet.specs.Calls.{Served}
use Rattle.packet.specs.Writer.{written}
use Rattle.packet.proofs.Cases.{true_and_left, true_and_right, true_or_cases, never}
use Rattle.command.specs.Table.{command_of, layout}
use Rattle.command.specs.Rules.{within, most_patterns, Field, field, fields_of, all_valid, first_wrong, allowed, wrong_byte}
use Rattle.command.specs.Data.{split_all}
use Rattle.command.specs.Faults.{Arrived, arrived, faults, list_if, codes_of}
use Rattle.command.specs.Transfer.{Transfer}
use Rattle.command.specs.Judgement.{judge}
use Rattle.command.specs.Response.{wrong_in, response}
use Rattle.command.specs.Player.{judged}
use Rattle.command.specs.Controller.{state_of, in_rule}
use Rattle.command.specs.Endpoint.{taken_by, arrived_in, judged_in, response_in, After, answered, receive_call}
use Rattle.command.specs.Sending.{Given}
use Rattle.command.specs.Demand1.{joined_data, Draws}
use Rattle.command.specs.Request4.{starts_from, FirstNotAllowed, tied, field_at, Depth, Count, Inversion, Trigger, NamedIn, Draws03, Request4}
use Rattle.command.specs.declared.table.Command.{Command}
use Rattle.command.specs.declared.table.Command.TheVariants.{DisplayMode, TestPattern, LedCurrent, StaticColour, DisplaySetting, VideoInput, VideoMode, PatternSequence, SequenceRun}
use Rattle.command.specs.declared.judgement.Judgement.{Judgement}
use Rattle.command.specs.declared.controller.Controller.{Controller}
use Rattle.command.proofs.table.Laws.{each, known_code, same_known}
use Rattle.command.proofs.rules.Laws.{nothing_wrong}
use Rattle.command.proofs.faults.Laws.{named}
use Rattle.command.proofs.judgement.Laws.{judge_cases}
use Rattle.command.proofs.judgement.Called.{IsError, exactly_called}
use Rattle.command.proofs.endpoint.Laws.{replies_anyhow}
use Rattle.command.proofs.endpoint.Boundary.{wrong_played}
use Rattle.command.proofs.player.Offences.{earliest_named, none_named, stands_there}
use Rattle.command.proofs.Demand1.{error_response, response_error, answers_by, answer_length}

-- The fields of a command.

-- two lists of fields are alike at each place of which P holds
abbrev Alike : (ℕ → Type 0) → List Field → List Field → Type 0
Alike P [] [] = Unit {0}
Alike P [] (g ∷ gs) = ⊥
Alike P (f ∷ fs) [] = ⊥
Alike P (f ∷ fs) (g ∷ gs) = (P 0 → f ≡ g) × Alike (λ i. P (suc i)) fs gs

alike_take : (P : ℕ → Type 0) (k : ℕ) (fs gs : List Field) → Alike P fs gs → ((i : ℕ) → i < k → P i) → take k fs ≡ take k gs
alike_take P zero fs gs a h = refl
alike_take P (suc k) [] [] a h = refl
alike_take P (suc k) [] (g ∷ gs) a h = absurd a
alike_take P (suc k) (f ∷ fs) [] a h = absurd a
alike_take P (suc k) (f ∷ fs) (g ∷ gs) a h =
    ap₂ {C = List Field} (λ x y. x ∷ y) (a.0 (h 0 (omega arith))) (alike_take (λ i. P (suc i)) k fs gs a.1 (λ i l. h (suc i) (omega arith)))

alike_at : (P : ℕ → Type 0) (i : ℕ) (fs gs : List Field) (d : Field) → Alike P fs gs → P i → get_or fs i d ≡ get_or gs i d
alike_at P i [] [] d a h = refl
alike_at P i [] (g ∷ gs) d a h = absurd a
alike_at P i (f ∷ fs) [] d a h = absurd a
alike_at P zero (f ∷ fs) (g ∷ gs) d a h = a.0 h
alike_at P (suc i) (f ∷ fs) (g ∷ gs) d a h = alike_at (λ i. P (suc i)) i fs gs d a.1 h

-- values that have the same there, and where a rule ties the field to the first, the same first
module _ (v w : List ℕ) where
  abbrev Same : Command → ℕ → Type 0
  Same c i = (get_or v i 0 ≡ get_or w i 0) × (tied c i ≡ true → get_or v 0 0 ≡ get_or w 0 0)

  -- each field is judged by these
  alike : (c : Command) → Alike (Same c) (fields_of c v) (fields_of c w)
  alike DisplayMode = (λ h. rw h.0, tt)
  alike TestPattern = (λ h. rw h.0, tt)
  alike LedCurrent = (λ h. rw h.0, (λ h. rw h.0, (λ h. rw h.0, tt)))
  alike StaticColour = (λ _. refl, (λ _. refl, (λ _. refl, (λ h. rw h.0, tt))))
  alike DisplaySetting = (λ h. rw h.0, (λ h. rw h.0, (λ h. rw h.0, tt)))
  alike VideoInput = (λ _. refl, (λ h. rw (h.1 refl, h.0), (λ _. refl, (λ _. refl, (λ _. refl, (λ _. refl, tt))))))
  alike VideoMode = (λ h. rw h.0, (λ h. rw h.0, (λ h. rw h.0, tt)))
  alike PatternSequence = (
    λ h. rw h.0,
    (
      λ h. rw (h.1 refl, h.0),
      (λ h. rw (h.1 refl, h.0), (λ h. rw (h.1 refl, h.0), (λ _. refl, (λ _. refl, (λ _. refl, (λ h. rw h.0, tt)))))),
    ),
  )
  alike SequenceRun = (λ h. rw h.0, tt)

  same_value : (k : ℕ) → take k v ≡ take k w → (i : ℕ) → i < k → get_or v i 0 ≡ get_or w i 0
  same_value k e i h = sym (get_or-take k v i 0 h) ∙ ap (λ (x : List ℕ). get_or x i 0) e ∙ get_or-take k w i 0 h

  alike_first : (c : Command) (k : ℕ) → take k v ≡ take k w → take k (fields_of c v) ≡ take k (fields_of c w)
  alike_first c k e =
      alike_take (Same c) k (fields_of c v) (fields_of c w) (alike c) (λ i h. (same_value k e i h, λ _. same_value k e 0 (omega (arith, h))))

  alike_own : (c : Command) (i : ℕ) → tied c i ≡ false → get_or v i 0 ≡ get_or w i 0 → field_at c v i ≡ field_at c w i
  alike_own c i t e = alike_at (Same c) i (fields_of c v) (fields_of c w) (field 0 true) (alike c) (e, λ h. never (sym t ∙ h))

-- The rules of 04 00 as tests: each is what the request says of its field.

-- a test that says P fails where P does
fails : {P : Type 0} (t : Bool) → (t ≡ true → P) → (P → ⊥) → t ≡ false
fails true f h = absurd (h (f refl))
fails false f h = refl

module _ (a b n : ℕ) where
  inside : (a ≤ n) × (n ≤ b) → within a b n ≡ true
  inside h = and_from _ _ (le-leb a n h.0) (le-leb n b h.1)

  is_inside : within a b n ≡ true → (a ≤ n) × (n ≤ b)
  is_inside h = (leb-true a n (true_and_left _ _ h), leb-true n b (true_and_right (leb a n) _ h))

module _ (depth : ℕ) where
  inversion_right : (n : ℕ) → Inversion depth n → (leb n 2 && (eqb n 0 || eqb depth 1)) ≡ true
  inversion_right n (l, inl z) = and_from _ _ (le-leb n 2 l) (rw z)
  inversion_right n (l, inr o) = and_from _ _ (le-leb n 2 l) (or_right (eqb n 0) _ (eq-eqb depth 1 o))

  is_inversion : (n : ℕ) → (leb n 2 && (eqb n 0 || eqb depth 1)) ≡ true → Inversion depth n
  is_inversion n h = (
    leb-true n 2 (true_and_left _ _ h),
    true_or_cases (eqb n 0) (eqb depth 1) (λ z. inl (eqb-true n 0 z)) (λ o. inr (eqb-true depth 1 o)) (true_and_right (leb n 2) _ h),
  )

  is_trigger : (n : ℕ) → (leb n 6 && (not (eqb n 6) || eqb depth 1)) ≡ true → Trigger depth n
  is_trigger n h = (
    leb-true n 6 (true_and_left _ _ h),
    true_or_cases (not (eqb n 6)) (eqb depth 1) (λ z. inl (eqb-false n 6 (not-true _ z))) (λ o. inr (eqb-true depth 1 o)) (true_and_right (leb n 6) _ h),
  )

  depth_wrong : (others : List ℕ) → (Depth depth → ⊥) → wrong_byte PatternSequence (depth ∷ others) ≡ Some 0
  depth_wrong others h = rw (fails (within 1 8 depth) (is_inside 1 8 depth) h)

  module _ (count : ℕ) (d : Depth depth) where
    count_wrong : (others : List ℕ) → (Count depth count → ⊥) → wrong_byte PatternSequence (depth ∷ count ∷ others) ≡ Some 1
    count_wrong others h = rw (inside 1 8 depth d, fails (within 1 (most_patterns depth) count) (is_inside 1 (most_patterns depth) count) h)

    module _ (inversion : ℕ) (c : Count depth count) where
      inversion_wrong : (others : List ℕ) → (Inversion depth inversion → ⊥) → wrong_byte PatternSequence (depth ∷ count ∷ inversion ∷ others) ≡ Some 2
      inversion_wrong others h =
          rw (inside 1 8 depth d, inside 1 (most_patterns depth) count c, fails (leb inversion 2 && (eqb inversion 0 || eqb depth 1)) (is_inversion inversion) h)

      trigger_wrong : (trigger : ℕ) (others : List ℕ) → Inversion depth inversion → (Trigger depth trigger → ⊥)
          → wrong_byte PatternSequence (depth ∷ count ∷ inversion ∷ trigger ∷ others) ≡ Some 3
      trigger_wrong trigger others i h =
          rw (
            inside 1 8 depth d,
            inside 1 (most_patterns depth) count c,
            inversion_right inversion i,
            fails (leb trigger 6 && (not (eqb trigger 6) || eqb depth 1)) (is_trigger trigger) h,
          )

-- The byte that is named.

names_none : (w : Option ℕ) → (w ≡ None) ↔ (is_none w ≡ true)
names_none (Some n) = (λ e. let z : ◌≡◌ {A = ℕ} 0 1 = cc in absurd (omega arith), λ e. never e)
names_none None = (λ _. refl, λ _. refl)

named_none : (fs : List Field) → (first_wrong fs ≡ None) ↔ (all_valid fs ≡ true)
named_none fs =
    let e = nothing_wrong fs in
    let n = names_none (first_wrong fs) in
    (λ h. sym e ∙ n.0 h, λ h. n.1 (e ∙ h))

first_named : (fs : List Field) (n : ℕ) → first_wrong fs ≡ Some n → FirstNotAllowed fs n
first_named [] n h = let z : ◌≡◌ {A = ℕ} 0 1 = cc in absurd (omega arith)
first_named (f ∷ fs) n h = go f.valid refl h (first_named fs n)
  where
    go : (t : Bool) → f.valid ≡ t → cond t (first_wrong fs) (Some f.byte) ≡ Some n → (first_wrong fs ≡ Some n → FirstNotAllowed fs n)
        → FirstNotAllowed (f ∷ fs) n
    go true t h i =
        let r = i h in
        record {
          before = f ∷ r.before;
          wrong = r.wrong;
          behind = r.behind;
          fields = ap {B = List Field} (λ x. f ∷ x) r.fields;
          passed = rw t r.passed;
          fails = r.fails;
          byte = r.byte;
        }
    go false t h i = record { before = []; wrong = f; behind = fs; fields = refl; passed = refl; fails = t; byte = cc }

wrong_after : (before : List Field) (f : Field) (behind : List Field) → all_valid before ≡ true → f.valid ≡ false
    → first_wrong (before ++ (f ∷ behind)) ≡ Some f.byte
wrong_after [] f behind h e = rw e
wrong_after (g ∷ before) f behind h e = rw (true_and_left g.valid _ h) (wrong_after before f behind (true_and_right g.valid _ h) e)

named_first : (fs : List Field) (n : ℕ) → FirstNotAllowed fs n → first_wrong fs ≡ Some n
named_first fs n r =
    ap (λ (x : List Field). first_wrong x) r.fields
    ∙ wrong_after r.before r.wrong r.behind r.passed r.fails
    ∙ ap Some r.byte

-- What a packet names.

-- the codes of the first group are never 03 alone
first_not_03 : (a b c d : Bool)
    → list_if false 0x01 (list_if a 0x02 (list_if false 0x03 (list_if b 0x04 (list_if false 0x05 (list_if false 0x06 (list_if false 0x07 (list_if false 0x08 (list_if c 0x09 (list_if false 0x0A (list_if d 0x0B [])))))))))) ≡ 0x03 ∷ []
    → ⊥
unfolding list_if
first_not_03 true b c d e = let z : ◌≡◌ {A = ℕ} 2 3 = cc in omega arith
first_not_03 false true c d e = let z : ◌≡◌ {A = ℕ} 4 3 = cc in omega arith
first_not_03 false false true d e = let z : ◌≡◌ {A = ℕ} 9 3 = cc in omega arith
first_not_03 false false false true e = let z : ◌≡◌ {A = ℕ} 11 3 = cc in omega arith
first_not_03 false false false false e = let z : ◌≡◌ {A = ℕ} 0 1 = cc in omega arith

none_some : {P : Type 0} {n : ℕ} → ◌≡◌ {A = Option ℕ} None (Some n) → P
none_some e = let z : ◌≡◌ {A = ℕ} 0 1 = cc in absurd (omega arith)

module _ (mode : ℕ) (t : Transfer) (p : Arrived) where
  abbrev values : Command → List ℕ
  values c = split_all (layout c) (joined_data t p)

  -- a judgement with code 03 alone is that of values that are not allowed
  record Faulty (j : Judgement) : Type 0 where
    command : Command
    names : command_of p.cmd1 p.cmd2 ≡ Some command
    fails : allowed command (values command) ≡ false
    wrong : wrong_in j ≡ wrong_byte command (values command)

  faulty : IsError (judge mode t p) (0x03 ∷ []) → Faulty (judge mode t p)
  unfolding codes_of faults list_if
  faulty =
      judge_cases (λ (j : Judgement). IsError j (0x03 ∷ []) → Faulty j) mode t p
      (λ _ e.
      let k = faults (command_of p.cmd1 p.cmd2) t p in
      absurd (first_not_03 k.command k.memory k.checksum k.continuation e.lists))
      (λ c k _.
      record {
        hold = λ _ e. absurd (omega (arith, e.type));
        read = λ _ _ _ e. absurd (omega (arith, e.type));
        asked = λ _ _ _ e. absurd (other e.lists);
        size = λ _ _ _ e. absurd (other e.lists);
        value = λ _ _ _ a e. record { command = c; names = k; fails = a; wrong = refl };
        blocks = λ _ _ _ _ _ e. absurd (another e.lists);
        write = λ _ _ _ _ e. absurd (omega (arith, e.type));
      })
    where
      other : ◌≡◌ {A = List ℕ} (0x0A ∷ []) (0x03 ∷ []) → ⊥
      other e = let z : ◌≡◌ {A = ℕ} 10 3 = cc in omega arith

      another : ◌≡◌ {A = List ℕ} (0x07 ∷ []) (0x03 ∷ []) → ⊥
      another e = let z : ◌≡◌ {A = ℕ} 7 3 = cc in omega arith

  -- and a judgement that names a byte has that code alone
  naming : (n : ℕ) → wrong_in (judge mode t p) ≡ Some n → IsError (judge mode t p) (0x03 ∷ [])
  unfolding codes_of faults list_if
  naming n =
      judge_cases (λ (j : Judgement). wrong_in j ≡ Some n → IsError j (0x03 ∷ [])) mode t p
      (λ _ e. none_some e)
      (λ c k _.
      record {
        hold = λ _ e. none_some e;
        read = λ _ _ _ e. none_some e;
        asked = λ _ _ _ e. none_some e;
        size = λ _ _ _ e. none_some e;
        value = λ _ _ _ _ _. record { type = refl; lists = refl };
        blocks = λ _ _ _ _ _ e. none_some e;
        write = λ _ _ _ _ e. none_some e;
      })

  named_exactly : (n : ℕ) → (wrong_in (judge mode t p) ≡ Some n) ↔ (Draws mode t p (0x03 ∷ []) × NamedIn t p n)
  named_exactly n = (
    λ h.
        let e = naming n h in
        let f = faulty e in (
          (exactly_called mode t p (0x03 ∷ [])).0 e,
          record { command = f.command; names = known_code p.cmd1 p.cmd2 f.command f.names; first = first_named _ n (sym f.wrong ∙ h) },
        ),
    λ h.
        let f = faulty ((exactly_called mode t p (0x03 ∷ [])).1 h.0) in
        let c : h.1.command ≡ f.command = same_known _ _ (sym (named p.cmd1 p.cmd2 h.1.command h.1.names) ∙ f.names) in
        f.wrong ∙ named_first _ n (rw c at h.1.first),
  )

  owes : Draws mode t p (0x03 ∷ []) → wrong_in (judge mode t p) ≡ None → ⊥
  owes d h =
      let f = faulty ((exactly_called mode t p (0x03 ∷ [])).1 d) in
      never (sym f.fails ∙ (named_none (fields_of f.command _)).0 (sym f.wrong ∙ h))

-- What the receive call reports.

module _ (c : Controller) (input out : List ℕ) where
  abbrev packet : Arrived
  packet = arrived_in (taken_by c input)

  abbrev judgement : Judgement
  judgement = judge c.settings.mode (state_of c).transfer packet

  -- a call that reports a byte answers
  reporting : (n : ℕ) → (receive_call c input out).wrong ≡ Some n → receive_call c input out ≡ answered c (taken_by c input) out
  unfolding receive_call
  reporting n =
      let P : After → Type 0 = λ x. x.wrong ≡ Some n → x ≡ answered c (taken_by c input) out in
      cond_both (ltb (length out) 64) _ _ P (λ _ h. none_some h)
      (λ _. cond_both (in_rule c) _ _ P (λ _. cond_both (taken_by c input).complete _ _ P (λ _ h. refl) (λ _ h. none_some h)) (λ _ h. none_some h))

  drawn : receive_call c input out ≡ answered c (taken_by c input) out → IsError judgement (0x03 ∷ []) → Draws03 c input out
  unfolding response_in judged_in written
  drawn e i =
      record {
        taken = (taken_by c input).taken;
        size = length (response_in c (taken_by c input));
        answer = ap (λ (x : After). x.answer) e;
        packet =
            ap (λ (x : After). take (length (response_in c (taken_by c input))) x.output) e
            ∙ take_at (response_in c (taken_by c input)) _ (length (response_in c (taken_by c input))) refl
            ∙ error_response c.settings packet judgement (0x03 ∷ []) i;
      }

  -- what a call that draws 03 alone has judged
  judged_03 : Draws03 c input out → Draws c.settings.mode (state_of c).transfer packet (0x03 ∷ [])
  unfolding response_in judged_in written
  judged_03 d =
      let e = answers_by c input out d.taken d.size d.answer in
      (exactly_called c.settings.mode (state_of c).transfer packet (0x03 ∷ [])).0
      (response_error c.settings packet judgement (0x03 ∷ [])
      (sym (take_at (response_in c (taken_by c input)) _ d.size (sym (answer_length c input out d.taken d.size d.answer)))
      ∙ ap (λ (x : After). take d.size x.output) (sym e)
      ∙ d.packet))

  wrong_03 : receive_call c input out ≡ answered c (taken_by c input) out → (receive_call c input out).wrong ≡ wrong_in judgement
  unfolding judged_in
  wrong_03 e = ap (λ (x : After). x.wrong) e

  reported : Draws03 c input out → (receive_call c input out).wrong ≡ None → ⊥
  reported d e =
      let w = wrong_03 (answers_by c input out d.taken d.size d.answer) in
      owes c.settings.mode (state_of c).transfer packet (judged_03 d) (sym w ∙ e)

  reported_exactly : (n : ℕ) → ((receive_call c input out).wrong ≡ Some n) ↔ (Draws03 c input out × NamedIn (state_of c).transfer packet n)
  reported_exactly n =
      let x = named_exactly c.settings.mode (state_of c).transfer packet n in (
        λ h.
            let e = reporting n h in
            let j = sym (wrong_03 e) ∙ h in
            (drawn e (naming c.settings.mode (state_of c).transfer packet n j), (x.0 j).1),
        λ h. wrong_03 (answers_by c input out h.0.taken h.0.size h.0.answer) ∙ x.1 (judged_03 h.0, h.1),
      )

pub request_4 : Request4
request_4 =
    record {
      fields = λ c v. each (λ c. map (λ f. f.byte) (fields_of c v) ≡ starts_from 0 (layout c)) (refl, refl, refl, refl, refl, refl, refl, refl, refl) c;
      names = λ c v. named_none (fields_of c v);
      first = λ c v n. (first_named (fields_of c v) n, named_first (fields_of c v) n);
      own = λ c v w i. alike_own v w c i;
      later = λ c v w k. alike_first v w c k;
      pair = λ x y others h. rw h;
      depth = depth_wrong;
      count = λ depth count others d. count_wrong depth count d others;
      inversion = λ depth count inversion others d c. inversion_wrong depth count d inversion c others;
      trigger = λ depth count inversion trigger others d c. trigger_wrong depth count d inversion c trigger others;
      judges = λ a p. unfold judged in named_exactly a.settings.mode a.transfer (arrived p);
      owed = λ a p. unfold judged in owes a.settings.mode a.transfer (arrived p);
      exactly = reported_exactly;
      reports = reported;
      streams = wrong_played;
      cut = λ c b s t k. ap (λ (r : Served Controller Given). map (λ (x : Given). x.wrong) r.given) (replies_anyhow c b s t k);
      beside = λ s p w x. unfold response codes_of in refl;
      offends = λ s b n k. rw k (earliest_named s b n);
      clean = λ s b k. rw k (none_named s b);
      stands = stands_there;
    }
