-- The faults of a packet: the tests are the words of ticket 1.
use Rattle.std.proofs.Common.{◌≡◌, ℕ, ◌+◌, ◌<◌, Bool, false, not, ◌&&◌, ◌||◌, eqb, ltb, ◌↔◌, ◌⊎◌, List, [], ◌∷◌, get_or, take, sym, refl, ap, ◌∙◌, subst, inl, inr, ltb-false, le-ltb, eqb-true}
use Rattle.std.specs.Prelude.{Option, None, Some, Result, Ok, Err, Decides}
use Rattle.std.proofs.lemmas.Bool.Decides.{same_from_decides, Decides-at, Decides-like, Decides-not, Decides-and, Decides-or, Decides-ltb, Decides-eqb}
use Rattle.std.proofs.lemmas.Bool.{cond_both}
use Rattle.packet.specs.Packet.{payload_length, payload}
use Rattle.packet.proofs.Cases.{bool_cases}
use Rattle.dlpc200.specs.Packet.{cmd1_of, cmd2_of, cmd4_of, id_of, write, read, extended, only, checksum, right_sum}
use Rattle.dlpc200.specs.Table.{table, id_for, cmd1_for, size_for, find, command_of}
use Rattle.dlpc200.specs.Status.{any_fault, no_faults}
use Rattle.dlpc200.specs.Judgement.{command_in, arrived, wrong_cmd1, wrong_size, faults_of, judge_command, judge}
use Rattle.dlpc200.specs.Playing.{judged}
use Rattle.dlpc200.specs.Request1.{Names, WrongCmd1, NeitherCmd1, OtherCmd1, WrongSize, UnderTwo, Over504, OtherSize, FaultsHold, Fails, HasFault, UnknownCommand}
use Rattle.dlpc200.specs.declared.table.Command.{Command}
use Rattle.dlpc200.specs.declared.status.Faults.{Faults}
use Rattle.dlpc200.proofs.judgement.Laws.{each, same_faults, none_hold, done_faultless, fails, unknown_alone}

-- The command that a packet names.

known_id : (id : ℕ) (cs : List Command) (c : Command) → find id cs ≡ Some c → id ≡ id_for c
unfolding find
known_id id [] c h = cc
known_id id (x ∷ cs) c h =
    cond_both (eqb id (id_for x)) _ _ (λ (f : Option Command). f ≡ Some c → id ≡ id_for c)
    (λ e h. let k : x ≡ c = cc in eqb-true id (id_for x) e ∙ ap id_for k)
    (λ e h. known_id id cs c h)
    h

id_known : (c : Command) → command_of (id_for c) ≡ Some c
unfolding command_of find
id_known = each (λ c. command_of (id_for c) ≡ Some c) (refl, refl, refl, refl, refl, refl, refl)

pub names_known : (p : List ℕ) (c : Command) → ((arrived p).command ≡ Some c) ↔ Names p c
unfolding command_in command_of
names_known p c = (forth, back)
  where
    forth : (arrived p).command ≡ Some c → Names p c
    forth =
        cond_both (ltb (payload_length p) 2) _ _ (λ (f : Option Command). f ≡ Some c → Names p c)
        (λ e h. cc)
        (λ e h. (ltb-false (payload_length p) 2 e, known_id (id_of (payload p)) table c h))

    back : Names p c → (arrived p).command ≡ Some c
    back n = rw (le-ltb (payload_length p) 2 n.0) (ap command_of n.1 ∙ id_known c)

unnamed : (p : List ℕ) → (arrived p).command ≡ None → (c : Command) → Names p c → ⊥
unnamed p e c n = let k = sym e ∙ (names_known p c).1 n in cc

unknown : (p : List ℕ) (f : Option Command) → (arrived p).command ≡ f → ((c : Command) → Names p c → ⊥) → (arrived p).command ≡ None
unknown p None e u = e
unknown p (Some c) e u = absurd (u c ((names_known p c).0 e))

-- A fault of a number m that a packet tells, where a test says so that no command has a part in, or m is not what the table has for the command that it names.
module _ (p : List ℕ) {Any Wrong : Type 0} (any : Bool) (holds : Decides any Any) (m : ℕ) (column : Command → ℕ)
    (first : Any → Wrong) (other : (c : Command) → Names p c → (m ≡ column c → ⊥) → Wrong)
    (parts : Wrong → Any ⊎ ((c : Command) × Names p c × (m ≡ column c → ⊥))) where
  by_command : (test : Option Command → Bool) → test None ≡ any → ((c : Command) → test (Some c) ≡ (any || not (eqb m (column c))))
      → Decides (test (arrived p).command) Wrong
  by_command test none some = go (arrived p).command refl
    where
      go : (f : Option Command) → (arrived p).command ≡ f → Decides (test f) Wrong
      go None e =
          Decides-at (test None) any none
          (Decides-like any first (λ w. elim (parts w) [ inl h ↦ h | inr h ↦ absurd (unnamed p e h.0 h.1) ]) holds)
      go (Some c) e =
          Decides-at (test (Some c)) (any || not (eqb m (column c))) (some c)
          (Decides-like (any || not (eqb m (column c)))
          (λ u. elim u [ inl h ↦ first h | inr h ↦ other c ((names_known p c).0 e) h ])
          (λ w. elim (parts w) [ inl h ↦ inl h | inr h ↦ inr (λ k. h.2 (k ∙ ap column (same h.0 (sym e ∙ (names_known p h.0).1 h.1)))) ])
          (Decides-or any (not (eqb m (column c))) holds (Decides-not (eqb m (column c)) (Decides-eqb m (column c)))))
        where
          same : (x : Command) → Some c ≡ Some x → c ≡ x
          same x k = cc

not_equal : (n m : ℕ) → Decides (not (eqb n m)) (n ≡ m → ⊥)
not_equal n m = Decides-not (eqb n m) (Decides-eqb n m)

cmd1_wrong : (p : List ℕ) → Decides (wrong_cmd1 (arrived p).command (cmd1_of p)) (WrongCmd1 p)
unfolding wrong_cmd1
cmd1_wrong p =
    let n = cmd1_of p in
    by_command p (not (eqb n write) && not (eqb n read)) (Decides-and (not (eqb n write)) (not (eqb n read)) (not_equal n write) (not_equal n read)) n cmd1_for
    (λ h. NeitherCmd1 h.0 h.1) OtherCmd1 parts (λ f. wrong_cmd1 f n) refl (λ c. refl)
  where
    parts : WrongCmd1 p → ((cmd1_of p ≡ write → ⊥) × (cmd1_of p ≡ read → ⊥)) ⊎ ((c : Command) × Names p c × (cmd1_of p ≡ cmd1_for c → ⊥))
    parts (NeitherCmd1 h k) = inl (h, k)
    parts (OtherCmd1 c n h) = inr (c, n, h)

size_wrong : (p : List ℕ) → Decides (wrong_size (arrived p).command (payload_length p)) (WrongSize p)
unfolding wrong_size
size_wrong p =
    let n = payload_length p in
    by_command p (ltb n 2 || ltb 504 n) (Decides-or (ltb n 2) (ltb 504 n) (Decides-ltb n 2) (Decides-ltb 504 n)) n size_for
    (λ h. elim h [ inl k ↦ UnderTwo k | inr k ↦ Over504 k ]) OtherSize parts (λ f. wrong_size f n) refl (λ c. refl)
  where
    parts : WrongSize p → ((payload_length p < 2) ⊎ (504 < payload_length p)) ⊎ ((c : Command) × Names p c × (payload_length p ≡ size_for c → ⊥))
    parts (UnderTwo h) = inl (inl h)
    parts (Over504 h) = inl (inr h)
    parts (OtherSize c n h) = inr (c, n, h)

-- The faults that the rules find are those that hold, and no others do.

pub faults_hold : (p : List ℕ) → FaultsHold p (faults_of (arrived p))
unfolding faults_of right_sum
faults_hold p =
    record {
      checksum = not_equal (get_or p (6 + payload_length p) 0) (checksum (take (6 + payload_length p) p));
      cmd1 = cmd1_wrong p;
      cmd2 = not_equal (cmd2_of p) extended;
      cmd4 = not_equal (cmd4_of p) only;
      size = size_wrong p;
    }

pub hold_same : (p : List ℕ) (f : Faults) → FaultsHold p f → f ≡ faults_of (arrived p)
hold_same p f h = all (faults_of (arrived p)) (faults_hold p)
  where
    all : (g : Faults) → FaultsHold p g → f ≡ g
    all g k =
        same_faults f g (same_from_decides f.checksum g.checksum h.checksum k.checksum) (same_from_decides f.cmd1 g.cmd1 h.cmd1 k.cmd1)
        (same_from_decides f.cmd2 g.cmd2 h.cmd2 k.cmd2) (same_from_decides f.cmd4 g.cmd4 h.cmd4 k.cmd4) (same_from_decides f.size g.size h.size k.size)

-- How a packet is judged, by them.

module _ (p : List ℕ) where
  abbrev found : Faults
  found = faults_of (arrived p)

  failed_unknown : (f : Faults) (k : Option Command) → (arrived p).command ≡ k → any_fault found ≡ false → judge_command k ≡ Err f → FaultsHold p f × Fails p f
  failed_unknown f None e n h =
      let k : no_faults ≡ f = cc in (subst (FaultsHold p) (none_hold found n ∙ k) (faults_hold p), UnknownCommand (unnamed p e))
  failed_unknown f (Some c) e n h = cc

  fails_with : (f : Faults) → f ≡ found → Fails p f → judge (arrived p) ≡ Err f
  fails_with f e (HasFault h) = fails (arrived p) (sym (ap any_fault e) ∙ h) ∙ ap Err (sym e)
  fails_with f e (UnknownCommand u) =
      bool_cases (any_fault found)
      (λ h. fails (arrived p) h ∙ ap Err (sym e))
      (λ h. unknown_alone (arrived p) h (unknown p (arrived p).command refl u) ∙ ap Err (sym (e ∙ none_hold found h)))

  pub failed_exactly : (f : Faults) → (judged p ≡ Err f) ↔ (FaultsHold p f × Fails p f)
  unfolding judged
  failed_exactly f = (forth, λ h. fails_with f (hold_same p f h.0) h.1)
    where
      forth : judge (arrived p) ≡ Err f → FaultsHold p f × Fails p f
      forth =
          unfold judge in
          cond_both (any_fault found) _ _ (λ (j : Result Command Faults). j ≡ Err f → FaultsHold p f × Fails p f)
          (λ n h. let k : found ≡ f = cc in (subst (FaultsHold p) k (faults_hold p), HasFault (sym (ap any_fault k) ∙ n)))
          (λ n h. failed_unknown f (arrived p).command refl n h)

  done_with : (c : Command) → Names p c → FaultsHold p no_faults → judge (arrived p) ≡ Ok c
  unfolding judge
  done_with c n h =
      let e : any_fault found ≡ false = sym (ap any_fault (hold_same p no_faults h)) in
      rw e (ap judge_command ((names_known p c).1 n))

  pub done_exactly : (c : Command) → (judged p ≡ Ok c) ↔ (Names p c × FaultsHold p no_faults)
  unfolding judged
  done_exactly c = (forth, λ h. done_with c h.0 h.1)
    where
      forth : judge (arrived p) ≡ Ok c → Names p c × FaultsHold p no_faults
      forth h =
          let d = done_faultless (arrived p) c h in
          ((names_known p c).0 d.1, subst (FaultsHold p) (none_hold found d.0) (faults_hold p))
