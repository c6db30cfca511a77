-- The codes that are listed, and the tests of the first group as document 01's lines.
use Rattle.std.specs.Prelude.{Option, None, Some}
use Rattle.std.proofs.lemmas.Bool.{and_from, or_right}
use Prim.Native.Nat.{ℕ, ◌+◌, ◌<◌, ◌≤◌}
use mathlib.Core.Path.{◌≡◌, refl, ap, sym, subst, ◌∙◌}
use mathlib.Core.Logic.{◌↔◌, ◌⊎◌, inl, inr, ⊎_elim}
use mathlib.Core.Bool.{Bool, true, false, not, ◌&&◌, ◌||◌, or-true, and-true, and_assoc}
use mathlib.Core.List.Memᴰ
use mathlib.Core.List.{List, [], ◌∷◌, Memᴰ}
use native.Mathlib.Omega.{arith}
use lib.Dec.{eqb, ltb}
use lib.ListN.{length}
use borrow.Author.Tests.{lt-ltb, ltb-true, eq-eqb, ne_eqb, eqb-true, eqb-false, not-true, not-false}
use Rattle.packet.specs.Packet.{host_write, host_read, whole, beginning, intermediate, last}
use Rattle.packet.proofs.Cases.{bool_cases, true_and_left, true_and_right, false_or_left, false_or_right, true_or_cases, never}
use Rattle.command.specs.Table.{cmd1_for, cmd2_for, command_of, same, readable}
use Rattle.command.specs.Transfer.{Transfer, Closed, Opened, is_open, held, open_for}
use Rattle.command.specs.Inner.{faults_of, any_code}
use Rattle.command.specs.Player.{is_nil}
use Rattle.command.specs.Faults.{Arrived, continues, wrong_command, too_long, wrong_order, faults, any_fault, list_if, codes_of}
use Rattle.command.specs.Demand1.{Names, Continues, Starts, FirstFault, WrongChecksum, UnknownType, UnknownCommand, ColourRead, LongPayload, LongTransfer, UnknownFlags, NoWriteInParts, NoneOpen, OpenForAnother, StillOpen, Ascending}
use Rattle.command.specs.declared.table.Command.{Command}
use Rattle.command.specs.declared.table.Command.TheVariants.{StaticColour}
use Rattle.command.specs.declared.faults.Codes.{Codes}
use Rattle.command.proofs.table.Laws.{found, known_code, same_eq}

-- Codes go out ascending, none twice.

ascending_from : (l : List ℕ) (m n : ℕ) → m ≤ n → Ascending n l → Ascending m l
ascending_from [] m n h a = tt
ascending_from (x ∷ l) m n h a = (omega (arith, a.0), a.1)

ascending_if : (b : Bool) (m n : ℕ) (l : List ℕ) → m < n → Ascending n l → Ascending m (list_if b n l)
unfolding list_if
ascending_if true m n l h a = (h, a)
ascending_if false m n l h a = ascending_from l m n (omega arith) a

pub codes_ascending : (k : Codes) → Ascending 0 (codes_of k)
unfolding codes_of
codes_ascending k =
    ascending_if k.failure 0 1 _ (omega arith)
    (ascending_if k.command 1 2 _ (omega arith)
    (ascending_if k.parameter 2 3 _ (omega arith)
    (ascending_if k.memory 3 4 _ (omega arith)
    (ascending_if k.device 4 5 _ (omega arith)
    (ascending_if k.busy 5 6 _ (omega arith)
    (ascending_if k.precondition 6 7 _ (omega arith)
    (ascending_if k.object 7 8 _ (omega arith)
    (ascending_if k.checksum 8 9 _ (omega arith)
    (ascending_if k.format 9 10 _ (omega arith)
    (ascending_if k.continuation 10 11 [] (omega arith) tt))))))))))

-- Two ascending lists with the same elements are one list.

-- the elements are above the bound
above : (l : List ℕ) (m n : ℕ) → Ascending m l → Memᴰ n l → m < n
above [] m n a h = absurd (Memᴰ.not-nil h)
above (x ∷ l) m n a h = ⊎_elim (λ e. omega (arith, a.0)) (λ g. omega (arith, a.0, above l x n a.1 g)) (Memᴰ.cases_cons h)

-- an element that is not the first is one of the others
others : (x y : ℕ) (l : List ℕ) → Memᴰ x (y ∷ l) → (x ≡ y → ⊥) → Memᴰ x l
others x y l h g = ⊎_elim (λ e. absurd (g e)) (λ m. m) (Memᴰ.cases_cons h)

pub same_ascending : (k l : List ℕ) (m : ℕ) → Ascending m k → Ascending m l → ((n : ℕ) → Memᴰ n k → Memᴰ n l) → ((n : ℕ) → Memᴰ n l → Memᴰ n k) → k ≡ l
same_ascending [] [] m a b f g = refl
same_ascending [] (y ∷ l) m a b f g = absurd (Memᴰ.not-nil (g y (Memᴰ.head refl)))
same_ascending (x ∷ k) [] m a b f g = absurd (Memᴰ.not-nil (f x (Memᴰ.head refl)))
same_ascending (x ∷ k) (y ∷ l) m a b f g =
    let e : x ≡ y = first in
    let r : k ≡ l = same_ascending k l x a.1 (rw e b.1)
    (λ n h. others n y l (f n (Memᴰ.tail h)) (λ q. absurd (omega (arith, above k x n a.1 h))))
    (λ n h. others n x k (g n (Memᴰ.tail h)) (λ q. absurd (omega (arith, above l y n b.1 h)))) in
    cc
  where
    first : x ≡ y
    first =
        ⊎_elim (λ e. e)
        (λ h. ⊎_elim (λ e. sym e)
        (λ h'. absurd (omega (arith, above l y x b.1 h, above k x y a.1 h')))
        (Memᴰ.cases_cons (g y (Memᴰ.head refl))))
        (Memᴰ.cases_cons (f x (Memᴰ.head refl)))

-- The codes listed are those whose faults hold.

pub listed_here : (b : Bool) (n : ℕ) (l : List ℕ) → b ≡ true → Memᴰ n (list_if b n l)
unfolding list_if
listed_here b n l h = rw h (Memᴰ.head refl)

pub listed_later : (b : Bool) (m n : ℕ) (l : List ℕ) → Memᴰ n l → Memᴰ n (list_if b m l)
unfolding list_if
listed_later true m n l h = Memᴰ.tail h
listed_later false m n l h = h

pub listed_cases : (b : Bool) (m n : ℕ) (l : List ℕ) {P : Type 0} → (b ≡ true → n ≡ m → P) → (Memᴰ n l → P) → Memᴰ n (list_if b m l) → P
unfolding list_if
listed_cases true m n l f g h = ⊎_elim (λ e. f refl e) g (Memᴰ.cases_cons h)
listed_cases false m n l f g h = g h

-- a test of the first group holds, and its code has this number
data Held (k : Codes) : ℕ → Type 0 where
  Code02 : k.command ≡ true → Held k 0x02
  Code04 : k.memory ≡ true → Held k 0x04
  Code09 : k.checksum ≡ true → Held k 0x09
  Code0B : k.continuation ≡ true → Held k 0x0B

held_listed : (k : Codes) (n : ℕ) → Held k n → Memᴰ n (codes_of k)
unfolding codes_of
held_listed k n (Code02 h) =
    listed_later k.failure 1 2 _
    (listed_here k.command 2 _ h)
held_listed k n (Code04 h) =
    listed_later k.failure 1 4 _
    (listed_later k.command 2 4 _
    (listed_later k.parameter 3 4 _
    (listed_here k.memory 4 _ h)))
held_listed k n (Code09 h) =
    listed_later k.failure 1 9 _
    (listed_later k.command 2 9 _
    (listed_later k.parameter 3 9 _
    (listed_later k.memory 4 9 _
    (listed_later k.device 5 9 _
    (listed_later k.busy 6 9 _
    (listed_later k.precondition 7 9 _
    (listed_later k.object 8 9 _
    (listed_here k.checksum 9 _ h))))))))
held_listed k n (Code0B h) =
    listed_later k.failure 1 11 _
    (listed_later k.command 2 11 _
    (listed_later k.parameter 3 11 _
    (listed_later k.memory 4 11 _
    (listed_later k.device 5 11 _
    (listed_later k.busy 6 11 _
    (listed_later k.precondition 7 11 _
    (listed_later k.object 8 11 _
    (listed_later k.checksum 9 11 _
    (listed_later k.format 10 11 _
    (listed_here k.continuation 11 [] h))))))))))

-- There is one exactly where one of the codes holds.

nil_if : (b : Bool) (n : ℕ) (l : List ℕ) → is_nil (list_if b n l) ≡ (not b && is_nil l)
unfolding list_if
nil_if true n l = refl
nil_if false n l = refl

not_or : (a b : Bool) → not (a || b) ≡ (not a && not b)
not_or true b = refl
not_or false b = refl

pub any_code_lem : (k : Codes) → is_nil (codes_of k) ≡ not (any_code k)
unfolding codes_of
any_code_lem k = simp (nil_if, not_or, and_assoc, and-true)

-- The tests of the first group are document 01's lines.

-- one of two flags
pub two_true : (f m n : ℕ) → (eqb f m || eqb f n) ≡ true → (f ≡ m) ⊎ (f ≡ n)
two_true f m n = true_or_cases (eqb f m) (eqb f n) (λ h. inl (eqb-true f m h)) (λ h. inr (eqb-true f n h))

pub true_two : (f m n : ℕ) → (f ≡ m) ⊎ (f ≡ n) → (eqb f m || eqb f n) ≡ true
true_two f m n (inl e) = rw (eq-eqb f m e)
true_two f m n (inr e) = or_right (eqb f m) (eqb f n) (eq-eqb f n e)

-- a command is found by its bytes, and by no others
pub named : (cmd1 cmd2 : ℕ) (c : Command) → Names cmd1 cmd2 c → command_of cmd1 cmd2 ≡ Some c
named cmd1 cmd2 c n = rw (n.0, n.1) (found c)

pub unnamed : (cmd1 cmd2 : ℕ) → ((c : Command) → Names cmd1 cmd2 c → ⊥) → command_of cmd1 cmd2 ≡ None
unnamed cmd1 cmd2 h = go (command_of cmd1 cmd2) refl
  where
    go : (f : Option Command) → command_of cmd1 cmd2 ≡ f → command_of cmd1 cmd2 ≡ None
    go None e = e
    go (Some c) e = absurd (h c (known_code cmd1 cmd2 c e))

-- none is open for any command, or one is open for another
closed_for : (f : Option Command) → open_for f Closed ≡ false
closed_for None = refl
closed_for (Some c) = refl

open_for_another : (cmd1 cmd2 : ℕ) (c : Command) (d : List ℕ) → (Names cmd1 cmd2 c → ⊥) → open_for (command_of cmd1 cmd2) (Opened c d) ≡ false
open_for_another cmd1 cmd2 c d h = go (command_of cmd1 cmd2) refl
  where
    go : (f : Option Command) → command_of cmd1 cmd2 ≡ f → open_for f (Opened c d) ≡ false
    go None e = refl
    go (Some b) e = bool_cases (same b c) (λ s. absurd (h (rw (same_eq b c s) at (known_code cmd1 cmd2 b e)))) (λ s. s)

module _ (t : Transfer) (p : Arrived) where
  -- 02
  command_fault : (f : Option Command) → command_of p.cmd1 p.cmd2 ≡ f → wrong_command f p.type ≡ true → FirstFault t p 0x02
  unfolding wrong_command
  command_fault None e h = UnknownCommand (λ c n. let z : ◌≡◌ {A = ℕ} 0 1 = cc (named p.cmd1 p.cmd2 c n) in omega arith)
  command_fault (Some c) e h =
      true_or_cases (not (eqb p.type host_write || eqb p.type host_read) || false) (eqb p.type host_read && not (readable c))
      (true_or_cases (not (eqb p.type host_write || eqb p.type host_read)) false
      (λ h.
      let n = not-true _ h in
      UnknownType (eqb-false p.type host_write (false_or_left _ _ n)) (eqb-false p.type host_read (false_or_right (eqb p.type host_write) _ n)))
      never)
      (λ h.
      let colour : c ≡ StaticColour = same_eq c StaticColour (not-false _ (not-true _ (true_and_right (eqb p.type host_read) _ h))) in
      let code : Names p.cmd1 p.cmd2 StaticColour = rw colour at (known_code p.cmd1 p.cmd2 c e) in
      ColourRead (eqb-true p.type host_read (true_and_left _ (not (readable c)) h)) code.0 code.1)
      h

  -- 04
  memory_fault : too_long (is_open t) (length (held t)) p.flags p.size ≡ true → FirstFault t p 0x04
  unfolding too_long
  memory_fault =
      true_or_cases (ltb 1024 p.size) (continues p.flags && is_open t && ltb 1024 (length (held t) + p.size))
      (λ h. LongPayload (ltb-true 1024 p.size h)) (longer t refl)
    where
      longer : (u : Transfer) → t ≡ u → (continues p.flags && is_open u && ltb 1024 (length (held u) + p.size)) ≡ true → FirstFault t p 0x04
      longer Closed e h = never (true_and_right (continues p.flags) false (true_and_left (continues p.flags && false) (ltb 1024 (0 + p.size)) h))
      longer (Opened c d) e h =
          LongTransfer c d (two_true p.flags intermediate last (true_and_left _ true (true_and_left _ (ltb 1024 (length d + p.size)) h))) e
          (ltb-true 1024 (length d + p.size) (true_and_right (continues p.flags && true) _ h))

  -- 0B
  order_fault : wrong_order (is_open t) (open_for (command_of p.cmd1 p.cmd2) t) p.type p.flags ≡ true → FirstFault t p 0x0B
  unfolding wrong_order
  order_fault =
      let parts = not (eqb p.type host_write) && not (eqb p.flags whole) in
      let stray = continues p.flags && not (open_for (command_of p.cmd1 p.cmd2) t) in
      let still = (eqb p.flags whole || eqb p.flags beginning) && is_open t in
      true_or_cases (ltb last p.flags || parts || stray) still
      (true_or_cases (ltb last p.flags || parts) stray
      (true_or_cases (ltb last p.flags) parts
      (λ h. UnknownFlags (ltb-true last p.flags h))
      (λ h. NoWriteInParts (eqb-false p.type host_write (not-true _ (true_and_left _ _ h))) (eqb-false p.flags whole (not-true _ (true_and_right (not (eqb p.type host_write)) _ h)))))
      (λ h. no_transfer_lem t refl (two_true p.flags intermediate last (true_and_left _ _ h)) (not-true _ (true_and_right (continues p.flags) _ h))))
      (λ h. open_still t refl (two_true p.flags whole beginning (true_and_left _ _ h)) (true_and_right (eqb p.flags whole || eqb p.flags beginning) (is_open t) h))
    where
      no_transfer_lem : (u : Transfer) → t ≡ u → Continues p.flags → open_for (command_of p.cmd1 p.cmd2) u ≡ false → FirstFault t p 0x0B
      no_transfer_lem Closed e f h = NoneOpen f e
      no_transfer_lem (Opened c d) e f h =
          OpenForAnother c d f e
          (λ n. never (sym h ∙ ap (λ (g : Option Command). open_for g (Opened c d)) (named p.cmd1 p.cmd2 c n)
          ∙ and_from _ _ (eq-eqb (cmd1_for c) (cmd1_for c) refl) (eq-eqb (cmd2_for c) (cmd2_for c) refl)))

      open_still : (u : Transfer) → t ≡ u → Starts p.flags → is_open u ≡ true → FirstFault t p 0x0B
      open_still Closed e f h = never h
      open_still (Opened c d) e f h = StillOpen c d f e

  -- Together: every fault is one whose test holds, and every test that holds is a fault.
  abbrev pub first_group : Codes
  first_group = faults (command_of p.cmd1 p.cmd2) t p

  listed_held : (n : ℕ) → Memᴰ n (codes_of first_group) → Held first_group n
  unfolding codes_of faults faults_of
  listed_held n =
      listed_cases false 1 n _ (λ t e. never t)
      (listed_cases first_group.command 2 n _ (λ t e. rw e (Code02 t))
      (listed_cases false 3 n _ (λ t e. never t)
      (listed_cases first_group.memory 4 n _ (λ t e. rw e (Code04 t))
      (listed_cases false 5 n _ (λ t e. never t)
      (listed_cases false 6 n _ (λ t e. never t)
      (listed_cases false 7 n _ (λ t e. never t)
      (listed_cases false 8 n _ (λ t e. never t)
      (listed_cases first_group.checksum 9 n _ (λ t e. rw e (Code09 t))
      (listed_cases false 10 n _ (λ t e. never t)
      (listed_cases first_group.continuation 11 n [] (λ t e. rw e (Code0B t)) (λ h. absurd (Memᴰ.not-nil h))))))))))))

  held_fault : (n : ℕ) → Held first_group n → FirstFault t p n
  unfolding faults faults_of
  held_fault n (Code02 h) = command_fault (command_of p.cmd1 p.cmd2) refl h
  held_fault n (Code04 h) = memory_fault h
  held_fault n (Code09 h) = WrongChecksum (not-true p.right h)
  held_fault n (Code0B h) = order_fault h

  fault_held : (n : ℕ) → FirstFault t p n → Held first_group n
  unfolding faults faults_of wrong_command too_long wrong_order
  fault_held n (WrongChecksum h) = Code09 (rw h)
  fault_held n (UnknownType h g) = Code02 (rw (ne_eqb p.type host_write h, ne_eqb p.type host_read g))
  fault_held n (UnknownCommand h) =
      Code02 (rw (unnamed p.cmd1 p.cmd2 h, or-true (not (eqb p.type host_write || eqb p.type host_read))))
  fault_held n (ColourRead h g k) = Code02 (rw (named p.cmd1 p.cmd2 StaticColour (g, k), h))
  fault_held n (LongPayload h) = Code04 (rw (lt-ltb 1024 p.size h))
  fault_held n (LongTransfer c d f e h) =
      Code04 (rw (e, true_two p.flags intermediate last f, lt-ltb 1024 (length d + p.size) h) (or-true (ltb 1024 p.size)))
  fault_held n (UnknownFlags h) = Code0B (rw (lt-ltb 3 p.flags h))
  fault_held n (NoWriteInParts h g) = Code0B (rw (ne_eqb p.type host_write h, ne_eqb p.flags whole g, or-true (ltb last p.flags)))
  fault_held n (NoneOpen f e) =
      Code0B (rw (e, closed_for (command_of p.cmd1 p.cmd2), true_two p.flags intermediate last f, or-true))
  fault_held n (OpenForAnother c d f e h) =
      Code0B (rw (e, open_for_another p.cmd1 p.cmd2 c d h, true_two p.flags intermediate last f, or-true))
  fault_held n (StillOpen c d f e) = Code0B (rw (e, true_two p.flags whole beginning f, or-true))

  -- one of them holds exactly when the first group has one
  held_any : (n : ℕ) → Held first_group n → any_fault first_group ≡ true
  unfolding any_fault
  held_any n (Code02 h) = rw h
  held_any n (Code04 h) = rw (h, or-true)
  held_any n (Code09 h) = rw (h, or-true)
  held_any n (Code0B h) = rw (h, or-true)

  any_held : {P : Type 0} → ((n : ℕ) → Held first_group n → P) → any_fault first_group ≡ true → P
  unfolding any_fault
  any_held f =
      true_or_cases (first_group.command || first_group.memory || first_group.checksum) first_group.continuation
      (true_or_cases (first_group.command || first_group.memory) first_group.checksum
      (true_or_cases first_group.command first_group.memory (λ h. f 0x02 (Code02 h)) (λ h. f 0x04 (Code04 h)))
      (λ h. f 0x09 (Code09 h)))
      (λ h. f 0x0B (Code0B h))

  pub fault_any : (n : ℕ) → FirstFault t p n → any_fault first_group ≡ true
  fault_any n f = held_any n (fault_held n f)

  pub no_fault : any_fault first_group ≡ false → (n : ℕ) → FirstFault t p n → ⊥
  no_fault h n f = never (sym h ∙ fault_any n f)

  pub faultless_test : ((n : ℕ) → FirstFault t p n → ⊥) → any_fault first_group ≡ false
  faultless_test h = bool_cases (any_fault first_group) (any_held (λ n k. absurd (h n (held_fault n k)))) (λ e. e)

  -- the codes listed are those of the first group's faults
  pub codes_exactly : (n : ℕ) → Memᴰ n (codes_of first_group) ↔ FirstFault t p n
  codes_exactly n = (λ m. held_fault n (listed_held n m), λ f. held_listed first_group n (fault_held n f))

  pub codes_some : any_fault first_group ≡ true → codes_of first_group ≡ [] → ⊥
  codes_some h e = any_held (λ n k. Memᴰ.not-nil (subst (Memᴰ n) e (held_listed first_group n k))) h
