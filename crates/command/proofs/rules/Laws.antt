-- Fields that are allowed and the byte that is wrong; settings that keep the rules, and what a write leaves of them.
use Rattle.std.specs.Prelude.{is_none, is_some, Option, Some}
use Rattle.std.proofs.lemmas.Bool.{cond_both, and_from}
use Prim.Native.Nat.{ℕ, ◌≤◌}
use mathlib.Core.Path.{◌≡◌, refl, ap, sym, subst, ◌∙◌}
use mathlib.Core.Bool.{Bool, true, false, cond, not, not-not, ◌&&◌, and-false}
use mathlib.Core.List.{List, [], ◌∷◌}
use native.Mathlib.Omega.{arith}
use lib.Dec.{eqb, leb}
use borrow.Author.Tests.{not-true, leb-true}
use lib.ListN.{length, get_or}
use Rattle.packet.proofs.Cases.{bool_cases, true_and_left, true_and_right}
use Rattle.command.specs.Data.{Fit}
use Rattle.command.specs.Table.{table, cmd1_for, cmd2_for, find, command_of, same, layout}
use Rattle.command.specs.Rules.{Field, all_valid, first_wrong, allowed, blocked, all_allowed, settings_in_rule}
use Rattle.command.specs.Settings.{values_of, factory, values_after, store}
use Rattle.command.specs.Value.{widths}
use Rattle.command.specs.declared.settings.Settings.{Settings}
use Rattle.command.specs.declared.table.Command.{Command}
use Rattle.command.specs.declared.table.Command.TheVariants.{DisplayMode, TestPattern, LedCurrent, StaticColour, DisplaySetting, VideoInput, VideoMode, PatternSequence, SequenceRun}
use Rattle.command.proofs.table.Laws.{each, found, find_later, same_eq, fit_length, values_settings}
use Rattle.command.proofs.data.Laws.{fit_last}

-- no byte is wrong exactly where each field is allowed
wrong_step : (b : Bool) (n : ℕ) (w : Option ℕ) (t : Bool) → is_none w ≡ t → is_none (cond b w (Some n)) ≡ (b && t)
wrong_step true n w t e = e
wrong_step false n w t e = refl

pub nothing_wrong : (fs : List Field) → is_none (first_wrong fs) ≡ all_valid fs
nothing_wrong [] = refl
nothing_wrong (f ∷ fs) = wrong_step f.valid f.byte (first_wrong fs) (all_valid fs) (nothing_wrong fs)

-- what the code's test says of a check
pub tested : (fs : List Field) {w : Option ℕ} {t : Bool} → w ≡ first_wrong fs → is_some w ≡ not t → t ≡ all_valid fs
tested fs {t = t} e f = sym (not-not t) ∙ sym (ap not f) ∙ ap is_none e ∙ nothing_wrong fs

-- the settings keep the rules
pub record Kept (s : Settings) : Type 0 where
  pub values : (c : Command) → allowed c (values_of c s) ≡ true
  pub running : blocked SequenceRun (values_of SequenceRun s) s.mode ≡ false

-- the values of every command fit their fields, as those of the code's types do
abbrev pub Fits : Settings → Type 0
Fits s = (c : Command) → Fit (widths c) (values_of c s)

-- what fits in the data fits in the code's types
pub fit_types : (c : Command) (v : List ℕ) → Fit (layout c) v → Fit (widths c) v
fit_types DisplayMode v f = f
fit_types TestPattern v f = f
fit_types LedCurrent v f = f
fit_types StaticColour v f = f
fit_types DisplaySetting v f = fit_last (1 ∷ 1 ∷ []) 1 2 v (λ h. omega (arith, h)) f
fit_types VideoInput v f = f
fit_types VideoMode v f = fit_last (1 ∷ 1 ∷ []) 1 2 v (λ h. omega (arith, h)) f
fit_types PatternSequence v f = fit_last (1 ∷ 1 ∷ 1 ∷ 1 ∷ 4 ∷ 4 ∷ 4 ∷ []) 1 4 v (λ h. omega (arith, h)) f
fit_types SequenceRun v f = fit_last [] 1 4 v (λ h. omega (arith, h)) f

-- a number past whose bound nothing is allowed
most : (n b : ℕ) {t : Bool} → (leb n b ≡ false → t ≡ false) → t ≡ true → n ≤ b
most n b h a = bool_cases (leb n b) (leb-true n b) (λ e. let x = h e in let z : ◌≡◌ {A = ℕ} 0 1 = cc in absurd (omega arith))

-- and what is allowed of these fits in the data: the rule bounds each field that is wider in the code
pub fit_data : (c : Command) (v : List ℕ) → allowed c v ≡ true → Fit (widths c) v → Fit (layout c) v
fit_data DisplayMode v a f = f
fit_data TestPattern v a f = f
fit_data LedCurrent v a f = f
fit_data StaticColour v a f = f
fit_data DisplaySetting v a f = fit_last (1 ∷ 1 ∷ []) 2 1 v (λ _. omega (arith, most (get_or v 2 0) 1 (λ e. simp (e, and-false)) a)) f
fit_data VideoInput v a f = f
fit_data VideoMode v a f = fit_last (1 ∷ 1 ∷ []) 2 1 v (λ _. omega (arith, most (get_or v 2 0) 4 (λ e. simp (e, and-false)) a)) f
fit_data PatternSequence v a f = fit_last (1 ∷ 1 ∷ 1 ∷ 1 ∷ 4 ∷ 4 ∷ 4 ∷ []) 4 1 v (λ _. omega (arith, most (get_or v 7 0) 2 (λ e. simp (e, and-false)) a)) f
fit_data SequenceRun v a f = fit_last [] 4 1 v (λ _. omega (arith, most (get_or v 0 0) 1 (λ e. simp e) a)) f

all_allowed_lem : (s : Settings) (cs : List Command) (c : Command) → find (cmd1_for c) (cmd2_for c) cs ≡ Some c → all_allowed s cs ≡ true → allowed c (values_of c s) ≡ true
unfolding all_allowed find
all_allowed_lem s [] c e h = let z : ◌≡◌ {A = ℕ} 0 1 = cc in absurd (omega arith)
all_allowed_lem s (d ∷ cs) c e h =
    bool_cases (same c d)
    (λ t. rw (same_eq c d t) (true_and_left _ (all_allowed s cs) h))
    (λ t. all_allowed_lem s cs c (find_later d cs (cmd1_for c) (cmd2_for c) (Some c) t e) (true_and_right (allowed d (values_of d s)) _ h))

each_allowed : (s : Settings) → ((c : Command) → allowed c (values_of c s) ≡ true) → (cs : List Command) → all_allowed s cs ≡ true
unfolding all_allowed
each_allowed s h [] = refl
each_allowed s h (c ∷ cs) = and_from _ _ (h c) (each_allowed s h cs)

-- the test of refusal 3 says so
pub kept_by : (s : Settings) → settings_in_rule s ≡ true → Kept s
unfolding settings_in_rule command_of
kept_by s h =
    record {
      values = λ c. all_allowed_lem s table c (found c) (true_and_left _ _ h);
      running = not-true _ (true_and_right (all_allowed s table) _ h);
    }

pub in_rule_of : (s : Settings) → Kept s → settings_in_rule s ≡ true
unfolding settings_in_rule
in_rule_of s k = and_from _ _ (each_allowed s k.values table) (ap not k.running)

-- a write that may be carried out in a display mode
pub record Writable (mode : ℕ) (c : Command) (v : List ℕ) : Type 0 where
  pub full : length v ≡ length (layout c)
  pub values : allowed c v ≡ true
  pub free : blocked c v mode ≡ false

-- What holds of the values written, of a run of 0 and of the values that were, holds of the values afterwards.
after_cases : (P : Command → List ℕ → Type 0) (c : Command) (v : List ℕ) (s : Settings)
    → P c v
    → P SequenceRun (0 ∷ [])
    → ((e : Command) → P e (values_of e s))
    → (e : Command)
    → P e (values_after c v s e)
unfolding values_after
after_cases P c v s w z k e =
    cond_both (same e c) _ _ (P e)
    (λ x. subst (λ (d : Command). P d v) (sym (same_eq e c x)) w)
    (λ _.
    cond_both (same c DisplayMode && same e SequenceRun && not (eqb (get_or v 0 0) 4)) _ _ (P e)
    (λ x. subst (λ (d : Command). P d (0 ∷ [])) (sym (same_eq e SequenceRun (true_and_right (same c DisplayMode) _ (true_and_left _ _ x)))) z)
    (λ _. k e))

pub length_values : (s : Settings) (e : Command) → length (values_of e s) ≡ length (layout e)
length_values s = each (λ e. length (values_of e s) ≡ length (layout e)) (refl, refl, refl, refl, refl, refl, refl, refl, refl)

pub values_store : (c : Command) (v : List ℕ) (s : Settings) → length v ≡ length (layout c) → (e : Command) → values_of e (store c v s) ≡ values_after c v s e
unfolding store
values_store c v s h e = values_settings e (values_after c v s) (after_cases (λ e x. length x ≡ length (layout e)) c v s h refl (length_values s) e)

stopped : (b : Bool) (r : ℕ) → (eqb (get_or (cond (not b) (0 ∷ []) (r ∷ [])) 0 0) 1 && not b) ≡ false
stopped true r = and-false (eqb r 1)
stopped false r = refl

running_after : (c : Command) (v : List ℕ) (s : Settings) → Kept s → blocked c v s.mode ≡ false
    → blocked SequenceRun (values_of SequenceRun (store c v s)) (store c v s).mode ≡ false
unfolding store values_after blocked
running_after DisplayMode v s k f = stopped (eqb (get_or v 0 0) 4) s.run
running_after TestPattern v s k f = k.running
running_after LedCurrent v s k f = k.running
running_after StaticColour v s k f = k.running
running_after DisplaySetting v s k f = k.running
running_after VideoInput v s k f = k.running
running_after VideoMode v s k f = k.running
running_after PatternSequence v s k f = k.running
running_after SequenceRun v s k f = f

-- the settings keep the rules after such a write
pub kept_store : (c : Command) (v : List ℕ) (s : Settings) → Kept s → Writable s.mode c v → Kept (store c v s)
kept_store c v s k w =
    record {
      values = λ e.
          subst (λ (x : List ℕ). allowed e x ≡ true) (sym (values_store c v s w.full e))
          (after_cases (λ e x. allowed e x ≡ true) c v s w.values refl k.values e);
      running = running_after c v s k w.free;
    }

pub fits_store : (c : Command) (v : List ℕ) (s : Settings) → Fits s → Fit (layout c) v → Fits (store c v s)
fits_store c v s k w e =
    subst (λ (x : List ℕ). Fit (widths e) x) (sym (values_store c v s (fit_length (layout c) v w) e))
    (after_cases (λ e x. Fit (widths e) x) c v s (fit_types c v w) (omega arith, tt) k e)

-- the factory values do
pub kept_factory : Kept factory
unfolding factory blocked
kept_factory =
    record {
      values = each (λ c. allowed c (values_of c factory) ≡ true) (refl, refl, refl, refl, refl, refl, refl, refl, refl);
      running = refl;
    }

pub fits_factory : Fits factory
unfolding factory
fits_factory = each (λ c. Fit (widths c) (values_of c factory)) (omega arith, omega arith, omega arith, omega arith, omega arith, omega arith, omega arith, omega arith, omega arith)
