-- Request 2 of reports, proved: the end settings of every trial keep the rules, those of an accepted report are a trial's, and a packet that draws 03 offends.
use Prim.Native.Nat.{ℕ}
use mathlib.Core.Path.{sym, subst}
use mathlib.Core.List.{List}
use Rattle.packet.specs.Stream.{bytes_in}
use Rattle.command.specs.Settings.{factory}
use Rattle.command.specs.Player.{from, after, Offends, NotAcknowledged}
use Rattle.command.specs.Request2.{ShownWhole}
use Rattle.command.specs.declared.settings.Settings.{Settings}
use Rattle.command.proofs.RulesLaws.{kept_factory}
use Rattle.command.proofs.Request2.{shown_whole, not_acknowledged_lem}
use Rattle.report.specs.Report.{Trial, end_from}
use Rattle.report.specs.Request2.{AsksTooMany, Request2}
use Rattle.report.proofs.Demand3.{kept_end, accepted}
use Rattle.report.proofs.Request4.{first_of, refused_18}

trials_shown : (ts : List Trial) (k : ℕ) → ShownWhole (end_from factory ts k).sequence
trials_shown ts k = shown_whole (end_from factory ts k) (kept_end factory ts k kept_factory)

-- the packet that asks for them is not acknowledged
asking_offends : (s : Settings) (b : List ℕ) (k : AsksTooMany s b) → Offends s b (bytes_in k.before)
asking_offends s b k =
    NotAcknowledged k.before k.packet k.behind k.cut
    (not_acknowledged_lem (after (from s) k.before) k.packet k.sequence k.asks k.many)

pub request_2 : Request2
request_2 =
    record {
      trials = trials_shown;
      accepted = λ r k score s b e.
          let c = accepted r k score s b e in
          subst (λ (x : Settings). ShownWhole x.sequence) (sym c.ends) (trials_shown c.trials k);
      shipped = λ r ts k ship b l y w h.
          let o = first_of factory ship (bytes_in h.before) (asking_offends factory ship h) in
          (o.0, refused_18 r b l ts k ship o.0 y w o.1, o.1.first (bytes_in h.before) (asking_offends factory ship h));
    }
