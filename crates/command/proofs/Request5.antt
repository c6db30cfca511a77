-- Request 5, proved.
use Rattle.command.specs.Request5.{Request5}
use Rattle.command.proofs.asking.Runs.{half_stays, rule_stays, half_begins, half_passes, run_follows}
use Rattle.command.proofs.asking.Carried.{keeps_items, judging_says, judging_twice, carrying_follows, receive_obeys, cut_obeys}
use Rattle.command.proofs.asking.Refusals.{asked_rule, asked_one, asked_refuses, told_bits, carry_short, carry_outside, carry_forged, carry_stale, carry_untouched, carry_answers, carry_genuine, carry_coded}

pub request_5 : Request5
request_5 =
    record {
      rule = asked_rule;
      one = asked_one;
      refuses = asked_refuses;
      says = judging_says;
      bits = told_bits;
      keeps = keeps_items;
      twice = judging_twice;
      follows = carrying_follows;
      receives = receive_obeys;
      cut = cut_obeys;
      half = half_stays;
      begins = half_begins;
      passes = half_passes;
      run = run_follows;
      short = carry_short;
      outside = carry_outside;
      forged = carry_forged;
      stale = carry_stale;
      untouched = carry_untouched;
      answers = carry_answers;
      genuine = carry_genuine;
      coded = carry_coded;
      stays = rule_stays;
    }
