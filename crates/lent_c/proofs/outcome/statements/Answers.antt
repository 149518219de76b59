-- What `outcomes` proves of `lent` holds of the exports, whose contracts are the same.
use Rattle.outcomes.proofs.Outcomes.{lent_outcomes}
use Rattle.outcomes.proofs.Asked.{lent_asked}
use Rattle.lent_c.proofs.outcome.statements.Goals as goal

pub returns : goal.returns
returns c = (
  record {
    haybleater_power_up = lent_outcomes.lent·haybleater_power_up;
    haybleater_receive = lent_outcomes.lent·haybleater_receive;
    haybleater_tick = lent_outcomes.lent·haybleater_tick;
    haybleater_sample = lent_outcomes.lent·haybleater_sample;
    haybleater_missing = lent_outcomes.lent·haybleater_missing;
    haybleater_slot = lent_outcomes.lent·haybleater_slot;
    haybleater_state = lent_outcomes.lent·haybleater_state;
    haybleater_good = lent_outcomes.lent·haybleater_good;
    haybleater_position = lent_outcomes.lent·haybleater_position;
    haybleater_goes_if_missing = lent_outcomes.lent·haybleater_goes_if_missing;
    haybleater_waits = lent_outcomes.lent·haybleater_waits;
  },
  record {
    haybleater_power_up = lent_asked.lent·haybleater_power_up;
    haybleater_receive = lent_asked.lent·haybleater_receive;
    haybleater_tick = lent_asked.lent·haybleater_tick;
    haybleater_sample = lent_asked.lent·haybleater_sample;
    haybleater_missing = lent_asked.lent·haybleater_missing;
    haybleater_slot = lent_asked.lent·haybleater_slot;
    haybleater_state = lent_asked.lent·haybleater_state;
    haybleater_good = lent_asked.lent·haybleater_good;
    haybleater_position = lent_asked.lent·haybleater_position;
    haybleater_goes_if_missing = lent_asked.lent·haybleater_goes_if_missing;
    haybleater_waits = lent_asked.lent·haybleater_waits;
  },
)
