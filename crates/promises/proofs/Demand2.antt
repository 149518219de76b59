-- Proves `Demand2` of specs/Demand2.antt.
use Rattle.promises.specs.Demand2.{Demand2}
use Rattle.promises.proofs.NetworkStates.{network_states}
use Rattle.promises.proofs.Starts.{starts}
use Rattle.promises.proofs.Codes.{codes}
use Rattle.promises.proofs.Words.{words}
use Rattle.promises.proofs.Parameters.{parameters_read}
use Rattle.promises.proofs.Moments.{moments_so}
use Rattle.promises.proofs.Counting.{counting}
use Rattle.promises.proofs.PassedOver.{passed_over}
use Rattle.promises.proofs.Emergency.{emergency_so}
use Rattle.promises.proofs.Service.{serves}
use Rattle.promises.proofs.Replies.{answers}
use Rattle.promises.proofs.Transfers.{transfers}
use Rattle.promises.proofs.NamesRead.{names_read}
use Rattle.promises.proofs.Readings.{tells}
use Rattle.promises.proofs.Positions.{positioned}
use Rattle.promises.proofs.ErrorList.{error_list}
use Rattle.promises.proofs.Effects.{served_rightly}
use Rattle.promises.proofs.Resets.{save_and_reset}
use Rattle.promises.proofs.Staying.{staying}
use Rattle.promises.proofs.ByEntries.{by_entries}
use Rattle.promises.proofs.Worked.{worked, printed}

pub demand2 : Demand2
demand2 =
    record {
      starts = starts;
      states = network_states;
      codes = codes;
      words = words;
      resets = save_and_reset;
      staying = staying;
      moments = moments_so;
      counting = counting;
      parameters = parameters_read;
      passed_over = passed_over;
      emergency = emergency_so;
      error_list = error_list;
      tells = tells;
      worked = worked;
      printed = printed;
      gets_what_is_due = serves;
      answers = answers;
      transfers = transfers;
      names_read = names_read;
      served_rightly = served_rightly;
      positioned = positioned;
      by_entries = by_entries;
    }
