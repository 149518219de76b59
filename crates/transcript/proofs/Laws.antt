-- Proves `Laws` of specs/Laws.antt.
use Rattle.promises.specs.Node1.{node1}
use Rattle.text.specs.Grammar.{says}
use Rattle.transcript.specs.Laws.{Laws}
use Rattle.transcript.proofs.Refusals.{identifier_refused, length_refused, sample_refused, malformed_refused, too_long}
use Rattle.transcript.proofs.Valid.{valid_obeyed, valid_answered, valid_fed, valid_after, valid_start}
use Rattle.transcript.proofs.Whole.{whole, line_answered, cut, cut_prints}

pub laws : Laws
laws =
    record {
      whole = whole;
      program = whole node1;
      line_answered = line_answered;
      cut = cut;
      cut_prints = cut_prints;
      identifier_refused = identifier_refused;
      length_refused = length_refused;
      sample_refused = sample_refused;
      malformed_refused = malformed_refused;
      too_long = too_long;
      start_valid = valid_start;
      line_valid = λ h l. valid_obeyed h (says l);
      answer_valid = valid_answered;
      byte_valid = valid_fed;
      input_valid = valid_after;
    }
