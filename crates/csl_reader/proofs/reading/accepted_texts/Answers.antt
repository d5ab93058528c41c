use Rattle.csl_reader.proofs.OneWay.{accepted_are_spelled}
use Rattle.csl_reader.proofs.reading.accepted_texts.Goals as goal

pub returns : goal.returns
returns c = accepted_are_spelled
