use Rattle.csl_reader.proofs.OneWay.{read_one_way}
use Rattle.csl_reader.proofs.reading.one_reading.Goals as goal

pub returns : goal.returns
returns c = read_one_way
