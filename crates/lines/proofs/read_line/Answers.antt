use Rattle.lines.proofs.Readings.{one_reading}
use Rattle.lines.proofs.read_line.Goals as goal

pub returns-clause-alone : goal.returns-clause-alone
returns-clause-alone c = one_reading
