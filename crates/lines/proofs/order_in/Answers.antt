use Rattle.lines.proofs.Readings.{no_front}
use Rattle.lines.proofs.order_in.Goals as goal

pub returns-in_err-word : goal.returns-in_err-word
returns-in_err-word c = rw c.from_residual.ensures (no_front c.args.bytes.now c.in_err-word.ensures)
