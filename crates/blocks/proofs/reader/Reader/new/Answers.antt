use Rattle.std.proofs.Common.{refl}
use Rattle.blocks.proofs.Cuts.{cuts_whole}
use Rattle.blocks.proofs.reader.Reader.new.Goals as goal

pub returns : goal.returns
returns c = record { lines = refl; whole = cuts_whole }
