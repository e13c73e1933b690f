use Rattle.std.proofs.Common.{arith}
use Rattle.std.proofs.lemmas.Grind.{common_steps}
use Rattle.blocks.proofs.check.split_text.Goals as goal

pub returns-clause-unused : goal.returns-clause-unused
returns-clause-unused c = grind (arith, common_steps)
