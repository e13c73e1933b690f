use Rattle.std.proofs.Common.{drop}
use Rattle.blocks.specs.Lines.{lent}
use Rattle.blocks.proofs.Packed.{Packing}
use Rattle.blocks.proofs.packing.pack.Given as goal

abbrev pub invariant-loop-line : goal.invariant-loop-line
invariant-loop-line l = Packing (lent l.lines) (lent (drop l.line-index l.lines)) l.packer
