use Rattle.std.proofs.Common.{◌≡◌, drop}
use Rattle.blocks.specs.Lines.{lent}
use Rattle.blocks.specs.Packing.{checked}
use Rattle.blocks.proofs.packing.check_lines.Given as goal

abbrev pub invariant-loop-i : goal.invariant-loop-i
invariant-loop-i l = checked l.i (lent (drop l.i l.lines)) ≡ checked 0 (lent l.lines)
