use Rattle.std.proofs.Common.{◌≡◌, length, take}
use Rattle.lines.proofs.Figures.{Lead}
use Rattle.lines.proofs.numbers.numbers.Given as goal

abbrev pub invariant-loop-place : goal.invariant-loop-place
invariant-loop-place g l = (length l.place-items ≡ g.row.N) × Lead l.fn.bytes (take l.place-index l.place-items) l.rest
