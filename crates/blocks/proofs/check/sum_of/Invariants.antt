use Rattle.std.proofs.Common.{◌≡◌, ◌+◌, ◌*◌, ◌≤◌, length, take}
use Rattle.blocks.specs.Layout.{weighted}
use Rattle.blocks.proofs.check.sum_of.Given as goal

abbrev pub invariant-loop-place : goal.invariant-loop-place
invariant-loop-place l =
    let next = l.place-iterator.a.start in
    let rest = l.place-iterator.b.rest.now in
    (goal.iterator-loop-place).can_next l.place-iterator
    × (goal.iterator-loop-place).is_finite l.place-iterator
    × (l.sum + weighted next rest ≡ weighted 1 (take 508 l.block))
    × (next + length rest ≡ 1 + 508)
    × (l.sum + 129540 ≤ 129540 * next)
