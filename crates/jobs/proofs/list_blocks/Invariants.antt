use Rattle.std.proofs.Common.{◌≡◌}
use Rattle.std.specs.Slice.Iter.{chunks_rest, chunks_size}
use Rattle.jobs.proofs.Sofar.{Sofar}
use Rattle.jobs.proofs.list_blocks.Given as goal

abbrev pub invariant-loop-bytes : goal.invariant-loop-bytes
invariant-loop-bytes l =
    (goal.iterator-loop-bytes).can_next l.bytes-iterator ×
    (goal.iterator-loop-bytes).is_finite l.bytes-iterator ×
    (chunks_size l.bytes-iterator ≡ 512) ×
    Sofar l.job (chunks_rest l.bytes-iterator) l.draft
