use Rattle.blocks.specs.Reading.{to_come}
use Rattle.jobs.proofs.Along.{Along, bytes_of}
use Rattle.jobs.proofs.draft.Draft.list_block.Given as goal

abbrev pub invariant-loop-line : goal.invariant-loop-line
invariant-loop-line l = (goal.iterator-loop-line).can_next l.line-iterator × (goal.iterator-loop-line).is_finite l.line-iterator × Along l.block l.initial.self (bytes_of (to_come l.line-iterator)) l.self
