use Rattle.std.proofs.Common.{sym, ◌∙◌, arith}
use Rattle.std.specs.Slice.Iter.{chunks_rest}
use Rattle.std.proofs.lemmas.List.{nil_from_length}
use Rattle.jobs.proofs.Sofar.{Front, block_more, front, job_ends, job_stops}
use Rattle.jobs.proofs.list_blocks.Goals as goal
use Rattle.jobs.proofs.list_blocks.Goals.{In-Some}

-- the chunk at hand is the front of what is left
ahead : (c : In-Some) → Front (chunks_rest c.loop-bytes.bytes-iterator) c.in-Some.bytes.now (chunks_rest c.next.new.self)
ahead c = let s = c.in-Some.ensures.steps in front _ _ _ s.1.0 (rw c.loop-bytes.invariant.2 at s.1.1)

pub loop-bytes-preserved : goal.loop-bytes-preserved
loop-bytes-preserved c =
    let h = ahead (goal.at.loop-bytes-preserved c).In-Some in
    let size = c.in-Some.ensures.steps.0 ∙ c.loop-bytes.invariant.2 in
    (omega (arith, size), tt, size, rw h.back (block_more _ _ _ _ _ c.loop-bytes.invariant.3 (sym (h.judged_so _) ∙ c.in-Ok.ensures.0) (c.in-Ok.ensures.1 ∙ h.twice) c.in_ok-list_block-in-Ok.ensures))

pub returns-in-Err : goal.returns-in-Err
returns-in-Err c =
    let h = ahead (goal.at.returns-in-Err c).In-Some in
    job_stops _ _ _ _ _ c.loop-bytes.invariant.3 c.in-Some.ensures.steps.1.2 (sym (h.judged_so _) ∙ c.in-Err.ensures) c.in_ok-refuse-in-Err.ensures

pub returns : goal.returns
returns c = let none = nil_from_length _ c.in-None.ensures.steps.1.0 in job_ends _ _ (rw none at c.loop-bytes.invariant.3)
