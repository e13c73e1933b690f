use Rattle.std.proofs.Common.{◌≡◌, ◌+◌, ◌≤◌, ◌∷◌, sym, ap, ◌∙◌, arith, rules}
use Rattle.blocks.specs.Layout.{text_of}
use Rattle.blocks.specs.Lines.{cut}
use Rattle.blocks.specs.Reading.{to_come}
use Rattle.jobs.proofs.Along.{Along, bytes_of, bytes_placed, few_lines, along_none, along_order, along_refused, along_all}
use Rattle.jobs.proofs.draft.Draft.list_block.Goals as goal
use Rattle.jobs.proofs.draft.Draft.list_block.Goals.{In-Some}

pub loop-line-init : goal.loop-line-init
loop-line-init c =
    let block = c.args.block.now in
    let all : bytes_of (to_come c.into_iter-line-iterator.result) ≡ cut (text_of block) = ap (λ r. bytes_of (to_come r)) c.into_iter-line-iterator.ensures.into_iter_gives ∙ ap bytes_of c.new-line-items.ensures.lines ∙ bytes_placed 4 (cut (text_of block)) in
    (tt, tt, rw all (along_none block c.args.self.now))

-- the line at hand, and those behind it
ahead : (c : In-Some) → Along c.args.block.now c.args.self.now (c.in-Some.line.bytes.now ∷ bytes_of (to_come c.next.new.self)) c.loop-line.self
ahead c = rw (sym (ap bytes_of c.in-Some.ensures.steps.0)) c.loop-line.invariant.2

pub overflow_add-self : goal.overflow_add-self
overflow_add-self c =
    let few : c.loop-line.self.lines + 1 ≤ c.args.self.now.lines + 504 = omega (arith, (ahead c).reaches, few_lines c.args.block.now) in
    search rules

pub loop-line-preserved-in-Continue-1 : goal.loop-line-preserved-in-Continue-1
loop-line-preserved-in-Continue-1 c =
    (tt, tt, along_order _ _ _ _ _ _ _ (ahead (goal.at.loop-line-preserved-in-Continue-1 c).In-Some) c.in_ok-accept-in-Ok.ensures c.in-Ok.ensures.reads)

pub loop-line-preserved : goal.loop-line-preserved
loop-line-preserved c =
    (tt, tt, along_refused _ _ _ _ _ _ (ahead (goal.at.loop-line-preserved c).In-Some) (rw c.in-Err.ensures.reads.0 at c.in_ok-refuse-in-Err.ensures) c.in-Err.ensures.reads.1)

pub returns : goal.returns
returns c = along_all _ _ _ (rw (ap bytes_of c.in-None.ensures.steps.0) at c.loop-line.invariant.2)
