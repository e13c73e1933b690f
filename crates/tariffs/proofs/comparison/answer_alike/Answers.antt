use Rattle.std.proofs.Common.{rules}
use Rattle.std.proofs.lemmas.List.{drop_more}
use Rattle.tariffs.proofs.Indistinguishable.{equal_if_alike, more}
use Rattle.tariffs.proofs.comparison.answer_alike.Goals as goal

pub loop-call-preserved : goal.loop-call-preserved
loop-call-preserved g c =
    let one = c.make_call-one.ensures in
    let other = c.make_call-other.ensures in
    let next = drop_more _ _ _ c.loop-call-test.true in
    record {
      answers = rw (one.left, other.left) (more _ _ _ _ _ _ _ _ _ next (search rules) c.loop-call.invariant.answers);
      first_kept = g.met.S.Amendable.chains.both _ _ _ c.loop-call.invariant.first_kept one.beyond;
      second_kept = g.met.T.Amendable.chains.both _ _ _ c.loop-call.invariant.second_kept other.beyond;
    }

pub returns-clause-observable : goal.returns-clause-observable
returns-clause-observable g c = equal_if_alike _ _
