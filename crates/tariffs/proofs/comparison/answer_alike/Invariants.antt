use Rattle.tariffs.proofs.Indistinguishable.{Halfway}
use Rattle.tariffs.proofs.comparison.answer_alike.Given as goal

abbrev pub invariant-loop-call : goal.invariant-loop-call
invariant-loop-call g l =
    record {
      answers : Halfway (g.S.Amendable.meaning l.initial.first) (g.T.Amendable.meaning l.initial.second) l.calls l.call-index (g.S.Amendable.meaning l.first) (g.T.Amendable.meaning l.second) l.alike;
      first_kept : g.S.Amendable.keeps l.initial.first l.first;
      second_kept : g.T.Amendable.keeps l.initial.second l.second;
    }
