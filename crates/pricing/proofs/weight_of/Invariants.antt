use Rattle.pricing.proofs.Joins.{SoFar}
use Rattle.pricing.proofs.weight_of.Given as goal

abbrev pub invariant-loop-triangle : goal.invariant-loop-triangle
invariant-loop-triangle g l = SoFar g.W.Weight.kind (g.T.Tariff.view l.tariff) l.triangles l.triangle-index l.weight
