use Rattle.std.proofs.Common.{sym, ap, ◌∙◌}
use Rattle.pricing.proofs.Joins.{done, in_any_order, more, unpriced}
use Rattle.pricing.proofs.weight_of.Goals as goal

pub loop-triangle-preserved : goal.loop-triangle-preserved
loop-triangle-preserved g c =
    let price = sym c.price.ensures ∙ c.in_ok-price.was in
    let weight = c.join-weight.ensures ∙ ap (g.W.Weight.kind.join c.loop-triangle.weight) c.priced.ensures in
    more g.met.W.Weight.lawful _ _ _ _ _ _ _ c.loop-triangle-test.true price weight c.loop-triangle.invariant

pub returns-in_err-price : goal.returns-in_err-price
returns-in_err-price g c =
    let price = sym c.price.ensures ∙ c.in_err-price.was in
    let value = c.from_residual.ensures ∙ sym (unpriced g.met.W.Weight.lawful _ _ _ _ _ c.loop-triangle-test.true price c.loop-triangle.invariant) in
    record { value = value; any_order = in_any_order g.met.W.Weight.lawful (g.T.Tariff.view c.args.tariff.now) _ _ value }

pub returns : goal.returns
returns g c =
    let whole = done g.met.W.Weight.lawful (g.T.Tariff.view c.args.tariff.now) _ _ _ c.loop-triangle-test.false c.loop-triangle.invariant in
    record { value = cc; any_order = in_any_order g.met.W.Weight.lawful (g.T.Tariff.view c.args.tariff.now) _ _ (cc) }
