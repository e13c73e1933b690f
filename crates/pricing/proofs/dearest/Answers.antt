use Rattle.std.proofs.Common.{rules, tests, ◌∙◌, ap}
use Rattle.std.specs.List.{filter_map}
use Rattle.pricing.proofs.dearest.Goals as goal
use Rattle.pricing.proofs.Choosing.{offered, filter_map-map, dearest_of}

pub returns : goal.returns
returns g c =
    let m = c.reduce.ensures.runs in
    let f = c.filter_map.ensures.runs m.0 m.0.seen m.1 in
    let i = c.iter.ensures.runs f.0 f.0.seen in
    let view = g.T.Tariff.view c.args.tariff.now in
    let h = offered g.W.Weight.kind view in
    let items = f.2.3 (λ t. h t.now) (λ t r q k. search (rules, tests)) in
    let list = filter_map-map (λ t. t.now) h f.0.items ∙ ap (filter_map h) (i.4 (f.2.0 ∙ m.2) ∙ ap (λ s. s.rest.now) f.1 ∙ c.iter.ensures.rest) in
    dearest_of g.met.W.Weight.lawful m.0 _ _ (λ most dear r q k. search (rules, tests)) view c.args.triangles.now c.reduce.result (items ∙ list) m.3
