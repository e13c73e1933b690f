use Rattle.std.proofs.Common.{◌≡◌, ◌<◌, ℤ, length, take, arith}
use Rattle.std.proofs.lemmas.List.{length-take, length-set, take_all}
use Rattle.lines.proofs.Figures.{lead_stops, lead_more, lead_ends, passed}
use Rattle.lines.proofs.numbers.numbers.Goals as goal

pub returns-in_err-place : goal.returns-in_err-place
returns-in_err-place g c =
    let found = take c.loop-place.place-index c.loop-place.place-items in
    let some : length found < g.row.N = omega (arith, length-take {A = ℤ}) in
    rw c.from_residual.ensures (lead_stops g.row.N c.loop-place.invariant.1 some c.in_err-place.ensures)

pub loop-place-preserved : goal.loop-place-preserved
loop-place-preserved g c =
    let items = c.loop-place.place-items in
    let i = c.loop-place.place-index in
    let z = c.in_ok-place.field-0-0 in
    let h = c.in_ok-place.ensures in
    (rw length-set c.loop-place.invariant.0, lead_more items i z _ _ c.loop-place.invariant.1 (omega arith) h (passed z h.0))

pub returns : goal.returns
returns g c =
    let items = c.loop-place.place-items in
    let all : take c.loop-place.place-index items ≡ items = take_all c.loop-place.place-index items (omega arith) in
    rw (c.then_some.ensures, c.is_empty.ensures) (lead_ends g.row.N items c.loop-place.rest.now c.loop-place.invariant.0 (rw all at c.loop-place.invariant.1))
