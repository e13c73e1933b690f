-- The numbers that a word wants follow it, or it begins no order.
use Rattle.std.proofs.Common.{arith}
use Rattle.lines.proofs.Readings.{no_order, an_order}
use Rattle.lines.proofs.order_after.Goals as goal

pub returns-in_err-serial-in-Head : goal.returns-in_err-serial-in-Head
returns-in_err-serial-in-Head c =
    rw c.from_residual-in_err-serial-in-Head.ensures (no_order c.in-Head.is (omega arith) c.in_err-serial-in-Head.ensures)

pub returns-in_ok-serial-in-Head : goal.returns-in_ok-serial-in-Head
returns-in_ok-serial-in-Head c = an_order _ c.in-Head.is (omega arith) (omega arith) c.in_ok-serial-in-Head.ensures

pub returns-in_err-serial-in-Use : goal.returns-in_err-serial-in-Use
returns-in_err-serial-in-Use c =
    rw c.from_residual-in_err-serial-in-Use.ensures (no_order c.in-Use.is (omega arith) c.in_err-serial-in-Use.ensures)

pub returns-in_ok-serial-in-Use : goal.returns-in_ok-serial-in-Use
returns-in_ok-serial-in-Use c = an_order _ c.in-Use.is (omega arith) (omega arith) c.in_ok-serial-in-Use.ensures

pub returns-in_err-x-in-Corner : goal.returns-in_err-x-in-Corner
returns-in_err-x-in-Corner c =
    rw c.from_residual-in_err-x-in-Corner.ensures (no_order c.in-Corner.is (omega arith) c.in_err-x-in-Corner.ensures)

pub returns-in_ok-x-in-Corner : goal.returns-in_ok-x-in-Corner
returns-in_ok-x-in-Corner c = an_order _ c.in-Corner.is (omega arith) (omega arith) c.in_ok-x-in-Corner.ensures

pub returns-in_err-corner-in-Move : goal.returns-in_err-corner-in-Move
returns-in_err-corner-in-Move c =
    rw c.from_residual-in_err-corner-in-Move.ensures (no_order c.in-Move.is (omega arith) c.in_err-corner-in-Move.ensures)

pub returns-in_ok-corner-in-Move : goal.returns-in_ok-corner-in-Move
returns-in_ok-corner-in-Move c = an_order _ c.in-Move.is (omega arith) (omega arith) c.in_ok-corner-in-Move.ensures

pub returns-in_err-i-in-Ban : goal.returns-in_err-i-in-Ban
returns-in_err-i-in-Ban c =
    rw c.from_residual-in_err-i-in-Ban.ensures (no_order c.in-Ban.is (omega arith) c.in_err-i-in-Ban.ensures)

pub returns-in_ok-i-in-Ban : goal.returns-in_ok-i-in-Ban
returns-in_ok-i-in-Ban c = an_order _ c.in-Ban.is (omega arith) (omega arith) c.in_ok-i-in-Ban.ensures

pub returns-in_err-i-in-Lift : goal.returns-in_err-i-in-Lift
returns-in_err-i-in-Lift c =
    rw c.from_residual-in_err-i-in-Lift.ensures (no_order c.in-Lift.is (omega arith) c.in_err-i-in-Lift.ensures)

pub returns-in_ok-i-in-Lift : goal.returns-in_ok-i-in-Lift
returns-in_ok-i-in-Lift c = an_order _ c.in-Lift.is (omega arith) (omega arith) c.in_ok-i-in-Lift.ensures
