use Rattle.std.proofs.Common.{sym}
use Rattle.std.proofs.lemmas.List.{at_drop_all}
use Rattle.std.proofs.lemmas.List.Elements.{All-head}
use Rattle.std.proofs.lemmas.Result.{err_from_is_err_and}
use Rattle.blocks.specs.Lines.{lent}
use Rattle.blocks.proofs.Cuts.{lent_from}
use Rattle.blocks.proofs.Packed.{Packable, fine_from_checked, fault_answered, none_packed, line_added, not_added, all_packed}
use Rattle.blocks.proofs.packing.pack.Goals as goal

pub returns-in_err-check_lines : goal.returns-in_err-check_lines
returns-in_err-check_lines c =
    let p = err_from_is_err_and c.from_residual.result c.from_residual.ensures.1 in
    rw (p.1, p.2) (fault_answered (lent c.args.lines.now) _ (sym c.in_err-check_lines.ensures))

pub loop-line-init : goal.loop-line-init
loop-line-init c =
    let new = c.new-packer.ensures in
    let lines = lent c.args.lines.now in
    none_packed lines c.new-packer.result (fine_from_checked 0 lines (sym c.in_ok-check_lines.ensures)) new.0 new.1 new.2

pub add-requires : goal.add-requires
add-requires c =
    let s = rw (lent_from c.args.lines.now c.loop-line.line-index c.loop-line-test.true) at c.loop-line.invariant in
    (All-head Packable _ _ s.later).0

pub returns-in_err-add : goal.returns-in_err-add
returns-in_err-add c =
    let s = rw (lent_from c.args.lines.now c.loop-line.line-index c.loop-line-test.true) at c.loop-line.invariant in
    let p = err_from_is_err_and c.from_residual-in_err-add.result c.from_residual-in_err-add.ensures.1 in
    rw (p.1, p.2) (not_added _ _ _ c.loop-line.packer c.add.new.self _ (sym c.in_ok-check_lines.ensures) s c.in_err-add.ensures)

pub loop-line-preserved : goal.loop-line-preserved
loop-line-preserved c =
    let s = rw (lent_from c.args.lines.now c.loop-line.line-index c.loop-line-test.true) at c.loop-line.invariant in
    line_added _ _ _ c.loop-line.packer c.add.new.self s c.in_ok-add.ensures

pub returns : goal.returns
returns c =
    let s = rw (at_drop_all lent c.args.lines.now c.loop-line.line-index c.loop-line-test.false) at c.loop-line.invariant in
    all_packed _ c.loop-line.packer c.finish.result (sym c.in_ok-check_lines.ensures) s c.finish.ensures
