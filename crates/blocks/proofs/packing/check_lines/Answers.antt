use Rattle.std.proofs.Common.{◌≡◌, true, false, sym, ◌∙◌, arith}
use Rattle.std.specs.Prelude.{◌==◌}
use Rattle.std.specs.List.{list_any}
use Rattle.std.proofs.lemmas.Bool.Decides.{nat_tests}
use Rattle.blocks.proofs.Cuts.{broken_if, lent_from, line_at}
use Rattle.blocks.proofs.packing.check_lines.Goals as goal

pub returns-then-contains : goal.returns-then-contains
returns-then-contains c =
    let line = line_at c.args.lines.now c.loop-i.i in
    let l = lent_from c.args.lines.now c.loop-i.i c.loop-i-test.true in
    let b = broken_if line in
    let t : list_any (λ b. b == 10) line ≡ true = sym c.contains.ensures.value ∙ c.if-contains.true in
    let i = c.loop-i.invariant in
    let s = c.if-line-gt-LINE_MAX.false in
    grind (arith, nat_tests)

pub loop-i-preserved : goal.loop-i-preserved
loop-i-preserved c =
    let line = line_at c.args.lines.now c.loop-i.i in
    let l = lent_from c.args.lines.now c.loop-i.i c.loop-i-test.true in
    let b = broken_if line in
    let t : list_any (λ b. b == 10) line ≡ false = sym c.contains.ensures.value ∙ c.if-contains.false in
    let i = c.loop-i.invariant in
    let s = c.if-line-gt-LINE_MAX.false in
    grind (arith, nat_tests)
