use Rattle.std.proofs.Common.{◌≡◌, ℕ, ◌≤◌, Result, List, length, take, sym, ap, ◌∙◌}
use Rattle.std.proofs.lemmas.Bool.{le-ltb}
use Rattle.std.proofs.lemmas.Result.{err_from_is_err_and}
use Rattle.terms.specs.declared.Refusal.{Refusal}
use Rattle.blocks.specs.Layout.{verdict}
use Rattle.blocks.specs.Reading.{judged}
use Rattle.blocks.proofs.check.next_block.Goals as goal

-- where 512 bytes are left, they are what is judged
judged_full : (rest block : List ℕ) (next : ℕ) (r : Result (Unit {0}) Refusal) → 512 ≤ length rest → block ≡ take 512 rest → r ≡ verdict block next → judged rest next ≡ r
judged_full rest block next r h same e = rw (le-ltb (length rest) 512 h) (sym (e ∙ ap (λ b. verdict b next) same))

pub returns-in_err-check_block : goal.returns-in_err-check_block
returns-in_err-check_block c =
    let p = err_from_is_err_and c.from_residual-in_err-check_block.result c.from_residual-in_err-check_block.ensures.1 in
    let front = rw c.in_ok-block.ensures.ok_part at c.first_chunk.ensures.cases in
    rw (p.1, p.2) (judged_full c.args.rest.now _ c.args.next _ front.enough front.same c.in_err-check_block.ensures)

pub returns : goal.returns
returns c =
    let front = rw c.in_ok-block.ensures.ok_part at c.first_chunk.ensures.cases in
    (judged_full c.args.rest.now _ c.args.next _ front.enough front.same c.in_ok-check_block.ensures, front.same)
