use Rattle.std.proofs.Common.{◌≡◌, ◌-◌, ◌∷◌, length, take, drop, rules}
use Rattle.std.proofs.lemmas.List.{take_rest, drop_more}
use Rattle.lines.proofs.Figures.{word_leads, word_not}
use Rattle.lines.proofs.numbers.next_number.Goals as goal

pub returns-in_err-number : goal.returns-in_err-number
returns-in_err-number c =
    let rest = c.args.rest.now in
    let split : rest ≡ 32 ∷ take (length rest - 1) (drop 1 rest) = search (rules, drop_more rest 0 0, take_rest rest 1) in
    let cut = c.split_at.ensures in
    rw c.from_residual.ensures (word_not split c.len_before.ensures.value cut.front cut.back c.in_err-number.ensures)

pub returns : goal.returns
returns c =
    let rest = c.args.rest.now in
    let split : rest ≡ 32 ∷ take (length rest - 1) (drop 1 rest) = search (rules, drop_more rest 0 0, take_rest rest 1) in
    let cut = c.split_at.ensures in
    let h = c.in_ok-number.ensures in
    word_leads split c.len_before.ensures.value cut.front cut.back c.in_ok-number.field-0 h.0 h.1
