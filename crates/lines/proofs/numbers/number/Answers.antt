-- `parse` reads more words than those that numbers write: the form of the word rules the others out.
use Rattle.std.proofs.Common.{◌≡◌, refl, IsUtf8, arith, sym, subst}
use Rattle.std.proofs.lemmas.Grind.{common_steps}
use Rattle.lines.specs.Numbers.{IsFormed}
use Rattle.lines.proofs.Figures.{signed_formed, signed_utf8, reads}
use Rattle.lines.proofs.numbers.number.Goals as goal

pub returns-then-not-is_formed : goal.returns-then-not-is_formed
returns-then-not-is_formed c =
    λ z s e.
    let h = c.if-not-is_formed.ensures.1 (subst IsFormed (sym e) (signed_formed z s)) in
    cc

pub returns-in_err-ok : goal.returns-in_err-ok
returns-in_err-ok c =
    let no_text : IsUtf8 c.args.word.now → ⊥ = λ u. grind (arith, common_steps) in
    rw c.from_residual.ensures (λ z s e. no_text (subst IsUtf8 (sym e) (signed_utf8 z s)))

pub returns : goal.returns
returns c =
    let same : c.in_ok-ok.field-0.now ≡ c.args.word.now = grind (arith, common_steps) in
    reads c.args.word.now c.parse.result c.ok-2.result (c.if-not-is_formed.ensures.0 refl) (rw same at c.parse.ensures.value.0) c.ok-2.ensures.value
