use Rattle.std.proofs.Common.{subst, sym, arith}
use Rattle.lines.specs.declared.words.Word.TheVariants.{Note, Head, Use, Corner, Close, Move, Ban, Lift, Fill, Standing}
use Rattle.lines.proofs.Fronts.{Stands, stands}
use Rattle.lines.proofs.words.split_word.Goals as goal

pub returns-in_default : goal.returns-in_default
returns-in_default c =
    λ w rest e.
    let s = subst (λ b. Stands b w) (sym e) (stands w rest) in
    elim w as (λ w. Stands c.args.bytes.now w → ⊥) [
      | Note ↦ λ s. grind arith
      | Head ↦ λ s. grind arith
      | Use ↦ λ s. grind arith
      | Corner ↦ λ s. grind arith
      | Close ↦ λ s. grind arith
      | Move ↦ λ s. grind arith
      | Ban ↦ λ s. grind arith
      | Lift ↦ λ s. grind arith
      | Fill ↦ λ s. grind arith
      | Standing ↦ λ s. grind arith
    ] s
