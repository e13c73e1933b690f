use Rattle.std.proofs.Common.{vec_items, sym, ap, arith}
use Rattle.std.proofs.lemmas.Bool.{eqb-true, eqb-false}
use Rattle.blocks.proofs.packer.Packer.finish.Goals as goal
use Rattle.blocks.proofs.packer.Packer.finish.Goals.{then-not-is_empty+in_ok-seal, else-not-is_empty}

pub returns : goal.returns
returns c =
    let packer = c.args.self in
    elim c.if-not-is_empty.branch [
      | then-not-is_empty+in_ok-seal w ↦
          let some = eqb-false _ 0 (sym w.if-not-is_empty.ensures) in
          (λ e. absurd (omega (arith, some, e, packer.text.ok.0)), λ h. rw (ap (λ s. vec_items s.job) w.self-is) w.in_ok-seal.ensures.job)
      | else-not-is_empty w ↦
          let none = eqb-true _ 0 (sym w.if-not-is_empty.ensures) in
          (λ e. ap (λ s. vec_items s.job) w.self-is, λ h. absurd (omega (arith, none, h, packer.text.ok.0)))
    ]
