use Rattle.std.proofs.Common.{◌≡◌, ℕ, ◌+◌, ◌<◌, ◌≤◌, ◌∷◌, [], ◌++◌, Option, Some, None, Result, Ok, Err, SomeIff, true, false, vec_items, append_assoc, ap, ◌∙◌, arith}
use Rattle.std.specs.Option.{ok_or}
use Rattle.std.proofs.lemmas.Result.{err_from_is_err_and}
use Rattle.std.proofs.lemmas.Bool.{le-leb, lt-leb}
use Rattle.blocks.specs.declared.packing.PackError.{PackError}
use Rattle.blocks.specs.declared.packing.PackError.TheVariants.{TooManyBlocks}
use Rattle.blocks.specs.Packing.{has_room}
use Rattle.blocks.proofs.packer.Packer.add.Goals as goal
use Rattle.blocks.proofs.packer.Packer.add.Goals.{then-len-line-gt-TEXT_MAX+in_ok-seal+in_ok-self, else-len-line-gt-TEXT_MAX}

no_more : (o : Option ℕ) (n : ℕ) (e : PackError) → SomeIff o (n + 1 < 65536) (n + 1) → ◌≡◌ {A = Result ℕ PackError} (Err e) (ok_or o TooManyBlocks) → (e ≡ TooManyBlocks) × (65536 ≤ n + 1)
no_more None n e r q = (cc, omega (arith, r))
no_more (Some m) n e r q = absurd (let z : ◌≡◌ {A = ℕ} 0 1 = cc in omega arith)

some_more : (o : Option ℕ) (n m : ℕ) → SomeIff o (n + 1 < 65536) (n + 1) → ◌≡◌ {A = Result ℕ PackError} (Ok m) (ok_or o TooManyBlocks) → (m ≡ n + 1) × (m < 65536)
some_more None n m r q = absurd (let z : ◌≡◌ {A = ℕ} 0 1 = cc in omega arith)
some_more (Some k) n m r q = let e : m ≡ k = cc in (e ∙ r.1, omega (arith, r.0, r.1))

pub returns-in_err-self : goal.returns-in_err-self
returns-in_err-self c =
    let packer = c.args.self.now in
    let p = err_from_is_err_and c.from_residual-in_err-self.result c.from_residual-in_err-self.ensures.1 in
    let none = no_more c.checked_add.result packer.number c.in_err-self.field-0.0 (rw c.in_ok-seal.ensures.rest.0 at c.checked_add.ensures) c.in_err-self.ensures.value in
    let full : has_room (vec_items packer.text) c.args.line.now ≡ false = lt-leb _ _ (omega (arith, c.if-len-line-gt-TEXT_MAX.true, c.len.ensures, packer.text.ok.0)) in
    rw (p.1, p.2, none.0) (full, none.1)

pub returns : goal.returns
returns c =
    let packer = c.args.self.now in
    let text = vec_items packer.text in
    let line = c.args.line.now in
    let added = c.in_ok-extend_from_slice-2.ensures.items ∙ ap (λ t. t ++ (10 ∷ [])) c.in_ok-extend_from_slice.ensures.items ∙ append_assoc _ line (10 ∷ []) in
    elim c.if-len-line-gt-TEXT_MAX.branch [
      | then-len-line-gt-TEXT_MAX+in_ok-seal+in_ok-self w ↦
          let full : has_room text line ≡ false = lt-leb _ _ (omega (arith, w.if-len-line-gt-TEXT_MAX.true, c.len.ensures, packer.text.ok.0)) in
          let next = some_more w.checked_add.result packer.number w.in_ok-self.field-0 (rw w.in_ok-seal.ensures.rest.0 at w.checked_add.ensures) w.in_ok-self.ensures.value in
          let number = ap (λ s. s.1.1.0) w.self-is in
          rw full (
            rw (ap (λ s. vec_items s.1.0) w.self-is) w.in_ok-seal.ensures.job,
            number ∙ next.0,
            omega (arith, number, next.1),
            added ∙ ap (λ s. vec_items s.1.1.1.0 ++ (line ++ (10 ∷ []))) w.self-is ∙ ap (λ t. t ++ (line ++ (10 ∷ []))) w.clear.ensures.items,
          )
      | else-len-line-gt-TEXT_MAX w ↦
          let room : has_room text line ≡ true = le-leb _ _ (omega (arith, w.if-len-line-gt-TEXT_MAX.false, c.len.ensures, packer.text.ok.0)) in
          rw room
          (ap (λ s. vec_items s.1.0) w.self-is, ap (λ s. s.1.1.0) w.self-is, added ∙ ap (λ s. vec_items s.1.1.1.0 ++ (line ++ (10 ∷ []))) w.self-is)
    ]
