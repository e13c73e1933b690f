use Rattle.std.proofs.Common.{◌≡◌, ℕ, ◌++◌, List, Ok, OnOk, Result, true, vec_items, ap, sym, ◌∙◌, rules}
use Rattle.std.proofs.lemmas.Result.{on_ok_weaker}
use Rattle.std.specs.declared.alloc.AllocError.{AllocError}
use Rattle.blocks.specs.declared.packer.Packer.{Packer}
use Rattle.blocks.specs.Layout.{ended, verdict}
use Rattle.blocks.specs.Packing.{block_of}
use Rattle.blocks.specs.Packer.{Seals}
use Rattle.blocks.proofs.packer.Packer.seal.Goals as goal

sealed : (r : Result (Unit {0}) AllocError) (packer : Packer) (job block : List ℕ) → block ≡ block_of packer.number (vec_items packer.text) → (ended (vec_items packer.text) ≡ true → verdict block packer.number ≡ Ok tt) → OnOk r (job ≡ vec_items packer.job ++ block) → OnOk r (Seals packer job)
sealed r packer job block v p = on_ok_weaker {Q = Seals packer job} r (λ e. (e ∙ ap (λ b. vec_items packer.job ++ b) v, λ h. ap (λ b. verdict b packer.number) (sym v) ∙ p h))

pub returns-clause-job : goal.returns-clause-job
returns-clause-job c = sealed _ c.args.self.now c.extend_from_slice.new.self.items c.block-block.result c.block-block.ensures.value c.block-block.ensures.passes (search rules)
