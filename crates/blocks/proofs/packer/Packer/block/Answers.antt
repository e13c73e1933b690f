use Rattle.std.proofs.Common.{refl, ◌∙◌, arith}
use Rattle.blocks.proofs.Sealed.{block_written, block_passes}
use Rattle.blocks.proofs.packer.Packer.block.Goals as goal

pub returns : goal.returns
returns c =
    let packer = c.args.self.now in
    let used = c.len-used.result in
    let check = c.sum_of-check in
    let first = c.copy_from_slice.ensures.after ∙ c.to_le_bytes.ensures in
    let second = c.copy_from_slice-2.ensures.after ∙ c.to_le_bytes-2.ensures in
    let third = c.copy_from_slice-3.ensures.after ∙ c.deref.ensures.value in
    let last = c.copy_from_slice-4.ensures.after ∙ c.to_le_bytes-3.ensures in
    record {
      value = block_written packer.number used packer.text.items _ _ _ _ refl first second (omega arith) third packer.fits check.result _ check.ensures last;
      passes = block_passes packer.number used packer.text.items _ _ _ _ refl first second (omega arith) third packer.fits check.result _ check.ensures last (omega arith) (omega arith);
    }
