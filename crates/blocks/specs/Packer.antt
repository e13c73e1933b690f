-- For the private functions: what the steps of packing make of a packer. Assumes nothing.
use Rattle.std.specs.Prelude.{◌≡◌, ℕ, ◌+◌, ◌<◌, ◌≤◌, true, false, List, [], ◌∷◌, ◌++◌, length, Ok, Err, vec_items, Result, Vec}
use Rattle.std.specs.Bool.{MatchBool}
use Rattle.std.specs.declared.alloc.Global.{Global}
use Rattle.blocks.specs.declared.packing.PackError.{PackError}
use Rattle.blocks.specs.declared.packing.PackError.TheVariants.{TooManyBlocks, OutOfMemory}
use Rattle.blocks.specs.declared.packer.Packer.{Packer}
use Rattle.blocks.specs.Layout.{ended, verdict}
use Rattle.blocks.specs.Packing.{block_of, has_room}

-- a job is what it was and the open block behind that, which passes its check
abbrev pub Seals : Packer → List ℕ → Type 0
Seals packer job =
    let block = block_of packer.number (vec_items packer.text) in
    (job ≡ vec_items packer.job ++ block) × (ended (vec_items packer.text) ≡ true → verdict block packer.number ≡ Ok tt)

-- a line was put into the open block, or into the next, where the open one had no room for it
abbrev pub Adds : Packer → List ℕ → Result (Unit {0}) PackError → Packer → Type 0
Adds before line (Ok done) after =
    MatchBool (has_room (vec_items before.text) line)
    ((vec_items after.job ≡ vec_items before.job) × (after.number ≡ before.number) × (vec_items after.text ≡ vec_items before.text ++ (line ++ (10 ∷ []))))
    (Seals before (vec_items after.job) × (after.number ≡ before.number + 1) × (after.number < 65536) × (vec_items after.text ≡ line ++ (10 ∷ [])))
Adds before line (Err TooManyBlocks) after = (has_room (vec_items before.text) line ≡ false) × (65536 ≤ before.number + 1)
Adds before line (Err e) after = e ≡ OutOfMemory

-- the open block is put behind the others, unless it is empty
abbrev pub Finishes : Packer → Result (Vec ℕ Global) PackError → Type 0
Finishes packer (Ok job) =
    (length (vec_items packer.text) ≡ 0 → vec_items job ≡ vec_items packer.job)
    × (0 < length (vec_items packer.text) → Seals packer (vec_items job))
Finishes packer (Err e) = e ≡ OutOfMemory
