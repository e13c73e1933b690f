-- What the calls that read a job answer. Assumes nothing.
use Rattle.std.specs.Prelude.{◌≡◌, ℕ, ◌+◌, cond, List, [], ◌∷◌, length, take, drop, Some, None, Ok, Err, Option, Result, nat_lt}
use Rattle.std.specs.Borrow.{Bor}
use Rattle.terms.specs.declared.Refusal.{Refusal}
use Rattle.terms.specs.declared.Refusal.TheVariants.{EndsInsideBlock}
use Rattle.blocks.specs.declared.reader.PlacedLine.{PlacedLine}
use Rattle.blocks.specs.declared.reader.Reader.{Reader}
use Rattle.blocks.specs.Layout.{text_of, verdict}
use Rattle.blocks.specs.Lines.{cut, placed}

-- the lines that a reader has still to hand out
abbrev pub to_come : Reader → List (ℕ × List ℕ)
to_come reader = placed (4 + reader.done) (cut (drop reader.done (text_of reader.block.now)))

-- a reader hands out the first line that is to come, and the others are to come after it, of the same block
abbrev pub HandsOut : Reader → Option PlacedLine → Reader → Type 0
HandsOut before None after = (to_come before ≡ []) × (after ≡ before)
HandsOut before (Some line) after =
    (to_come before ≡ (line.offset, line.bytes.now) ∷ to_come after) × (after.block.now ≡ before.block.now)

-- what the next block of a job is judged to be: 1 where fewer than 512 bytes are left
abbrev pub judged : List ℕ → ℕ → Result (Unit {0}) Refusal
judged rest next = cond (nat_lt (length rest) 512) (Err EndsInsideBlock) (verdict (take 512 rest) next)

-- the first 512 bytes of what is left, where they pass, and else the refusal
abbrev pub Opens : List ℕ → ℕ → Result (Bor (List ℕ)) Refusal → Type 0
Opens rest next (Ok block) = (judged rest next ≡ Ok tt) × (block.now ≡ take 512 rest)
Opens rest next (Err refusal) = judged rest next ≡ Err refusal
