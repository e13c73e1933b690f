-- How lines are packed into blocks, and what a job of blocks holds. Assumes nothing.
use Rattle.std.specs.Prelude.{◌≡◌, ℕ, ◌+◌, ◌-◌, ◌/◌, ◌%◌, ◌<◌, ◌≤◌, Bool, cond, List, [], ◌∷◌, ◌++◌, length, replicate, Ok, Err, vec_items, Result, Vec, nat_le, nat_lt}
use Rattle.std.specs.declared.alloc.Global.{Global}
use Rattle.std.specs.List.{prefix_len}
use Rattle.blocks.specs.declared.packing.PackError.{PackError}
use Rattle.blocks.specs.declared.packing.PackError.TheVariants.{LineTooLong, LineBroken, TooManyBlocks, OutOfMemory}
use Rattle.blocks.specs.Layout.{weighted, text_of, verdict}
use Rattle.blocks.specs.Lines.{cut, in_line, text_from}

-- a number in two or four bytes, the lowest byte first
abbrev pub bytes16 : ℕ → List ℕ
bytes16 n = (n % 256) ∷ (n / 256 % 256) ∷ []

abbrev pub bytes32 : ℕ → List ℕ
bytes32 n = (n % 256) ∷ (n / 256 % 256) ∷ (n / 65536 % 256) ∷ (n / 16777216 % 256) ∷ []

-- a block without its check: its number, the used length, the text and zeros up to offset 507
unfoldable pub body_of : ℕ → List ℕ → List ℕ
body_of number text = bytes16 number ++ (bytes16 (length text) ++ (text ++ replicate (504 - length text) 0))

-- the block of a number and a text
unfoldable pub block_of : ℕ → List ℕ → List ℕ
block_of number text = body_of number text ++ bytes32 (weighted 1 (body_of number text))

-- whether a line and its byte 10 have room behind a text in one block
abbrev pub has_room : List ℕ → List ℕ → Bool
has_room text line = nat_le (length text + length line + 1) 504

-- whether a line has room behind others in one block
abbrev pub fits : List (List ℕ) → List ℕ → Bool
fits group line = has_room (text_from group) line

-- a group that has begun is the last one, unless it is empty
abbrev pub begun : List (List ℕ) → List (List (List ℕ))
begun [] = []
begun (line ∷ group) = (line ∷ group) ∷ []

-- lines in groups, each of as many as fit a block, where the first group has begun
abbrev pub grouped : List (List ℕ) → List (List ℕ) → List (List (List ℕ))
grouped group [] = begun group
grouped group (line ∷ lines) =
    cond (fits group line) (grouped (group ++ (line ∷ [])) lines) (group ∷ grouped (line ∷ []) lines)

-- a block for each group, numbered on from a number
abbrev pub blocks_from : ℕ → List (List (List ℕ)) → List ℕ
blocks_from number [] = []
blocks_from number (group ∷ groups) = block_of number (text_from group) ++ blocks_from (number + 1) groups

-- the bytes of a job hold lines: block by block, each passes its check with the next number and holds the lines of its text
pub data Holds : ℕ → List ℕ → List (List ℕ) → Type 0 where
  nothing : {next : ℕ} → Holds next [] []
  block :
      (next : ℕ) (bytes rest : List ℕ) (lines : List (List ℕ)) →
      length bytes ≡ 512 →
      verdict bytes next ≡ Ok tt →
      Holds (next + 1) rest lines →
      Holds next (bytes ++ rest) (cut (text_of bytes) ++ lines)

-- what keeps the lines, counted on from k, out of every block: the first that is longer than 503 bytes or holds a byte 10
abbrev pub checked : ℕ → List (List ℕ) → Result (Unit {0}) PackError
checked k [] = Ok tt
checked k (line ∷ lines) =
    cond (nat_lt 503 (length line)) (Err (LineTooLong k))
    (cond (nat_lt (prefix_len in_line line) (length line)) (Err (LineBroken k)) (checked (k + 1) lines))

-- a packed job: its bytes are the blocks of the groups, and it holds the lines; a fault in a line is answered first, and
-- then that there are more than 65,536 blocks, which 16 bits cannot number
abbrev pub Packs : List (List ℕ) → Result (List ℕ) PackError → Type 0
Packs lines (Ok job) =
    (checked 0 lines ≡ Ok tt)
    × (length (grouped [] lines) ≤ 65536)
    × (job ≡ blocks_from 0 (grouped [] lines))
    × Holds 0 job lines
Packs lines (Err TooManyBlocks) = (checked 0 lines ≡ Ok tt) × (65536 < length (grouped [] lines))
Packs lines (Err OutOfMemory) = Unit {0}
Packs lines (Err (LineTooLong k)) = checked 0 lines ≡ Err (LineTooLong k)
Packs lines (Err (LineBroken k)) = checked 0 lines ≡ Err (LineBroken k)

-- the same of what `pack` answers: the bytes of the job that was made
abbrev pub items_of : Result (Vec ℕ Global) PackError → Result (List ℕ) PackError
items_of (Ok job) = Ok (vec_items job)
items_of (Err e) = Err e
