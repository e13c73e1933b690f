-- The lines of a text, and where they stand. Assumes nothing.
use Rattle.std.specs.Prelude.{◌≡◌, ℕ, ◌+◌, All, Bool, true, cond, not, List, [], ◌∷◌, ◌++◌, map, length, ◌==◌}
use Rattle.std.specs.Borrow.{Bor}
use Rattle.std.specs.List.{prefix_len}
use Rattle.blocks.specs.Layout.{ended, text_of}

-- a byte in front of the first line
abbrev pub onto : ℕ → List (List ℕ) → List (List ℕ)
onto b [] = (b ∷ []) ∷ []
onto b (line ∷ lines) = (b ∷ line) ∷ lines

-- a text cut after each byte 10, which belongs to no line
abbrev pub cut : List ℕ → List (List ℕ)
cut [] = []
cut (b ∷ bs) = cond (b == 10) ([] ∷ cut bs) (onto b (cut bs))

-- the text of some lines: each with byte 10 behind it
abbrev pub text_from : List (List ℕ) → List ℕ
text_from [] = []
text_from (line ∷ lines) = line ++ (10 ∷ text_from lines)

-- a byte that is not the one that stops, and so one that does not end a line
abbrev pub differs : ℕ → ℕ → Bool
differs stop b = not (b == stop)

abbrev pub in_line : ℕ → Bool
in_line b = differs 10 b

-- no byte of the line is 10
abbrev pub Unbroken : List ℕ → Type 0
Unbroken line = prefix_len in_line line ≡ length line

-- cutting loses nothing: the lines of a text that is empty or ends in byte 10 make up that text, and none holds a byte 10
abbrev pub CutsWhole : Type 0
CutsWhole = (text : List ℕ) → ended text ≡ true → (text_from (cut text) ≡ text) × All Unbroken (cut text)

-- each line with its place, where the first begins at a given one
abbrev pub placed : ℕ → List (List ℕ) → List (ℕ × List ℕ)
placed at [] = []
placed at (line ∷ lines) = (at, line) ∷ placed (at + length line + 1) lines

-- the lines of a block: those of its text, which begins at offset 4
abbrev pub lines_in : List ℕ → List (ℕ × List ℕ)
lines_in block = placed 4 (cut (text_of block))

-- the lines that are lent as references to their bytes
abbrev pub lent : List (Bor (List ℕ)) → List (List ℕ)
lent refs = map (λ line. line.now) refs
