-- The words that orders begin with. This serves the private functions of src/words.rt: the public definition of a line
-- is in Grammar. Assumes nothing.
use Rattle.std.specs.Prelude.{◌≡◌, ℕ, List, ◌++◌, codes, Option, MatchOption, ◌≢◌}
use Rattle.std.specs.Borrow.{Bor}
use Rattle.lines.specs.declared.words.Word.{Word}
use Rattle.lines.specs.declared.words.Word.TheVariants.{Note, Head, Use, Corner, Close, Move, Ban, Lift, Fill, Standing}

abbrev pub spelling : Word → List ℕ
spelling Note = codes "note"
spelling Head = codes "head"
spelling Use = codes "use"
spelling Corner = codes "corner"
spelling Close = codes "close"
spelling Move = codes "move"
spelling Ban = codes "ban"
spelling Lift = codes "lift"
spelling Fill = codes "fill"
spelling Standing = codes "standing"

-- the bytes are a word and what follows it, or begin with no word
abbrev pub Splits : List ℕ → Option (Word × Bor (List ℕ)) → Type 0
Splits bytes r = MatchOption r ((w : Word) (rest : List ℕ) → bytes ≢ spelling w ++ rest) (λ p. bytes ≡ spelling p.0 ++ p.1.now)
