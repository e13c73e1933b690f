-- What is found in a line, piece by piece. This serves the private functions of src/lib.rt: the public definition of a
-- line is in Grammar. Assumes nothing.
use Rattle.std.specs.Prelude.{◌≡◌, ℕ, ◌<◌, List, ◌++◌, length, codes, Option, MatchOption, ◌≢◌}
use Rattle.std.specs.Borrow.{Bor}
use Rattle.lines.specs.declared.Kind.{Kind}
use Rattle.lines.specs.declared.Line.{Line}
use Rattle.lines.specs.Grammar.{Order, name_of, Spells, said}

-- the order that the bytes spell, or none where they spell none
abbrev pub OrderIn : List ℕ → Option Line → Type 0
OrderIn bytes r = MatchOption r ((o : Order) → Spells bytes o → ⊥) (λ line. Spells bytes (said line))

-- what follows one space, or none where nothing does
abbrev pub TextIn : List ℕ → Option (Bor (List ℕ)) → Type 0
TextIn bytes r = MatchOption r ((t : List ℕ) → 0 < length t → bytes ≢ codes " " ++ t) (λ t. (0 < length t.now) × (bytes ≡ codes " " ++ t.now))

-- the kind whose name follows one space, or none where no kind's name does
abbrev pub KindIn : List ℕ → Option Kind → Type 0
KindIn bytes r = MatchOption r ((k : Kind) → bytes ≢ codes " " ++ name_of k) (λ k. bytes ≡ codes " " ++ name_of k)
