-- Numbers that stand one after another, each after a space. This serves the private functions of src/numbers.rt: the
-- public definition of a line is in Grammar. Assumes nothing.
use Rattle.std.specs.Prelude.{◌≡◌, ℕ, ◌<◌, ◌≤◌, List, ◌++◌, length, ℤ, codes, Option, MatchOption, All, ◌≢◌, slice_index}
use Rattle.std.specs.Borrow.{Bor}
use Rattle.std.specs.Fmt.{signed_decimal}
use Rattle.lines.specs.Grammar.{Short, spaced}

-- nothing, or a space first
abbrev pub Ends : List ℕ → Type 0
Ends more = 0 < length more → slice_index more 0 ≡ 32

-- no `+`, no `-0`, no zero before another byte, and at most ten bytes after an optional `-`
pub record IsFormed (word : List ℕ) : Type 0 where
  pub plus : slice_index word 0 ≢ 43
  pub minus : slice_index word 0 ≡ 45 → (slice_index word 1 ≢ 48) × (length word ≤ 11)
  pub plain : slice_index word 0 ≢ 45 → length word ≤ 10
  pub padding : slice_index word 0 ≡ 48 → length word ≤ 1

-- the number of at most ten digits that the word writes, or none where it writes none
abbrev pub NumberIn : List ℕ → Option ℤ → Type 0
NumberIn word r = MatchOption r ((z : ℤ) → Short z → word ≢ signed_decimal z) (λ z. Short z × (word ≡ signed_decimal z))

-- the bytes are a space, the number, and what follows it
abbrev pub Leads : List ℕ → ℤ → List ℕ → Type 0
Leads bytes z more = Short z × Ends more × (bytes ≡ codes " " ++ (signed_decimal z ++ more))

-- the number that leads the bytes with what follows it, or none where no number leads them
abbrev pub NextIn : List ℕ → Option (ℤ × Bor (List ℕ)) → Type 0
NextIn bytes r = MatchOption r ((z : ℤ) (more : List ℕ) → Leads bytes z more → ⊥) (λ p. Leads bytes p.0 p.1.now)

-- the bytes are these numbers, all of at most ten digits
abbrev pub Lists : List ℕ → List ℤ → Type 0
Lists bytes zs = All Short zs × (bytes ≡ spaced zs)

-- the bytes are not so many numbers
abbrev pub NoneOf : ℕ → List ℕ → Type 0
NoneOf n bytes = (zs : List ℤ) → length zs ≡ n → Lists bytes zs → ⊥
