-- Words at the front of a line: which one it is, and that it is no other.
use Rattle.std.proofs.Common.{◌≡◌, ℕ, ◌≤◌, List, [], ◌∷◌, ◌++◌, length, Some, Option, find, subst, ap, refl, rules, nat_eq}
use Rattle.std.specs.List.{starts_with}
use Rattle.std.proofs.lemmas.Slice.Eq.{HasBytesAt}
use Rattle.std.proofs.lemmas.List.{append_cancel_left}
use Rattle.lines.specs.declared.words.Word.{Word}
use Rattle.lines.specs.declared.words.Word.TheVariants.{Note, Head, Use, Corner, Close, Move, Ban, Lift, Fill, Standing}
use Rattle.lines.specs.Words.{spelling}

-- the word's bytes are read one by one at the front of the bytes
abbrev pub Stands : List ℕ → Word → Type 0
Stands bytes w = (length (spelling w) ≤ length bytes) × HasBytesAt bytes 0 (spelling w)

pub stands : (w : Word) (rest : List ℕ) → Stands (spelling w ++ rest) w
stands Note rest = search rules
stands w rest = search rules

-- no word begins another, so that each is found where it stands
abbrev found : List ℕ → Option Word
found bytes = find (λ w. starts_with nat_eq bytes (spelling w)) (Note ∷ Head ∷ Use ∷ Corner ∷ Close ∷ Move ∷ Ban ∷ Lift ∷ Fill ∷ Standing ∷ [])

finds : (w : Word) (rest : List ℕ) → found (spelling w ++ rest) ≡ Some w
finds Note rest = refl
finds w rest = refl

-- one word and one rest
pub same_front : (v w : Word) (rest more : List ℕ) → spelling v ++ rest ≡ spelling w ++ more → (v ≡ w) × (rest ≡ more)
same_front v w rest more e =
    let f = finds v rest in
    let g = finds w more in
    let h = ap found e in
    let s : v ≡ w = cc in
    (s, append_cancel_left (spelling w) rest more (subst (λ x. spelling x ++ rest ≡ spelling w ++ more) s e))
