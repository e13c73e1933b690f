-- What a line of a job can say and how it is written. Every order has one spelling, so a line is read by asking which
-- order, if any, is spelled so. Assumes nothing.
use Rattle.std.specs.Prelude.{◌≡◌, ℕ, ◌^◌, ◌<◌, List, [], ◌∷◌, ◌++◌, length, ℤ, Ok, Err, codes, Result, unsigned_abs}
use Rattle.std.specs.Fmt.{signed_decimal}
use Rattle.terms.specs.declared.Refusal.{Refusal}
use Rattle.terms.specs.declared.Refusal.TheVariants.{NotAnOrder}
use Rattle.lines.specs.declared.Kind.{Kind}
use Rattle.lines.specs.declared.Kind.TheVariants.{Sum, Worst, SumWorst}
use Rattle.lines.specs.declared.Line.{Line}
use Rattle.lines.specs.declared.Line.TheVariants.{Note, Head, Use, Corner, Close, Move, Ban, Lift, Fill, Standing}

pub data Order : Type 0 where
  note : (text : List ℕ) → Order
  head : (serial reach stiffness : ℤ) → Order
  in_use : (serial : ℤ) → Order
  corner : (x y z : ℤ) → Order
  close : Kind → Order
  move : (c x y z : ℤ) → Order
  ban : (i k j : ℤ) → Order
  lift : (i k j : ℤ) → Order
  fill : Order
  standing : Order

-- numbers, each after one space, in decimal: `-` before a negative one, no leading zero, no `-0`
abbrev pub spaced : List ℤ → List ℕ
spaced [] = []
spaced (z ∷ zs) = codes " " ++ (signed_decimal z ++ spaced zs)

abbrev pub name_of : Kind → List ℕ
name_of Sum = codes "sum"
name_of Worst = codes "worst"
name_of SumWorst = codes "sum-worst"

-- the bytes of an order
abbrev pub written : Order → List ℕ
written (note text) = codes "note " ++ text
written (head serial reach stiffness) = codes "head" ++ spaced (serial ∷ reach ∷ stiffness ∷ [])
written (in_use serial) = codes "use" ++ spaced (serial ∷ [])
written (corner x y z) = codes "corner" ++ spaced (x ∷ y ∷ z ∷ [])
written (close kind) = codes "close " ++ name_of kind
written (move c x y z) = codes "move" ++ spaced (c ∷ x ∷ y ∷ z ∷ [])
written (ban i k j) = codes "ban" ++ spaced (i ∷ k ∷ j ∷ [])
written (lift i k j) = codes "lift" ++ spaced (i ∷ k ∷ j ∷ [])
written fill = codes "fill"
written standing = codes "standing"

-- a number of at most ten digits
abbrev pub Short : ℤ → Type 0
Short z = unsigned_abs z < 10 ^ 10

-- the orders that a line may hold: short numbers, and a note that says something
abbrev pub Lawful : Order → Type 0
Lawful (note text) = 0 < length text
Lawful (head serial reach stiffness) = Short serial × Short reach × Short stiffness
Lawful (in_use serial) = Short serial
Lawful (corner x y z) = Short x × Short y × Short z
Lawful (close kind) = Unit {0}
Lawful (move c x y z) = Short c × Short x × Short y × Short z
Lawful (ban i k j) = Short i × Short k × Short j
Lawful (lift i k j) = Short i × Short k × Short j
Lawful fill = Unit {0}
Lawful standing = Unit {0}

-- the bytes spell the order
abbrev pub Spells : List ℕ → Order → Type 0
Spells bytes o = Lawful o × (bytes ≡ written o)

-- no bytes spell two orders
abbrev pub OneReading : Type 0
OneReading = (bytes : List ℕ) (o p : Order) → Spells bytes o → Spells bytes p → o ≡ p

-- what a line's value says
abbrev pub said : Line → Order
said (Note text) = note text.now
said (Head serial reach stiffness) = head serial reach stiffness
said (Use serial) = in_use serial
said (Corner x y z) = corner x y z
said (Close kind) = close kind
said (Move c x y z) = move c x y z
said (Ban i k j) = ban i k j
said (Lift i k j) = lift i k j
said Fill = fill
said Standing = standing

-- a line is read as the order that its bytes spell, and refused with 5 exactly where they spell none
abbrev pub Reads : List ℕ → Result Line Refusal → Type 0
Reads bytes (Ok line) = Spells bytes (said line)
Reads bytes (Err refusal) = (refusal ≡ NotAnOrder) × ((o : Order) → Spells bytes o → ⊥)
