-- Orders: the word, the numbers and the text of each, and that a line spells one order at most.
use Rattle.std.proofs.Common.{◌≡◌, ℕ, zero, suc, ◌+◌, ◌<◌, cond, eqb, List, [], ◌∷◌, ◌++◌, length, get_or, drop, ℤ, pos, sym, refl, ap, ◌∙◌, subst, arith, rules, w64, to_z, of_z, All}
use Rattle.std.specs.Fmt.{signed_decimal}
use Rattle.std.specs.List.{AllByRecursion}
use Rattle.std.proofs.lemmas.List.{append_assoc, append-nil, drop_more, drop_all}
use Rattle.std.proofs.lemmas.List.Elements.{All-from_recursion}
use Rattle.lines.specs.declared.Kind.{Kind}
use Rattle.lines.specs.declared.Kind.TheVariants.{Sum, Worst, SumWorst}
use Rattle.lines.specs.declared.words.Word.{Word}
use Rattle.lines.specs.declared.words.Word.TheVariants.{Note, Head, Use, Corner, Close, Move, Ban, Lift, Fill, Standing}
use Rattle.lines.specs.Grammar.{Order, note, head, in_use, corner, close, move, ban, lift, fill, standing, spaced, name_of, written, Short, Lawful, Spells, OneReading}
use Rattle.lines.specs.Numbers.{Ends, Leads, Lists, NoneOf}
use Rattle.lines.specs.Words.{spelling}
use Rattle.lines.proofs.Figures.{leads_same, passed}
use Rattle.lines.proofs.Fronts.{same_front}

-- an order's word, the numbers after it, and the text after those
abbrev word_of : Order → Word
word_of (note text) = Note
word_of (head serial reach stiffness) = Head
word_of (in_use serial) = Use
word_of (corner x y z) = Corner
word_of (close kind) = Close
word_of (move c x y z) = Move
word_of (ban i k j) = Ban
word_of (lift i k j) = Lift
word_of fill = Fill
word_of standing = Standing

abbrev numbers_of : Order → List ℤ
numbers_of (head serial reach stiffness) = serial ∷ reach ∷ stiffness ∷ []
numbers_of (in_use serial) = serial ∷ []
numbers_of (corner x y z) = x ∷ y ∷ z ∷ []
numbers_of (move c x y z) = c ∷ x ∷ y ∷ z ∷ []
numbers_of (ban i k j) = i ∷ k ∷ j ∷ []
numbers_of (lift i k j) = i ∷ k ∷ j ∷ []
numbers_of o = []

abbrev text_of : Order → List ℕ
text_of (note text) = 32 ∷ text
text_of (close kind) = 32 ∷ name_of kind
text_of o = []

-- how many numbers follow a word; where some do, no text follows them
abbrev pub arity : Word → ℕ
arity Head = 3
arity Use = 1
arity Corner = 3
arity Move = 4
arity Ban = 3
arity Lift = 3
arity w = 0

-- an order is known from its parts
abbrev kind_of : List ℕ → Kind
kind_of text = cond (eqb (length text) 4) Sum (cond (eqb (length text) 6) Worst SumWorst)

abbrev at : List ℤ → ℕ → ℤ
at zs i = get_or zs i (pos 0)

abbrev joined : Word → List ℤ → List ℕ → Order
joined Note zs text = note (drop 1 text)
joined Head zs text = head (at zs 0) (at zs 1) (at zs 2)
joined Use zs text = in_use (at zs 0)
joined Corner zs text = corner (at zs 0) (at zs 1) (at zs 2)
joined Close zs text = close (kind_of text)
joined Move zs text = move (at zs 0) (at zs 1) (at zs 2) (at zs 3)
joined Ban zs text = ban (at zs 0) (at zs 1) (at zs 2)
joined Lift zs text = lift (at zs 0) (at zs 1) (at zs 2)
joined Fill zs text = fill
joined Standing zs text = standing

joined_back : (o : Order) → joined (word_of o) (numbers_of o) (text_of o) ≡ o
joined_back (close Sum) = refl
joined_back (close Worst) = refl
joined_back (close SumWorst) = refl
joined_back o = refl

numbers_length : (o : Order) → length (numbers_of o) ≡ arity (word_of o)
numbers_length (note text) = refl
numbers_length o = refl

no_text : (o : Order) → 0 < arity (word_of o) → text_of o ≡ []
no_text (note text) h = absurd (omega arith)
no_text (close kind) h = absurd (omega arith)
no_text o h = refl

text_ends : (o : Order) → Ends (text_of o)
text_ends (note text) = λ h. refl
text_ends (close kind) = λ h. refl
text_ends o = λ h. omega arith

shorts : (o : Order) → Lawful o → AllByRecursion Short (numbers_of o)
shorts (note text) h = tt
shorts o h = search rules

-- what follows the word
abbrev after : Order → List ℕ
after o = spaced (numbers_of o) ++ text_of o

written_parts : (o : Order) → written o ≡ spelling (word_of o) ++ after o
written_parts (note text) = refl
written_parts (close kind) = refl
written_parts o = ap (λ t. spelling (word_of o) ++ t) (sym (append-nil (spaced (numbers_of o))))

-- bytes that begin with no word spell no order
pub no_front : (bytes : List ℕ) → ((w : Word) (rest : List ℕ) → bytes ≡ spelling w ++ rest → ⊥) → (o : Order) → Spells bytes o → ⊥
no_front bytes none o h = none (word_of o) (after o) (h.1 ∙ written_parts o)

-- a word that wants numbers, with other than so many of them after it, begins no order
pub no_order : {w v : Word} {rest : List ℕ} → v ≡ w → 0 < arity w → NoneOf (arity w) rest → (o : Order) → Spells (spelling v ++ rest) o → ⊥
no_order {w} {v} {rest} same some none o h =
    let p = same_front v (word_of o) rest (after o) (h.1 ∙ written_parts o) in
    let a : arity w ≡ arity (word_of o) = ap arity (sym same ∙ p.0) in
    let t : text_of o ≡ [] = no_text o (omega arith) in
    let whole : rest ≡ spaced (numbers_of o) = p.1 ∙ ap (λ l. spaced (numbers_of o) ++ l) t ∙ append-nil (spaced (numbers_of o)) in
    none (numbers_of o) (numbers_length o ∙ sym a) (All-from_recursion Short (numbers_of o) (shorts o h.0), whole)

-- the numbers of an array, one by one from place i, each as the program reads it
abbrev read : ℕ → ℕ → List ℤ → List ℤ
read zero i zs = []
read (suc n) i zs = to_z w64 (of_z w64 (at zs i)) ∷ read n (i + 1) zs

read-drop : (n i : ℕ) (zs : List ℤ) → All Short zs → n + i ≡ length zs → read n i zs ≡ drop i zs
read-drop zero i zs h e = sym (drop_all i zs (omega arith))
read-drop (suc n) i zs h e =
    let one = passed (at zs i) (h i (pos 0) (omega arith)) in
    let more = read-drop n (i + 1) zs h (omega arith) in
    let here = drop_more zs i (pos 0) (omega arith) in
    cc

lawful_numbers : (w : Word) (zs : List ℤ) → 0 < arity w → length zs ≡ arity w → All Short zs → Lawful (joined w zs [])
lawful_numbers Note zs some n h = absurd (omega arith)
lawful_numbers w zs some n h = search rules

written_read : (w : Word) (zs : List ℤ) → 0 < arity w → written (joined w (read (arity w) 0 zs) []) ≡ spelling w ++ spaced (read (arity w) 0 zs)
written_read Note zs some = absurd (omega arith)
written_read Close zs some = absurd (omega arith)
written_read w zs some = refl

-- a word that wants numbers, with so many of them after it, begins an order
pub an_order : {w v : Word} {rest : List ℕ} (zs : List ℤ) → v ≡ w → 0 < arity w → length zs ≡ arity w → Lists rest zs → Spells (spelling v ++ rest) (joined w (read (arity w) 0 zs) [])
an_order {w} {v} {rest} zs same some n l =
    let e : read (arity w) 0 zs ≡ zs = read-drop (arity w) 0 zs l.0 (omega arith) in
    let f = written_read w zs some in
    (subst (λ ys. Lawful (joined w ys [])) (sym e) (lawful_numbers w zs some n l.0), cc)

-- so many numbers and a text stand in the bytes in one way
ends_after : (zs : List ℤ) (t : List ℕ) → Ends t → Ends (spaced zs ++ t)
ends_after [] t e = e
ends_after (z ∷ zs) t e = λ h. refl

same_numbers : (zs ys : List ℤ) (t s : List ℕ) → length zs ≡ length ys → AllByRecursion Short zs → AllByRecursion Short ys → Ends t → Ends s → spaced zs ++ t ≡ spaced ys ++ s → (zs ≡ ys) × (t ≡ s)
same_numbers [] [] t s l a b d e h = (refl, h)
same_numbers [] (y ∷ ys) t s l a b d e h = absurd (omega arith)
same_numbers (z ∷ zs) [] t s l a b d e h = absurd (omega arith)
same_numbers (z ∷ zs) (y ∷ ys) t s l a b d e h =
    let f : Leads (spaced (z ∷ zs) ++ t) z (spaced zs ++ t) = (a.0, ends_after zs t d, ap (λ r. 32 ∷ r) (append_assoc (signed_decimal z) (spaced zs) t)) in
    let g : Leads (spaced (z ∷ zs) ++ t) y (spaced ys ++ s) = (b.0, ends_after ys s e, h ∙ ap (λ r. 32 ∷ r) (append_assoc (signed_decimal y) (spaced ys) s)) in
    let p = leads_same (spaced (z ∷ zs) ++ t) z y (spaced zs ++ t) (spaced ys ++ s) f g in
    let q = same_numbers zs ys t s (omega arith) a.1 b.1 d e p.1 in
    (cc, q.1)

pub one_reading : OneReading
one_reading bytes o p h k =
    let q = same_front (word_of o) (word_of p) (after o) (after p) (sym (written_parts o) ∙ sym h.1 ∙ k.1 ∙ written_parts p) in
    let l : length (numbers_of o) ≡ length (numbers_of p) = numbers_length o ∙ ap arity q.0 ∙ sym (numbers_length p) in
    let r = same_numbers (numbers_of o) (numbers_of p) (text_of o) (text_of p) l (shorts o h.0) (shorts p k.0) (text_ends o) (text_ends p) q.1 in
    let a = joined_back o in
    let b = joined_back p in
    cc
