-- A text and the lines that it is cut into.
use Rattle.std.proofs.Common.{All, ◌≡◌, ℕ, suc, ◌+◌, ◌-◌, ◌<◌, Bool, true, false, cond, eqb, List, [], ◌∷◌, ◌++◌, length, get_or, take, drop, sym, refl, ap, ◌∙◌, add-one, one-add, arith, Bor}
use Rattle.std.specs.Prelude.{◌==◌, nat_lt}
use Rattle.std.specs.List.{list_any, prefix_len}
use Rattle.std.proofs.lemmas.Grind.{common_steps}
use Rattle.std.proofs.lemmas.List.{at_drop_more}
use Rattle.std.proofs.lemmas.List.Elements.{All-nil, All-cons, All-head, All-tail}
use Rattle.std.proofs.lemmas.Bool.{eqb-true, ne_eqb}
use Rattle.blocks.specs.Layout.{ended}
use Rattle.blocks.specs.Lines.{onto, cut, in_line, lent, text_from, Unbroken, CutsWhole}

-- the first line goes up to the first byte 10 or to the end, and the others follow
abbrev First : List ℕ → Type 0
First bs = cut bs ≡ take (prefix_len in_line bs) bs ∷ cut (drop (prefix_len in_line bs + 1) bs)

first_onto : (b : ℕ) (bs : List ℕ) → (0 < length bs → First bs) → onto b (cut bs) ≡ take (1 + prefix_len in_line bs) (b ∷ bs) ∷ cut (drop (1 + prefix_len in_line bs + 1) (b ∷ bs))
first_onto b [] h = refl
first_onto b (d ∷ ds) h =
    let n = prefix_len in_line (d ∷ ds) in
    ap (onto b) (h (omega arith)) ∙ rw (one-add n, add-one (suc n), add-one n) refl

first_by_end : (b : ℕ) (bs : List ℕ) (e : Bool) → eqb b 10 ≡ e → (0 < length bs → First bs) → First (b ∷ bs)
first_by_end b bs true q h = rw q refl
first_by_end b bs false q h = rw q (first_onto b bs h)

pub cut_first : (bs : List ℕ) → 0 < length bs → First bs
cut_first [] h = absurd (omega arith)
cut_first (b ∷ bs) h = first_by_end b bs (eqb b 10) refl (cut_first bs)

unbroken_more : (b : ℕ) (line : List ℕ) (e : Bool) → eqb b 10 ≡ e → Unbroken (b ∷ line) → (eqb b 10 ≡ false) × Unbroken line
unbroken_more b line true q w = absurd (let z = rw q at w in omega arith)
unbroken_more b line false q w = let z = rw q at w in (q, omega arith)

-- a line with a byte 10 behind it is cut off
pub cut_line : (line rest : List ℕ) → Unbroken line → cut (line ++ (10 ∷ rest)) ≡ line ∷ cut rest
cut_line [] rest w = refl
cut_line (b ∷ line) rest w =
    let p = unbroken_more b line (eqb b 10) refl w in
    rw p.0 (ap (onto b) (cut_line line rest p.1))

-- a byte in front of the first line is one in front of the text
onto_text : (b : ℕ) (lines : List (List ℕ)) → 0 < length lines → text_from (onto b lines) ≡ b ∷ text_from lines
onto_text b [] h = absurd (omega arith)
onto_text b (line ∷ lines) h = refl

onto_unbroken : (b : ℕ) (lines : List (List ℕ)) → eqb b 10 ≡ false → All Unbroken lines → All Unbroken (onto b lines)
onto_unbroken b [] q h = All-cons Unbroken (b ∷ []) [] (rw q refl) h
onto_unbroken b (line ∷ lines) q h =
    let first = All-head Unbroken line lines h in
    All-cons Unbroken (b ∷ line) lines (rw q (omega arith)) (All-tail Unbroken line lines h)

cut_some : (b : ℕ) (bs : List ℕ) (e : Bool) → 0 < length (cond e ([] ∷ cut bs) (onto b (cut bs)))
cut_some b bs true = omega arith
cut_some b bs false = onto_some (cut bs)
  where
    onto_some : (lines : List (List ℕ)) → 0 < length (onto b lines)
    onto_some [] = omega arith
    onto_some (line ∷ lines) = omega arith

ended_last : (b : ℕ) (bs : List ℕ) → ended (b ∷ bs) ≡ eqb (get_or (b ∷ bs) (length (b ∷ bs) - 1) 0) 10
ended_last b bs = rw (ne_eqb (length (b ∷ bs)) 0 (λ e. omega arith)) refl

-- a text that ends in byte 10 still does without its first byte
ended_more : (b d : ℕ) (bs : List ℕ) → ended (b ∷ d ∷ bs) ≡ true → ended (d ∷ bs) ≡ true
ended_more b d bs h =
    let first : length (b ∷ d ∷ bs) - 1 ≡ suc (length bs) = omega arith in
    let last : length (d ∷ bs) - 1 ≡ length bs = omega arith in
    ended_last d bs ∙ ap (λ k. eqb (get_or (d ∷ bs) k 0) 10) last ∙ ap (λ k. eqb (get_or (b ∷ d ∷ bs) k 0) 10) (sym first) ∙ sym (ended_last b (d ∷ bs)) ∙ h

whole_by : (b : ℕ) (bs : List ℕ) (e : Bool) → eqb b 10 ≡ e → 0 < length (cut bs) → (text_from (cut bs) ≡ bs) × All Unbroken (cut bs) → (text_from (cut (b ∷ bs)) ≡ b ∷ bs) × All Unbroken (cut (b ∷ bs))
whole_by b bs true q some h =
    rw q (ap (λ t. 10 ∷ t) h.0 ∙ ap (λ k. k ∷ bs) (sym (eqb-true b 10 q)), All-cons Unbroken [] (cut bs) refl h.1)
whole_by b bs false q some h = rw q (onto_text b (cut bs) some ∙ ap (λ t. b ∷ t) h.0, onto_unbroken b (cut bs) q h.1)

pub cuts_whole : CutsWhole
cuts_whole [] h = (refl, All-nil Unbroken)
cuts_whole (b ∷ []) h =
    let ten = eqb-true b 10 h in
    rw ten (refl, All-cons Unbroken [] [] refl (All-nil Unbroken))
cuts_whole (b ∷ d ∷ bs) h = whole_by b (d ∷ bs) (eqb b 10) refl (cut_some d bs (eqb d 10)) (cuts_whole (d ∷ bs) (ended_more b d bs h))

-- the lines that a slice lends, from a place on: the line there and those behind it. A read past the end gives nowhere.
abbrev pub nowhere : Bor (List ℕ)
nowhere = record { ref_ptr = (0, 0); now = [] }

abbrev pub line_at : List (Bor (List ℕ)) → ℕ → List ℕ
line_at lines i = (get_or lines i nowhere).now

pub lent_from : (lines : List (Bor (List ℕ))) (i : ℕ) → i < length lines → lent (drop i lines) ≡ line_at lines i ∷ lent (drop (i + 1) lines)
lent_from lines i h = at_drop_more lent lines i nowhere h

-- a line holds a byte 10 exactly where its part before one is shorter than it
pub broken_if : (line : List ℕ) → list_any (λ b. b == 10) line ≡ nat_lt (prefix_len in_line line) (length line)
broken_if [] = refl
broken_if (b ∷ line) = grind (arith, common_steps, broken_if line)
