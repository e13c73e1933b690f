-- What the 512 bytes of a block mean, and when a block passes. Assumes nothing.
use Rattle.std.specs.Prelude.{ℕ, ◌+◌, ◌-◌, ◌*◌, Bool, true, cond, ◌&&◌, List, [], ◌∷◌, length, take, drop, Ok, Err, Result, ◌==◌, nat_le, slice_index}
use Rattle.std.specs.List.{list_all}
use Rattle.terms.specs.declared.Refusal.{Refusal}
use Rattle.terms.specs.declared.Refusal.TheVariants.{CheckDiffers, BlockNotNext, BadText}

-- the number that two or four bytes hold from a place on, the lowest byte first
abbrev pub number16 : List ℕ → ℕ → ℕ
number16 block p = slice_index block p + slice_index block (p + 1) * 256

abbrev pub number32 : List ℕ → ℕ → ℕ
number32 block p = slice_index block p + slice_index block (p + 1) * 256 + slice_index block (p + 2) * 65536 + slice_index block (p + 3) * 16777216

-- each byte times its factor, where the factors count up from k
abbrev pub weighted : ℕ → List ℕ → ℕ
weighted k [] = 0
weighted k (b ∷ bs) = k * b + weighted (k + 1) bs

-- what the check has to be: the byte at offset p counts p + 1 times, for p from 0 to 507
abbrev pub check_of : List ℕ → ℕ
check_of block = weighted 1 (take 508 block)

-- the used length, the text of that length from offset 4 on, and the bytes behind it up to offset 507
abbrev pub used : List ℕ → ℕ
used block = number16 block 2

abbrev pub text_of : List ℕ → List ℕ
text_of block = take (used block) (take 504 (drop 4 block))

abbrev pub unused : List ℕ → List ℕ
unused block = drop (used block) (take 504 (drop 4 block))

-- a text is empty, or its last byte is 10
abbrev pub ended : List ℕ → Bool
ended text = cond (length text == 0) true (slice_index text (length text - 1) == 10)

abbrev pub zeros : List ℕ → Bool
zeros bytes = list_all (λ b. b == 0) bytes

abbrev pub good_text : List ℕ → Bool
good_text block = nat_le (used block) 504 && (ended (text_of block) && zeros (unused block))

-- whether 512 bytes are the block of the number that is next: refusals 2, 3 and 4, in this order
abbrev pub verdict : List ℕ → ℕ → Result (Unit {0}) Refusal
verdict block next =
    cond (number32 block 508 == check_of block)
    (cond (number16 block 0 == next) (cond (good_text block) (Ok tt) (Err BadText)) (Err BlockNotNext))
    (Err CheckDiffers)
