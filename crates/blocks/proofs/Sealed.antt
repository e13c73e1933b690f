-- A block that is made from a number and a text passes its check, and its text is that text.
use Rattle.std.proofs.Common.{◌≡◌, ℕ, zero, suc, ◌+◌, ◌-◌, ◌*◌, ◌/◌, ◌%◌, ◌^◌, ◌<◌, ◌≤◌, true, List, ◌∷◌, ◌++◌, length, get_or, take, drop, replicate, Ok, sym, refl, ap, ◌∙◌, mod-eq_of_lt, arith}
use native.Mathlib.Nat.{div-div-eq-div-mul, div-add-mod}
use Rattle.std.proofs.lemmas.List.{drop-replicate, replicate-append-replicate, append_assoc, append-nil, length-append, length-replicate, take_at, drop_at, get_or-append-add}
use Rattle.std.proofs.lemmas.Bool.{eq-eqb, le-leb}
use borrow.Rule.Slice.PartMut.{put_mid}
use Rattle.blocks.specs.Layout.{number16, number32, weighted, check_of, used, text_of, unused, ended, zeros, good_text, verdict}
use Rattle.blocks.specs.Packing.{bytes16, bytes32, body_of, block_of}

pub body_length : (number : ℕ) (text : List ℕ) → length text ≤ 504 → length (body_of number text) ≡ 508
unfolding body_of
body_length number text short =
    let e : length (text ++ replicate (504 - length text) 0) ≡ 504 = simp (length-append, length-replicate) (omega arith) in
    ap (λ n. suc (suc (suc (suc n)))) e

pub sealed_length : (number : ℕ) (text : List ℕ) → length text ≤ 504 → length (block_of number text) ≡ 512
unfolding block_of
sealed_length number text short = length-append (body_of number text) (bytes32 (weighted 1 (body_of number text))) ∙ ap (λ n. n + 4) (body_length number text short)

zeros-replicate : (n : ℕ) → zeros (replicate n 0) ≡ true
zeros-replicate zero = refl
zeros-replicate (suc n) = zeros-replicate n

two : (n : ℕ) → n < 65536 → n % 256 + n / 256 % 256 * 256 ≡ n
two n h = omega arith

four : (n : ℕ) → n < 2 ^ 32 → n % 256 + n / 256 % 256 * 256 + n / 65536 % 256 * 65536 + n / 16777216 % 256 * 16777216 ≡ n
four n h =
    let a : n / 256 / 256 ≡ n / 65536 = div-div-eq-div-mul n 256 256 in
    let b : n / 65536 / 256 ≡ n / 16777216 = div-div-eq-div-mul n 65536 256 in
    let d = div-add-mod n 256 in
    let e = div-add-mod (n / 256) 256 in
    let f = div-add-mod (n / 65536) 256 in
    let top : n / 16777216 < 256 = omega arith in
    let g : n / 16777216 % 256 ≡ n / 16777216 = mod-eq_of_lt top in
    omega (arith, d, e, f, a, b, g)

module _ (number : ℕ) (text : List ℕ) (short : length text ≤ 504) where
  pub sealed_used : used (block_of number text) ≡ length text
  unfolding block_of body_of
  sealed_used = two (length text) (omega arith)

  sealed_number : number < 65536 → number16 (block_of number text) 0 ≡ number
  unfolding block_of body_of
  sealed_number low = two number low

  sealed_part : take 504 (drop 4 (block_of number text)) ≡ text ++ replicate (504 - length text) 0
  unfolding block_of body_of
  sealed_part = take_at (text ++ replicate (504 - length text) 0) (bytes32 (weighted 1 (body_of number text))) 504 (simp (length-append, length-replicate) (omega arith))

  pub sealed_text : text_of (block_of number text) ≡ text
  sealed_text = ap (λ n. take n (take 504 (drop 4 (block_of number text)))) sealed_used ∙ ap (take (length text)) sealed_part ∙ take_at text (replicate (504 - length text) 0) (length text) refl

  sealed_unused : unused (block_of number text) ≡ replicate (504 - length text) 0
  sealed_unused = ap (λ n. drop n (take 504 (drop 4 (block_of number text)))) sealed_used ∙ ap (drop (length text)) sealed_part ∙ drop_at text (replicate (504 - length text) 0) (length text) refl

  sealed_good : ended text ≡ true → good_text (block_of number text) ≡ true
  sealed_good e =
      simp (le-leb (used (block_of number text)) 504 (omega (arith, sealed_used)), sealed_text, sealed_unused, e, zeros-replicate) refl

  sealed_check : check_of (block_of number text) ≡ weighted 1 (body_of number text)
  unfolding block_of
  sealed_check = ap (weighted 1) (take_at (body_of number text) (bytes32 (weighted 1 (body_of number text))) 508 (body_length number text short))

  sealed_held : weighted 1 (body_of number text) < 2 ^ 32 → number32 (block_of number text) 508 ≡ weighted 1 (body_of number text)
  unfolding block_of
  sealed_held small =
      let w = weighted 1 (body_of number text) in
      let at : (i : ℕ) → get_or (body_of number text ++ bytes32 w) (508 + i) 0 ≡ get_or (bytes32 w) i 0 = λ i. ap (λ n. get_or (body_of number text ++ bytes32 w) (n + i) 0) (sym (body_length number text short)) ∙ get_or-append-add (body_of number text) (bytes32 w) i 0 in
      rw (at 0, at 1, at 2, at 3) (four w small)

  pub sealed_passes : number < 65536 → ended text ≡ true → weighted 1 (body_of number text) < 2 ^ 32 → verdict (block_of number text) number ≡ Ok tt
  sealed_passes low e small =
      let first : number16 (block_of number text) 0 ≡ number = sealed_number low in
      rw (eq-eqb _ _ (sealed_held small ∙ sym sealed_check), eq-eqb _ _ first, sealed_good e) refl

-- the bytes of a block, as they are written over zeros one part after the other
zeros_left : (n : ℕ) (text : List ℕ) → n ≡ length text → length text ≤ 504 → drop {A = ℕ} (4 + n - 4) (replicate 508 0) ≡ replicate (504 - length text) 0 ++ replicate 4 0
zeros_left n text long short =
    let k : 508 - (4 + n - 4) ≡ 504 - length text + 4 = omega arith in
    rw (drop-replicate, k, replicate-append-replicate) refl

text_written : (p q r s n : ℕ) (text after rest more : List ℕ) → drop (4 + n - 4) after ≡ rest ++ more → put_mid 4 (4 + n - 4) (p ∷ q ∷ r ∷ s ∷ after) text ≡ p ∷ q ∷ r ∷ s ∷ ((text ++ rest) ++ more)
text_written p q r s n text after rest more e =
    ap (λ l. p ∷ q ∷ r ∷ s ∷ (text ++ l)) e ∙ ap (λ l. p ∷ q ∷ r ∷ s ∷ l) (sym (append_assoc text rest more))

module _ (number n : ℕ) (text zeroed a b t : List ℕ) (none : zeroed ≡ replicate 512 0) (first : a ≡ bytes16 number) (second : b ≡ bytes16 n) (long : n ≡ length text) (third : t ≡ text) (short : length text ≤ 504) where
  abbrev pub unchecked : List ℕ
  unchecked = put_mid 4 (4 + n - 4) (put_mid 2 2 (a ++ drop 2 zeroed) b) t

  body_written : unchecked ≡ body_of number text ++ replicate 4 0
  unfolding body_of
  body_written =
      let start : put_mid 2 2 (a ++ drop 2 zeroed) b ≡ bytes16 number ++ (bytes16 n ++ replicate 508 0) = rw (none, first, second) refl in
      let same : bytes16 n ≡ bytes16 (length text) = ap bytes16 long in
      ap (λ h. put_mid 4 (4 + n - 4) h t) (start ∙ ap (λ l. bytes16 number ++ (l ++ replicate 508 0)) same)
      ∙ ap (put_mid 4 (4 + n - 4) (bytes16 number ++ (bytes16 (length text) ++ replicate 508 0))) third
      ∙ text_written _ _ _ _ n text (replicate 508 0) _ _ (zeros_left n text long short)

  check_written : check_of unchecked ≡ weighted 1 (body_of number text)
  check_written = ap check_of body_written ∙ ap (weighted 1) (take_at (body_of number text) (replicate 4 0) 508 (body_length number text short))

  module _ (sum : ℕ) (d : List ℕ) (summed : sum ≡ check_of unchecked) (last : d ≡ bytes32 sum) where
    pub block_written : put_mid 508 4 unchecked d ≡ block_of number text
    unfolding block_of
    block_written =
        let body = body_of number text in
        let long_body = body_length number text short in
        ap (λ u. put_mid 508 4 u d) body_written
        ∙ ap (λ l. l ++ (d ++ drop 4 (drop 508 (body ++ replicate 4 0)))) (take_at body (replicate 4 0) 508 long_body)
        ∙ ap (λ l. body ++ (d ++ drop 4 l)) (drop_at body (replicate 4 0) 508 long_body)
        ∙ ap (λ l. body ++ l) (append-nil d ∙ last ∙ ap bytes32 (summed ∙ check_written))

    pub block_passes : number < 65536 → sum < 2 ^ 32 → ended text ≡ true → verdict (put_mid 508 4 unchecked d) number ≡ Ok tt
    block_passes low small e =
        ap (λ b. verdict b number) block_written ∙ sealed_passes number text short low e (omega (arith, summed, check_written))
