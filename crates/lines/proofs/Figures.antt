-- Numbers in decimal, and numbers one after another: what `parse` reads of a word of the right form, and that a
-- number and what follows it are found in one way.
use Rattle.std.proofs.Common.{◌≡◌, ◌≢◌, ℕ, zero, suc, ◌+◌, ◌-◌, ◌^◌, ◌<◌, ◌≤◌, Bool, false, List, [], ◌∷◌, ◌++◌, length, get_or, take, drop, ℤ, pos, negsuc, neg_ℤ, Some, Ok, Err, codes, IsUtf8, decimal, Option, Result, sym, refl, ap, ◌∙◌, subst, inl, inr, arith, add-zero, MatchOption, ◌==◌, set, w64, to_z, of_z}
use lib.Signed.{mag}
use Rattle.std.specs.Str.Parse.{AllDigits, digits_value, ParsesSigned}
use Rattle.std.specs.Bool.{then_some}
use Rattle.std.specs.Result.{result_ok}
use Rattle.std.specs.Fmt.{signed_decimal}
use Rattle.std.specs.List.{prefix_len}
use Rattle.std.proofs.lemmas.Fmt.{decimal_is_IsNumeral, decimal_digit, decimal-digits_value, first_decimal, decimal_nonempty, length-decimal-le, signed_decimal_injective, IsAscii-signed, parse-signed_decimal}
use Rattle.std.proofs.lemmas.List.{take_at, drop_at, take-append-drop, drop_more, length-drop, get_or-drop, append_assoc, append-nil, length_push, take_more_set}
use Rattle.std.proofs.lemmas.List.Sums.{prefix_len_stops}
use Rattle.std.proofs.lemmas.List.Elements.{All-nil, All-head, All-tail, All-cons}
use Rattle.std.proofs.lemmas.Str.Parse.{IsNumeralModel, numerals_by_value, tells_digits, digit_from_value, digit_at, digits_value_short, parse_signed_minus, parse_signed_plain}
use Rattle.std.proofs.lemmas.Int.{to_z-of_z}
use Rattle.std.proofs.lemmas.Bool.{cases_eq}
use Rattle.std.proofs.lemmas.Str.{IsUtf8-from_ascii}
use Rattle.std.proofs.lemmas.Bool.Decides.{nat_tests}
use Rattle.lines.specs.Grammar.{Short, spaced}
use Rattle.blocks.specs.Lines.{differs}
use Rattle.lines.specs.Numbers.{Ends, IsFormed, NumberIn, Leads, Lists, NoneOf}

own : IsNumeralModel (AllDigits 10) (digits_value 10)
own = numerals_by_value (AllDigits 10) tells_digits

short_mag : (z : ℤ) → Short z → mag z < 2 ^ 63
short_mag (pos n) h = omega arith
short_mag (negsuc n) h = omega arith

pub passed : (z : ℤ) → Short z → to_z w64 (of_z w64 z) ≡ z
passed z s = to_z-of_z w64 z (record { sfits = short_mag z s })

-- the words that numbers write are of the right form
module _ (n : ℕ) (small : n < 10 ^ 10) where
  decimal_first : (48 ≤ get_or (decimal n) 0 0) × (get_or (decimal n) 0 0 ≤ 57)
  decimal_first = digit_at (decimal n) 0 (decimal_is_IsNumeral n (omega arith)).0.1 (decimal_nonempty n (omega arith))

  decimal_length : length (decimal n) ≤ 10
  decimal_length = length-decimal-le 10 n (omega arith) small (omega arith)

decimal_padded : (n : ℕ) → n < 10 ^ 10 → get_or (decimal n) 0 0 ≡ 48 → length (decimal n) ≤ 1
decimal_padded zero small h = rw (decimal_digit 0 (omega arith)) (omega arith)
decimal_padded (suc n) small h = omega (arith, first_decimal (suc n) (omega arith) (omega arith))

pub signed_formed : (z : ℤ) → Short z → IsFormed (signed_decimal z)
signed_formed (pos n) h =
    record {
      plus = λ e. omega (arith, decimal_first n h);
      minus = λ e. omega (arith, decimal_first n h);
      plain = λ e. decimal_length n h;
      padding = decimal_padded n h;
    }
signed_formed (negsuc n) h =
    record {
      plus = λ e. omega arith;
      minus = λ e. (λ f. omega (arith, first_decimal (suc n) (omega arith) (omega arith)), omega (arith, decimal_length (suc n) h));
      plain = λ f. absurd (f refl);
      padding = λ e. omega arith;
    }

pub signed_utf8 : (z : ℤ) → Short z → IsUtf8 (signed_decimal z)
signed_utf8 z h = IsUtf8-from_ascii (signed_decimal z) (IsAscii-signed z (short_mag z h))

-- what `parse` answers of a word of the right form
minus : (v : ℕ) (ds : List ℕ) → v < 10 ^ 10 → decimal v ≡ ds → get_or ds 0 0 ≢ 48 → NumberIn (45 ∷ ds) (Some (neg_ℤ (pos v)))
minus zero ds small e first = absurd (first (ap (λ l. get_or l 0 0) (sym e ∙ decimal_digit 0 (omega arith))))
minus (suc v) ds small e first = (small, ap (λ l. 45 ∷ l) (sym e))

written_minus : (word : List ℕ) → IsFormed word → get_or word 0 0 ≡ 45 → AllDigits 10 (drop 1 word) → 0 < length (drop 1 word) → NumberIn word (Some (neg_ℤ (pos (digits_value 10 (drop 1 word)))))
written_minus word f m d some =
    let ds = drop 1 word in
    let first : get_or ds 0 0 ≢ 48 = λ h. (f.minus m).0 (sym (get_or-drop 1 word 0 0) ∙ h) in
    let small = digits_value_short own ds 10 d (omega (arith, (f.minus m).1, length-drop 1 word)) in
    let back = decimal-digits_value own ds d some (λ h. absurd (first h)) (omega arith) in
    let whole : 45 ∷ ds ≡ word = ap (λ x. x ∷ ds) (sym m) ∙ sym (drop_more word 0 0 (omega (arith, length-drop 1 word))) in
    subst (λ w. NumberIn w (Some (neg_ℤ (pos (digits_value 10 ds))))) whole (minus (digits_value 10 ds) ds small back first)

written_plain : (word : List ℕ) → IsFormed word → get_or word 0 0 ≢ 45 → AllDigits 10 word → 0 < length word → NumberIn word (Some (pos (digits_value 10 word)))
written_plain word f m d some =
    let small = digits_value_short own word 10 d (f.plain m) in
    (small, sym (decimal-digits_value own word d some (λ h. omega (arith, f.padding h)) (omega arith)))

pub reads : {E : Type 0} (word : List ℕ) (r : Result ℤ E) (o : Option ℤ) → IsFormed word → ParsesSigned w64 10 word r → o ≡ result_ok r → NumberIn word o
reads {E} word (Ok z) o f h e =
    rw e
    (elim (cases_eq (get_or word 0 0) 45) [
      | inl m ↦
          let p = parse_signed_minus own {E = E} w64 word (Ok z) h m in
          rw p.1 (written_minus word f m p.0.0 p.0.1)
      | inr m ↦
          let p = parse_signed_plain own {E = E} w64 word (Ok z) h f.plus m in
          rw p.1 (written_plain word f m p.0.0 p.0.1)
    ])
reads {E} word (Err x) o f h e =
    rw e
    (λ z s w.
    let b = parse-signed_decimal w64 z word (Err x) (record { sfits = short_mag z s }) (short_mag z s) w h in
    cc)

-- a byte that does not end a number
abbrev not_space : ℕ → Bool
not_space b = differs 32 b

-- a number ends where a space stands or the bytes end
leading_digits : (ds more : List ℕ) → AllDigits 10 ds → Ends more → prefix_len not_space (ds ++ more) ≡ length ds
leading_digits [] [] d e = refl
leading_digits [] (b ∷ more) d e = let s : b ≡ 32 = e (omega arith) in rw s
leading_digits (x ∷ ds) more d e =
    let i = digit_from_value x d.0 in
    let l = leading_digits ds more d.1 e in
    grind (arith, nat_tests)

leading_signed : (z : ℤ) (more : List ℕ) → Short z → Ends more → prefix_len not_space (signed_decimal z ++ more) ≡ length (signed_decimal z)
leading_signed (pos n) more s e = leading_digits (decimal n) more (decimal_is_IsNumeral n (omega arith)).0.1 e
leading_signed (negsuc n) more s e =
    let l = leading_digits (decimal (suc n)) more (decimal_is_IsNumeral (suc n) (omega arith)).0.1 e in
    omega arith

ends_leading : (bytes : List ℕ) → Ends (drop (prefix_len not_space bytes) bytes)
ends_leading bytes = λ h. grind (arith, nat_tests, prefix_len_stops not_space bytes 0, get_or-drop (prefix_len not_space bytes) bytes 0 0, length-drop (prefix_len not_space bytes) bytes)

-- the number that leads, and what follows it, are cut off where the first space stands
module _ (bytes : List ℕ) (z : ℤ) (more : List ℕ) (h : Leads (32 ∷ bytes) z more) where
  cut : bytes ≡ signed_decimal z ++ more
  cut = let e = h.2 in cc

  cut_length : prefix_len not_space bytes ≡ length (signed_decimal z)
  cut_length = ap (prefix_len not_space) cut ∙ leading_signed z more h.0 h.1

  cut_number : take (prefix_len not_space bytes) bytes ≡ signed_decimal z
  cut_number = ap (take (prefix_len not_space bytes)) cut ∙ take_at (signed_decimal z) more (prefix_len not_space bytes) (sym cut_length)

  cut_rest : drop (prefix_len not_space bytes) bytes ≡ more
  cut_rest = ap (drop (prefix_len not_space bytes)) cut ∙ drop_at (signed_decimal z) more (prefix_len not_space bytes) (sym cut_length)

pub leads_same : (bytes : List ℕ) (z y : ℤ) (more rest : List ℕ) → Leads bytes z more → Leads bytes y rest → (z ≡ y) × (more ≡ rest)
leads_same bytes z y more rest h k =
    let tail = signed_decimal z ++ more in
    let f : Leads (32 ∷ tail) z more = (h.0, h.1, refl) in
    let g : Leads (32 ∷ tail) y rest = (k.0, k.1, sym h.2 ∙ k.2) in (
      signed_decimal_injective z y (short_mag z h.0) (short_mag y k.0) (sym (cut_number tail z more f) ∙ cut_number tail y rest g),
      sym (cut_rest tail z more f) ∙ cut_rest tail y rest g,
    )

-- the word up to the first space, after a space, is the number or there is none
module _ {rest tail word more : List ℕ} {n : ℕ} (split : rest ≡ 32 ∷ tail) (len : n ≡ prefix_len not_space tail) (front : word ≡ take n tail) (back : more ≡ drop n tail) where
  pub word_leads : (z : ℤ) → Short z → word ≡ signed_decimal z → Leads rest (to_z w64 (of_z w64 z)) more
  word_leads z s e =
      let whole = take-append-drop n tail in
      rw passed
      (s, subst Ends (ap (λ k. drop k tail) (sym len) ∙ sym back) (ends_leading tail), cc)

  pub word_not : ((z : ℤ) → Short z → word ≡ signed_decimal z → ⊥) → (z : ℤ) (later : List ℕ) → Leads rest z later → ⊥
  word_not h z later k =
      h z k.0 (front ∙ ap (λ m. take m tail) len ∙ cut_number tail z later (k.0, k.1, sym split ∙ k.2))

-- lists of numbers, one number at a time
ends_spaced : (zs : List ℤ) → Ends (spaced zs)
ends_spaced [] = λ h. omega arith
ends_spaced (z ∷ zs) = λ h. refl

lists_leads : (bytes : List ℕ) (z : ℤ) (zs : List ℤ) → Lists bytes (z ∷ zs) → Leads bytes z (spaced zs)
lists_leads bytes z zs h = (All-head Short z zs h.0, ends_spaced zs, h.1)

module _ (bytes : List ℕ) where
  none_start : (n : ℕ) → ((z : ℤ) (more : List ℕ) → Leads bytes z more → ⊥) → NoneOf (suc n) bytes
  none_start n h [] e l = omega arith
  none_start n h (z ∷ zs) e l = h z (spaced zs) (lists_leads bytes z zs l)

  none_after : (n : ℕ) (z : ℤ) (more : List ℕ) → Leads bytes z more → NoneOf n more → NoneOf (suc n) bytes
  none_after n z more k h [] e l = omega arith
  none_after n z more k h (y ∷ ys) e l =
      h ys (omega arith) (All-tail Short y ys l.0, (leads_same bytes z y more (spaced ys) k (lists_leads bytes y ys l)).1)

  none_left : 0 < length bytes → NoneOf 0 bytes
  none_left h [] e l = omega (arith, ap length l.1)
  none_left h (z ∷ zs) e l = omega arith

  lists_more : (z : ℤ) (more : List ℕ) (zs : List ℤ) → Leads bytes z more → Lists more zs → Lists bytes (z ∷ zs)
  lists_more z more zs k l = (All-cons Short z zs k.0 l.0, k.2 ∙ ap (λ m. codes " " ++ (signed_decimal z ++ m)) l.1)

-- some numbers lead the bytes: what the rest of the bytes lists goes on from them, and nothing else does
pub record Lead (bytes : List ℕ) (found : List ℤ) (rest : List ℕ) : Type 0 where
  pub lists : (zs : List ℤ) → Lists rest zs → Lists bytes (found ++ zs)
  pub none : (n : ℕ) → NoneOf n rest → NoneOf (length found + n) bytes

pub lead_more : {bytes rest : List ℕ} (found : List ℤ) (i : ℕ) (z y : ℤ) (more : List ℕ) → Lead bytes (take i found) rest → i < length found → Leads rest z more → y ≡ z → Lead bytes (take (i + 1) (set found i y)) more
lead_more {rest = rest} found i z y more a l k e =
    rw (take_more_set, e)
    (record {
      lists = λ zs h. rw append_assoc (a.lists (z ∷ zs) (lists_more rest z more zs k h));
      none = λ n h.
          let e : length (take i found ++ z ∷ []) + n ≡ length (take i found) + suc n = omega (arith, length_push (take i found) z) in
          rw e (a.none (suc n) (none_after rest n z more k h));
    })

pub lead_stops : {bytes : List ℕ} {found : List ℤ} {rest : List ℕ} (n : ℕ) → Lead bytes found rest → length found < n → ((z : ℤ) (more : List ℕ) → Leads rest z more → ⊥) → NoneOf n bytes
lead_stops {found = found} {rest = rest} n a l h =
    let k = n - suc (length found) in
    let e : length found + suc k ≡ n = omega arith in
    rw e at (a.none (suc k) (none_start rest k h))

-- nothing is left after the numbers, or something is
pub lead_ends : {bytes : List ℕ} (n : ℕ) (found : List ℤ) (rest : List ℕ) → length found ≡ n → Lead bytes found rest → MatchOption (then_some (length rest == 0) found) (NoneOf n bytes) (Lists bytes)
lead_ends n found [] e a = rw append-nil at (a.lists [] (All-nil Short, refl))
lead_ends n found (x ∷ rest) e a =
    let some : (length (x ∷ rest) == 0) ≡ false = grind (arith, nat_tests) in
    rw some (rw (add-zero, e) at (a.none 0 (none_left (x ∷ rest) (omega arith))))
