-- Packing line by line: what holds after each, and at the end.
use Rattle.std.proofs.Common.{All, ◌≡◌, ℕ, zero, suc, ◌+◌, ◌-◌, ◌<◌, ◌≤◌, Bool, true, false, cond, List, [], ◌∷◌, ◌++◌, length, get_or, Ok, Err, Result, Vec, Global, vec_items, sym, refl, ap, ◌∙◌, subst, add-one, arith}
use Rattle.std.proofs.lemmas.List.{append_assoc, append-nil, length-append, get_or-append-add}
use Rattle.std.specs.Bool.{MatchBool}
use Rattle.std.proofs.lemmas.List.Elements.{All-nil, All-cons, All-head, All-tail, All-push}
use Rattle.std.proofs.lemmas.List.Sums.{prefix_len-le-length}
use Rattle.std.proofs.lemmas.Bool.Decides.{nat_tests}
use Rattle.std.proofs.lemmas.Bool.{leb-true, leb-false, le-leb, lt-leb, ne_eqb}
use Rattle.blocks.specs.declared.packing.PackError.{PackError}
use Rattle.blocks.specs.declared.packing.PackError.TheVariants.{LineTooLong, LineBroken, TooManyBlocks, OutOfMemory}
use Rattle.blocks.specs.Layout.{ended, text_of, verdict}
use Rattle.blocks.specs.Lines.{Unbroken, cut, in_line, text_from}
use Rattle.blocks.specs.declared.packer.Packer.{Packer}
use Rattle.blocks.specs.Packer.{Adds, Finishes, Seals}
use Rattle.blocks.specs.Packing.{fits, has_room, items_of, begun, grouped, blocks_from, block_of, Holds, checked, Packs}
use Rattle.blocks.specs.Packing.Holds.{nothing, block}
use Rattle.blocks.proofs.Cuts.{cut_line}
use Rattle.blocks.proofs.Sealed.{sealed_length, sealed_text}

-- lines that may stand in a block
abbrev pub Packable : List ℕ → Type 0
Packable line = (length line ≤ 503) × Unbroken line

abbrev pub Fine : List (List ℕ) → Type 0
Fine lines = All Packable lines

line_checked : (k : ℕ) (line : List ℕ) (lines : List (List ℕ)) → checked k (line ∷ lines) ≡ Ok tt → Packable line × (checked (k + 1) lines ≡ Ok tt)
line_checked k line lines e =
    let le = prefix_len-le-length in_line line in
    grind (arith, nat_tests)

pub fine_from_checked : (k : ℕ) (lines : List (List ℕ)) → checked k lines ≡ Ok tt → Fine lines
fine_from_checked k [] e = All-nil Packable
fine_from_checked k (line ∷ lines) e =
    let p = line_checked k line lines e in
    All-cons Packable line lines p.0 (fine_from_checked (k + 1) lines p.1)

-- a fault in a line is no want of numbers
not_many : (k : ℕ) (line : List ℕ) (lines : List (List ℕ)) → checked k (line ∷ lines) ≡ Err TooManyBlocks → checked (k + 1) lines ≡ Err TooManyBlocks
not_many k line lines e = grind (arith, nat_tests)

fault_not_many : (k : ℕ) (lines : List (List ℕ)) → checked k lines ≡ Err TooManyBlocks → ⊥
fault_not_many k [] e = cc
fault_not_many k (line ∷ lines) e = fault_not_many (k + 1) lines (not_many k line lines e)

pub fault_answered : (lines : List (List ℕ)) (e : PackError) → checked 0 lines ≡ Err e → Packs lines (Err e)
fault_answered lines TooManyBlocks h = absurd (fault_not_many 0 lines h)
fault_answered lines OutOfMemory h = tt
fault_answered lines (LineTooLong k) h = h
fault_answered lines (LineBroken k) h = h

-- the text of lines ends in byte 10
text_long : (line : List ℕ) (group : List (List ℕ)) → length (text_from (line ∷ group)) ≡ length line + (length (text_from group) + 1)
text_long line group = length-append line (10 ∷ text_from group) ∙ ap (λ n. length line + n) (sym (add-one (length (text_from group))))

last_ten : (group : List (List ℕ)) → 0 < length (text_from group) → get_or (text_from group) (length (text_from group) - 1) 0 ≡ 10
last_ten [] h = absurd (omega arith)
last_ten (line ∷ group) h =
    let n = length (text_from group) in
    let at : length (text_from (line ∷ group)) - 1 ≡ length line + n = omega (arith, text_long line group) in
    ap (λ k. get_or (text_from (line ∷ group)) k 0) at ∙ get_or-append-add line (10 ∷ text_from group) n 0 ∙ last_of (text_from group) (last_ten group)
  where
    last_of : (t : List ℕ) → (0 < length t → get_or t (length t - 1) 0 ≡ 10) → get_or (10 ∷ t) (length t) 0 ≡ 10
    last_of [] f = refl
    last_of (b ∷ t) f = let e : length (b ∷ t) - 1 ≡ length t = omega arith in ap (λ k. get_or (b ∷ t) k 0) (sym e) ∙ f (omega arith)

pub ended_text : (group : List (List ℕ)) → ended (text_from group) ≡ true
ended_text [] = refl
ended_text (line ∷ group) =
    let some : 0 < length (text_from (line ∷ group)) = omega (arith, text_long line group) in
    simp (ne_eqb (length (text_from (line ∷ group))) 0 (λ e. omega arith), last_ten (line ∷ group) some) refl

-- and is cut into them again
pub cut_text : (group : List (List ℕ)) → Fine group → cut (text_from group) ≡ group
cut_text [] f = refl
cut_text (line ∷ group) f =
    cut_line line (text_from group) (All-head Packable line group f).1
    ∙ ap (λ l. line ∷ l) (cut_text group (All-tail Packable line group f))

text_push : (group : List (List ℕ)) (line : List ℕ) → text_from (group ++ (line ∷ [])) ≡ text_from group ++ (line ++ (10 ∷ []))
text_push [] line = refl
text_push (first ∷ group) line = ap (λ t. first ++ (10 ∷ t)) (text_push group line) ∙ sym (append_assoc first (10 ∷ text_from group) (line ++ (10 ∷ [])))

-- lines packed so far: some sealed in blocks, a group in the open block, and the rest to come
pub record Sofar (lines rest : List (List ℕ)) (job : List ℕ) (number : ℕ) (text : List ℕ) : Type 0 where
  pub sealed : List (List ℕ)
  pub group : List (List ℕ)
  pub whole : sealed ++ (group ++ rest) ≡ lines
  pub same : text ≡ text_from group
  pub short : length text ≤ 504
  pub low : number < 65536
  pub fine : Fine group
  pub later : Fine rest
  pub bytes : job ++ blocks_from number (grouped group rest) ≡ blocks_from 0 (grouped [] lines)
  pub count : number + length (grouped group rest) ≡ length (grouped [] lines)
  pub holds : (more : List ℕ) (after : List (List ℕ)) → Holds number more after → Holds 0 (job ++ more) (sealed ++ after)

pub none_sofar : (lines : List (List ℕ)) → Fine lines → Sofar lines lines [] 0 []
none_sofar lines f = record {
  sealed = [];
  group = [];
  whole = refl;
  same = refl;
  short = omega arith;
  low = omega arith;
  fine = All-nil Packable;
  later = f;
  bytes = refl;
  count = omega arith;
  holds = λ more after h. h;
}

-- the text of the open block ends in byte 10
pub open_ended : (lines rest : List (List ℕ)) (job text : List ℕ) (number : ℕ) → Sofar lines rest job number text → ended text ≡ true
open_ended lines rest job text number s = ap ended s.same ∙ ended_text s.group

-- the groups that follow, where the line has room in the open block and where it has none
abbrev split : List (List ℕ) → List (List ℕ) → List ℕ → Bool → List (List (List ℕ))
split group rest line b = cond b (grouped (group ++ (line ∷ [])) rest) (group ∷ grouped (line ∷ []) rest)

-- one line more in the open block
pub line_fits : (lines rest : List (List ℕ)) (line job text : List ℕ) (number : ℕ) → Sofar lines (line ∷ rest) job number text → length text + length line + 1 ≤ 504 → Sofar lines rest job number (text ++ (line ++ (10 ∷ [])))
line_fits lines rest line job text number s room =
    let test : fits s.group line ≡ true = le-leb _ _ (omega (arith, ap length s.same)) in
    record {
      sealed = s.sealed;
      group = s.group ++ (line ∷ []);
      whole = ap (λ l. s.sealed ++ l) (append_assoc s.group (line ∷ []) rest) ∙ s.whole;
      same = ap (λ t. t ++ (line ++ (10 ∷ []))) s.same ∙ sym (text_push s.group line);
      short = simp length-append (omega arith);
      low = s.low;
      fine = All-push Packable s.group line s.fine (All-head Packable line rest s.later);
      later = All-tail Packable line rest s.later;
      bytes = ap (λ b. job ++ blocks_from number (split s.group rest line b)) (sym test) ∙ s.bytes;
      count = ap (λ b. number + length (split s.group rest line b)) (sym test) ∙ s.count;
      holds = s.holds;
    }

-- the blocks hold the lines that are in the open block
held_group : (group : List (List ℕ)) (number : ℕ) (text : List ℕ) → length text ≤ 504 → text ≡ text_from group → Fine group → cut (text_of (block_of number text)) ≡ group
held_group group number text short same fine = ap cut (sealed_text number text short ∙ same) ∙ cut_text group fine

-- the open block is sealed, and the line begins the next
pub line_next : (lines rest : List (List ℕ)) (line job text : List ℕ) (number : ℕ) → Sofar lines (line ∷ rest) job number text → 504 < length text + length line + 1 → number + 1 < 65536 → verdict (block_of number text) number ≡ Ok tt → Sofar lines rest (job ++ block_of number text) (number + 1) (line ++ (10 ∷ []))
line_next lines rest line job text number s full low passes =
    let test : fits s.group line ≡ false = lt-leb _ _ (omega (arith, ap length s.same)) in
    let after : List ℕ = blocks_from (number + 1) (grouped (line ∷ []) rest) in
    let first = All-head Packable line rest s.later in
    let held = held_group s.group number text s.short s.same s.fine in
    record {
      sealed = s.sealed ++ s.group;
      group = line ∷ [];
      whole = append_assoc s.sealed s.group (line ∷ rest) ∙ s.whole;
      same = refl;
      short = simp length-append (omega (arith, first.0));
      low = low;
      fine = All-cons Packable line [] first (All-nil Packable);
      later = All-tail Packable line rest s.later;
      bytes = append_assoc job (block_of number text) after ∙ ap (λ t. job ++ (block_of number t ++ after)) s.same ∙ ap (λ b. job ++ blocks_from number (split s.group rest line b)) (sym test) ∙ s.bytes;
      count = one_more number _ ∙ ap (λ b. number + length (split s.group rest line b)) (sym test) ∙ s.count;
      holds = λ more lines' h. subst (λ j. Holds 0 j ((s.sealed ++ s.group) ++ lines')) (sym (append_assoc job (block_of number text) more)) (subst (Holds 0 (job ++ (block_of number text ++ more))) (sym (append_assoc s.sealed s.group lines')) (s.holds _ _ (subst (λ l. Holds number (block_of number text ++ more) (l ++ lines')) held (block number (block_of number text) more lines' (sealed_length number text s.short) passes h))));
    }
  where
    one_more : (m : ℕ) (groups : List (List (List ℕ))) → m + 1 + length groups ≡ m + length (s.group ∷ groups)
    one_more m groups = omega arith

some_split : (group : List (List ℕ)) (fit next : List (List (List ℕ))) (b : Bool) → 0 < length fit → 0 < length (cond b fit (group ∷ next))
some_split group fit next true h = h
some_split group fit next false h = omega arith

some_grouped : (group lines : List (List ℕ)) → 0 < length group → 0 < length (grouped group lines)
some_grouped [] [] h = h
some_grouped (first ∷ group) [] h = omega arith
some_grouped group (line ∷ lines) h = some_split group _ _ (fits group line) (some_grouped (group ++ (line ∷ [])) lines (simp length-append (omega arith)))

-- no number is left for a further block
pub too_many : (lines rest : List (List ℕ)) (line job text : List ℕ) (number : ℕ) → Sofar lines (line ∷ rest) job number text → 504 < length text + length line + 1 → 65535 ≤ number → 65536 < length (grouped [] lines)
too_many lines rest line job text number s full last =
    let test : fits s.group line ≡ false = lt-leb _ _ (omega (arith, ap length s.same)) in
    omega (arith, ap (λ b. number + length (split s.group rest line b)) (sym test) ∙ s.count, some_grouped (line ∷ []) rest (omega arith))

none_open : (group : List (List ℕ)) → length (text_from group) ≡ 0 → group ≡ []
none_open [] e = refl
none_open (line ∷ group) e = absurd (omega (arith, text_long line group))

some_open : (group : List (List ℕ)) → 0 < length (text_from group) → begun group ≡ group ∷ []
some_open [] h = absurd (omega arith)
some_open (line ∷ group) h = refl

-- all lines are in sealed blocks
pub all_sealed : (lines : List (List ℕ)) (job text : List ℕ) (number : ℕ) → Sofar lines [] job number text → checked 0 lines ≡ Ok tt → length text ≡ 0 → Packs lines (Ok job)
all_sealed lines job text number s ok empty =
    let none : s.group ≡ [] = none_open s.group (omega (arith, ap length s.same)) in
    let count : number + 0 ≡ length (grouped [] lines) = ap (λ g. number + length (begun g)) (sym none) ∙ s.count in (
      ok,
      omega arith,
      sym (append-nil job) ∙ ap (λ g. job ++ blocks_from number (begun g)) (sym none) ∙ s.bytes,
      subst (Holds 0 job) (ap (λ g. s.sealed ++ (g ++ [])) (sym none) ∙ s.whole) (subst (λ j. Holds 0 j (s.sealed ++ [])) (append-nil job) (s.holds [] [] nothing)),
    )

-- the last lines go into one block more
pub last_sealed : (lines : List (List ℕ)) (job text : List ℕ) (number : ℕ) → Sofar lines [] job number text → checked 0 lines ≡ Ok tt → 0 < length text → verdict (block_of number text) number ≡ Ok tt → Packs lines (Ok (job ++ block_of number text))
last_sealed lines job text number s ok some passes =
    let one : begun s.group ≡ s.group ∷ [] = some_open s.group (omega (arith, ap length s.same)) in
    let count : number + 1 ≡ length (grouped [] lines) = ap (λ g. number + length g) (sym one) ∙ s.count in
    let held = held_group s.group number text s.short s.same s.fine in
    let sealed = block_of number text in (
      ok,
      omega arith,
      ap (λ t. job ++ block_of number t) s.same ∙ ap (λ b. job ++ b) (sym (append-nil (block_of number (text_from s.group)))) ∙ ap (λ g. job ++ blocks_from number g) (sym one) ∙ s.bytes,
      subst (λ b. Holds 0 (job ++ b) lines) (append-nil sealed) (subst (Holds 0 (job ++ (sealed ++ []))) (ap (λ l. s.sealed ++ (l ++ [])) held ∙ s.whole) (s.holds _ _ (block number sealed [] [] (sealed_length number text s.short) passes nothing))),
    )

-- the same of a packer
abbrev pub Packing : List (List ℕ) → List (List ℕ) → Packer → Type 0
Packing lines rest packer = Sofar lines rest (vec_items packer.job) packer.number (vec_items packer.text)

pub none_packed : (lines : List (List ℕ)) (packer : Packer) → Fine lines → vec_items packer.job ≡ [] → packer.number ≡ 0 → vec_items packer.text ≡ [] → Packing lines lines packer
none_packed lines packer f a b d = rw (a, b, d) (none_sofar lines f)

pub line_added : (lines rest : List (List ℕ)) (line : List ℕ) (before after : Packer) → Packing lines (line ∷ rest) before → Adds before line (Ok tt) after → Packing lines rest after
line_added lines rest line before after s adds = by_room (has_room (vec_items before.text) line) refl adds
  where
    by_room : (b : Bool) → has_room (vec_items before.text) line ≡ b → MatchBool b ((vec_items after.job ≡ vec_items before.job) × (after.number ≡ before.number) × (vec_items after.text ≡ vec_items before.text ++ (line ++ (10 ∷ [])))) (Seals before (vec_items after.job) × (after.number ≡ before.number + 1) × (after.number < 65536) × (vec_items after.text ≡ line ++ (10 ∷ []))) → Packing lines rest after
    by_room true e h = rw (h.0, h.1, h.2) (line_fits lines rest line _ _ _ s (leb-true _ _ e))
    by_room false e h =
        rw (h.0.0, h.1, h.3) (line_next lines rest line _ _ _ s (leb-false _ _ e) (omega (arith, h.1, h.2)) (h.0.1 (open_ended _ _ _ _ _ s)))

pub not_added : (lines rest : List (List ℕ)) (line : List ℕ) (before after : Packer) (e : PackError) → checked 0 lines ≡ Ok tt → Packing lines (line ∷ rest) before → Adds before line (Err e) after → Packs lines (Err e)
not_added lines rest line before after TooManyBlocks ok s h =
    (ok, too_many lines rest line _ _ _ s (leb-false _ _ h.0) (omega (arith, h.1)))
not_added lines rest line before after OutOfMemory ok s h = tt
not_added lines rest line before after (LineTooLong k) ok s h = cc
not_added lines rest line before after (LineBroken k) ok s h = cc

pub all_packed : (lines : List (List ℕ)) (packer : Packer) (r : Result (Vec ℕ Global) PackError) → checked 0 lines ≡ Ok tt → Packing lines [] packer → Finishes packer r → Packs lines (items_of r)
all_packed lines packer (Ok job) ok s h = by_length (length (vec_items packer.text)) refl
  where
    by_length : (n : ℕ) → n ≡ length (vec_items packer.text) → Packs lines (Ok (vec_items job))
    by_length zero e = rw (h.0 (sym e)) (all_sealed lines _ _ _ s ok (sym e))
    by_length (suc n) e =
        let some : 0 < length (vec_items packer.text) = omega arith in
        let sealed = h.1 some in
        rw sealed.0 (last_sealed lines _ _ _ s ok some (sealed.1 (open_ended _ _ _ _ _ s)))
all_packed lines packer (Err OutOfMemory) ok s h = tt
all_packed lines packer (Err TooManyBlocks) ok s h = cc
all_packed lines packer (Err (LineTooLong k)) ok s h = cc
all_packed lines packer (Err (LineBroken k)) ok s h = cc
