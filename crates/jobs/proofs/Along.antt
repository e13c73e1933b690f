-- Listing a block line by line: what holds after each.
use Rattle.std.proofs.Common.{◌≡◌, ℕ, ◌+◌, ◌≤◌, List, [], ◌∷◌, ◌++◌, map, length, take, drop, sym, refl, ap, ◌∙◌, subst, arith}
use Rattle.std.specs.List.{flat_map}
use Rattle.std.proofs.lemmas.Grind.{common_steps}
use Rattle.std.proofs.lemmas.List.{append_assoc, append-nil, length-take, flat_map_more}
use Rattle.terms.specs.declared.Refusal.TheVariants.{NotAnOrder}
use Rattle.blocks.specs.Layout.{text_of, used}
use Rattle.blocks.specs.Lines.{cut, onto, placed}
use Rattle.lines.specs.Grammar.{Order, Spells}
use Rattle.jobs.specs.declared.draft.Draft.{Draft}
use Rattle.jobs.specs.Listings.{Entry, order_at, refused_at, ListsLines, none, an_order, no_order, printed, refusals_in}
use Rattle.jobs.specs.Drafts.{Adds, Prints}

-- lines without their places
abbrev pub bytes_of : List (ℕ × List ℕ) → List (List ℕ)
bytes_of lines = map (λ line. line.1) lines

pub bytes_placed : (at : ℕ) (lines : List (List ℕ)) → bytes_of (placed at lines) ≡ lines
bytes_placed at [] = refl
bytes_placed at (line ∷ lines) = ap (λ l. line ∷ l) (bytes_placed (at + length line + 1) lines)

-- a text has no more lines than bytes
onto_le : (b : ℕ) (lines : List (List ℕ)) (n : ℕ) → length lines ≤ n → length (onto b lines) ≤ n + 1
onto_le b [] n h = omega arith
onto_le b (line ∷ lines) n h = omega arith

pub cut_le : (bs : List ℕ) → length (cut bs) ≤ length bs
cut_le [] = omega arith
cut_le (b ∷ bs) = grind (arith, common_steps, onto_le b (cut bs) (length bs), cut_le bs)

pub few_lines : (block : List ℕ) → length (cut (text_of block)) ≤ 504
few_lines block = omega (arith, cut_le (text_of block), length-take (used block) (take 504 (drop 4 block)), length-take 504 (drop 4 block))

pub refusals_append : (here later : List Entry) → refusals_in (here ++ later) ≡ refusals_in here + refusals_in later
refusals_append here later = grind (arith, common_steps)

-- some lines of a block are listed, and the rest are to come
pub record Along (block : List ℕ) (was : Draft) (rest : List (List ℕ)) (is : Draft) : Type 0 where
  pub entries : List Entry
  pub lists : (later : List Entry) → ListsLines was.blocks is.lines rest later → ListsLines was.blocks was.lines (cut (text_of block)) (entries ++ later)
  pub text : is.text.items ≡ was.text.items ++ flat_map printed entries
  pub refused : is.refused ≡ was.refused + refusals_in entries
  pub few : is.refused + was.lines ≤ was.refused + is.lines
  pub blocks : is.blocks ≡ was.blocks
  pub reaches : is.lines + length rest ≡ was.lines + length (cut (text_of block))

pub along_none : (block : List ℕ) (was : Draft) → Along block was (cut (text_of block)) was
along_none block was = record {
  entries = [];
  lists = λ later h. h;
  text = sym (append-nil was.text.items);
  refused = omega arith;
  few = omega arith;
  blocks = refl;
  reaches = refl;
}

-- one entry more, for the first line of the rest
along_more : (block : List ℕ) (was : Draft) (line : List ℕ) (rest : List (List ℕ)) (at is : Draft) (entry : Entry) → Along block was (line ∷ rest) at → Prints (record { text = at.text; blocks = at.blocks; lines = at.lines + 1; refused = at.refused }) entry is → ((later : List Entry) → ListsLines was.blocks (at.lines + 1) rest later → ListsLines was.blocks at.lines (line ∷ rest) (entry ∷ later)) → refusals_in (entry ∷ []) ≤ 1 → Along block was rest is
along_more block was line rest at is entry a p step small = record {
  entries = a.entries ++ (entry ∷ []);
  lists = λ later h. subst (ListsLines was.blocks was.lines (cut (text_of block))) (sym (append_assoc a.entries (entry ∷ []) later)) (a.lists (entry ∷ later) (step later (rw (← p.lines) h)));
  text = p.text ∙ ap (λ t. t ++ printed entry) a.text ∙ flat_map_more printed was.text.items a.entries entry;
  refused = p.refused ∙ ap (λ n. n + refusals_in (entry ∷ [])) a.refused ∙ omega (arith, refusals_append a.entries (entry ∷ []));
  few = omega (arith, a.few, p.refused, p.lines);
  blocks = p.blocks ∙ a.blocks;
  reaches = omega (arith, a.reaches, p.lines);
}

pub along_order : (block : List ℕ) (was : Draft) (line : List ℕ) (rest : List (List ℕ)) (at is : Draft) (o : Order) → Along block was (line ∷ rest) at → Prints (record { text = at.text; blocks = at.blocks; lines = at.lines + 1; refused = at.refused }) (order_at at.blocks (at.lines + 1) line) is → Spells line o → Along block was rest is
along_order block was line rest at is o a p spelled =
    along_more block was line rest at is (order_at at.blocks (at.lines + 1) line) a p (λ later h. rw a.blocks (an_order at.lines line o rest later spelled h)) (omega arith)

pub along_refused : (block : List ℕ) (was : Draft) (line : List ℕ) (rest : List (List ℕ)) (at is : Draft) → Along block was (line ∷ rest) at → Prints (record { text = at.text; blocks = at.blocks; lines = at.lines + 1; refused = at.refused }) (refused_at NotAnOrder at.blocks (at.lines + 1)) is → ((o : Order) → Spells line o → ⊥) → Along block was rest is
along_refused block was line rest at is a p not =
    along_more block was line rest at is (refused_at NotAnOrder at.blocks (at.lines + 1)) a p (λ later h. rw a.blocks (no_order at.lines line rest later not h)) (omega arith)

pub along_all : (block : List ℕ) (was at : Draft) → Along block was [] at → Adds block was (record { text = at.text; blocks = at.blocks + 1; lines = at.lines; refused = at.refused })
along_all block was at a = record {
  entries = a.entries;
  lists = subst (ListsLines was.blocks was.lines (cut (text_of block))) (append-nil a.entries) (a.lists [] none);
  text = a.text;
  refused = a.refused;
  blocks = omega (arith, a.blocks);
  lines = omega (arith, a.reaches);
}
