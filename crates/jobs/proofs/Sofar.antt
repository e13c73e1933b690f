-- Listing a job block by block: what holds after each.
use Rattle.std.proofs.Common.{◌≡◌, ℕ, ◌+◌, ◌*◌, ◌<◌, ◌≤◌, ltb, List, [], ◌∷◌, ◌++◌, length, min, take, drop, Ok, Err, sym, refl, ap, ◌∙◌, subst, inl, inr, arith}
use Rattle.std.specs.List.{flat_map}
use Rattle.std.proofs.lemmas.List.{append_assoc, append-nil, drop_all, length-drop, length-take, flat_map_more, take_all, take-take}
use Rattle.std.proofs.lemmas.Bool.{cases_lt}
use Rattle.std.proofs.lemmas.Grind.{common_steps, flat_map-append}
use Rattle.std.proofs.Math.Seq.{drop-append_seam, take-append_seam}
use Rattle.terms.specs.declared.Refusal.{Refusal}
use Rattle.blocks.specs.Layout.{text_of}
use Rattle.blocks.specs.Lines.{cut}
use Rattle.blocks.specs.Reading.{judged}
use Rattle.jobs.specs.declared.draft.Draft.{Draft}
use Rattle.jobs.specs.Listings.{Entry, refused_at, Lists, ListsLines, none, an_order, no_order, ends, stops, goes, printed, refusals_in}
use Rattle.jobs.specs.Drafts.{Adds, Drafted, Prints}
use Rattle.jobs.proofs.Along.{few_lines, refusals_append}

-- some blocks of a job are listed, and the rest is to come
pub record Sofar (job rest : List ℕ) (is : Draft) : Type 0 where
  pub entries : List Entry
  pub lists : (later : List Entry) (b l : ℕ) → Lists is.blocks is.lines rest later b l → Lists 0 0 job (entries ++ later) b l
  pub text : is.text.items ≡ flat_map printed entries
  pub refused : is.refused ≡ refusals_in entries
  pub place : 512 * is.blocks + length rest ≡ length job
  pub few : is.lines ≤ 504 * is.blocks
  pub fewer : is.refused ≤ is.lines

pub none_sofar : (job : List ℕ) (is : Draft) → is.text.items ≡ [] → is.blocks ≡ 0 → is.lines ≡ 0 → is.refused ≡ 0 → Sofar job job is
none_sofar job is t b l r = record {
  entries = [];
  lists = λ later b' l' h. rw (b, l) at h;
  text = t;
  refused = r;
  place = omega arith;
  few = omega arith;
  fewer = omega arith;
}

-- a block that passes is whole
pub whole_block : (rest : List ℕ) (next : ℕ) → judged rest next ≡ Ok tt → 512 ≤ length rest
whole_block rest next e = grind (arith, common_steps)

-- a chunk is the front of what is left, and judged as that
pub record Front (rest chunk behind : List ℕ) : Type 0 where
  pub twice : take 512 chunk ≡ take 512 rest
  pub back : behind ≡ drop 512 rest
  pub judged_so : (next : ℕ) → judged chunk next ≡ judged rest next

same_test : (rest : List ℕ) → ltb (length (take 512 rest)) 512 ≡ ltb (length rest) 512
same_test rest = let n = length-take 512 rest in grind arith

pub front : (rest chunk behind : List ℕ) → rest ≡ chunk ++ behind → length chunk ≡ min 512 (length rest) → Front rest chunk behind
front rest chunk behind e n =
    let f : chunk ≡ take 512 rest = elim (cases_lt (length rest) 512) [
      | inl l ↦ sym (take-append_seam chunk behind) ∙ ap (take (length chunk)) (sym e) ∙ take_all (length chunk) rest (omega arith) ∙ sym (take_all 512 rest (omega arith))
      | inr l ↦ (let k : length chunk ≡ 512 = omega arith in sym (take-append_seam chunk behind) ∙ ap (take (length chunk)) (sym e) ∙ ap (λ i. take i rest) k)
    ] in
    let b : behind ≡ drop 512 rest = elim (cases_lt (length rest) 512) [
      | inl l ↦ sym (drop-append_seam chunk behind) ∙ ap (drop (length chunk)) (sym e) ∙ drop_all (length chunk) rest (omega arith) ∙ sym (drop_all 512 rest (omega arith))
      | inr l ↦ (let k : length chunk ≡ 512 = omega arith in sym (drop-append_seam chunk behind) ∙ ap (drop (length chunk)) (sym e) ∙ ap (λ i. drop i rest) k)
    ] in
    record {
      twice = ap (take 512) f ∙ take-take 512 512 rest (omega arith);
      back = b;
      judged_so = λ next. rw (f, take-take 512 512 rest (omega arith), same_test rest) refl;
    }

-- a line is refused once at most
few_refused : {block before : ℕ} {lines : List (List ℕ)} {entries : List Entry} → ListsLines block before lines entries → refusals_in entries ≤ length lines
few_refused none = omega arith
few_refused (an_order before bytes o lines entries spelled h) = grind (arith, common_steps, few_refused h)
few_refused (no_order before bytes lines entries not h) = grind (arith, common_steps, few_refused h)

-- one block more
pub block_more : (job rest block : List ℕ) (was is : Draft) → Sofar job rest was → judged rest was.blocks ≡ Ok tt → block ≡ take 512 rest → Adds block was is → Sofar job (drop 512 rest) is
block_more job rest block was is s passes same a =
    let here = subst (λ b. ListsLines was.blocks was.lines (cut (text_of b)) a.entries) same a.lists in
    let count = a.lines ∙ ap (λ b. was.lines + length (cut (text_of b))) same in
    let long = whole_block rest was.blocks passes in
    record {
      entries = s.entries ++ a.entries;
      lists = λ later b l h. subst (λ es. Lists 0 0 job es b l) (sym (append_assoc s.entries a.entries later)) (s.lists _ b l (goes was.blocks was.lines rest a.entries later b l passes here (rw (a.blocks, count) at h)));
      text = a.text ∙ ap (λ t. t ++ flat_map printed a.entries) s.text ∙ sym (flat_map-append printed s.entries a.entries);
      refused = a.refused ∙ ap (λ n. n + refusals_in a.entries) s.refused ∙ sym (refusals_append s.entries a.entries);
      place = omega (arith, s.place, a.blocks, length-drop 512 rest);
      few = omega (arith, s.few, count, a.blocks, few_lines (take 512 rest));
      fewer = omega (arith, s.fewer, count, few_refused here, a.refused);
    }

-- the job ends
pub job_ends : (job : List ℕ) (is : Draft) → Sofar job [] is → Drafted job is
job_ends job is s = record {
  entries = s.entries;
  lists = subst (λ es. Lists 0 0 job es is.blocks is.lines) (append-nil s.entries) (s.lists [] is.blocks is.lines ends);
  text = s.text;
  refused = s.refused;
}

-- a block is refused
pub job_stops : (job rest : List ℕ) (was is : Draft) (refusal : Refusal) → Sofar job rest was → 0 < length rest → judged rest was.blocks ≡ Err refusal → Prints was (refused_at refusal was.blocks 0) is → Drafted job is
job_stops job rest was is refusal s some bad p =
    let last = refused_at refusal was.blocks 0 in
    record {
      entries = s.entries ++ (last ∷ []);
      lists = rw (p.blocks, p.lines) (s.lists (last ∷ []) was.blocks was.lines (stops was.blocks was.lines rest refusal some bad));
      text = p.text ∙ ap (λ t. t ++ printed last) s.text ∙ flat_map_more printed [] s.entries last;
      refused = p.refused ∙ ap (λ n. n + 1) s.refused ∙ sym (refusals_append s.entries (last ∷ []));
    }
