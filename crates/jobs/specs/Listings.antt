-- What the listing of a job says, from its first byte to its last. Assumes nothing.
use Rattle.std.specs.Prelude.{◌≡◌, ℕ, Bool, true, false, count_by, ◌+◌, ◌<◌, List, [], ◌∷◌, ◌++◌, length, take, drop, Ok, Err, codes, decimal}
use Rattle.std.specs.List.{flat_map}
use Rattle.terms.specs.declared.Refusal.{Refusal}
use Rattle.terms.specs.declared.Refusal.TheVariants.{NotAnOrder}
use Rattle.terms.specs.Refusals.{number_of}
use Rattle.blocks.specs.Layout.{text_of}
use Rattle.blocks.specs.Lines.{cut}
use Rattle.blocks.specs.Reading.{judged}
use Rattle.lines.specs.Grammar.{Order, Spells}

-- an order with its place and its bytes, or a refusal with its place: blocks count from 0, lines from 1 through the job
pub data Entry : Type 0 where
  order_at : (block line : ℕ) (bytes : List ℕ) → Entry
  refused_at : (refusal : Refusal) (block line : ℕ) → Entry

-- the lines of a block, after some lines of the job: each is an order or is refused
pub data ListsLines (block : ℕ) : ℕ → List (List ℕ) → List Entry → Type 0 where
  none : {before : ℕ} → ListsLines block before [] []
  an_order :
      (before : ℕ) (bytes : List ℕ) (o : Order) (lines : List (List ℕ)) (entries : List Entry) →
      Spells bytes o →
      ListsLines block (before + 1) lines entries →
      ListsLines block before (bytes ∷ lines) (order_at block (before + 1) bytes ∷ entries)
  no_order :
      (before : ℕ) (bytes : List ℕ) (lines : List (List ℕ)) (entries : List Entry) →
      ((o : Order) → Spells bytes o → ⊥) →
      ListsLines block (before + 1) lines entries →
      ListsLines block before (bytes ∷ lines) (refused_at NotAnOrder block (before + 1) ∷ entries)

-- the lines of the block at the front
abbrev pub front_lines : List ℕ → List (List ℕ)
front_lines rest = cut (text_of (take 512 rest))

-- the bytes of a job from a block on, after some lines: what is listed of them, and how many blocks and lines there are
-- then in all. A block that is refused ends the job, and has the line 0.
pub data Lists : ℕ → ℕ → List ℕ → List Entry → ℕ → ℕ → Type 0 where
  ends : {block before : ℕ} → Lists block before [] [] block before
  stops :
      (block before : ℕ) (rest : List ℕ) (refusal : Refusal) →
      0 < length rest →
      judged rest block ≡ Err refusal →
      Lists block before rest (refused_at refusal block 0 ∷ []) block before
  goes :
      (block before : ℕ) (rest : List ℕ) (here later : List Entry) (blocks lines : ℕ) →
      judged rest block ≡ Ok tt →
      ListsLines block before (front_lines rest) here →
      Lists (block + 1) (before + length (front_lines rest)) (drop 512 rest) later blocks lines →
      Lists block before rest (here ++ later) blocks lines

-- how an entry is printed
abbrev pub printed : Entry → List ℕ
printed (order_at block line bytes) = codes "block " ++ (decimal block ++ (codes " line " ++ (decimal line ++ (codes ": " ++ (bytes ++ (10 ∷ []))))))
printed (refused_at refusal block line) = codes "refused " ++ (decimal (number_of refusal) ++ (codes " block " ++ (decimal block ++ (codes " line " ++ (decimal line ++ (10 ∷ []))))))

-- and the last line
abbrev pub summary : ℕ → ℕ → ℕ → List ℕ
summary blocks lines refusals = codes "blocks " ++ (decimal blocks ++ (codes " lines " ++ (decimal lines ++ (codes " refused " ++ (decimal refusals ++ (10 ∷ []))))))

abbrev pub is_refusal : Entry → Bool
is_refusal (order_at block line bytes) = false
is_refusal (refused_at refusal block line) = true

-- how many entries are refusals
abbrev pub refusals_in : List Entry → ℕ
refusals_in entries = count_by is_refusal entries

-- the text lists the job
pub record Listed (job text : List ℕ) (refusals : ℕ) : Type 0 where
  pub entries : List Entry
  pub blocks : ℕ
  pub lines : ℕ
  pub lists : Lists 0 0 job entries blocks lines
  pub counts : refusals ≡ refusals_in entries
  pub prints : text ≡ flat_map printed entries ++ summary blocks lines refusals
