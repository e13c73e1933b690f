-- What is added to a listing in the making. This serves the private functions: the public definition of a listing is in
-- Listings. Assumes nothing.
use Rattle.std.specs.Prelude.{◌≡◌, ℕ, ◌+◌, List, [], ◌∷◌, ◌++◌, length}
use Rattle.std.specs.List.{flat_map}
use Rattle.blocks.specs.Layout.{text_of}
use Rattle.blocks.specs.Lines.{cut}
use Rattle.jobs.specs.declared.draft.Draft.{Draft}
use Rattle.jobs.specs.Listings.{Entry, Lists, ListsLines, printed, refusals_in}

-- an entry more is printed, and counted where it is a refusal
pub record Prints (was : Draft) (entry : Entry) (is : Draft) : Type 0 where
  pub text : is.text.items ≡ was.text.items ++ printed entry
  pub refused : is.refused ≡ was.refused + refusals_in (entry ∷ [])
  pub blocks : is.blocks ≡ was.blocks
  pub lines : is.lines ≡ was.lines

-- a block more is listed with its lines
pub record Adds (block : List ℕ) (was is : Draft) : Type 0 where
  pub entries : List Entry
  pub lists : ListsLines was.blocks was.lines (cut (text_of block)) entries
  pub text : is.text.items ≡ was.text.items ++ flat_map printed entries
  pub refused : is.refused ≡ was.refused + refusals_in entries
  pub blocks : is.blocks ≡ was.blocks + 1
  pub lines : is.lines ≡ was.lines + length (cut (text_of block))

-- the whole job is listed, but for the summary
pub record Drafted (job : List ℕ) (is : Draft) : Type 0 where
  pub entries : List Entry
  pub lists : Lists 0 0 job entries is.blocks is.lines
  pub text : is.text.items ≡ flat_map printed entries
  pub refused : is.refused ≡ refusals_in entries
