-- What an amendable tariff means: everything that can be observed of it, now and after any list of changes.
use Rattle.std.specs.Prelude.{◌≡◌, ℕ, List, [], ◌∷◌, ℤ, Err}
use Rattle.terms.specs.declared.Refusal.{Refusal}
use Rattle.tariffs.specs.declared.calls.Change.{Change}
use Rattle.tariffs.specs.declared.calls.Change.TheVariants.{Amend, Exchange}
use Rattle.tariffs.specs.Views.{Amended, Answer, Exchanged, Proper, View}

-- what is answered at one time: the view, and the answer that each change would get
pub record Outlook : Type 0 where
  pub view : View
  pub answer : Change → Answer

-- the outlook after each list of changes, the first one first
abbrev pub Meaning : Type 0
Meaning = List Change → Outlook

-- the meaning that a change leaves
abbrev pub after : Change → Meaning → Meaning
after c m = λ later. m (c ∷ later)

-- what every amendable tariff owes
pub record Obeys (m : Meaning) : Type 0 where
  pub proper : Proper (m []).view
  pub refused : (c : Change) (e : Refusal) → (m []).answer c ≡ Err e → after c m ≡ m
  pub amended : (c : ℕ) (x y z : ℤ) → Amended ((m []).answer (Amend c x y z)) c (m []).view (after (Amend c x y z) m []).view
  pub exchanged : (s : ℕ) → Exchanged ((m []).answer (Exchange s)) s (m []).view (after (Exchange s) m []).view

-- a relation between before and after that holds of no call, and of two calls where it holds of each
pub record Chains {X : Type 0} (keeps : X → X → Type 0) : Type 0 where
  pub none : (a : X) → keeps a a
  pub both : (a b c : X) → keeps a b → keeps b c → keeps a c
