-- A meaning given by states: what is answered in each, and the state that an accepted change leaves.
use Rattle.std.specs.Prelude.{◌≡◌, ℕ, true, if◌then◌else◌, [], ◌∷◌, ℤ, Ok, Err}
use Rattle.terms.specs.declared.Refusal.{Refusal}
use Rattle.terms.specs.declared.Refusal.TheVariants.{SerialUnknown}
use Rattle.tariffs.specs.declared.calls.Change.{Change}
use Rattle.tariffs.specs.declared.calls.Change.TheVariants.{Amend, Exchange}
use Rattle.tariffs.specs.Views.{AmendRefusal, Answer, OnlyAt, Proper, PutInUse}
use Rattle.tariffs.specs.Meanings.{Meaning, Outlook}

abbrev pub if_accepted : {S : Type 0} → Answer → S → S → S
if_accepted (Ok _) new old = new
if_accepted (Err e) new old = old

module _ {S : Type 0} (outlook : S → Outlook) (accepted : S → Change → S) where
  -- the state after a change, which is the same where that is refused
  abbrev pub next : S → Change → S
  next s c = if_accepted ((outlook s).answer c) (accepted s c) s

  abbrev pub meant : S → Meaning
  meant s [] = outlook s
  meant s (c ∷ later) = meant (next s c) later

  -- what has to be shown of a state
  pub record Sound (s : S) : Type 0 where
    pub proper : Proper (outlook s).view
    pub amended : (c : ℕ) (x y z : ℤ) → (outlook s).answer (Amend c x y z) ≡ Ok tt → OnlyAt c (outlook s).view (outlook (accepted s (Amend c x y z))).view
    pub refusals : (c : ℕ) (x y z : ℤ) (e : Refusal) → (outlook s).answer (Amend c x y z) ≡ Err e → AmendRefusal e
    pub exchange : (n : ℕ) → (outlook s).answer (Exchange n) ≡ (if (outlook s).view.knows n then Ok tt else Err SerialUnknown)
    pub exchanged : (n : ℕ) → (outlook s).view.knows n ≡ true → PutInUse n (outlook s).view (outlook (accepted s (Exchange n))).view
