-- A meaning given by states keeps the laws, where each state does.
use Rattle.std.proofs.Common.{◌≡◌, ℕ, Bool, true, false, if◌then◌else◌, Ok, Err, sym, refl, ap}
use Rattle.terms.specs.declared.Refusal.{Refusal}
use Rattle.terms.specs.declared.Refusal.TheVariants.{SerialUnknown}
use Rattle.tariffs.specs.declared.calls.Change.{Change}
use Rattle.tariffs.specs.declared.calls.Change.TheVariants.{Amend, Exchange}
use Rattle.tariffs.specs.Views.{AmendRefusal, Amended, Answer, Exchanged, OnlyAt, PutInUse}
use Rattle.tariffs.specs.Meanings.{Obeys, Outlook}
use Rattle.tariffs.specs.States.{Sound, if_accepted, meant, next}

module _ {S : Type 0} (outlook : S → Outlook) (accepted : S → Change → S) where
  pub refused_next : (s : S) (c : Change) (e : Refusal) → (outlook s).answer c ≡ Err e → next outlook accepted s c ≡ s
  refused_next s c e f = ap (λ (a : Answer). if_accepted a (accepted s c) s) f

  pub accepted_next : (s : S) (c : Change) → (outlook s).answer c ≡ Ok tt → next outlook accepted s c ≡ accepted s c
  accepted_next s c f = ap (λ (a : Answer). if_accepted a (accepted s c) s) f

  amends : (a : Answer) (c : ℕ) (before new : S) → (a ≡ Ok tt → OnlyAt c (outlook before).view (outlook new).view) → ((e : Refusal) → a ≡ Err e → AmendRefusal e)
      → Amended a c (outlook before).view (outlook (if_accepted a new before)).view
  amends (Ok u) c before new h k = h refl
  amends (Err e) c before new h k = (k e refl, refl)

  exchanges : (a : Answer) (n : ℕ) (known : Bool) (before new : S) → a ≡ (if known then Ok tt else Err SerialUnknown) → known ≡ (outlook before).view.knows n
      → ((outlook before).view.knows n ≡ true → PutInUse n (outlook before).view (outlook new).view)
      → Exchanged a n (outlook before).view (outlook (if_accepted a new before)).view
  exchanges a n true before new e f h = rw e (h (sym f))
  exchanges a n false before new e f h = rw e (sym f, refl, refl)

  pub obeys : (s : S) → Sound outlook accepted s → Obeys (meant outlook accepted s)
  obeys s h =
      record {
        proper = h.proper;
        refused = λ c e f. ap (meant outlook accepted) (refused_next s c e f);
        amended = λ c x y z. amends ((outlook s).answer (Amend c x y z)) c s (accepted s (Amend c x y z)) (h.amended c x y z) (h.refusals c x y z);
        exchanged = λ n. exchanges ((outlook s).answer (Exchange n)) n ((outlook s).view.knows n) s (accepted s (Exchange n)) (h.exchange n) refl (h.exchanged n);
      }
