-- Memory that a tariff was lent and does not read.
use Rattle.std.specs.Prelude.{◌≡◌, ℕ, List, drop, refl}
use Rattle.std.proofs.Common.{◌∙◌}
use Rattle.std.specs.Borrow.{MutBor}
use Rattle.tariffs.specs.Meanings.{Chains}

-- it is the same memory, and from place n on it holds what it held
abbrev pub SameFrom : {X : Type 0} → ℕ → MutBor (List X) → MutBor (List X) → Type 0
SameFrom n before after = (after.ghost_name ≡ before.ghost_name) × (drop n after.now ≡ drop n before.now)

pub same_from : {X T : Type 0} (n : ℕ) (lent : T → MutBor (List X)) → Chains (λ (a b : T). SameFrom n (lent a) (lent b))
same_from n lent = record { none = λ a. (refl, refl); both = λ a b c p q. (q.0 ∙ p.0, q.1 ∙ p.1) }

-- and a value beside it is the same too
pub with_value : {X T : Type 0} {R : T → T → Type 0} (value : T → X) → Chains R → Chains (λ (a b : T). (value b ≡ value a) × R a b)
with_value value h = record { none = λ a. (refl, h.none a); both = λ a b c p q. (q.0 ∙ p.0, h.both a b c p.1 q.1) }
