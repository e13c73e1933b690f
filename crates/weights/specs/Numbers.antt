-- The order of numbers, as a test.
use Rattle.std.specs.Prelude.{◌≡◌, ℕ, true, ◌⊎◌, nat_le}
use Rattle.std.proofs.Common.{inl, inr, arith}
use Rattle.std.proofs.lemmas.Bool.{cases_lt, le-leb, leb-true}

pub nat_le_total : (a b : ℕ) → (nat_le a b ≡ true) ⊎ (nat_le b a ≡ true)
nat_le_total a b = elim (cases_lt a b) [ inl l ↦ inl (le-leb a b (omega arith)) | inr l ↦ inr (le-leb b a l) ]

pub nat_le_antisymmetric : (a b : ℕ) → nat_le a b ≡ true → nat_le b a ≡ true → a ≡ b
nat_le_antisymmetric a b p q = omega (arith, leb-true a b p, leb-true b a q)

pub nat_le_transitive : (a b c : ℕ) → nat_le a b ≡ true → nat_le b c ≡ true → nat_le a c ≡ true
nat_le_transitive a b c p q = le-leb a c (omega (arith, leb-true a b p, leb-true b c q))
