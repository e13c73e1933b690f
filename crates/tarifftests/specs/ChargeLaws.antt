-- The tiny kind of weight is lawful.
use Rattle.std.specs.Prelude.{◌≡◌, Bool, true, false, not, ◌||◌, ◌⊎◌, refl}
use Rattle.std.proofs.Common.{ap, inl, inr}
use Rattle.tarifftests.specs.declared.charged.Charged.{Charged}
use Rattle.tarifftests.specs.Charges.{charged}
use Rattle.weights.specs.Kinds.{Lawful}

abbrev of : Bool → Charged
of b = record { any = b }

or_true : (b : Bool) → (b || true) ≡ true
or_true true = refl
or_true false = refl

total : (a b : Bool) → ((not a || b) ≡ true) ⊎ ((not b || a) ≡ true)
total true b = inr (or_true (not b))
total false b = inl refl

antisymmetric : (a b : Bool) → (not a || b) ≡ true → (not b || a) ≡ true → a ≡ b
antisymmetric true true p q = refl
antisymmetric true false p q = absurd (cc)
antisymmetric false true p q = absurd (cc)
antisymmetric false false p q = refl

transitive : (a b c : Bool) → (not a || b) ≡ true → (not b || c) ≡ true → (not a || c) ≡ true
transitive true true c p q = q
transitive true false c p q = absurd (cc)
transitive false b c p q = refl

commutative : (a b : Bool) → (a || b) ≡ (b || a)
commutative true true = refl
commutative true false = refl
commutative false true = refl
commutative false false = refl

associative : (a b c : Bool) → ((a || b) || c) ≡ (a || (b || c))
associative true b c = refl
associative false b c = refl

monotone : (a b c : Bool) → (not a || b) ≡ true → (not (a || c) || (b || c)) ≡ true
monotone true true c p = refl
monotone true false c p = absurd (cc)
monotone false true c p = or_true (not c)
monotone false false true p = refl
monotone false false false p = refl

pub charged_lawful : Lawful charged
charged_lawful = record {
  total = λ a b. total a.any b.any;
  antisymmetric = λ a b p q. ap of (antisymmetric a.any b.any p q);
  transitive = λ a b c. transitive a.any b.any c.any;
  commutative = λ a b. ap of (commutative a.any b.any);
  associative = λ a b c. ap of (associative a.any b.any c.any);
  unit = λ a. refl;
  monotone = λ a b c. monotone a.any b.any c.any;
}
