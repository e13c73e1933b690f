-- The kind `sum-worst` is lawful.
use Rattle.std.specs.Prelude.{◌≡◌, true, ◌⊎◌, refl}
use Rattle.std.proofs.Common.{arith}
use Rattle.std.proofs.lemmas.Grind.{common_steps}
use Rattle.weights.specs.declared.sum_worst.SumWorst.{SumWorst}
use Rattle.weights.specs.declared.sum_worst.SumWorst.TheVariants.{Pair, Top}
use Rattle.weights.specs.Kinds.{Lawful}
use Rattle.weights.specs.SumWorsts.{joined, not_above, sum_worst}

total : (a b : SumWorst) → (not_above a b ≡ true) ⊎ (not_above b a ≡ true)
total (Pair s w) (Pair t v) = grind (arith, common_steps)
total (Pair s w) Top = grind arith
total Top (Pair t v) = grind arith
total Top Top = grind arith

antisymmetric : (a b : SumWorst) → not_above a b ≡ true → not_above b a ≡ true → a ≡ b
antisymmetric (Pair s w) (Pair t v) p q = grind (arith, common_steps)
antisymmetric (Pair s w) Top p q = grind arith
antisymmetric Top (Pair t v) p q = grind arith
antisymmetric Top Top p q = refl

transitive : (a b c : SumWorst) → not_above a b ≡ true → not_above b c ≡ true → not_above a c ≡ true
transitive (Pair s w) (Pair t v) (Pair u x) p q = grind (arith, common_steps)
transitive a b Top p q = grind arith
transitive a Top (Pair u x) p q = grind arith
transitive Top (Pair t v) (Pair u x) p q = grind arith

commutative : (a b : SumWorst) → joined a b ≡ joined b a
commutative (Pair s w) (Pair t v) = grind (arith, common_steps)
commutative (Pair s w) Top = refl
commutative Top (Pair t v) = refl
commutative Top Top = refl

associative : (a b c : SumWorst) → joined (joined a b) c ≡ joined a (joined b c)
associative (Pair s w) (Pair t v) (Pair u x) = grind (arith, common_steps)
associative (Pair s w) (Pair t v) Top = grind (arith, common_steps)
associative (Pair s w) Top (Pair u x) = refl
associative (Pair s w) Top Top = refl
associative Top (Pair t v) (Pair u x) = grind (arith, common_steps)
associative Top (Pair t v) Top = refl
associative Top Top (Pair u x) = refl
associative Top Top Top = refl

unit : (a : SumWorst) → joined (Pair 0 0) a ≡ a
unit (Pair s w) = grind (arith, common_steps)
unit Top = refl

monotone : (a b c : SumWorst) → not_above a b ≡ true → not_above (joined a c) (joined b c) ≡ true
monotone (Pair s w) (Pair t v) (Pair u x) p = grind (arith, common_steps)
monotone (Pair s w) (Pair t v) Top p = refl
monotone (Pair s w) Top (Pair u x) p = grind (arith, common_steps)
monotone (Pair s w) Top Top p = refl
monotone Top (Pair t v) c p = grind arith
monotone Top Top (Pair u x) p = refl
monotone Top Top Top p = refl

pub sum_worst_lawful : Lawful sum_worst
sum_worst_lawful = record {
  total = total;
  antisymmetric = antisymmetric;
  transitive = transitive;
  commutative = commutative;
  associative = associative;
  unit = unit;
  monotone = monotone;
}
