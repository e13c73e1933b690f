-- The kind `sum` is lawful.
use Rattle.std.specs.Prelude.{◌≡◌, ℕ}
use Rattle.std.proofs.Common.{ap, arith}
use Rattle.weights.specs.declared.sum.Sum.{Sum}
use Rattle.weights.specs.Kinds.{Lawful}
use Rattle.weights.specs.Sums.{added, sum}

associative : (a b c : ℕ) → added (added a b) c ≡ added a (added b c)
associative a b c = grind arith

abbrev of : ℕ → Sum
of n = record { total = n }

pub sum_lawful : Lawful sum
sum_lawful = record {
  total = λ a b. grind arith;
  antisymmetric = λ a b p q. ap of (grind arith);
  transitive = λ a b c p q. grind arith;
  commutative = λ a b. ap of (grind arith);
  associative = λ a b c. ap of (associative a.total b.total c.total);
  unit = λ a. ap of (grind arith);
  monotone = λ a b c p. grind arith;
}
