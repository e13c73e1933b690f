-- The kind `worst` is lawful.
use Rattle.std.proofs.Common.{ap, arith}
use Rattle.std.specs.Prelude.{ℕ}
use Rattle.weights.specs.declared.worst.Worst.{Worst}
use Rattle.weights.specs.Kinds.{Lawful}
use Rattle.weights.specs.Worsts.{worst}

abbrev of : ℕ → Worst
of n = record { price = n }

pub worst_lawful : Lawful worst
worst_lawful = record {
  total = λ a b. grind arith;
  antisymmetric = λ a b p q. ap of (grind arith);
  transitive = λ a b c p q. grind arith;
  commutative = λ a b. ap of (grind arith);
  associative = λ a b c. ap of (grind arith);
  unit = λ a. ap of (grind arith);
  monotone = λ a b c p. grind arith;
}
