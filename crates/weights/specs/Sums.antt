-- The kind `sum`: joining adds, and stays at the top.
use Rattle.std.specs.Prelude.{ℕ, ◌+◌, min, nat_le}
use Rattle.weights.specs.declared.sum.Sum.{Sum}
use Rattle.weights.specs.Kinds.{Kind, highest}

abbrev pub added : ℕ → ℕ → ℕ
added a b = min (a + b) (highest a b)

abbrev pub sum : Kind Sum
sum = record {
  nothing = record { total = 0 };
  priced = λ p. record { total = p };
  join = λ a b. record { total = added a.total b.total };
  not_above = λ a b. nat_le a.total b.total;
}
