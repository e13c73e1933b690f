-- The kind `worst`: joining takes the larger.
use Rattle.std.specs.Prelude.{max, nat_le}
use Rattle.weights.specs.declared.worst.Worst.{Worst}
use Rattle.weights.specs.Kinds.{Kind}

abbrev pub worst : Kind Worst
worst = record {
  nothing = record { price = 0 };
  priced = λ p. record { price = p };
  join = λ a b. record { price = max a.price b.price };
  not_above = λ a b. nat_le a.price b.price;
}
