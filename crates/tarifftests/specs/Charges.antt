-- What the tiny kind of weight means.
use Rattle.std.specs.Prelude.{false, not, ◌||◌, nat_lt}
use Rattle.tarifftests.specs.declared.charged.Charged.{Charged}
use Rattle.weights.specs.Kinds.{Kind}

abbrev pub charged : Kind Charged
charged = record {
  nothing = record { any = false };
  priced = λ p. record { any = nat_lt 0 p };
  join = λ a b. record { any = a.any || b.any };
  not_above = λ a b. not a.any || b.any;
}
