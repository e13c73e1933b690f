-- The kind `sum-worst`: a sum with the highest price in it, sums first; or top.
use Rattle.std.specs.Prelude.{ℕ, ◌+◌, ◌-◌, ◌^◌, max, Bool, true, false, cond, ◌&&◌, ◌||◌, List, ◌++◌, codes, decimal, ◌==◌, nat_le, nat_lt}
use Rattle.weights.specs.declared.sum_worst.SumWorst.{SumWorst}
use Rattle.weights.specs.declared.sum_worst.SumWorst.TheVariants.{Pair, Top}
use Rattle.weights.specs.Kinds.{Kind, highest}

-- sums added and the larger worst; top where the sum would pass the ceiling, or either is top
abbrev pub joined_up_to : (ℕ → ℕ → ℕ) → SumWorst → SumWorst → SumWorst
joined_up_to ceiling (Pair s w) (Pair t v) = cond (nat_le (s + t) (ceiling s t)) (Pair (s + t) (max w v)) Top
joined_up_to ceiling (Pair s w) Top = Top
joined_up_to ceiling Top (Pair t v) = Top
joined_up_to ceiling Top Top = Top

-- the join, and below what it comes to for sums of 64 bits
abbrev pub joined : SumWorst → SumWorst → SumWorst
joined = joined_up_to highest

abbrev pub capped : SumWorst → SumWorst → SumWorst
capped = joined_up_to (λ s t. 2 ^ 64 - 1)

-- sums first, then worsts; top is above every pair
abbrev pub not_above : SumWorst → SumWorst → Bool
not_above (Pair s w) (Pair t v) = nat_lt s t || (s == t && nat_le w v)
not_above (Pair s w) Top = true
not_above Top (Pair t v) = false
not_above Top Top = true

abbrev pub sum_worst : Kind SumWorst
sum_worst = record {
  nothing = Pair 0 0;
  priced = λ p. Pair p p;
  join = joined;
  not_above = not_above;
}

-- how it is written for people
abbrev pub written : SumWorst → List ℕ
written (Pair s w) = codes "weight " ++ (decimal s ++ (codes " " ++ decimal w))
written Top = codes "weight top"
