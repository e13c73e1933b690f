-- How large loops and prices are.
use Rattle.std.specs.Prelude.{ℕ, ◌≤◌}

-- a loop has 3 to 64 corners
abbrev pub LoopSize : ℕ → Type 0
LoopSize n = (3 ≤ n) × (n ≤ 64)

-- a price is a whole number from 0 to this, or none
abbrev pub highest_price : ℕ
highest_price = 1000000000
