-- A kind of weight, and when it is lawful.
use Rattle.std.specs.Prelude.{◌≡◌, ℕ, ◌-◌, ◌^◌, max, Bool, true, ◌⊎◌}

-- the weight of no price and of each price, two weights together, and whether one is lighter than another or equal
pub record Kind (W : Type 0) : Type 0 where
  pub nothing : W
  pub priced : ℕ → W
  pub join : W → W → W
  pub not_above : W → W → Bool

pub record Lawful {W : Type 0} (kind : Kind W) : Type 0 where
  -- of two weights one is not above the other, and if each is not above the other they are equal
  pub total : (a b : W) → (kind.not_above a b ≡ true) ⊎ (kind.not_above b a ≡ true)
  pub antisymmetric : (a b : W) → kind.not_above a b ≡ true → kind.not_above b a ≡ true → a ≡ b
  pub transitive : (a b c : W) → kind.not_above a b ≡ true → kind.not_above b c ≡ true → kind.not_above a c ≡ true
  pub commutative : (a b : W) → kind.join a b ≡ kind.join b a
  pub associative : (a b c : W) → kind.join (kind.join a b) c ≡ kind.join a (kind.join b c)
  pub unit : (a : W) → kind.join kind.nothing a ≡ a
  pub monotone : (a b c : W) → kind.not_above a b ≡ true → kind.not_above (kind.join a c) (kind.join b c) ≡ true

-- The highest that two numbers of 64 bits may add up to: 2^64 - 1. Numbers of the logic have no upper end, and the laws
-- are owed for all of them: where a or b is above 2^64 - 1, which no number of a program is, it is the larger of them.
abbrev pub highest : ℕ → ℕ → ℕ
highest a b = max (max a b) (2 ^ 64 - 1)
