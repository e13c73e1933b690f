-- Triangles and folds of a loop of n corners, which are numbered 0 to n - 1.
use Rattle.std.specs.Prelude.{◌≡◌, ℕ, ◌<◌, ◌≤◌, Bool, ◌&&◌, ◌||◌, ◌⊎◌, nat_lt}
use Rattle.terms.specs.declared.triangles.Triangle.{Triangle}
use Rattle.terms.specs.declared.triangles.Fold.{Fold}

-- three corners of the loop, ascending
abbrev pub TriangleOf : ℕ → Triangle → Type 0
TriangleOf n t = (t.low < t.mid) × (t.mid < t.high) × (t.high < n)

-- a triangle of the loop, and an outer corner below its lowest or above its highest
abbrev pub FoldOf : ℕ → Fold → Type 0
FoldOf n f = TriangleOf n f.inner × (f.outer < n) × ((f.outer < f.inner.low) ⊎ (f.inner.high < f.outer))

-- c is a corner of the triangle
abbrev pub Has : Triangle → ℕ → Type 0
Has t c = (t.low ≡ c) ⊎ ((t.mid ≡ c) ⊎ (t.high ≡ c))

-- c is one of the four corners of a fold
abbrev pub HasFold : Fold → ℕ → Type 0
HasFold f c = Has f.inner c ⊎ (f.outer ≡ c)

-- the span i to j takes in the corner c
abbrev pub TakesIn : ℕ → ℕ → ℕ → Type 0
TakesIn i j c = (i ≤ c) × (c ≤ j)

-- the span i to j takes in the triangle: all its corners
abbrev pub TakesInAll : ℕ → ℕ → Triangle → Type 0
TakesInAll i j t = TakesIn i j t.low × TakesIn i j t.mid × TakesIn i j t.high

-- whether it is a triangle of the loop: TriangleOf as a test that computes
abbrev pub is_triangle_of : ℕ → Triangle → Bool
is_triangle_of n t = nat_lt t.low t.mid && (nat_lt t.mid t.high && nat_lt t.high n)

-- whether it is a fold of the loop
abbrev pub is_fold_of : ℕ → Fold → Bool
is_fold_of n f = is_triangle_of n f.inner && (nat_lt f.outer n && (nat_lt f.outer f.inner.low || nat_lt f.inner.high f.outer))
