-- The tests of triangles and folds tell what they are to tell.
use Rattle.std.specs.Prelude.{◌≡◌, ℕ, true}
use Rattle.std.proofs.Common.{arith}
use Rattle.std.proofs.lemmas.Grind.{common_steps}
use Rattle.terms.specs.declared.triangles.Triangle.{Triangle}
use Rattle.terms.specs.declared.triangles.Fold.{Fold}
use Rattle.terms.specs.Triangles.{FoldOf, TriangleOf, is_fold_of, is_triangle_of}

pub triangle_of : (n : ℕ) (t : Triangle) → is_triangle_of n t ≡ true → TriangleOf n t
triangle_of n t e = grind (arith, common_steps)

pub fold_of : (n : ℕ) (f : Fold) → is_fold_of n f ≡ true → FoldOf n f
fold_of n f e = grind (arith, common_steps)
