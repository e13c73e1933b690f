-- What a tariff answers, when that is proper, and what a change may alter of it.
use Rattle.std.specs.Prelude.{◌≡◌, ℕ, ◌≤◌, Bool, true, false, ◌⊎◌, Some, Ok, Err, Option, Result}
use Rattle.terms.specs.declared.Refusal.{Refusal}
use Rattle.terms.specs.declared.Refusal.TheVariants.{OutOfRange, SerialUnknown, BadCorner, RepeatedOrAbsent}
use Rattle.terms.specs.declared.triangles.Triangle.{Triangle}
use Rattle.terms.specs.declared.triangles.Fold.{Fold}
use Rattle.terms.specs.Limits.{LoopSize, highest_price}
use Rattle.terms.specs.Triangles.{FoldOf, Has, HasFold, TriangleOf}

-- everything that a tariff answers: n, which serials it knows, the one in use, and the prices
pub record View : Type 0 where
  pub corners : ℕ
  pub knows : ℕ → Bool
  pub in_use : ℕ
  pub price : Triangle → Option ℕ
  pub fold_price : Fold → Option ℕ

-- 3 to 64 corners, a known head in use, and prices within the limit, only of triangles and folds of the loop
pub record Proper (v : View) : Type 0 where
  pub size : LoopSize v.corners
  pub known : v.knows v.in_use ≡ true
  pub prices : (t : Triangle) (p : ℕ) → v.price t ≡ Some p → TriangleOf v.corners t × (p ≤ highest_price)
  pub fold_prices : (f : Fold) (p : ℕ) → v.fold_price f ≡ Some p → FoldOf v.corners f × (p ≤ highest_price)

-- accepted, or refused
abbrev pub Answer : Type 0
Answer = Result (Unit {0}) Refusal

-- an accepted amend of c alters only prices of triangles and folds that have c as a corner
pub record OnlyAt (c : ℕ) (before after : View) : Type 0 where
  pub corners : after.corners ≡ before.corners
  pub knows : after.knows ≡ before.knows
  pub in_use : after.in_use ≡ before.in_use
  pub prices : (t : Triangle) → (Has t c → ⊥) → after.price t ≡ before.price t
  pub fold_prices : (f : Fold) → (HasFold f c → ⊥) → after.fold_price f ≡ before.fold_price f

-- 7, 12 or 13
abbrev pub AmendRefusal : Refusal → Type 0
AmendRefusal e = (e ≡ OutOfRange) ⊎ ((e ≡ BadCorner) ⊎ (e ≡ RepeatedOrAbsent))

-- a refused amend alters nothing
abbrev pub Amended : Answer → ℕ → View → View → Type 0
Amended (Ok _) c before after = OnlyAt c before after
Amended (Err e) c before after = AmendRefusal e × (after ≡ before)

-- the head with the serial s, which was known, is in use
pub record PutInUse (s : ℕ) (before after : View) : Type 0 where
  pub known : before.knows s ≡ true
  pub corners : after.corners ≡ before.corners
  pub knows : after.knows ≡ before.knows
  pub in_use : after.in_use ≡ s

-- an exchange is accepted exactly when the serial is known; else it is refused with 10 and alters nothing
abbrev pub Exchanged : Answer → ℕ → View → View → Type 0
Exchanged (Ok _) s before after = PutInUse s before after
Exchanged (Err e) s before after = (before.knows s ≡ false) × (e ≡ SerialUnknown) × (after ≡ before)
