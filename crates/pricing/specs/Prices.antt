-- What lists of triangles weigh, for a kind of weight and what a tariff answers.
use Rattle.std.specs.Prelude.{◌≡◌, ℕ, true, cond, List, [], ◌∷◌, Some, None, Option, All, Contains}
use Rattle.std.specs.Option.{option_map}
use Rattle.terms.specs.declared.triangles.Triangle.{Triangle}
use Rattle.weights.specs.Kinds.{Kind}
use Rattle.tariffs.specs.Views.{View}

module _ {W : Type 0} (kind : Kind W) where
  -- the weight of a price, if there is one
  abbrev pub weighed : Option ℕ → Option W
  weighed = option_map kind.priced

  -- two weights joined, if there are both
  abbrev pub both : Option W → Option W → Option W
  both None b = None
  both (Some a) None = None
  both (Some a) (Some b) = Some (kind.join a b)

  -- the weights of all prices joined, if all triangles have one
  abbrev pub joined : View → List Triangle → Option W
  joined view [] = Some kind.nothing
  joined view (t ∷ ts) = both (weighed (view.price t)) (joined view ts)

  -- its weight, if it has a price, is not above w
  abbrev pub NotAbove : View → W → Triangle → Type 0
  NotAbove view w t = (p : ℕ) → view.price t ≡ Some p → kind.not_above (kind.priced p) w ≡ true

  -- a listed triangle with its weight, and no listed one is above it; or none, where none of them has a price
  abbrev pub Dearest : View → List Triangle → Option (Triangle × W) → Type 0
  Dearest view ts None = All (λ t. view.price t ≡ None) ts
  Dearest view ts (Some b) = Contains ts b.0 × (weighed (view.price b.0) ≡ Some b.1) × All (NotAbove view b.1) ts

  -- the one with the larger weight, the first where neither is larger
  abbrev pub larger : Option (Triangle × W) → Triangle × W → Triangle × W
  larger None t = t
  larger (Some b) t = cond (kind.not_above t.1 b.1) b t
