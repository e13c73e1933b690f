-- Joining weights that may be missing, step by step and in any order.
use Rattle.std.proofs.Common.{◌≡◌, ℕ, zero, suc, ◌+◌, ◌<◌, ◌≤◌, List, [], ◌∷◌, length, get_or, drop, set, Some, None, Option, sym, refl, ap, ◌∙◌, arith}
use Rattle.std.specs.List.Sorted.{IsPermutation}
use Rattle.std.specs.List.{swap}
use Rattle.std.proofs.lemmas.List.{at_drop_all, at_drop_more, set-get_or}
use Rattle.std.proofs.lemmas.List.Sorted.{IsPermutation-keeps}
use Rattle.terms.specs.declared.triangles.Triangle.{Triangle}
use Rattle.weights.specs.Kinds.{Kind, Lawful}
use Rattle.tariffs.specs.Views.{View}
use Rattle.pricing.specs.Prices.{both, joined, weighed}

-- w is joined from the first i triangles: with what is left it makes the whole
pub record SoFar {W : Type 0} (kind : Kind W) (view : View) (ts : List Triangle) (i : ℕ) (w : W) : Type 0 where
  pub whole : both kind (Some w) (joined kind view (drop i ts)) ≡ joined kind view ts

module _ {W : Type 0} {kind : Kind W} (lawful : Lawful kind) where
  pub both_comm : (a b : Option W) → both kind a b ≡ both kind b a
  both_comm None None = refl
  both_comm None (Some b) = refl
  both_comm (Some a) None = refl
  both_comm (Some a) (Some b) = ap Some (lawful.commutative a b)

  pub both_assoc : (a b c : Option W) → both kind (both kind a b) c ≡ both kind a (both kind b c)
  both_assoc None b c = refl
  both_assoc (Some a) None c = refl
  both_assoc (Some a) (Some b) None = refl
  both_assoc (Some a) (Some b) (Some c) = ap Some (lawful.associative a b c)

  pub both_unit : (a : Option W) → both kind (Some kind.nothing) a ≡ a
  both_unit None = refl
  both_unit (Some a) = ap Some (lawful.unit a)

  pub both_unit_right : (a : Option W) → both kind a (Some kind.nothing) ≡ a
  both_unit_right a = both_comm a (Some kind.nothing) ∙ both_unit a

  both_swap : (a b c : Option W) → both kind a (both kind b c) ≡ both kind b (both kind a c)
  both_swap a b c = sym (both_assoc a b c) ∙ ap (λ (x : Option W). both kind x c) (both_comm a b) ∙ both_assoc b a c

  module _ (view : View) where
    left : (ts : List Triangle) (i : ℕ) (d : Triangle) (w : W) → i < length ts → SoFar kind view ts i w
        → both kind (Some w) (both kind (weighed kind (view.price (get_or ts i d))) (joined kind view (drop (i + 1) ts))) ≡ joined kind view ts
    left ts i d w l h = ap (both kind (Some w)) (sym (at_drop_more (joined kind view) ts i d l)) ∙ h.whole

    pub more : (ts : List Triangle) (i : ℕ) (d : Triangle) (w w' : W) (p : ℕ) → i < length ts → view.price (get_or ts i d) ≡ Some p
        → w' ≡ kind.join w (kind.priced p) → SoFar kind view ts i w → SoFar kind view ts (i + 1) w'
    more ts i d w w' p l e f h =
        record {
          whole =
              ap (λ (x : W). both kind (Some x) (joined kind view (drop (i + 1) ts))) f
              ∙ both_assoc (Some w) (Some (kind.priced p)) (joined kind view (drop (i + 1) ts))
              ∙ ap (λ (o : Option ℕ). both kind (Some w) (both kind (weighed kind o) (joined kind view (drop (i + 1) ts)))) (sym e)
              ∙ left ts i d w l h;
        }

    pub unpriced : (ts : List Triangle) (i : ℕ) (d : Triangle) (w : W) → i < length ts → view.price (get_or ts i d) ≡ None → SoFar kind view ts i w → joined kind view ts ≡ None
    unpriced ts i d w l e h =
        sym (left ts i d w l h) ∙ ap (λ (o : Option ℕ). both kind (Some w) (both kind (weighed kind o) (joined kind view (drop (i + 1) ts)))) e

    pub done : (ts : List Triangle) (i : ℕ) (w : W) → length ts ≤ i → SoFar kind view ts i w → Some w ≡ joined kind view ts
    done ts i w l h = sym (both_unit_right (Some w)) ∙ ap (both kind (Some w)) (sym (at_drop_all (joined kind view) ts i l)) ∙ h.whole

    -- all but the i-th joined
    without : List Triangle → ℕ → Option W
    without [] i = Some kind.nothing
    without (t ∷ ts) zero = joined kind view ts
    without (t ∷ ts) (suc i) = both kind (weighed kind (view.price t)) (without ts i)

    joined_set : (ts : List Triangle) (i : ℕ) (t : Triangle) → i < length ts → joined kind view (set ts i t) ≡ both kind (weighed kind (view.price t)) (without ts i)
    unfolding without
    joined_set [] i t l = absurd (omega arith)
    joined_set (u ∷ ts) zero t l = refl
    joined_set (u ∷ ts) (suc i) t l =
        ap (both kind (weighed kind (view.price u))) (joined_set ts i t (omega arith))
        ∙ both_swap (weighed kind (view.price u)) (weighed kind (view.price t)) (without ts i)

    -- the first triangle and another one in each other's place
    first : (t : Triangle) (ts : List Triangle) (i : ℕ) (d : Triangle) → i < length ts → joined kind view (get_or ts i d ∷ set ts i t) ≡ joined kind view (t ∷ ts)
    first t ts i d l =
        ap (both kind (weighed kind (view.price (get_or ts i d)))) (joined_set ts i t l)
        ∙ both_swap (weighed kind (view.price (get_or ts i d))) (weighed kind (view.price t)) (without ts i)
        ∙ ap (both kind (weighed kind (view.price t))) (sym (joined_set ts i (get_or ts i d) l) ∙ ap (joined kind view) (set-get_or ts i d))

    swapped : (ts : List Triangle) (i j : ℕ) (d : Triangle) → i < length ts → j < length ts → joined kind view (set (set ts i (get_or ts j d)) j (get_or ts i d)) ≡ joined kind view ts
    swapped [] i j d l k = absurd (omega arith)
    swapped (t ∷ ts) zero zero d l k = refl
    swapped (t ∷ ts) zero (suc j) d l k = first t ts j d (omega arith)
    swapped (t ∷ ts) (suc i) zero d l k = first t ts i d (omega arith)
    swapped (t ∷ ts) (suc i) (suc j) d l k = ap (both kind (weighed kind (view.price t))) (swapped ts i j d (omega arith) (omega arith))

    exchange : (ts us : List Triangle) (i j : ℕ) → i < length us → j < length us → joined kind view us ≡ joined kind view ts → joined kind view (swap us i j) ≡ joined kind view ts
    exchange ts [] i j l k e = e
    exchange ts (u ∷ us) i j l k e = swapped (u ∷ us) i j u l k ∙ e

    any_order : (ts us : List Triangle) → IsPermutation ts us → joined kind view us ≡ joined kind view ts
    any_order ts us h = IsPermutation-keeps ts (λ (l : List Triangle). joined kind view l ≡ joined kind view ts) refl (exchange ts) us h

    -- what is joined from a list is joined from it in any order
    pub in_any_order : (ts : List Triangle) (r : Option W) → r ≡ joined kind view ts → (us : List Triangle) → IsPermutation ts us → r ≡ joined kind view us
    in_any_order ts r e us h = e ∙ sym (any_order ts us h)
