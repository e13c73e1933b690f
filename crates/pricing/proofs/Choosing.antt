-- The dearest of a list, by what its triangles offer.
use Rattle.std.proofs.Common.{◌≡◌, ℕ, true, false, List, [], ◌∷◌, map, length, Some, None, Option, refl, sym, ap, subst, ◌∙◌, inl, inr, arith}
use Rattle.std.specs.Prelude.{All, Contains}
use Rattle.std.specs.List.{filter_map, cons_option, fold}
use Rattle.std.specs.Option.{option_map, MatchOption}
use Rattle.std.specs.Iterator.{ActsAsOnTwo}
use Rattle.std.specs.Iterator.Runs.{Run, IsReduceRun}
use Rattle.std.proofs.lemmas.Bool.{both_ways, cond_both}
use Rattle.std.proofs.lemmas.List.Elements.{All-nil, All-cons, All-head, All-tail, All-weaker, All-contains, Contains-append_cases, Contains-append_left, Contains-append_right}
use denote.Param.Members.{Mut}
use Rattle.terms.specs.declared.triangles.Triangle.{Triangle}
use Rattle.weights.specs.Kinds.{Kind, Lawful}
use Rattle.tariffs.specs.Views.{View}
use Rattle.pricing.specs.Prices.{Dearest, NotAbove, larger, weighed}

nothing_is_some : {X : Type 0} {P : Type 0} (x : X) → ◌≡◌ {A = Option X} None (Some x) → P
nothing_is_some x e = absurd (cc)

pub filter_map-map : {X Y Z : Type 0} (v : X → Y) (h : Y → Option Z) (xs : List X) → filter_map (λ x. h (v x)) xs ≡ filter_map h (map v xs)
filter_map-map v h [] = refl
filter_map-map v h (x ∷ xs) = ap (cons_option (h (v x))) (filter_map-map v h xs)

-- the dearer of each in turn and those before it
abbrev pub largest : {W : Type 0} → Kind W → Triangle × W → List (Triangle × W) → Triangle × W
largest kind = fold (λ most. larger kind (Some most))

module _ {W : Type 0} (kind : Kind W) (view : View) where
  -- a triangle with its weight, if it has a price
  abbrev pub offered : Triangle → Option (Triangle × W)
  offered t = option_map (λ p. (t, kind.priced p)) (view.price t)

  abbrev pub offers : List Triangle → List (Triangle × W)
  offers = filter_map offered

  -- what holds of what the triangles offer holds of them
  module _ (P : Triangle × W → Type 0) (Q : Triangle → Type 0) (without : (t : Triangle) → view.price t ≡ None → Q t)
      (with' : (t : Triangle) (p : ℕ) → view.price t ≡ Some p → P (t, kind.priced p) → Q t) where
    one_more : (t : Triangle) (ts : List Triangle) (o : Option ℕ) → view.price t ≡ o → (All P (offers ts) → All Q ts)
        → All P (cons_option (option_map (λ p. (t, kind.priced p)) o) (offers ts)) → All Q (t ∷ ts)
    one_more t ts None e rest h = All-cons Q t ts (without t e) (rest h)
    one_more t ts (Some p) e rest h =
        let b : Triangle × W = (t, kind.priced p) in
        All-cons Q t ts (with' t p e (All-head P b (offers ts) h)) (rest (All-tail P b (offers ts) h))

    all_offered : (ts : List Triangle) → All P (offers ts) → All Q ts
    all_offered [] h = All-nil Q
    all_offered (t ∷ ts) h = one_more t ts (view.price t) refl (all_offered ts) h

  -- a listed triangle with its weight
  abbrev Listed : List Triangle → Triangle × W → Type 0
  Listed ts b = Contains ts b.0 × (weighed kind (view.price b.0) ≡ Some b.1)

  later_listed : (t : Triangle) (ts : List Triangle) → All (Listed ts) (offers ts) → All (Listed (t ∷ ts)) (offers ts)
  later_listed t ts h = All-weaker (Listed ts) (Listed (t ∷ ts)) (λ b l. (Contains-append_right (t ∷ []) ts b.0 l.0, l.1)) (offers ts) h

  one_listed : (t : Triangle) (ts : List Triangle) (o : Option ℕ) → view.price t ≡ o → All (Listed (t ∷ ts)) (offers ts)
      → All (Listed (t ∷ ts)) (cons_option (option_map (λ p. (t, kind.priced p)) o) (offers ts))
  one_listed t ts None e h = h
  one_listed t ts (Some p) e h = All-cons (Listed (t ∷ ts)) (t, kind.priced p) (offers ts) ((0, omega arith, refl), ap (weighed kind) e) h

  offered_listed : (ts : List Triangle) → All (Listed ts) (offers ts)
  offered_listed [] = All-nil (Listed [])
  offered_listed (t ∷ ts) = one_listed t ts (view.price t) refl (later_listed t ts (offered_listed ts))

  at_price : (t : Triangle) (p : ℕ) (w : W) → view.price t ≡ Some p → kind.not_above (kind.priced p) w ≡ true → NotAbove kind view w t
  at_price t p w e n q f = let k : q ≡ p = cc in rw k n

  none_above : (w : W) (ts : List Triangle) → All (λ b. kind.not_above b.1 w ≡ true) (offers ts) → All (NotAbove kind view w) ts
  none_above w ts h =
      all_offered (λ b. kind.not_above b.1 w ≡ true) (NotAbove kind view w) (λ t e p f. nothing_is_some p (sym e ∙ f)) (λ t p e n. at_price t p w e n) ts h

  none_offered : (ts : List Triangle) → length (offers ts) ≡ 0 → All (λ t. view.price t ≡ None) ts
  none_offered ts e = all_offered (λ _. ⊥) (λ t. view.price t ≡ None) (λ t f. f) (λ t p f n. absurd n) ts (λ k d l. absurd (omega (arith, e, l)))

module _ {W : Type 0} {kind : Kind W} (lawful : Lawful kind) where
  reflexive : (a : W) → kind.not_above a a ≡ true
  reflexive a = elim (lawful.total a a) [ inl e ↦ e | inr e ↦ e ]

  otherwise : (a b : W) → kind.not_above a b ≡ false → kind.not_above b a ≡ true
  otherwise a b n = elim (lawful.total a b) [ inl e ↦ absurd (both_ways (kind.not_above a b) n e) | inr e ↦ e ]

  abbrev NoneAbove : Triangle × W → Triangle × W → Type 0
  NoneAbove m b = kind.not_above b.1 m.1 ≡ true

  -- one of them, and none is above it
  abbrev Picked : List (Triangle × W) → Triangle × W → Type 0
  Picked bs m = Contains bs m × All (NoneAbove m) bs

  later : (m b x : Triangle × W) (bs : List (Triangle × W)) → Contains (m ∷ bs) x → Contains (m ∷ (b ∷ bs)) x
  later m b x bs c =
      elim (Contains-append_cases (m ∷ []) bs x c) [
        | inl d ↦ Contains-append_left (m ∷ []) (b ∷ bs) x d
        | inr d ↦ Contains-append_right (m ∷ (b ∷ [])) bs x d
      ]

  first_stays : (m b x : Triangle × W) (bs : List (Triangle × W)) → kind.not_above b.1 m.1 ≡ true → Picked (m ∷ bs) x → Picked (m ∷ (b ∷ bs)) x
  first_stays m b x bs n h =
      let first = All-head (NoneAbove x) m bs h.1 in
      let rest = All-tail (NoneAbove x) m bs h.1 in
      (later m b x bs h.0, All-cons (NoneAbove x) m (b ∷ bs) first (All-cons (NoneAbove x) b bs (lawful.transitive b.1 m.1 x.1 n first) rest))

  second_taken : (m b x : Triangle × W) (bs : List (Triangle × W)) → kind.not_above m.1 b.1 ≡ true → Picked (b ∷ bs) x → Picked (m ∷ (b ∷ bs)) x
  second_taken m b x bs n h =
      let first = All-head (NoneAbove x) b bs h.1 in
      (Contains-append_right (m ∷ []) (b ∷ bs) x h.0, All-cons (NoneAbove x) m (b ∷ bs) (lawful.transitive m.1 b.1 x.1 n first) h.1)

  picked : (m : Triangle × W) (bs : List (Triangle × W)) → Picked (m ∷ bs) (largest kind m bs)
  picked m [] = ((0, omega arith, refl), All-cons (NoneAbove m) m [] (reflexive m.1) (All-nil (NoneAbove m)))
  picked m (b ∷ bs) =
      cond_both (kind.not_above b.1 m.1) m b (λ x. Picked (m ∷ (b ∷ bs)) (largest kind x bs))
      (λ n. first_stays m b (largest kind m bs) bs n (picked m bs))
      (λ n. second_taken m b (largest kind b bs) bs (otherwise b.1 m.1 n) (picked b bs))

  largest_of : (view : View) (ts : List Triangle) (b : Triangle × W) (bs : List (Triangle × W)) → offers kind view ts ≡ b ∷ bs → Dearest kind view ts (Some (largest kind b bs))
  largest_of view ts b bs e =
      let m = largest kind b bs in
      let h = picked b bs in
      let l = All-contains (Listed kind view ts) (offers kind view ts) m (offered_listed kind view ts) (subst (λ l. Contains l m) (sym e) h.0) in
      (l.0, l.1, none_above kind view m.1 ts (subst (All (NoneAbove m)) (sym e) h.1))

  -- where the items of a run are what the triangles offer, and each call answers the larger of two
  module _ {S F : Type 0} {steps : S → Option (Triangle × W) → S → Type 0} (p : Run steps) (g : Mut F ((Triangle × W) × ((Triangle × W) × Unit {0})) (Triangle × W)) (f : F)
      (larger_of : ActsAsOnTwo g f (λ most. larger kind (Some most))) where
    pub dearest_of : (view : View) (ts : List Triangle) (r : Option (Triangle × W)) → p.items ≡ offers kind view ts
        → MatchOption r (p.len ≡ 0) (IsReduceRun p g f) → Dearest kind view ts r
    dearest_of view ts None e h = none_offered kind view ts (sym (ap length e) ∙ sym p.long ∙ h)
    dearest_of view ts (Some m) e h =
        let n = h.1 in
        rw (n.3 (λ most. larger kind (Some most)) larger_of) (largest_of view ts n.0 n.1 (sym e ∙ n.2))
