-- Two tariffs answer all lists of calls alike exactly where their meanings are equal.
use Rattle.std.proofs.Common.{◌≡◌, ℕ, ◌+◌, Bool, List, [], ◌∷◌, drop, IsTrue, ◌↔◌}
use mathlib.Core.Path.{fun_ext}
use Rattle.terms.specs.declared.triangles.Triangle.{Triangle}
use Rattle.terms.specs.declared.triangles.Fold.{Fold}
use Rattle.tariffs.specs.declared.calls.Call.{Call}
use Rattle.tariffs.specs.declared.calls.Call.TheVariants.{Corners, Knows, InUse, Price, FoldPrice, Alter}
use Rattle.tariffs.specs.declared.calls.Change.{Change}
use Rattle.tariffs.specs.Meanings.{Meaning, after}
use Rattle.tariffs.specs.Replies.{AnswerAlike, leaves, leaves_all, reply}

module _ (m n : Meaning) (alike : (calls : List Call) → AnswerAlike m n calls) where
  one : (c : Call) → reply m c ≡ reply n c
  one c = let e = alike (c ∷ []) in cc

  corners : (m []).view.corners ≡ (n []).view.corners
  corners = let e = one Corners in cc

  knows : (s : ℕ) → (m []).view.knows s ≡ (n []).view.knows s
  knows s = let e = one (Knows s) in cc

  in_use : (m []).view.in_use ≡ (n []).view.in_use
  in_use = let e = one InUse in cc

  price : (t : Triangle) → (m []).view.price t ≡ (n []).view.price t
  price t = let e = one (Price t) in cc

  fold_price : (f : Fold) → (m []).view.fold_price f ≡ (n []).view.fold_price f
  fold_price f = let e = one (FoldPrice f) in cc

  answer : (c : Change) → (m []).answer c ≡ (n []).answer c
  answer c = let e = one (Alter c) in cc

  outlook : m [] ≡ n []
  outlook = λ i. record { view = record { corners = corners i; knows = λ s. knows s i; in_use = in_use i; price = λ t. price t i; fold_price = λ f. fold_price f i }; answer = λ c. answer c i }

everywhere : (m n : Meaning) → ((calls : List Call) → AnswerAlike m n calls) → (later : List Change) → m later ≡ n later
everywhere m n alike [] = outlook m n alike
everywhere m n alike (c ∷ later) = everywhere (after c m) (after c n) (λ calls. (let e = alike (Alter c ∷ calls) in cc)) later

pub equal_if_alike : (m n : Meaning) → ((calls : List Call) → AnswerAlike m n calls) → m ≡ n
equal_if_alike m n alike = fun_ext (everywhere m n alike)

-- where the first i of these calls are made of two tariffs, which meant m and n at first and mean m' and n' now
pub record Halfway (m n : Meaning) (calls : List Call) (i : ℕ) (m' n' : Meaning) (alike : Bool) : Type 0 where
  pub one : leaves_all m' (drop i calls) ≡ leaves_all m calls
  pub other : leaves_all n' (drop i calls) ≡ leaves_all n calls
  pub decides : (IsTrue alike × AnswerAlike m' n' (drop i calls)) ↔ AnswerAlike m n calls

-- one call more, and whether all were answered alike with it
pub more : (m n : Meaning) (calls : List Call) (i : ℕ) (c : Call) (m' n' : Meaning) (before alike : Bool) → drop i calls ≡ c ∷ drop (i + 1) calls
    → (IsTrue alike ↔ (IsTrue before × (reply m' c ≡ reply n' c))) → Halfway m n calls i m' n' before → Halfway m n calls (i + 1) (leaves m' c) (leaves n' c) alike
more m n calls i c m' n' before alike d t h =
    record {
      one = rw (← h.one, d);
      other = rw (← h.other, d);
      decides = (
        λ k.
            (let a = t.0 k.0 in
            let l = a.1 in
            h.decides.0 (a.0, rw (d, l, k.1))),
        λ k.
            (let a = h.decides.1 k in
            let l = rw d at a.1 in
            (t.1 (a.0, cc), cc)),
      );
    }
