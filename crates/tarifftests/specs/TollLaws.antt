-- The tiny tariff keeps the laws.
use Rattle.std.specs.Prelude.{◌≡◌, ℕ, ◌*◌, ◌≤◌, min, Bool, true, false, if◌then◌else◌, is_some, Ok, Err, ◌≢◌, slice_set, unsigned_abs, unwrap_or, refl}
use Rattle.std.proofs.Common.{ap, inl, inr, arith, get_or-set_other}
use Rattle.std.proofs.lemmas.Bool.Decides.{nat_tests}
use Rattle.std.proofs.lemmas.Option.{cond_some}
use Rattle.terms.specs.declared.Refusal.{Refusal}
use Rattle.terms.specs.declared.Refusal.TheVariants.{OutOfRange, BadCorner}
use Rattle.terms.specs.Limits.{highest_price}
use Rattle.terms.specs.Triangles.{is_fold_of, is_triangle_of}
use Rattle.terms.proofs.TriangleTests.{fold_of, triangle_of}
use Rattle.tariffs.specs.Views.{AmendRefusal, Answer, OnlyAt, Proper}
use Rattle.tariffs.specs.Meanings.{Obeys}
use Rattle.tariffs.specs.States.{meant}
use Rattle.tariffs.proofs.StateLaws.{obeys}
use Rattle.tarifftests.specs.declared.tolls.Head.{Head}
use Rattle.tarifftests.specs.declared.tolls.Head.TheVariants.{First, Second}
use Rattle.tarifftests.specs.Tolls.{State, accepted, amendable, head_with, known, outlook, serial_of, state, toll, toll_of, view_of}

in_use_known : (h : Head) → known (serial_of h) ≡ true
in_use_known First = refl
in_use_known Second = refl

within_limit : (h : Head) (tolls : ℕ) → tolls ≤ 3000 → serial_of h * tolls ≤ highest_price
within_limit First tolls l = omega arith
within_limit Second tolls l = omega arith

pub proper_view : (s : State) → Proper (view_of s)
proper_view s =
    record {
      size = (omega arith, omega arith);
      known = in_use_known s.head;
      prices = λ t p e. (let k = cond_some (is_triangle_of 4 t) _ p e in (triangle_of 4 t k.0, rw (← k.1) (within_limit s.head _ (omega arith))));
      fold_prices = λ f p e. (let k = cond_some (is_fold_of 4 f) _ p e in (fold_of 4 f k.0, rw (← k.1) (within_limit s.head _ (omega arith))));
    }

pub only_at : (s : State) (c n : ℕ) → OnlyAt c (view_of s) (view_of (state (slice_set s.tolls c n) s.head))
only_at s c n =
    let others : (k : ℕ) → (k ≢ c) → toll (slice_set s.tolls c n) k ≡ toll s.tolls k = λ k h. ap (λ (m : ℕ). min m 1000) (get_or-set_other s.tolls c k n 0 h) in
    record {
      corners = refl;
      knows = refl;
      in_use = refl;
      prices = λ t h. rw (others t.low (λ e. h (inl e)), others t.mid (λ e. h (inr (inl e))), others t.high (λ e. h (inr (inr e))));
      fold_prices = λ f h. rw (others f.outer (λ e. h (inr e)));
    }

refusal : (a b : Bool) (e : Refusal) → ◌≡◌ {A = Answer} (if a then if b then Ok tt else Err BadCorner else Err OutOfRange) (Err e) → AmendRefusal e
refusal true true e p = cc
refusal true false e p = inr (inl (cc))
refusal false b e p = inl (cc)

exchanged_head : (n : ℕ) → known n ≡ true → serial_of (unwrap_or (head_with n) First) ≡ n
exchanged_head n e = grind (arith, nat_tests)

pub obeys_all : (s : State) → Obeys (meant outlook accepted s)
obeys_all s =
    obeys outlook accepted s
    record {
      proper = proper_view s;
      amended = λ c x y z e. only_at s c (unsigned_abs x);
      refusals = λ c x y z. refusal (is_some (toll_of x)) (amendable s c);
      exchange = λ n. refl;
      exchanged = λ n k. record { known = k; corners = refl; knows = refl; in_use = exchanged_head n k };
    }
