use Rattle.std.proofs.Common.{◌≡◌, [], ◌∷◌, ◌++◌, OnOk, Result, append_assoc, arith, refl, rules}
use Rattle.std.proofs.lemmas.Result.{on_ok_weaker}
use Rattle.std.specs.declared.alloc.AllocError.{AllocError}
use Rattle.jobs.specs.declared.draft.Draft.{Draft}
use Rattle.jobs.specs.Listings.{Entry, order_at, printed, refusals_in}
use Rattle.jobs.specs.Drafts.{Prints}
use Rattle.jobs.proofs.draft.Draft.accept.Goals as goal

-- an order is printed, and nothing else is altered
printed_so : (r : Result (Unit {0}) AllocError) (was is : Draft) (entry : Entry) → refusals_in (entry ∷ []) ≡ 0 → is.refused ≡ was.refused → is.blocks ≡ was.blocks → is.lines ≡ was.lines → OnOk r (is.text.items ≡ was.text.items ++ printed entry) → OnOk r (Prints was entry is)
printed_so r was is entry none f b l = on_ok_weaker {Q = Prints was entry is} r (λ e. record { text = e; refused = omega (arith, f, none); blocks = b; lines = l })

pub returns : goal.returns
returns c = printed_so _ _ _ (order_at c.args.self.now.blocks c.args.self.now.lines c.args.bytes.now) refl refl refl refl (search (rules, append_assoc))
