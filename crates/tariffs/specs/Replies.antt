-- What a list of calls is answered, and what it leaves, by the tariff's meaning alone.
use Rattle.std.specs.Prelude.{◌≡◌, List, [], ◌∷◌}
use Rattle.tariffs.specs.declared.calls.Call.{Call}
use Rattle.tariffs.specs.declared.calls.Call.TheVariants.{Corners, Knows, InUse, Price, FoldPrice, Alter}
use Rattle.tariffs.specs.declared.calls.Reply.{Reply}
use Rattle.tariffs.specs.declared.calls.Reply.TheVariants.{Number, Known, Serial, Priced, Answered}
use Rattle.tariffs.specs.Meanings.{Meaning, after}

-- the reply to a call
abbrev pub reply : Meaning → Call → Reply
reply m Corners = Number (m []).view.corners
reply m (Knows s) = Known ((m []).view.knows s)
reply m InUse = Serial (m []).view.in_use
reply m (Price t) = Priced ((m []).view.price t)
reply m (FoldPrice f) = Priced ((m []).view.fold_price f)
reply m (Alter c) = Answered ((m []).answer c)

-- only a change alters the meaning
abbrev pub leaves : Meaning → Call → Meaning
leaves m Corners = m
leaves m (Knows s) = m
leaves m InUse = m
leaves m (Price t) = m
leaves m (FoldPrice f) = m
leaves m (Alter c) = after c m

-- all replies to a list of calls, in turn, and the meaning that they leave
abbrev pub replies : Meaning → List Call → List Reply
replies m [] = []
replies m (c ∷ cs) = reply m c ∷ replies (leaves m c) cs

abbrev pub leaves_all : Meaning → List Call → Meaning
leaves_all m [] = m
leaves_all m (c ∷ cs) = leaves_all (leaves m c) cs

-- this list of calls does not tell the two apart
abbrev pub AnswerAlike : Meaning → Meaning → List Call → Type 0
AnswerAlike m n calls = replies m calls ≡ replies n calls

-- where no list of calls tells them apart, they are equal: a meaning holds nothing that cannot be observed
abbrev pub EqualIfAlike : Meaning → Meaning → Type 0
EqualIfAlike m n = ((calls : List Call) → AnswerAlike m n calls) → m ≡ n
