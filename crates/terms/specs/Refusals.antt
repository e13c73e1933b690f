-- The number of each refusal, 1 to 16: the order in which they are tested.
use Rattle.std.specs.Prelude.{ℕ}
use Rattle.terms.specs.declared.Refusal.{Refusal}
use Rattle.terms.specs.declared.Refusal.TheVariants.{EndsInsideBlock, CheckDiffers, BlockNotNext, BadText, NotAnOrder, OutOfTurn, OutOfRange, TooMany, SerialKnown, SerialUnknown, BadCornerCount, BadCorner, RepeatedOrAbsent, MemoryTooShort, NoLegalFill, NotALegalFill}

abbrev pub number_of : Refusal → ℕ
number_of EndsInsideBlock = 1
number_of CheckDiffers = 2
number_of BlockNotNext = 3
number_of BadText = 4
number_of NotAnOrder = 5
number_of OutOfTurn = 6
number_of OutOfRange = 7
number_of TooMany = 8
number_of SerialKnown = 9
number_of SerialUnknown = 10
number_of BadCornerCount = 11
number_of BadCorner = 12
number_of RepeatedOrAbsent = 13
number_of MemoryTooShort = 14
number_of NoLegalFill = 15
number_of NotALegalFill = 16
