-- The number of each reason.
use Rattle.std.specs.Prelude.{ℕ}
use Rattle.refusal.specs.declared.Reason.{Reason}
use Rattle.refusal.specs.declared.Reason.TheVariants.{TooShort, LimitOutOfRange, HeadingOutOfRange, SpoilByZero, BlockLength, NoWholeFrame, ScriptShape, UnknownLetter, PayloadTooLong, NotInitial, WrongState, AboveAgreedSize, WindowFull, NothingWaits, LineFull}

abbrev pub number_of : Reason → ℕ
number_of TooShort = 1
number_of LimitOutOfRange = 2
number_of HeadingOutOfRange = 3
number_of SpoilByZero = 4
number_of BlockLength = 5
number_of NoWholeFrame = 6
number_of ScriptShape = 7
number_of UnknownLetter = 8
number_of PayloadTooLong = 9
number_of NotInitial = 11
number_of WrongState = 12
number_of AboveAgreedSize = 13
number_of WindowFull = 14
number_of NothingWaits = 15
number_of LineFull = 16
