-- The code of each status.
use Rattle.std.specs.Prelude.{ℕ, cond, Some, None, Option, Result, ok_or, ◌==◌}
use Rattle.block.specs.declared.status.Status.{Status}
use Rattle.block.specs.declared.status.UnknownStatus.{UnknownStatus}
use Rattle.block.specs.declared.status.Status.TheVariants.{Good, BadCheck, OverLength, UnderLength, Unsupported, OutOfResources, LogInInProgress, IllegalPause, OutOfTurn, BadLogIn, BadRecord}

abbrev pub code_of : Status → ℕ
code_of Good = 0x00
code_of BadCheck = 0x01
code_of OverLength = 0x02
code_of UnderLength = 0x03
code_of Unsupported = 0x04
code_of OutOfResources = 0x05
code_of LogInInProgress = 0x06
code_of IllegalPause = 0x07
code_of OutOfTurn = 0x40
code_of BadLogIn = 0x41
code_of BadRecord = 0x42

-- the status that a code stands for, if any
abbrev pub status_of : ℕ → Option Status
status_of c =
    cond (c == 0x00) (Some Good) (cond (c == 0x01) (Some BadCheck) (cond (c == 0x02) (Some OverLength)
    (cond (c == 0x03) (Some UnderLength) (cond (c == 0x04) (Some Unsupported) (cond (c == 0x05) (Some OutOfResources)
    (cond (c == 0x06) (Some LogInInProgress) (cond (c == 0x07) (Some IllegalPause) (cond (c == 0x40) (Some OutOfTurn)
    (cond (c == 0x41) (Some BadLogIn) (cond (c == 0x42) (Some BadRecord) None))))))))))

-- that status, or the code that has none
abbrev pub named : ℕ → Result Status UnknownStatus
named c = ok_or (status_of c) (record { 0 = c })
