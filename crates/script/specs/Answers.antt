-- What reading a script answers: what the format gives, or that memory was wanting.
use Rattle.std.specs.Prelude.{◌≡◌, ℕ, true, List, Some, None, Ok, Err, vec_items, Result, Vec}
use Rattle.std.specs.declared.alloc.Global.{Global}
use Rattle.refusal.specs.declared.Failure.{Failure}
use Rattle.refusal.specs.declared.Failure.TheVariants.{Refused, OutOfMemory}
use Rattle.refusal.specs.declared.Layer.TheVariants.{Bench}
use Rattle.refusal.specs.declared.Reason.TheVariants.{UnknownLetter}
use Rattle.rules.specs.declared.call.Call.{Call}
use Rattle.script.specs.declared.read.Script.{Script}
use Rattle.script.specs.Format.{Asked, shaped, calls_of, read_script}

-- what a script that was read asks for
abbrev pub meant : Script → Asked
meant s = record { controller = s.controller; sled = s.sled; calls = vec_items s.calls }

-- a script of a wrong shape is refused before memory is asked for
abbrev pub Declines : List ℕ → Failure → Type 0
Declines bytes (Refused why) = read_script bytes ≡ Err why
Declines bytes (OutOfMemory e) = shaped bytes ≡ true

abbrev pub Answers : List ℕ → Result Script Failure → Type 0
Answers bytes (Ok s) = read_script bytes ≡ Ok (meant s)
Answers bytes (Err why) = Declines bytes why

-- the same of letters and arguments alone
abbrev pub Stops : List ℕ → List ℕ → Failure → Type 0
Stops letters bytes (Refused why) = (calls_of letters bytes ≡ None) × (why ≡ record { reason = UnknownLetter; layer = Bench })
Stops letters bytes (OutOfMemory e) = Unit {0}

abbrev pub Follows : List ℕ → List ℕ → Result (Vec Call Global) Failure → Type 0
Follows letters bytes (Ok calls) = calls_of letters bytes ≡ Some (vec_items calls)
Follows letters bytes (Err why) = Stops letters bytes why
