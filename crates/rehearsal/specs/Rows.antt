-- What is printed of a step.
use Rattle.std.specs.Prelude.{◌≡◌, ℕ, ◌+◌, List, Some, None, Option, MatchOption}
use Rattle.std.specs.List.{slice_get}
use Rattle.rules.specs.Steps.{why_refused}
use Rattle.journal.specs.declared.entry.Entry.{Entry}
use Rattle.journal.specs.declared.journal.Journal.{Journal}
use Rattle.rehearsal.specs.declared.row.Row.{Row}
use Rattle.rehearsal.specs.declared.row.Rows.{Rows}

abbrev pub row_with : ℕ → Option ℕ → Option Entry → Option Row
row_with place letter None = None
row_with place None (Some e) = None
row_with place (Some l) (Some e) = Some (record { number = place + 1; letter = l; refusal = why_refused e.answer; controller = e.controller; sled = e.sled })

-- the letters stand behind the six bytes of the head
abbrev pub row_of : List ℕ → List Entry → ℕ → Option Row
row_of script entries place = row_with place (slice_get script (6 + place)) (slice_get entries place)

-- rows that come from a place on
abbrev pub StandsAt : List ℕ → Journal → ℕ → Rows → Type 0
StandsAt script journal place rows = (rows.script.now ≡ script) × (rows.journal.now ≡ journal) × (rows.place ≡ place)

-- the row at the place comes, and the rows behind it are left; where there is none, nothing changes
abbrev pub rows_step : Rows → Option Row → Rows → Type 0
rows_step s r t = (r ≡ row_of s.script.now s.journal.now.entries.items s.place)
    × MatchOption r (StandsAt s.script.now s.journal.now s.place t) (λ _. StandsAt s.script.now s.journal.now (s.place + 1) t)
