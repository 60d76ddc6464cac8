-- What the lists of a journal stand for.
use Rattle.std.specs.Prelude.{ℕ, ◌<◌, ◌≤◌, List, map, length, vec_items, vec_len, vec_capacity}
use Rattle.rules.specs.declared.seat.Side.{Side}
use Rattle.rules.specs.declared.seat.Side.TheVariants.{Controller, Sled}
use Rattle.rules.specs.declared.call.Step.{Step}
use Rattle.rules.specs.Steps.{payload_of}
use Rattle.law.specs.Journals.{Record as Meant, Past as Told}
use Rattle.journal.specs.declared.blank.Blank.{Blank}
use Rattle.journal.specs.declared.past.Record.{Record}
use Rattle.journal.specs.declared.past.Past.{Past}
use Rattle.journal.specs.declared.journal.Journal.{Journal}

abbrev pub record_of : Record → Meant
record_of r = record { tag = r.tag; payload = vec_items r.payload }

abbrev pub past_of : Past → Told
past_of p = record { accepted = map record_of (vec_items p.accepted); handed = map record_of (vec_items p.handed); cleared = p.cleared }

abbrev pub past_at : Journal → Side → Told
past_at j Controller = past_of j.controller
past_at j Sled = past_of j.sled

-- memory is reserved for a record on each list
pub record RoomOn (p : Past) : Type 0 where
  pub accepted : vec_len p.accepted < vec_capacity p.accepted
  pub handed : vec_len p.handed < vec_capacity p.handed

-- memory is reserved for an entry and for a record on each list
pub record Room (j : Journal) : Type 0 where
  pub entries : vec_len j.entries < vec_capacity j.entries
  pub controller : RoomOn j.controller
  pub sled : RoomOn j.sled

-- how long a payload may be
abbrev pub room : Blank → ℕ
room b = vec_capacity b.bytes

-- whichever record a call makes, its payload fits
pub record Serves (b : Blank) (payloads : List ℕ) (step : Step) (scratch : List ℕ) : Type 0 where
  pub sent : length (payload_of payloads step) ≤ room b
  pub heard : length scratch ≤ room b
