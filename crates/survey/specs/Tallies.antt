-- How the items of a survey are counted. A count that would pass the largest number stays there.
use Rattle.std.specs.Prelude.{ℕ, ◌+◌, ◌-◌, ◌^◌, min, List, fold, Ok, Err, Result}
use Rattle.block.specs.declared.heading.Protocol.{Protocol}
use Rattle.block.specs.declared.heading.Protocol.TheVariants.{LinkService, Scsi, FastAccess, Vendor, Reserved}
use Rattle.block.specs.Headings.{protocol_of}
use Rattle.block.specs.declared.status.Status.{Status}
use Rattle.block.specs.declared.status.Status.TheVariants.{Good, BadCheck, OverLength, UnderLength, Unsupported, OutOfResources, LogInInProgress, IllegalPause, OutOfTurn, BadLogIn, BadRecord}
use Rattle.survey.specs.declared.seen.Message.{Message}
use Rattle.survey.specs.declared.item.Item.{Item}
use Rattle.survey.specs.declared.item.Item.TheVariants.{Gap, Block}
use Rattle.survey.specs.declared.tally.Protocols.{Protocols}
use Rattle.survey.specs.declared.tally.Statuses.{Statuses}
use Rattle.survey.specs.declared.tally.Tally.{Tally}

abbrev pub more : ℕ → ℕ → ℕ
more n by = min (n + by) (2 ^ 64 - 1)

abbrev pub no_protocols : Protocols
no_protocols = record { service = 0; scsi = 0; fast = 0; vendor = 0; reserved = 0 }

abbrev pub by_protocol : Protocols → Protocol → Protocols
by_protocol p LinkService = record { service = more p.service 1; scsi = p.scsi; fast = p.fast; vendor = p.vendor; reserved = p.reserved }
by_protocol p Scsi = record { service = p.service; scsi = more p.scsi 1; fast = p.fast; vendor = p.vendor; reserved = p.reserved }
by_protocol p FastAccess = record { service = p.service; scsi = p.scsi; fast = more p.fast 1; vendor = p.vendor; reserved = p.reserved }
by_protocol p Vendor = record { service = p.service; scsi = p.scsi; fast = p.fast; vendor = more p.vendor 1; reserved = p.reserved }
by_protocol p Reserved = record { service = p.service; scsi = p.scsi; fast = p.fast; vendor = p.vendor; reserved = more p.reserved 1 }

abbrev pub no_statuses : Statuses
no_statuses = record { check = 0; over = 0; under = 0 }

-- a receiver gives a damaged block one of three statuses
abbrev pub by_status : Statuses → Status → Statuses
by_status s BadCheck = record { check = more s.check 1; over = s.over; under = s.under }
by_status s OverLength = record { check = s.check; over = more s.over 1; under = s.under }
by_status s UnderLength = record { check = s.check; over = s.over; under = more s.under 1 }
by_status s Good = s
by_status s Unsupported = s
by_status s OutOfResources = s
by_status s LogInInProgress = s
by_status s IllegalPause = s
by_status s OutOfTurn = s
by_status s BadLogIn = s
by_status s BadRecord = s

abbrev pub no_items : Tally
no_items = record { blocks = 0; formed = 0; well = no_protocols; damaged = no_statuses; skipped = 0; faulty = 0 }

abbrev pub with_seen : Tally → Result Message Status → Tally
with_seen t (Ok m) = record {
  blocks = more t.blocks 1;
  formed = more t.formed 1;
  well = by_protocol t.well (protocol_of m.heading);
  damaged = t.damaged;
  skipped = t.skipped;
  faulty = t.faulty;
}
with_seen t (Err status) = record {
  blocks = more t.blocks 1;
  formed = t.formed;
  well = t.well;
  damaged = by_status t.damaged status;
  skipped = t.skipped;
  faulty = t.faulty;
}

abbrev pub with_item : Tally → Item → Tally
with_item t (Gap g) = record {
  blocks = t.blocks;
  formed = t.formed;
  well = t.well;
  damaged = t.damaged;
  skipped = more t.skipped g.length;
  faulty = more t.faulty g.begun;
}
with_item t (Block b) = with_seen t b.seen

abbrev pub tally : List Item → Tally
tally items = fold with_item no_items items
