-- What the journal of a run tells of each end, from the calls' arguments, their answers and the scratch as each
-- returned.
use Rattle.std.specs.Prelude.{ℕ, ◌+◌, Bool, true, false, cond, List, [], ◌∷◌, ◌++◌, take, drop, Some, None, Ok, Err, fold, Option, Result}
use Rattle.refusal.specs.declared.Refusal.{Refusal}
use Rattle.rules.specs.declared.seat.Side.{Side}
use Rattle.rules.specs.declared.seat.Side.TheVariants.{Controller, Sled}
use Rattle.rules.specs.declared.answer.Tag.{Tag}
use Rattle.rules.specs.declared.answer.Sent.{Sent}
use Rattle.rules.specs.declared.answer.Handed.{Handed}
use Rattle.rules.specs.declared.answer.Polled.{Polled}
use Rattle.rules.specs.Links.{Act, open_link, send, poll, timeout, lose, spoil, Answer, opened, sent, polled, timed_out, lost, Entry}

pub record Record : Type 0 where
  pub tag : Tag
  pub payload : List ℕ

-- Accepted are the records of an end's unrefused sends, handed up those that its polls and spoils answered, payloads
-- read as the call returned, cleared the sum of the cleared frames in those answers.
pub record Past : Type 0 where
  pub accepted : List Record
  pub handed : List Record
  pub cleared : ℕ

abbrev pub nothing : Past
nothing = record { accepted = []; handed = []; cleared = 0 }

abbrev pub sent_by : Act → List Record
sent_by open_link = []
sent_by (send tag payload) = record { tag = tag; payload = payload } ∷ []
sent_by poll = []
sent_by timeout = []
sent_by lose = []
sent_by (spoil p d) = []

abbrev pub handed_by : Option Handed → List ℕ → List Record
handed_by None scratch = []
handed_by (Some h) scratch = record { tag = h.tag; payload = take h.size (drop h.place scratch) } ∷ []

abbrev pub with_sent : Past → Act → Result Sent Refusal → Past
with_sent p act (Ok s) = record { accepted = p.accepted ++ sent_by act; handed = p.handed; cleared = p.cleared }
with_sent p act (Err e) = p

abbrev pub with_polled : Past → List ℕ → Result Polled Refusal → Past
with_polled p scratch (Ok r) = record { accepted = p.accepted; handed = p.handed ++ handed_by r.up scratch; cleared = p.cleared + r.cleared }
with_polled p scratch (Err e) = p

unfoldable pub with_answer : Past → Act → List ℕ → Answer → Past
with_answer p act scratch (opened r) = p
with_answer p act scratch (sent r) = with_sent p act r
with_answer p act scratch (polled r) = with_polled p scratch r
with_answer p act scratch (timed_out r) = p
with_answer p act scratch (lost r) = p

abbrev pub same_side : Side → Side → Bool
same_side Controller Controller = true
same_side Controller Sled = false
same_side Sled Controller = false
same_side Sled Sled = true

abbrev pub with_entry : Side → Past → Entry → Past
with_entry side p e = cond (same_side side e.side) (with_answer p e.act e.scratch e.answer) p

abbrev pub past : Side → List Entry → Past
past side journal = fold (with_entry side) nothing journal
