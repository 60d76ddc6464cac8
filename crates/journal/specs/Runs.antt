-- A list of calls carried out one after the other, with one scratch for all of them.
use Rattle.std.specs.Prelude.{◌≡◌, ℕ, ◌+◌, ◌<◌, List, [], ◌∷◌, ◌++◌, map, length, take, vec_items, fold}
use Rattle.block_check.specs.Law.{Code}
use Rattle.login.specs.declared.Parameters.{Parameters}
use Rattle.line.specs.declared.Line.{Ghosts}
use Rattle.rules.specs.declared.seat.Side.TheVariants.{Controller, Sled}
use Rattle.rules.specs.declared.call.Call.{Call as Asked}
use Rattle.rules.specs.LogIns.{smaller}
use Rattle.rules.specs.Links.{Answer, World, Call, Entry as Written, stepped, entry}
use Rattle.rules.specs.Steps.{act_of, answer_of}
use Rattle.law.specs.Journals.{Past, nothing, with_entry}
use Rattle.law.specs.Law.{OneWay, ask}
use Rattle.link.specs.declared.link.Link.{Link}
use Rattle.link.specs.Worlds.{world}
use Rattle.journal.specs.declared.entry.Totals.{Totals}
use Rattle.journal.specs.declared.entry.Entry.{Entry}
use Rattle.journal.specs.declared.journal.Journal.{Journal}
use Rattle.journal.specs.declared.carry.Run.{Run}
use Rattle.journal.specs.Pasts.{past_of}

-- what is told of a call: its answer, and then the totals of both ends
pub record Told : Type 0 where
  pub answer : Answer
  pub controller : Totals
  pub sled : Totals

-- how far a run has come: the link, the past of each end, what was told of each call, and the scratch
pub record Ran : Type 0 where
  pub world : World
  pub controller : Past
  pub sled : Past
  pub told : List Told
  pub scratch : List ℕ

abbrev pub begun : World → List ℕ → Ran
begun w scratch = record { world = w; controller = nothing; sled = nothing; told = []; scratch = scratch }

-- a call of the list, its payload a part of the shared bytes, with the scratch as the call before left it
abbrev pub call_in : List ℕ → Asked → List ℕ → Call
call_in payloads c scratch = record { side = c.side; act = act_of payloads c.step; scratch = scratch }

-- one call more
abbrev pub went_on : Code → Ran → Call → Written → Ran
went_on k r c e =
    let w = stepped k r.world c in
    let p = with_entry Controller r.controller e in
    let q = with_entry Sled r.sled e in
    record {
      world = w;
      controller = p;
      sled = q;
      told = r.told ++ record {
        answer = e.answer;
        controller = record { outstanding = length w.controller.end.outstanding; handed = length p.handed };
        sled = record { outstanding = length w.sled.end.outstanding; handed = length q.handed };
      } ∷ [];
      scratch = e.scratch;
    }

unfoldable pub goes_on : Code → List ℕ → Ran → Asked → Ran
goes_on k payloads r c = let call = call_in payloads c r.scratch in went_on k r call (entry k r.world call)

abbrev pub ran : Code → List ℕ → Ran → List Asked → Ran
ran k payloads r calls = fold (goes_on k payloads) r calls

-- only the first of the calls were carried out, n of them
abbrev pub SoFar : Code → List ℕ → Ran → List Asked → Ran → Type 0
SoFar k payloads r calls s = (n : ℕ) × ((n < length calls) × (s ≡ ran k payloads r (take n calls)))

-- what a journal, a link and a scratch show of a run
abbrev pub told_of : Entry → Told
told_of e = record { answer = answer_of e.answer; controller = e.controller; sled = e.sled }

abbrev pub shown : {A B K : Type 0} → Ghosts A → Ghosts B → Link A B K → Journal → List ℕ → Ran
shown a b l j scratch = record {
  world = world a b l;
  controller = past_of j.controller;
  sled = past_of j.sled;
  told = map told_of (vec_items j.entries);
  scratch = scratch;
}

abbrev pub shows : {A B K : Type 0} → Ghosts A → Ghosts B → Run A B K → List ℕ → Ran
shows a b r scratch = shown a b r.link r.journal scratch

-- The law, of what a run has shown: delivered in order, accounted for and agreed, both ways.
pub record FaithfulSoFar (a b : Parameters) (r : Ran) : Type 0 where
  pub down : OneWay (smaller a b) (ask r.world.controller.end) r.controller r.sled
  pub up : OneWay (smaller a b) (ask r.world.sled.end) r.sled r.controller

-- Each accepted record is cleared or outstanding, so that the count of the cleared ones always fits.
abbrev pub Level : Ran → Type 0
Level r =
    (length r.controller.accepted ≡ r.controller.cleared + length r.world.controller.end.outstanding)
    × (length r.sled.accepted ≡ r.sled.cleared + length r.world.sled.end.outstanding)
