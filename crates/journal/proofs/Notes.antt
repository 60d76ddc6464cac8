-- What is written down of a call is what the definitions say of it, and the count of cleared frames fits.
use Rattle.std.proofs.Common.{◌≡◌, ℕ, ◌+◌, ◌^◌, ◌<◌, ◌≤◌, Bool, true, false, cond, List, length, Ok, Err, vec_items, arith}
use Rattle.std.proofs.lemmas.List.{length-map, length-append}
use Rattle.block_check.specs.Law.{Code}
use Rattle.rules.specs.declared.seat.Side.{Side}
use Rattle.rules.specs.declared.seat.Side.TheVariants.{Controller, Sled}
use Rattle.rules.specs.declared.call.Call.{Call as Asked}
use Rattle.rules.specs.Links.{Act, open_link, send, poll, timeout, lose, spoil, Answer, opened, sent, polled, timed_out, lost, Entry as Written}
use Rattle.rules.specs.Steps.{act_of}
use Rattle.law.specs.Journals.{Past as ToldPast, sent_by, with_answer, same_side, with_entry}
use Rattle.law.proofs.Balance.{step_balance}
use Rattle.link.specs.Worlds.{Outcome, steps, wrote}
use Rattle.journal.specs.declared.past.Past.{Past}
use Rattle.journal.specs.Pasts.{record_of, past_of, RoomOn}
use Rattle.journal.specs.Runs.{Ran, call_in, Level}

-- one call adds one accepted record at most
sent_one : (a : Act) → length (sent_by a) ≤ 1
sent_one open_link = omega arith
sent_one (send tag payload) = omega arith
sent_one poll = omega arith
sent_one timeout = omega arith
sent_one lose = omega arith
sent_one (spoil p d) = omega arith

answer_one : (p : ToldPast) (act : Act) (scratch : List ℕ) (a : Answer) → length (with_answer p act scratch a).accepted ≤ length p.accepted + 1
unfolding with_answer
answer_one p act scratch (opened r) = omega arith
answer_one p act scratch (sent (Ok s)) = omega (arith, length-append p.accepted (sent_by act), sent_one act)
answer_one p act scratch (sent (Err e)) = omega arith
answer_one p act scratch (polled (Ok r)) = omega arith
answer_one p act scratch (polled (Err e)) = omega arith
answer_one p act scratch (timed_out r) = omega arith
answer_one p act scratch (lost r) = omega arith

entry_one : (side : Side) (p : ToldPast) (e : Written) → length (with_entry side p e).accepted ≤ length p.accepted + 1
entry_one side p e = by_test (same_side side e.side) where
  by_test : (b : Bool) → length (cond b (with_answer p e.act e.scratch e.answer) p).accepted ≤ length p.accepted + 1
  by_test true = answer_one p e.act e.scratch e.answer
  by_test false = omega arith

-- the count of cleared frames fits, since no more are cleared than were accepted
cleared_fits : (side : Side) (v : Past) (p : ToldPast) (e : Written) (out : ℕ) → past_of v ≡ p → RoomOn v →
    length (with_entry side p e).accepted ≡ (with_entry side p e).cleared + out → (with_entry side (past_of v) e).cleared < 2 ^ 63
cleared_fits side v p e out is room level =
    let here : length (with_entry side (past_of v) e).accepted ≡ (with_entry side (past_of v) e).cleared + out = rw is level in
    let a = entry_one side (past_of v) e in
    let b = length-map (vec_items v.accepted) record_of in
    omega (arith, a, b, room.accepted, here, v.accepted.ok.0, v.accepted.small)

module _ (k : Code) (payloads : List ℕ) (r : Ran) (c : Asked) where
  abbrev act : Act
  act = act_of payloads c.step

  abbrev done : Outcome
  done = steps k r.world c.side act r.scratch

  abbrev noted : Outcome → Written
  noted o = wrote c.side act o.answer o.scratch

  -- what a call cleared can be written down at either side
  pub fits : (o : Outcome) → o ≡ done → Level r → (v w : Past) → past_of v ≡ r.controller → past_of w ≡ r.sled → RoomOn v → RoomOn w →
      ((with_entry Controller (past_of v) (noted o)).cleared < 2 ^ 63) × ((with_entry Sled (past_of w) (noted o)).cleared < 2 ^ 63)
  fits o x l v w y z near far =
      let level = step_balance k r.world (call_in payloads c r.scratch) r.controller r.sled l in
      rw x (cleared_fits Controller v r.controller (noted done) _ y near level.0, cleared_fits Sled w r.sled (noted done) _ z far level.1)
