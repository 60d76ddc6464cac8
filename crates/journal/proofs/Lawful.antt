-- The law holds of what a run has shown.
use Rattle.std.proofs.Common.{◌≡◌, ℕ, true, List, [], ◌∷◌, ◌++◌, drop, sym, ap, ◌∙◌, subst}
use Rattle.std.proofs.ByRecursion.{All-take, All-drop}
use Rattle.std.proofs.lemmas.List.Sums.{fold_push}
use Rattle.block_check.specs.Law.{Code, Bytes, Lawful}
use Rattle.login.specs.declared.Parameters.{Parameters}
use Rattle.rules.specs.declared.seat.Side.TheVariants.{Controller, Sled}
use Rattle.rules.specs.declared.call.Call.{Call as Asked}
use Rattle.rules.specs.declared.call.Step.{Step}
use Rattle.rules.specs.declared.call.Step.TheVariants.{Open, Send, Poll, Timeout, Lose, Spoil}
use Rattle.rules.specs.LogIns.{smaller}
use Rattle.rules.specs.Ends.{in_limits}
use Rattle.rules.specs.Links.{World, Entry, entry, run, fresh_link}
use Rattle.rules.specs.Steps.{act_of}
use Rattle.law.specs.Journals.{Past, nothing, with_entry, past}
use Rattle.law.specs.Law.{OneWay, ask, Faithful, OfBytes, Reached}
use Rattle.law.proofs.Runs.{runs_faithful, calls_lead_on}
use Rattle.law.proofs.Balance.{step_balance}
use Rattle.journal.specs.Runs.{Ran, call_in, goes_on, ran, FaithfulSoFar, Level}

of_bytes : (payloads : List ℕ) → Bytes payloads → (s : Step) → OfBytes (act_of payloads s)
of_bytes payloads t Open = tt
of_bytes payloads t (Send tag p) = All-take _ p.size (drop p.place payloads) (All-drop _ p.place payloads t)
of_bytes payloads t Poll = tt
of_bytes payloads t Timeout = tt
of_bytes payloads t Lose = tt
of_bytes payloads t (Spoil c) = tt

-- a run from a fresh link has led to what is shown
pub record Led (k : Code) (a b : Parameters) (r : Ran) : Type 0 where
  pub written : List Entry
  pub reached : Reached k a b written r.world
  pub controller : past Controller written ≡ r.controller
  pub sled : past Sled written ≡ r.sled

module _ (k : Code) (law : Lawful k.width k.value) (a b : Parameters) (x : in_limits a ≡ true) (y : in_limits b ≡ true) (payloads : List ℕ) (t : Bytes payloads) where
  leads_on : (r : Ran) (c : Asked) → Led k a b r → Led k a b (goes_on k payloads r c)
  unfolding goes_on
  leads_on r c l =
      let call = call_in payloads c r.scratch in
      let e = entry k r.world call in
      record {
        written = l.written ++ e ∷ [];
        reached = (calls_lead_on k law r.world call (of_bytes payloads t c.step) a b x y l.written l.reached).0;
        controller = fold_push (with_entry Controller) nothing l.written e ∙ ap (λ (p : Past). with_entry Controller p e) l.controller;
        sled = fold_push (with_entry Sled) nothing l.written e ∙ ap (λ (p : Past). with_entry Sled p e) l.sled;
      }

  pub leads_far : (calls : List Asked) (r : Ran) → Led k a b r → Led k a b (ran k payloads r calls)
  leads_far [] r l = l
  leads_far (c ∷ cs) r l = leads_far cs (goes_on k payloads r c) (leads_on r c l)

  pub faithful : (r : Ran) → Led k a b r → FaithfulSoFar a b r
  faithful r l =
      let m = l.reached in
      let f = runs_faithful k law a b x y m.store_a m.store_b m.calls m.of_bytes in
      let g : Faithful a b l.written r.world = subst (λ (w : World). Faithful a b l.written w) (sym m.world_is) (subst (λ (j : List Entry). Faithful a b j (run k (fresh_link a b m.store_a m.store_b) m.calls)) (sym m.journal_is) f) in
      let least = smaller a b in
      let here = ask r.world.controller.end in
      let there = ask r.world.sled.end in
      let p = past Controller l.written in
      record {
        down = subst (λ (z : Past). OneWay least here z r.sled) l.controller (subst (λ (z : Past). OneWay least here p z) l.sled g.down);
        up = subst (λ (z : Past). OneWay least there r.sled z) l.controller (subst (λ (z : Past). OneWay least there z p) l.sled g.up);
      }

-- no more is cleared than was accepted
pub stays_level : (k : Code) (payloads : List ℕ) (r : Ran) (c : Asked) → Level r → Level (goes_on k payloads r c)
unfolding goes_on
stays_level k payloads r c l = step_balance k r.world (call_in payloads c r.scratch) r.controller r.sled l
