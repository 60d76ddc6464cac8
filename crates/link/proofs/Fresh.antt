-- What is made is what the rules make, and the law holds of every list of calls from it.
use Rattle.std.proofs.Common.{◌≡◌, ℕ, ◌≤◌, Bool, true, false, cond, ◌&&◌, leb, List, [], Ok, Err, vec_len, sym, refl, ap, ◌∙◌, subst, arith}
use Rattle.std.proofs.lemmas.Bool.{and_parts}
use Rattle.std.proofs.lemmas.Bool.Decides.{nat_tests}
use Rattle.refusal.specs.declared.Refusal.{Refusal}
use Rattle.block_check.specs.Law.{Code, Lawful}
use Rattle.line.specs.declared.Line.{Ghosts}
use Rattle.rules.specs.Ends.{in_limits}
use Rattle.rules.specs.Links.{World, link_of, fresh_link, journal, run}
use Rattle.law.specs.Law.{Faithful}
use Rattle.law.proofs.Runs.{runs_faithful}
use Rattle.link.specs.declared.parts.Parts.{Parts}
use Rattle.link.specs.Making.{made_of, first_world, Fresh, FromHere}

-- of stores that are long enough and limits in range the rules make a link
pub made_of_fit : {A B K : Type 0} (a : Ghosts A) (b : Ghosts B) (p : Parts A B K) → 4096 ≤ vec_len p.controller.store → 4096 ≤ vec_len p.sled.store →
    in_limits p.controller.limits ≡ true → in_limits p.sled.limits ≡ true → made_of a b p ≡ Ok (first_world a b p)
made_of_fit a b p long_near long_far near far = grind (arith, nat_tests)

-- what two tests, of the stores and of the limits, let through
record Passed (within : Bool) (first w : World) : Type 0 where
  same : first ≡ w
  limits : within ≡ true

passed : (long within : Bool) (first w : World) (x y : Refusal) → cond long (cond within (Ok first) (Err x)) (Err y) ≡ Ok w → Passed within first w
passed true true first w x y e = record { same = cc; limits = refl }
passed true false first w x y e = cc
passed false within first w x y e = cc

module _ {A B K : Type 0} (a : Ghosts A) (b : Ghosts B) (p : Parts A B K) (w : World) (made : made_of a b p ≡ Ok w) where
  facts : Passed (in_limits p.controller.limits && in_limits p.sled.limits) (first_world a b p) w
  facts = passed (leb 4096 (vec_len p.controller.store) && leb 4096 (vec_len p.sled.store)) _ _ w _ _ made

  -- where the rules make a link, it is the first one, and both limits are in range
  pub is_first : first_world a b p ≡ w
  is_first = facts.same

  pub limits_in : (in_limits p.controller.limits ≡ true) × (in_limits p.sled.limits ≡ true)
  limits_in = and_parts (in_limits p.controller.limits) (in_limits p.sled.limits) facts.limits

  -- the law of whole runs, told of a link that was made of parts with empty lines
  pub from_here : (k : Code) → Lawful k.width k.value → Fresh a b p → FromHere k a b p w
  unfolding run journal
  from_here k law f =
      let la = p.controller.limits in
      let lb = p.sled.limits in
      let sa = vec_len p.controller.store in
      let sb = vec_len p.sled.store in
      let start : fresh_link la lb sa sb ≡ w =
      ap (λ (l : List (List ℕ)). link_of la lb sa sb l []) (sym f.to_controller) ∙ ap (link_of la lb sa sb (a.waiting p.controller.line)) (sym f.to_sled) ∙ is_first in
      record {
        faithful = λ calls t. subst (λ (v : World). Faithful la lb (journal k v calls) (run k v calls)) start (runs_faithful k law la lb limits_in.0 limits_in.1 sa sb calls t);
        reached = record { store_a = sa; store_b = sb; calls = []; of_bytes = tt; journal_is = refl; world_is = sym start };
      }
