-- What a run starts from, and that the law holds however far it has come.
use Rattle.std.proofs.Common.{◌≡◌, ℕ, List, [], map, Ok, vec_items, sym, refl, ap, ◌∙◌, subst}
use Rattle.block_check.specs.Law.{Code, Bytes, Lawful}
use Rattle.line.specs.declared.Line.{Ghosts}
use Rattle.rules.specs.declared.call.Call.{Call as Asked}
use Rattle.law.specs.Journals.{nothing}
use Rattle.link.specs.declared.link.Link.{Link}
use Rattle.link.specs.declared.parts.Parts.{Parts}
use Rattle.link.specs.Worlds.{world}
use Rattle.link.specs.Making.{made_of, first_world}
use Rattle.link.proofs.Fresh.{is_first, limits_in, from_here}
use Rattle.journal.specs.declared.carry.Run.{Run}
use Rattle.journal.specs.declared.journal.Journal.{Journal}
use Rattle.journal.specs.Outcomes.{Carried}
use Rattle.journal.specs.Pasts.{past_of}
use Rattle.journal.specs.Runs.{Ran, begun, ran, told_of, shown, shows, FaithfulSoFar}
use Rattle.journal.proofs.Lawful.{Led, leads_far, faithful}

module _ {A B K : Type 0} (k : Code) (lawful : Lawful k.width k.value) (a : Ghosts A) (b : Ghosts B) (p : Parts A B K) (l : Link A B K) (is_made : made_of a b p ≡ Ok (world a b l)) where
  same : first_world a b p ≡ world a b l
  same = is_first a b p (world a b l) is_made

  made_first : made_of a b p ≡ Ok (first_world a b p)
  made_first = is_made ∙ ap Ok (sym same)

  -- a new journal shows a run that has begun
  pub shows_begun : (j : Journal) (scratch : List ℕ) → vec_items j.entries ≡ [] → past_of j.controller ≡ nothing → past_of j.sled ≡ nothing →
      shown a b l j scratch ≡ begun (first_world a b p) scratch
  shows_begun j scratch x y z =
      let w = sym same in
      λ i. record { world = w i; controller = y i; sled = z i; told = map told_of (x i); scratch = scratch }

  -- a run that has come from here over some of all calls, with scratch and journal as they were made
  pub carried : (payloads : List ℕ) → Bytes payloads → (scratch : List ℕ) (j : Journal) → shown a b l j scratch ≡ begun (first_world a b p) scratch →
      (all calls : List Asked) (r : Run A B K) (left : List ℕ) → shows a b r left ≡ ran k payloads (shown a b l j scratch) calls →
      (Done : Ran → Ran → Type 0) → (shows a b r left ≡ ran k payloads (begun (first_world a b p) scratch) calls → Done (begun (first_world a b p) scratch) (shows a b r left)) →
      Carried k a b p all payloads scratch r left Done
  carried payloads t scratch j start all calls r left is Done then =
      let la = p.controller.limits in
      let lb = p.sled.limits in
      let within = limits_in a b p (world a b l) is_made in
      let came : shows a b r left ≡ ran k payloads (begun (first_world a b p) scratch) calls = is ∙ ap (λ s. ran k payloads s calls) start in
      record {
        made = made_first;
        done = then came;
        law = λ f. let from = from_here a b p (first_world a b p) made_first k lawful f in
            let led : Led k la lb (begun (first_world a b p) scratch) = record { written = []; reached = from.reached; controller = refl; sled = refl } in
            subst (FaithfulSoFar la lb) (sym came) (faithful k lawful la lb within.0 within.1 payloads t _ (leads_far k lawful la lb within.0 within.1 payloads t calls (begun (first_world a b p) scratch) led));
      }
