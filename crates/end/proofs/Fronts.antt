-- Blocks are built at the front of a scratch, and payloads stand at the front of a store.
use Rattle.std.proofs.Common.{◌≡◌, true, false, ℕ, ◌<◌, ◌≤◌, List, [], ◌∷◌, ◌++◌, length, drop, Some, None, Option, Result, sym, refl, ap, ◌∙◌, arith}
use Rattle.std.specs.List.{AllByRecursion}
use Rattle.std.specs.Array.{IsFirstChunk}
use Rattle.std.proofs.lemmas.List.{append_assoc, length-append, length-take, length-drop, take-append-drop, drop-append-le}
use Rattle.std.proofs.lemmas.Bool.Decides.{nat_tests}
use Rattle.refusal.specs.declared.Refusal.{Refusal}
use Rattle.refusal.specs.Buffers.{over}
use Rattle.outstanding.specs.Frames.{frames}
use Rattle.block_check.specs.Law.{Code}
use Rattle.block.specs.Reading.{Content}
use Rattle.block.proofs.Building.{length-sealed}
use Rattle.outstanding.proofs.Slots.{frames_front, frames_short}
use Rattle.rules.specs.declared.seat.Side.{Side}
use Rattle.rules.specs.declared.seat.State.{State}
use Rattle.rules.specs.declared.seat.State.TheVariants.{Initial, Login, LoggedIn, LoggedOut}
use Rattle.rules.specs.declared.seat.Latest.{Latest}
use Rattle.rules.specs.Frames.{latest_frames}
use Rattle.rules.specs.Sending.{block, blocks, builds}
use Rattle.rules.specs.Ends.{End as Meant}
use Rattle.rules.specs.Calls.{Sending, roomy, due}
use Rattle.end.specs.declared.end.End.{End}
use Rattle.end.specs.Views.{view, did}

over_front : (b front rest : List ℕ) → length b ≤ length front → over b front ++ rest ≡ over b (front ++ rest)
over_front b front rest h = append_assoc b (drop (length b) front) rest ∙ ap (λ x. b ++ x) (sym (drop-append-le (length b) front rest h))

-- frames whose payloads are short, built in a buffer of 520 bytes
module _ (k : Code) (few : k.width ≤ 2) (rest : List ℕ) where
  pub builds_front : (fs : List Content) → AllByRecursion (λ f. length f.payload ≤ 512) fs → (front : List ℕ) → length front ≡ 520 → builds front (blocks k fs) ++ rest ≡ builds (front ++ rest) (blocks k fs)
  builds_front [] short front long = refl
  builds_front (f ∷ fs) short front long =
      let b = block k f in
      let fits : length b ≤ 520 = omega (arith, length-sealed k.width k.value f.heading f.payload few, short.0) in
      let same : length (over b front) ≡ 520 = omega (arith, length-append b (drop (length b) front), length-drop (length b) front) in
      builds_front fs short.1 (over b front) same
      ∙ ap (λ x. builds x (blocks k fs)) (over_front b front rest (omega arith))

pub has_room : (store scratch : List ℕ) → 4096 ≤ length store → 520 ≤ length scratch → roomy (length store) scratch ≡ true
has_room store scratch h k = grind (arith, nat_tests)

pub has_no_room : (store scratch : List ℕ) → length scratch < 520 → roomy (length store) scratch ≡ false
has_no_room store scratch h = grind (arith, nat_tests)

-- the view of a store by its front
pub view_front : (e : End) (store front : List ℕ) → IsFirstChunk store front 4096 → view e front ≡ view e store
view_front e store front lent =
    let long : 4096 ≤ length front = omega (arith, ap length lent.same, length-take 4096 store, lent.enough) in
    let f : frames e.outstanding front ≡ frames e.outstanding store =
    sym (frames_front front (drop 4096 store) long e.outstanding)
    ∙ ap (λ x. frames e.outstanding (x ++ drop 4096 store)) lent.same ∙ ap (frames e.outstanding) (take-append-drop 4096 store) in
    ap (λ (fs : List Content). record { seat = e.seat; outstanding = fs }) f

-- what is due has short payloads
latest_short : (side : Side) (latest : Option Latest) → AllByRecursion (λ f. length f.payload ≤ 512) (latest_frames side latest)
latest_short side None = tt
latest_short side (Some l) = (omega arith, tt)

due_of : (e : Meant) (state : State) → AllByRecursion (λ f. length f.payload ≤ 512) e.outstanding → AllByRecursion (λ f. length f.payload ≤ 512) (due state e)
due_of e Initial h = tt
due_of e Login h = latest_short e.seat.side e.seat.talk.latest
due_of e LoggedIn h = h
due_of e LoggedOut h = tt

pub due_short : (e : End) (store : List ℕ) → AllByRecursion (λ f. length f.payload ≤ 512) (due e.seat.state (view e store))
due_short e store = due_of (view e store) e.seat.state (frames_short e.outstanding store)

-- a call whose scratch is lent by its front, which comes back as it was, or with blocks built in it
module _ {R : Type 0} (r : Result R Refusal) (e : Meant) (line : List (List ℕ)) (scratch front : List ℕ) (s : Sending R) (lent : IsFirstChunk scratch front 520) where
  pub front_kept : did r e line scratch ≡ s → did r e line (front ++ drop 520 scratch) ≡ s
  front_kept h = ap (λ x. did r e line (x ++ drop 520 scratch)) lent.same ∙ ap (did r e line) (take-append-drop 520 scratch) ∙ h

  pub front_built : (k : Code) → k.width ≤ 2 → (fs : List Content) → AllByRecursion (λ f. length f.payload ≤ 512) fs → (built : List ℕ) → built ≡ builds front (blocks k fs) → did r e line (builds scratch (blocks k fs)) ≡ s → did r e line (built ++ drop 520 scratch) ≡ s
  front_built k few fs short built b h =
      let long : length front ≡ 520 = ap length lent.same ∙ omega (arith, length-take 520 scratch, lent.enough) in
      let whole : built ++ drop 520 scratch ≡ builds scratch (blocks k fs) =
      ap (λ x. x ++ drop 520 scratch) b ∙ builds_front k few (drop 520 scratch) fs short front long
      ∙ ap (λ x. builds (x ++ drop 520 scratch) (blocks k fs)) lent.same ∙ ap (λ x. builds x (blocks k fs)) (take-append-drop 520 scratch) in
      ap (did r e line) whole ∙ h
