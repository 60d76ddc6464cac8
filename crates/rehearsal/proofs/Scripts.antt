-- A script that was read has the right shape and limits in range, so that a link is made for it.
use Rattle.std.proofs.Common.{◌≡◌, ℕ, ◌%◌, ◌<◌, Bool, true, false, cond, ◌&&◌, List, length, get_or, Some, None, Ok, Err, vec_len, Option, Result, sym, refl, ap, ◌∙◌}
use Rattle.std.specs.Result.{IsErrAnd}
use Rattle.refusal.specs.declared.Failure.{Failure}
use Rattle.refusal.specs.declared.Failure.TheVariants.{Refused, OutOfMemory}
use Rattle.refusal.specs.declared.Refusal.{Refusal}
use Rattle.block_check.specs.Law.{Code}
use Rattle.line.specs.declared.Line.{Ghosts}
use Rattle.rules.specs.declared.call.Call.{Call}
use Rattle.rules.specs.Ends.{in_limits}
use Rattle.rules.specs.Links.{World, link_of}
use Rattle.link.specs.declared.parts.Parts.{Parts}
use Rattle.link.specs.Making.{made_of, first_world, Because}
use Rattle.script.specs.Format.{Asked, shaped, letters, arguments, calls_of, asked, known, read_script}
use Rattle.journal.specs.declared.carry.Run.{Run}
use Rattle.journal.specs.declared.carry.Stopped.{Stopped}
use Rattle.journal.specs.declared.carry.Stopped.TheVariants.{Unmade as NotMade, OutOfMemory as StoppedShort}
use Rattle.journal.specs.Outcomes.{Carried, StoppedAs, stops_as}
use Rattle.journal.specs.Runs.{begun, ran}
use Rattle.rehearsal.specs.Rehearsals.{Halts, WentThrough, Rehearsed}

abbrev limits : Asked → Bool
limits a = in_limits a.controller && in_limits a.sled

-- what three tests, of the shape, the letters and the limits, let through
record Fits (s : List ℕ) (b : Asked) : Type 0 where
  shape : shaped s ≡ true
  inside : limits b ≡ true

within_so : (t : Bool) (a b : Asked) (why : Refusal) → limits a ≡ t → cond t (Ok a) (Err why) ≡ Ok b → limits b ≡ true
within_so true a b why e z = let same : a ≡ b = cc in sym (ap limits same) ∙ e
within_so false a b why e z = cc

known_so : (s : List ℕ) (calls : Option (List Call)) (b : Asked) → known s calls ≡ Ok b → limits b ≡ true
known_so s None b z = cc
known_so s (Some calls) b z = within_so (limits (asked s calls)) (asked s calls) b _ refl z

fits_so : (s : List ℕ) (t : Bool) → shaped s ≡ t → (why : Refusal) (calls : Option (List Call)) (b : Asked) → cond t (known s calls) (Err why) ≡ Ok b → Fits s b
fits_so s true e why calls b z = record { shape = e; inside = known_so s calls b z }
fits_so s false e why calls b z = cc

fits : (s : List ℕ) (b : Asked) → read_script s ≡ Ok b → Fits s b
unfolding read_script
fits s b z = fits_so s (shaped s) refl _ (calls_of (letters s) (arguments s)) b z

pub has_shape : (s : List ℕ) (b : Asked) → read_script s ≡ Ok b → shaped s ≡ true
has_shape s b z = (fits s b z).shape

module _ {A B K : Type 0} (k : Code) (a : Ghosts A) (b : Ghosts B) (lines : A × B) (s : List ℕ) (asks : Asked) (read : read_script s ≡ Ok asks) where
  halts_so : (r : Result (Run A B K) Failure) (why : Failure) → Halts s why → IsErrAnd r (λ f. f ≡ why) → Rehearsed k a b s lines r
  halts_so (Ok x) why halts h = absurd h
  halts_so (Err f) why halts h = rw h halts

  -- parts with such limits, lines and stores of 4,096 bytes
  module _ (p : Parts A B K) (near : (p.controller.limits ≡ asks.controller) × (p.controller.line ≡ lines.0) × (vec_len p.controller.store ≡ 4096))
      (far : (p.sled.limits ≡ asks.sled) × (p.sled.line ≡ lines.1) × (vec_len p.sled.store ≡ 4096)) where
    abbrev fresh : World
    fresh = link_of asks.controller asks.sled 4096 4096 (a.waiting lines.0) (b.waiting lines.1)

    is_fresh : first_world a b p ≡ fresh
    is_fresh = λ i. link_of (near.0 i) (far.0 i) (near.2 i) (far.2 i) (a.waiting (near.1 i)) (b.waiting (far.1 i))

    makes : made_of a b p ≡ Ok (first_world a b p)
    makes = rw (near.2, far.2, near.0, far.0, (fits s asks read).inside)

    pub went_through : (r : Run A B K) (calls : List Call) (payloads scratch left : List ℕ) → Carried k a b p calls payloads scratch r left (λ start x. x ≡ ran k payloads start calls) →
        calls ≡ asks.calls → length payloads ≡ 65535 → ((i : ℕ) → i < 65535 → get_or payloads i 0 ≡ i % 256) → length scratch ≡ 520 → WentThrough k a b s lines r
    went_through r calls payloads scratch left c is many pattern long = record {
      asked = asks;
      read = read;
      payloads = payloads;
      as_many = many;
      pattern = pattern;
      scratch = scratch;
      long = long;
      left = left;
      done = c.done ∙ (λ i. ran k payloads (begun (is_fresh i) scratch) (is i));
      law = λ x y. let f = c.law (record { to_controller = ap a.waiting near.1 ∙ x; to_sled = ap b.waiting far.1 ∙ y }) in rw (sym near.0, sym far.0) f;
    }

    stops_so : (stopped : Stopped A B K) (calls : List Call) (payloads scratch left : List ℕ) → StoppedAs k a b p calls payloads scratch stopped left → Halts s (stops_as stopped)
    stops_so (StoppedShort r e) calls payloads scratch left z = (fits s asks read).shape
    stops_so (NotMade n) calls payloads scratch left z = by_cause n.why z.1.0 where
      by_cause : (why : Failure) → Because a b p why → Halts s why
      by_cause (Refused why) x = let made = makes in cc
      by_cause (OutOfMemory e) x = (fits s asks read).shape

    -- the only way to stop is for want of memory
    pub stops : (stopped : Stopped A B K) (calls : List Call) (payloads scratch left : List ℕ) → StoppedAs k a b p calls payloads scratch stopped left →
        (r : Result (Run A B K) Failure) → IsErrAnd r (λ f. f ≡ stops_as stopped) → Rehearsed k a b s lines r
    stops stopped calls payloads scratch left z r h = halts_so r (stops_as stopped) (stops_so stopped calls payloads scratch left z) h
