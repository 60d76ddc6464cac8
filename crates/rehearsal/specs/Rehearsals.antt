-- What an answer to the rehearsal of a script says.
use Rattle.std.specs.Prelude.{◌≡◌, ℕ, ◌%◌, ◌<◌, true, List, [], length, Ok, Err, Result, slice_index}
use Rattle.refusal.specs.declared.Failure.{Failure}
use Rattle.refusal.specs.declared.Failure.TheVariants.{Refused, OutOfMemory}
use Rattle.block_check.specs.Law.{Code}
use Rattle.line.specs.declared.Line.{Ghosts}
use Rattle.rules.specs.Links.{link_of}
use Rattle.script.specs.Format.{Asked, shaped, read_script}
use Rattle.journal.specs.declared.carry.Run.{Run}
use Rattle.journal.specs.Runs.{begun, ran, shown, FaithfulSoFar}

abbrev pub Halts : List ℕ → Failure → Type 0
Halts script (Refused why) = read_script script ≡ Err why
Halts script (OutOfMemory e) = shaped script ≡ true

module _ {A B K : Type 0} (k : Code) (a : Ghosts A) (b : Ghosts B) (script : List ℕ) (lines : A × B) where
  -- The script asks for limits and calls. The journal and the link show the run of these calls on a link of such limits,
  -- with stores of 4,096 bytes, the two lines, payloads that are beginnings of the pattern, and a scratch of 520 bytes;
  -- and where both lines were new and empty, the law holds of what they show.
  pub record WentThrough (r : Run A B K) : Type 0 where
    pub asked : Asked
    pub read : read_script script ≡ Ok asked
    pub payloads : List ℕ
    pub as_many : length payloads ≡ 65535
    pub pattern : (i : ℕ) → i < 65535 → slice_index payloads i ≡ i % 256
    pub scratch : List ℕ
    pub long : length scratch ≡ 520
    pub left : List ℕ
    pub done : shown a b r.link r.journal left ≡ ran k payloads (begun (link_of asked.controller asked.sled 4096 4096 (a.waiting lines.0) (b.waiting lines.1)) scratch) asked.calls
    pub law : a.waiting lines.0 ≡ [] → b.waiting lines.1 ≡ [] → FaithfulSoFar asked.controller asked.sled (shown a b r.link r.journal left)

  abbrev pub Rehearsed : Result (Run A B K) Failure → Type 0
  Rehearsed (Ok r) = WentThrough r
  Rehearsed (Err h) = Halts script h
