-- Building and reading undo each other, and one changed byte shows, under every lawful check.
use Rattle.std.specs.Prelude.{◌≡◌, ℕ, ◌<◌, ◌≤◌, true, false, List, length, is_ok, Ok}
use Rattle.block_check.specs.Law.{Bytes, DifferAt, Lawful}
use Rattle.block.specs.declared.heading.Heading.{Heading}
use Rattle.block.specs.Form.{sealed, in_range}
use Rattle.block.specs.Reading.{Content, read_block}

-- a heading whose fields all fit
pub record Fits (h : Heading) : Type 0 where
  pub ranged : in_range h ≡ true
  pub number : h.number < 256
  pub exchange : h.exchange < 65536

-- Reading what was built gives heading and payload back.
abbrev pub ReadBuilt : Type 0
ReadBuilt =
    (w : ℕ) (value : List ℕ → ℕ) → Lawful w value → (h : Heading) (payload : List ℕ) →
    in_range h ≡ true → length payload ≤ 512 →
    read_block w value (sealed w value h payload) ≡ Ok (record { heading = h; payload = payload })

-- What was read can be built, and building it gives the block back, byte for byte.
abbrev pub BuiltRead : Type 0
BuiltRead =
    (w : ℕ) (value : List ℕ → ℕ) → Lawful w value → (bs : List ℕ) (c : Content) → Bytes bs →
    read_block w value bs ≡ Ok c →
    (in_range c.heading ≡ true) × (length c.payload ≤ 512) × (sealed w value c.heading c.payload ≡ bs)

-- A sealed block with exactly one byte changed is never well-formed.
abbrev pub ChangeShows : Type 0
ChangeShows =
    (w : ℕ) (value : List ℕ → ℕ) → Lawful w value → (h : Heading) (payload : List ℕ) →
    Fits h → length payload ≤ 512 → Bytes payload →
    (i : ℕ) (changed : List ℕ) → Bytes changed → DifferAt i (sealed w value h payload) changed →
    is_ok (read_block w value changed) ≡ false
