-- The law of whole runs.
use Rattle.std.specs.Prelude.{◌≡◌, ℕ, ◌+◌, ◌≤◌, true, List, [], ◌∷◌, ◌++◌, length}
use Rattle.std.specs.List.{AllByRecursion}
use Rattle.block_check.specs.Law.{Code, Bytes, Lawful}
use Rattle.login.specs.declared.Parameters.{Parameters}
use Rattle.rules.specs.declared.seat.Side.TheVariants.{Controller, Sled}
use Rattle.rules.specs.declared.seat.State.{State}
use Rattle.rules.specs.declared.seat.State.TheVariants.{LoggedIn}
use Rattle.rules.specs.LogIns.{smaller}
use Rattle.rules.specs.Ends.{End, in_limits}
use Rattle.rules.specs.Links.{Act, open_link, send, poll, timeout, lose, spoil, World, Call, Entry, journal, run, stepped, entry, fresh_link}
use Rattle.law.specs.Journals.{Record, Past, past}

-- what an operator can ask of an end: its state, what it has agreed on, how many frames are outstanding
pub record Asked : Type 0 where
  pub state : State
  pub agreed : Parameters
  pub outstanding : ℕ

abbrev pub ask : End → Asked
ask e = record { state = e.seat.state; agreed = e.seat.talk.offer; outstanding = length e.outstanding }

-- One way of the link: an end, of which `here` is the past, towards the other, of which `there` is the past; `least` is
-- the smaller of the two limits in each parameter.
pub record OneWay (least : Parameters) (end : Asked) (here there : Past) : Type 0 where
  -- delivered in order: the records handed up opposite are a beginning of those accepted here, every field and payload
  -- byte equal
  pub delivered : (later : List Record) × (here.accepted ≡ there.handed ++ later)
  -- accounted for: each accepted record is cleared or outstanding, each cleared one was handed up opposite, and no more
  -- are outstanding than the smaller offset limit
  pub accounted : length here.accepted ≡ here.cleared + end.outstanding
  pub cleared : here.cleared ≤ length there.handed
  pub handed : length there.handed ≤ length here.accepted
  pub window : end.outstanding ≤ least.offset
  -- agreed: in Logged-In, on the smaller of the two limits in each parameter
  pub agreed : end.state ≡ LoggedIn → end.agreed ≡ least

pub record Faithful (a b : Parameters) (written : List Entry) (w : World) : Type 0 where
  pub down : OneWay (smaller a b) (ask w.controller.end) (past Controller written) (past Sled written)
  pub up : OneWay (smaller a b) (ask w.sled.end) (past Sled written) (past Controller written)

-- payloads are of bytes
abbrev pub OfBytes : Act → Type 0
OfBytes open_link = Unit {0}
OfBytes (send tag payload) = Bytes payload
OfBytes poll = Unit {0}
OfBytes timeout = Unit {0}
OfBytes lose = Unit {0}
OfBytes (spoil p d) = Unit {0}

abbrev pub CallsOfBytes : List Call → Type 0
CallsOfBytes calls = AllByRecursion (λ c. OfBytes c.act) calls

-- For every lawful check, every two limits in range and every list of calls on a fresh link.
abbrev pub RunsFaithful : Type 0
RunsFaithful =
    (k : Code) → Lawful k.width k.value → (a b : Parameters) → in_limits a ≡ true → in_limits b ≡ true →
    (store_a store_b : ℕ) (calls : List Call) → CallsOfBytes calls →
    Faithful a b (journal k (fresh_link a b store_a store_b) calls) (run k (fresh_link a b store_a store_b) calls)

-- A run from a fresh link has led to this journal and this link.
pub record Reached (k : Code) (a b : Parameters) (written : List Entry) (w : World) : Type 0 where
  pub store_a : ℕ
  pub store_b : ℕ
  pub calls : List Call
  pub of_bytes : CallsOfBytes calls
  pub journal_is : written ≡ journal k (fresh_link a b store_a store_b) calls
  pub world_is : w ≡ run k (fresh_link a b store_a store_b) calls

-- For the contract of one call: whatever run from a fresh link has led to `before`, it leads on by this call, with what
-- is written down of it, to `later`, and the law holds of it.
abbrev pub LeadsOn : Code → World → Entry → World → Type 0
LeadsOn k before e later =
    (a b : Parameters) → in_limits a ≡ true → in_limits b ≡ true → (written : List Entry) → Reached k a b written before →
    Reached k a b (written ++ e ∷ []) later × Faithful a b (written ++ e ∷ []) later

-- A call carried out as the definitions say leads on.
abbrev pub CallsLeadOn : Type 0
CallsLeadOn =
    (k : Code) → Lawful k.width k.value → (w : World) (c : Call) → OfBytes c.act →
    LeadsOn k w (entry k w c) (stepped k w c)
