-- What a queue holds, oldest first, and how much its memory has place for. Callers rely on nothing else.
use Rattle.std.specs.Prelude.{ℕ, ◌+◌, Bool, cond, List, [], ◌∷◌, ◌++◌, length, take, drop, Ok, Err, vec_items, vec_len, Result, nat_le}
use Rattle.queue.specs.declared.queue.Full.{Full}
use Rattle.queue.specs.declared.queue.Queue.{Queue}

-- the two words of the contracts, which alone know how the memory is laid out
abbrev pub contents : {T : Type 0} → Queue T → List T
contents q = take q.count (vec_items q.memory)

abbrev pub capacity : {T : Type 0} → Queue T → ℕ
capacity q = vec_len q.memory

-- whether there is room for `more` behind what waits
abbrev pub fits : {T : Type 0} → List T → ℕ → List T → Bool
fits waits size more = nat_le (length waits + length more) size

abbrev pub push_answer : {T : Type 0} → List T → ℕ → T → Result (Unit {0}) T
push_answer waits size item = cond (fits waits size (item ∷ [])) (Ok tt) (Err item)

abbrev pub extend_answer : {T : Type 0} → List T → ℕ → List T → Result (Unit {0}) Full
extend_answer waits size items = cond (fits waits size items) (Ok tt) (Err (record {}))

-- all of it is added, or nothing
abbrev pub extend_after : {T : Type 0} → List T → ℕ → List T → List T
extend_after waits size items = cond (fits waits size items) (waits ++ items) waits

abbrev pub push_after : {T : Type 0} → List T → ℕ → T → List T
push_after waits size item = extend_after waits size (item ∷ [])

-- as many of the oldest as fit at the front of a buffer, and what lies behind them kept
abbrev pub copied : {T : Type 0} → List T → List T → List T
copied waits out = take (length out) waits ++ drop (length waits) out
