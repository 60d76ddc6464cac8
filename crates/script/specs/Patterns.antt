-- The bytes that payloads are the beginnings of.
use Rattle.std.specs.Prelude.{◌≡◌, ℕ, ◌%◌, ◌<◌, vec_items, vec_len, Vec, slice_index}
use Rattle.std.specs.declared.alloc.Global.{Global}

-- 65,535 bytes, as many as a script can ask for; byte i is i modulo 256
abbrev pub Patterned : Vec ℕ Global → Type 0
Patterned v = (vec_len v ≡ 65535) × ((k : ℕ) → k < 65535 → slice_index (vec_items v) k ≡ k % 256)
