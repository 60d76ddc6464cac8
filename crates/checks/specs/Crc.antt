-- The long check: the 16-bit CRC with the polynomial 1021h, begun at FFFFh, high bit first, nothing added at the end.
use Rattle.std.specs.Prelude.{ℕ, zero, suc, ◌*◌, ◌%◌, cond, List, fold, bit_xor, nat_le}

-- one bit: a shift to the left, and the polynomial where a one falls out at the top
abbrev pub shifted : ℕ → ℕ
shifted s = cond (nat_le 0x8000 s) (bit_xor (s * 2 % 65536) 0x1021) (s * 2 % 65536)

-- n bits
unfoldable pub bits : ℕ → ℕ → ℕ
bits zero s = s
bits (suc n) s = shifted (bits n s)

-- one byte, added at the top
unfoldable pub stepped : ℕ → ℕ → ℕ
stepped s b = bits 8 (bit_xor s (b * 256))

abbrev pub crc : List ℕ → ℕ
crc bs = fold stepped 0xffff bs
