-- A proof that stands here since the long check's law cites it: no step takes two states or two bytes to one state, so a byte that
-- differs stays to be seen.
use Rattle.std.specs.Prelude.{◌≡◌, ℕ, zero, suc, ◌*◌, ◌%◌, ◌<◌, List, [], ◌∷◌, length, fold, bit_xor, slice_index, slice_set}
use Rattle.std.proofs.Common.{sym, ◌∙◌, ap, le_of_suc-le-suc, not-suc-le-zero, arith}
use Rattle.std.proofs.lemmas.Nat.{xor_mod, xor_comm, xor_lt}
use Rattle.std.specs.Int.Bits.{xor_assoc, xor_self, xor_zero_r}
use Rattle.std.proofs.lemmas.Bool.Decides.{nat_tests}
use Rattle.block_check.specs.Law.{Bytes, Lawful}
use Rattle.checks.specs.Shared.{tells_writes}
use Rattle.checks.specs.Crc.{shifted, bits, stepped, crc}

undone : (a k : ℕ) → bit_xor (bit_xor a k) k ≡ a
undone a k = xor_assoc a k k ∙ (ap (bit_xor a) (xor_self k) ∙ xor_zero_r a)

xor_same : (a b k : ℕ) → bit_xor a k ≡ bit_xor b k → a ≡ b
xor_same a b k e = sym (undone a k) ∙ (ap (λ m. bit_xor m k) e ∙ undone b k)

-- the polynomial is odd, so a state shows whether it was added
odd : (m : ℕ) → m % 2 ≡ 0 → bit_xor m 0x1021 % 2 ≡ 1
odd m e = xor_mod m 0x1021 1 ∙ ap (λ x. bit_xor x 1) e

shifted_same : (a b : ℕ) → a < 65536 → b < 65536 → shifted a ≡ shifted b → a ≡ b
shifted_same a b ha hb e =
    let oa = odd (a * 2 % 65536) (omega arith) in
    let ob = odd (b * 2 % 65536) (omega arith) in
    let s = xor_same (a * 2 % 65536) (b * 2 % 65536) 0x1021 in
    grind (arith, nat_tests)

shifted_lt : (s : ℕ) → s < 65536 → shifted s < 65536
shifted_lt s h = let x = xor_lt 16 (s * 2 % 65536) 0x1021 (omega arith) (omega arith) in grind arith

bits_lt : (n s : ℕ) → s < 65536 → bits n s < 65536
unfolding bits
bits_lt zero s h = h
bits_lt (suc n) s h = shifted_lt (bits n s) (bits_lt n s h)

bits_same : (n a b : ℕ) → a < 65536 → b < 65536 → bits n a ≡ bits n b → a ≡ b
unfolding bits
bits_same zero a b ha hb e = e
bits_same (suc n) a b ha hb e =
    bits_same n a b ha hb (shifted_same (bits n a) (bits n b) (bits_lt n a ha) (bits_lt n b hb) e)

mixed_lt : (s x : ℕ) → s < 65536 → x < 256 → bit_xor s (x * 256) < 65536
mixed_lt s x hs hx = xor_lt 16 s (x * 256) hs (omega arith)

stepped_lt : (s x : ℕ) → s < 65536 → x < 256 → stepped s x < 65536
unfolding stepped
stepped_lt s x hs hx = bits_lt 8 (bit_xor s (x * 256)) (mixed_lt s x hs hx)

mixed_same : (a b x y : ℕ) → a < 65536 → b < 65536 → x < 256 → y < 256 → stepped a x ≡ stepped b y → bit_xor a (x * 256) ≡ bit_xor b (y * 256)
unfolding stepped
mixed_same a b x y ha hb hx hy e =
    bits_same 8 (bit_xor a (x * 256)) (bit_xor b (y * 256)) (mixed_lt a x ha hx) (mixed_lt b y hb hy) e

same_state : (a b x : ℕ) → a < 65536 → b < 65536 → x < 256 → stepped a x ≡ stepped b x → a ≡ b
same_state a b x ha hb hx e = xor_same a b (x * 256) (mixed_same a b x x ha hb hx hx e)

same_byte : (s x y : ℕ) → s < 65536 → x < 256 → y < 256 → stepped s x ≡ stepped s y → x ≡ y
same_byte s x y hs hx hy e =
    let m =
    xor_same (x * 256) (y * 256) s
    (xor_comm (x * 256) s ∙ (mixed_same s s x y hs hs hx hy e ∙ xor_comm s (y * 256))) in
    omega arith

folded_lt : (bs : List ℕ) (s : ℕ) → s < 65536 → Bytes bs → fold stepped s bs < 65536
folded_lt [] s hs all = hs
folded_lt (x ∷ bs) s hs all = folded_lt bs (stepped s x) (stepped_lt s x hs all.0) all.1

folded_same : (bs : List ℕ) (a b : ℕ) → a < 65536 → b < 65536 → Bytes bs → fold stepped a bs ≡ fold stepped b bs → a ≡ b
folded_same [] a b ha hb all e = e
folded_same (x ∷ bs) a b ha hb all e =
    same_state a b x ha hb all.0
    (folded_same bs (stepped a x) (stepped b x) (stepped_lt a x ha all.0) (stepped_lt b x hb all.0) all.1 e)

set_same : (bs : List ℕ) (i v s : ℕ) → s < 65536 → Bytes bs → v < 256 → i < length bs → fold stepped s (slice_set bs i v) ≡ fold stepped s bs → v ≡ slice_index bs i
set_same [] i v s hs all hv l e = absurd (not-suc-le-zero l)
set_same (x ∷ bs) zero v s hs all hv l e =
    same_byte s v x hs hv all.0
    (folded_same bs (stepped s v) (stepped s x) (stepped_lt s v hs hv) (stepped_lt s x hs all.0) all.1 e)
set_same (x ∷ bs) (suc i) v s hs all hv l e =
    set_same bs i v (stepped s x) (stepped_lt s x hs all.0) all.1 hv (le_of_suc-le-suc l) e

crc_lt : (bs : List ℕ) → Bytes bs → crc bs < 65536
crc_lt bs all = folded_lt bs 0xffff (omega arith) all

crc_same : (bs : List ℕ) (i v : ℕ) → Bytes bs → v < 256 → i < length bs → crc (slice_set bs i v) ≡ crc bs → v ≡ slice_index bs i
crc_same bs i v all hv l e = set_same bs i v 0xffff (omega arith) all hv l e

pub crc_lawful : Lawful 2 crc
crc_lawful = record { some = omega arith; few = omega arith; fits = crc_lt; tells = tells_writes crc crc_same }
