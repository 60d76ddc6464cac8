-- The check's bytes in a block: they show its value, and they are bytes, as the whole block's are.
use Rattle.std.proofs.Common.{◌≡◌, ℕ, zero, suc, ◌+◌, ◌*◌, ◌^◌, ◌<◌, ◌≤◌, true, List, length, get_or, ap, arith}
use Rattle.std.proofs.ByRecursion.{All-append}
use Rattle.std.proofs.lemmas.Bool.Decides.{nat_tests}
use Rattle.block_check.specs.Law.{Bytes, Lawful}
use Rattle.block.specs.declared.heading.Heading.{Heading}
use Rattle.block.specs.Form.{body, check_bytes, sealed, in_range}

pub same_value : (w u v : ℕ) → 1 ≤ w → w ≤ 2 → u < 256 ^ w → v < 256 ^ w → check_bytes w u ≡ check_bytes w v → u ≡ v
same_value zero u v some few a b e = absurd (omega arith)
same_value (suc zero) u v some few a b e = let p = ap (λ l. get_or l 0 0) e in omega arith
same_value (suc (suc zero)) u v some few a b e = let p = ap (λ l. get_or l 0 0) e in let q = ap (λ l. get_or l 1 0) e in omega arith
same_value (suc (suc (suc w))) u v some few a b e = absurd (omega arith)

check_are_bytes : (w v : ℕ) → w ≤ 2 → v < 256 ^ w → Bytes (check_bytes w v)
check_are_bytes zero v few h = tt
check_are_bytes (suc zero) v few h = (omega arith, tt)
check_are_bytes (suc (suc zero)) v few h = (omega arith, (omega arith, tt))
check_are_bytes (suc (suc (suc w))) v few h = absurd (omega arith)

pub sealed_bytes : (w : ℕ) (value : List ℕ → ℕ) → Lawful w value → (h : Heading) (payload : List ℕ) → in_range h ≡ true → h.number < 256 → h.exchange < 65536 → length payload ≤ 512 → Bytes payload → Bytes (sealed w value h payload)
unfolding sealed
sealed_bytes w value law h payload r n x s p =
    let first : 128 * h.origin + 16 * h.protocol + h.kind < 256 = grind (arith, nat_tests) in
    let front : Bytes (body h payload) = (first, (n, (omega arith, (omega arith, (omega arith, (omega arith, p)))))) in
    All-append (λ b. b < 256) (body h payload) (check_bytes w (value (body h payload))) front (check_are_bytes w (value (body h payload)) law.few (law.fits (body h payload) front))
