-- Blocks put on a line in two goes, and built in a buffer.
use Rattle.std.proofs.Common.{◌≡◌, ℕ, ◌+◌, cond, List, [], ◌∷◌, ◌++◌, sym, refl, ap, ◌∙◌, add_assoc, zero-add}
use Rattle.std.proofs.lemmas.List.{map-append}
use Rattle.refusal.specs.Buffers.{over}
use Rattle.line.specs.Blocks.{taken, put_after}
use Rattle.rules.specs.Sending.{puts, took, builds}

pub puts_append : (line xs ys : List (List ℕ)) → puts line (xs ++ ys) ≡ puts (puts line xs) ys
puts_append line [] ys = refl
puts_append line (x ∷ xs) ys = puts_append (put_after line x) xs ys

pub took_append : (line xs ys : List (List ℕ)) → took line (xs ++ ys) ≡ took line xs + took (puts line xs) ys
took_append line [] ys = sym (zero-add (took line ys))
took_append line (x ∷ xs) ys = ap (λ n. cond (taken line x) 1 0 + n) (took_append (put_after line x) xs ys) ∙ sym (add_assoc (cond (taken line x) 1 0) (took (put_after line x) xs) (took (puts (put_after line x) xs) ys))

pub builds_append : (scratch : List ℕ) (xs ys : List (List ℕ)) → builds scratch (xs ++ ys) ≡ builds (builds scratch xs) ys
builds_append scratch [] ys = refl
builds_append scratch (x ∷ xs) ys = builds_append (over x scratch) xs ys

pub ruleset in_two_goes = (puts_append, took_append, map-append)
