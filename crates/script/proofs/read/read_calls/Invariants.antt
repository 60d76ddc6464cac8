use Rattle.std.proofs.Common.{◌≡◌, ◌+◌, ◌*◌, ◌≤◌, length, vec_items, vec_len, vec_capacity}
use Rattle.std.specs.Slice.Iter.{iter_rest, chunks_exact_rest, chunks_exact_size}
use Rattle.std.specs.Iterator.Adapters.{zip_first, zip_second}
use Rattle.script.specs.Format.{calls_of}
use Rattle.script.proofs.Reading.{behind}
use Rattle.script.proofs.read.read_calls.Given as goal

-- what the letters and arguments that are left give, behind the calls so far, is what all give
abbrev pub invariant-loop-letter : goal.invariant-loop-letter
invariant-loop-letter l =
    let letters = iter_rest (zip_first l.letter-iterator) in
    let arguments = zip_second l.letter-iterator in
    (chunks_exact_size arguments ≡ 4)
    × (vec_len l.calls + length letters ≤ vec_capacity l.calls)
    × (4 * length letters ≤ length (chunks_exact_rest arguments))
    × (behind (vec_items l.calls) (calls_of letters (chunks_exact_rest arguments)) ≡ calls_of l.letters l.arguments)
