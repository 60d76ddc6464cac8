-- What a queue's calls do to the front of its memory, at any kind of element.
use Rattle.std.proofs.Common.{◌≡◌, ℕ, ◌+◌, ◌-◌, ◌≤◌, min, List, ◌++◌, length, take, drop, vec_items, sym, ap, ◌∙◌, arith}
use Rattle.std.proofs.lemmas.List.{take-append-le, drop-take, drop_min, length-take-le, length-drop}
use Rattle.std.proofs.lemmas.Bool.Decides.{nat_tests}
use Rattle.queue.specs.declared.queue.Queue.{Queue}
use Rattle.queue.specs.Contents.{contents, extend_after}

-- where there is room
pub extend_adds : {X : Type 0} (waits items : List X) (size : ℕ) → length waits + length items ≤ size → waits ++ items ≡ extend_after waits size items
extend_adds waits items size room = grind (arith, nat_tests)

-- what went to the end is no longer counted
pub dropped : {X : Type 0} (q : Queue X) (turned : List X) (n gone : ℕ) → gone ≡ min n q.count → turned ≡ drop gone (vec_items q.memory) ++ take gone (vec_items q.memory) → take (q.count - gone) turned ≡ drop n (contents q)
dropped q turned n gone e t =
    let m = vec_items q.memory in
    let left = q.count - gone in
    let few : q.count ≤ length m = omega (arith, q.memory.ok.0) in
    let fit : left ≤ length (drop gone m) = simp length-drop (omega arith) in
    let all : gone + left ≡ q.count = omega arith in
    let min_is : gone ≡ min n (length (contents q)) = omega (arith, length-take-le q.count m few) in
    ap (take left) t
    ∙ take-append-le left (drop gone m) (take gone m) fit
    ∙ sym (drop-take gone left m)
    ∙ ap (λ k. drop gone (take k m)) all
    ∙ ap (λ k. drop k (contents q)) min_is
    ∙ drop_min n (contents q)
