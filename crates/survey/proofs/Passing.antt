-- What a step of the pass finds, and how the steps add up.
use Rattle.std.proofs.Common.{◌≡◌, ℕ, zero, suc, ◌+◌, ◌-◌, ◌<◌, ◌≤◌, List, [], ◌∷◌, ◌++◌, length, take, drop, Some, None, Ok, Option, Result, sym, refl, ap, ◌∙◌, subst, arith, Bor}
use Rattle.std.proofs.lemmas.List.{append_assoc, length-append}
use Rattle.std.proofs.lemmas.Bool.Decides.{nat_tests}
use Rattle.std.proofs.lemmas.Bool.{cond-false, le-ltb}
use Rattle.refusal.specs.Buffers.{over}
use Rattle.refusal.proofs.Buffers.{over_front}
use Rattle.wire.specs.Form.{Found, framed, found}
use Rattle.wire.specs.Calls.{Answer, measure_answer, read_of, read_answer, read_buffer}
use Rattle.wire.specs.Theorems.{gap}
use Rattle.wire.proofs.Standing.{framed_in}
use Rattle.survey.specs.declared.item.Item.{Item}
use Rattle.survey.specs.declared.item.Item.TheVariants.{Block}
use Rattle.block.specs.declared.status.Status.{Status}
use Rattle.survey.specs.declared.seen.Message.{Message}
use Rattle.survey.specs.Seeing.{seen}
use Rattle.survey.specs.Passing.{gap_item, block_item, items, survey_of, Stepped}

-- ---- one step

-- what an answer with a block says
read_is : (f : Found) (n : ℕ) (rest : List ℕ) → ◌≡◌ {A = Answer} (Ok (n, rest)) (read_of f) →
    (1 ≤ length f.block) × (n ≡ length f.block) × (rest ≡ f.rest)
read_is f n rest e = grind (arith, nat_tests)

-- What is known once a block was read: `after` is the buffer, of which a part is looked at.
abbrev pub Told : List ℕ → List ℕ → List ℕ → ℕ → Type 0
Told input after rest n =
    (1 ≤ length (found input).block) × (length (found input).block ≤ 520) × (n ≡ length (found input).block) ×
    (rest ≡ (found input).rest) × (take (n - 0) after ≡ (found input).block)

pub told : (input out after rest : List ℕ) (n : ℕ) → length out ≡ 520 → length after ≡ length out →
    ◌≡◌ {A = Answer} (Ok (n, rest)) (read_answer input out) → after ≡ read_buffer input out → Told input after rest n
told input out after rest n room kept answer left =
    let block = (found input).block in
    let enough = le-ltb (length out) 520 (omega arith) in
    let r = read_is (found input) n rest (answer ∙ cond-false _ _ _ enough) in
    let a : after ≡ over block out = left ∙ cond-false _ _ _ enough in (
      r.0,
      omega (arith, length-append block (drop (length block) out), ap length a),
      r.1,
      r.2,
      ap (take (n - 0)) a ∙ over_front block out (n - 0) (omega arith),
    )

-- the part is a block that can be measured
pub measured : (input after rest : List ℕ) (n : ℕ) → Told input after rest n →
    measure_answer (take (n - 0) after) ≡ Ok (length (framed (found input).block))
measured input after rest n k = rw k.4 (grind (arith, nat_tests))

-- the frame and the rest stand in the input
pub stands : (input : List ℕ) → 1 ≤ length (found input).block → length (found input).rest + length (framed (found input).block) ≤ length input
stands input some =
    let frame = framed (found input).block in
    let rest = (found input).rest in
    let front = take (gap input) input in
    omega (arith, ap length (framed_in input some), length-append front (frame ++ rest), length-append frame rest)

-- what is noted is what the definition has
pub noted : (w : ℕ) (value : List ℕ → ℕ) (offset before n : ℕ) (input block : List ℕ) (s : Result Message Status) →
    before ≡ gap input → block ≡ (found input).block → n ≡ length (found input).block → s ≡ seen w value block →
    gap_item offset (take (before - 0) input) ++ Block (record { offset = offset + before; length = n; seen = s }) ∷ []
    ≡ gap_item offset (take (gap input) input) ++ block_item w value (offset + gap input) (found input).block ∷ []
noted w value offset before n input block s b e l k =
    let z : before - 0 ≡ gap input = omega arith in
    rw (z, b, l, k, e)

-- ---- the steps together

-- what is noted by now, with the items of what is left, is what is to be noted in all
abbrev pub Left : ℕ → (List ℕ → ℕ) → List ℕ → List Item → List ℕ → Type 0
Left w value capture now input =
    (length input ≤ length capture) ×
    ((turns : ℕ) × (length input ≤ turns) × (now ++ items w value turns (length capture - length input) input ≡ survey_of w value capture))

pub begins : (w : ℕ) (value : List ℕ → ℕ) (capture input : List ℕ) (now : List Item) → input ≡ capture → now ≡ [] → Left w value capture now input
begins w value capture input now whole e =
    let start : length capture - length capture ≡ 0 = omega arith in
    rw whole (omega arith, (length capture, omega arith, rw (e, start)))

items_none : (w : ℕ) (value : List ℕ → ℕ) (turns offset : ℕ) (input : List ℕ) → length (found input).block ≡ 0 →
    items w value turns offset input ≡ gap_item offset input
unfolding items
items_none w value zero offset input e = refl
items_none w value (suc turns) offset input e = grind (arith, nat_tests)

items_some : (w : ℕ) (value : List ℕ → ℕ) (turns offset : ℕ) (input : List ℕ) → 1 ≤ length (found input).block →
    items w value (suc turns) offset input
    ≡ gap_item offset (take (gap input) input) ++ (block_item w value (offset + gap input) (found input).block ∷
    items w value turns (offset + (length input - length (found input).rest)) (found input).rest)
unfolding items
items_some w value turns offset input some = grind (arith, nat_tests)

module _ (w : ℕ) (value : List ℕ → ℕ) (capture : List ℕ) (now after : List Item) (input : List ℕ) where
  abbrev At : Option (Bor (List ℕ)) → Type 0
  At = Stepped w value (length capture - length input) input now after

  pub less : (o : Option (Bor (List ℕ))) (rest : Bor (List ℕ)) → o ≡ Some rest → At o → length rest.now < length input
  less o rest e a = let s = subst At e a in omega (arith, stands input s.0, ap length s.1)

  more : (turns : ℕ) (rest : List ℕ) → length input ≤ length capture → length input ≤ turns → 1 ≤ length (found input).block → rest ≡ (found input).rest →
      after ≡ now ++ (gap_item (length capture - length input) (take (gap input) input) ++ block_item w value (length capture - length input + gap input) (found input).block ∷ []) →
      now ++ items w value turns (length capture - length input) input ≡ survey_of w value capture →
      Left w value capture after rest
  more zero rest in-capture enough some r a i = let no : ⊥ = omega (arith, stands input some) in absurd no
  more (suc turns) rest in-capture enough some r a i =
      let fewer = stands input some in
      let long = ap length r in
      let offset = length capture - length input in
      let gone = gap_item offset (take (gap input) input) in
      let block = block_item w value (offset + gap input) (found input).block in
      let on : offset + (length input - length (found input).rest) ≡ length capture - length rest = omega arith in
      let later = items w value turns (length capture - length rest) rest in
      let same : items w value turns (offset + (length input - length (found input).rest)) (found input).rest ≡ later =
      ap (λ o. items w value turns o (found input).rest) on ∙ ap (items w value turns (length capture - length rest)) (sym r) in (
        omega arith,
        (
          turns,
          omega arith,
          ap (λ x. x ++ later) a ∙ (append_assoc now (gone ++ block ∷ []) later ∙ (ap (λ x. now ++ x) (append_assoc gone (block ∷ []) later
              ∙ sym (items_some w value turns offset input some ∙ ap (λ x. gone ++ block ∷ x) same)) ∙ i)),
        ),
      )

  pub again : (o : Option (Bor (List ℕ))) (rest : Bor (List ℕ)) → o ≡ Some rest → Left w value capture now input → At o → Left w value capture after rest.now
  again o rest e l a = let s = subst At e a in more l.1.0 rest.now l.0 l.1.1 s.0 s.1 s.2 l.1.2

  pub ends : (o : Option (Bor (List ℕ))) → o ≡ None → Left w value capture now input → At o → after ≡ survey_of w value capture
  ends o e l a = let s = subst At e a in s.1 ∙ (ap (λ x. now ++ x) (sym (items_none w value l.1.0 (length capture - length input) input s.0)) ∙ l.1.2)
