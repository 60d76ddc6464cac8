-- The wire form of a block, and what a reader finds in wire bytes.
use Rattle.std.specs.Prelude.{ℕ, ◌+◌, ◌-◌, Bool, cond, ◌||◌, List, [], ◌∷◌, ◌++◌, length, ◌==◌, nat_lt}
use Rattle.wire.specs.declared.scan.Place.{Place}
use Rattle.wire.specs.declared.scan.Place.TheVariants.{Outside, Inside, Escaped}
use Rattle.wire.specs.declared.scan.Act.{Act}
use Rattle.wire.specs.declared.scan.Act.TheVariants.{Skip, Begin, Escape, Leave, Finish, Keep}

-- 02h starts a frame, 03h ends it, 1Bh escapes: inside a frame these go out as 1Bh and then themselves plus 80h
abbrev pub reserved : ℕ → Bool
reserved b = b == 0x02 || (b == 0x03 || b == 0x1b)

abbrev pub escaped : ℕ → List ℕ
escaped b = cond (reserved b) (0x1b ∷ (b + 0x80) ∷ []) (b ∷ [])

unfoldable pub inner : List ℕ → List ℕ
inner [] = []
inner (b ∷ bs) = escaped b ++ inner bs

-- a whole frame
abbrev pub framed : List ℕ → List ℕ
framed block = 0x02 ∷ (inner block ++ 0x03 ∷ [])

-- What a byte asks for. 02h starts a frame anew at every place, 03h ends one at every place; behind 1Bh only
-- 82h, 83h and 9Bh stand for a byte, and any other leaves the frame, as 03h does there.
abbrev pub act_in : Place → ℕ → Act
act_in Outside b = Skip
act_in Inside b = cond (b == 0x03) Finish (cond (b == 0x1b) Escape (Keep b))
act_in Escaped b = cond (b == 0x82 || (b == 0x83 || b == 0x9b)) (Keep (b - 0x80)) Leave

abbrev pub act_of : Place → ℕ → Act
act_of p b = cond (b == 0x02) Begin (act_in p b)

-- the first block in the input, none being the empty list, and the input behind it
pub record Found : Type 0 where
  pub block : List ℕ
  pub rest : List ℕ

-- What comes of an act: `sofar` is the frame so far, unescaped, `bs` the input behind the byte, and `go` reads on
-- in it. An empty frame is skipped, and so is one above 520 bytes.
abbrev pub acted : Place → List ℕ → List ℕ → (Place → List ℕ → Found) → Act → Found
acted p sofar bs go Skip = go p sofar
acted p sofar bs go Begin = go Inside []
acted p sofar bs go Escape = go Escaped sofar
acted p sofar bs go Leave = go Outside []
acted p sofar bs go Finish = cond (length sofar == 0) (go Outside []) (record { block = sofar; rest = bs })
acted p sofar bs go (Keep x) = cond (nat_lt (length sofar) 520) (go Inside (sofar ++ x ∷ [])) (go Outside [])

unfoldable pub scanned : Place → List ℕ → List ℕ → Found
scanned p sofar [] = record { block = []; rest = [] }
scanned p sofar (b ∷ bs) = acted p sofar bs (λ q v. scanned q v bs) (act_of p b)

-- a reader ignores what precedes 02h
abbrev pub found : List ℕ → Found
found input = scanned Outside [] input
