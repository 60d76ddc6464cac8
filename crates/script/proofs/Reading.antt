-- Calls that were read so far, and what the rest of the letters gives.
use Rattle.std.proofs.Common.{◌≡◌, ℕ, ◌+◌, ◌-◌, Bool, true, List, [], ◌∷◌, ◌++◌, length, take, drop, Some, None, Option, sym, refl, ap, ◌∙◌, append_assoc, arith}
use Rattle.std.proofs.lemmas.List.{take_rest, drop_at, drop-drop, get_or_append_left}
use Rattle.login.specs.declared.Parameters.{Parameters}
use Rattle.rules.specs.declared.call.Call.{Call}
use Rattle.script.specs.Format.{number_at, shaped, letters, arguments, call_of, joined, calls_of, limits_of, within, known, read_script}

abbrev pub behind : List Call → Option (List Call) → Option (List Call)
behind so_far None = None
behind so_far (Some cs) = Some (so_far ++ cs)

behind_more : (so_far : List Call) (c : Call) (o : Option (List Call)) → behind so_far (joined (Some c) o) ≡ behind (so_far ++ c ∷ []) o
behind_more so_far c None = refl
behind_more so_far c (Some cs) = ap Some (sym (append_assoc so_far (c ∷ []) cs))

-- one letter more with its argument, which tell a call or none
pub next_letter : (letter : ℕ) (later argument left : List ℕ) → length argument ≡ 4 →
    calls_of (letter ∷ later) (argument ++ left) ≡ joined (call_of letter (number_at argument 0) (number_at argument 2)) (calls_of later left)
unfolding calls_of
next_letter letter later argument left four =
    rw (get_or_append_left argument left 0 0 (omega arith), get_or_append_left argument left 0 1 (omega arith), get_or_append_left argument left 0 2 (omega arith), get_or_append_left argument left 0 3 (omega arith), drop_at argument left 4 four)

-- what the letters give in all stays the same while they are read one by one
pub again : (letters bytes : List ℕ) (so_far : List Call) (whole : Option (List Call)) → behind so_far (calls_of letters bytes) ≡ whole →
    (letter : ℕ) (later argument left : List ℕ) → letters ≡ letter ∷ later → bytes ≡ argument ++ left → length argument ≡ 4 →
    (call : Call) → call_of letter (number_at argument 0) (number_at argument 2) ≡ Some call → behind (so_far ++ call ∷ []) (calls_of later left) ≡ whole
again letters bytes so_far whole inv letter later argument left is cut four call known =
    let here : calls_of letters bytes ≡ joined (call_of letter (number_at argument 0) (number_at argument 2)) (calls_of later left) = rw (is, cut) (next_letter letter later argument left four) in
    let more = behind_more so_far call (calls_of later left) in
    cc

-- n is the number of letters, which stand from place 6 on, with the arguments behind them
module _ (s : List ℕ) (b : Bool) (is-shaped : b ≡ shaped s) (has-shape : b ≡ true) (n : ℕ) (is-n : n ≡ number_at s 0) (l a : List ℕ) (is-l : l ≡ take n (take (length s - 6) (drop 6 s))) (is-a : a ≡ drop n (take (length s - 6) (drop 6 s))) where
  -- what is left to test once the letters are known
  pub judged : (calls : List Call) → calls_of l a ≡ Some calls → (p q : ℕ) → p ≡ number_at s 2 → q ≡ number_at s 4 → (c d : Parameters) → c ≡ limits_of 8 p → d ≡ limits_of 4 q → read_script s ≡ within (record { controller = c; sled = d; calls = calls })
  unfolding read_script
  judged calls e p q is-p is-q c d is-c is-d =
      let rest = take_rest s 6 in
      let front : take n (take (length s - 6) (drop 6 s)) ≡ letters s = ap (take n) rest ∙ ap (λ k. take k (drop 6 s)) is-n in
      let back : drop n (take (length s - 6) (drop 6 s)) ≡ arguments s = ap (drop n) rest ∙ (drop-drop n 6 s ∙ ap (λ k. drop (6 + k) s) is-n) in
      let here : calls_of (letters s) (arguments s) ≡ Some calls = cc in
      rw (sym is-shaped ∙ has-shape, here, is-c, is-d, is-p, is-q)
