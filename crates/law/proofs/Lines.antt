-- A line of frames, some of which stand for a place: no place lags more than w behind one that went before it.
use Rattle.std.proofs.Common.{◌≡◌, ℕ, suc, ◌+◌, ◌%◌, ◌<◌, ◌≤◌, max, Bool, true, false, cond, ltb, List, [], ◌∷◌, ◌++◌, length, sym, ◌∙◌, arith}
use Rattle.std.specs.List.{AllByRecursion}
use Rattle.std.proofs.ByRecursion.{All-push}
use Rattle.std.proofs.lemmas.Bool.{false≢true, cond_both}
use Rattle.block.specs.Reading.{Content}

-- the number of the record at place k, counted from 0
unfoldable pub number : ℕ → ℕ
number k = 1 + k % 255

-- numbers tell places apart that are less than 255 from one another
pub same_number : (a b : ℕ) → number a ≡ number b → a < b + 255 → b < a + 255 → a ≡ b
unfolding number
same_number a b e h k = omega arith

pub number_byte : (k : ℕ) → number k < 256
unfolding number
number_byte k = omega arith

-- frames put on a line of frames: one that finds sixteen there is lost
unfoldable pub put : List Content → Content → List Content
put line x = cond (ltb (length line) 16) (line ++ x ∷ []) line

unfoldable pub puts : List Content → List Content → List Content
puts line [] = line
puts line (x ∷ xs) = puts (put line x) xs

pub put_both : (P : List Content → Type 0) (line : List Content) (x : Content) → P (line ++ x ∷ []) → P line → P (put line x)
unfolding put
put_both P line x taken lost = cond_both (ltb (length line) 16) (line ++ x ∷ []) line P (λ _. taken) (λ _. lost)

-- what is put keeps a property of each frame
pub all_puts : (P : Content → Type 0) (xs ys : List Content) → AllByRecursion P xs → AllByRecursion P ys → AllByRecursion P (puts xs ys)
unfolding puts
all_puts P xs [] a b = a
all_puts P xs (y ∷ ys) a b = all_puts P (put xs y) ys (put_both (AllByRecursion P) xs y (All-push P xs y a b.0) a) b.1

-- A frame that passes the test has a place d below `top`, and `low ≤ d + w`, where `low` is above each place that came
-- before it.
pub data Line (test : Content → Bool) (Fits : ℕ → Content → Type 0) (w top : ℕ) : ℕ → List Content → Type 0 where
  none : {low : ℕ} → Line test Fits w top low []
  skip : {low : ℕ} {x : Content} {xs : List Content} → test x ≡ false → Line test Fits w top low xs → Line test Fits w top low (x ∷ xs)
  more : {low : ℕ} {x : Content} {xs : List Content} (d : ℕ) → d < top → low ≤ d + w → Fits d x → Line test Fits w top (max low (suc d)) xs → Line test Fits w top low (x ∷ xs)

-- the oldest frame of a line, if it passes the test
pub record Head (test : Content → Bool) (Fits : ℕ → Content → Type 0) (w top low : ℕ) (x : Content) (xs : List Content) : Type 0 where
  pub d : ℕ
  pub below : d < top
  pub near : low ≤ d + w
  pub fits : Fits d x
  pub later : Line test Fits w top (max low (suc d)) xs

module _ {test : Content → Bool} where
  pub line_lower : {Fits : ℕ → Content → Type 0} {w top low low' : ℕ} {xs : List Content} → low' ≤ low → Line test Fits w top low xs → Line test Fits w top low' xs
  line_lower h none = none
  line_lower h (skip t l) = skip t (line_lower h l)
  line_lower h (more d below near fits l) = more d below (omega arith) fits (line_lower (omega arith) l)

  pub line_map : {Fits Fits' : ℕ → Content → Type 0} {w top top' low : ℕ} {xs : List Content} → ((d : ℕ) (x : Content) → d < top → Fits d x → Fits' d x) → top ≤ top' → Line test Fits w top low xs → Line test Fits' w top' low xs
  line_map f h none = none
  line_map f h (skip t l) = skip t (line_map f h l)
  line_map f h (more {x = x} d below near fits l) = more d (omega arith) near (f d x below fits) (line_map f h l)

  pub line_rest : {Fits : ℕ → Content → Type 0} {w top low : ℕ} {x : Content} {xs : List Content} → Line test Fits w top low (x ∷ xs) → Line test Fits w top low xs
  line_rest (skip t l) = l
  line_rest (more d below near fits l) = line_lower (omega arith) l

  pub line_head : {Fits : ℕ → Content → Type 0} {w top low : ℕ} {x : Content} {xs : List Content} → test x ≡ true → Line test Fits w top low (x ∷ xs) → Head test Fits w top low x xs
  line_head e (skip t l) = absurd (false≢true (sym t ∙ e))
  line_head e (more d below near fits l) = record { d = d; below = below; near = near; fits = fits; later = l }

  line_last : {Fits : ℕ → Content → Type 0} {w top low : ℕ} {xs : List Content} (x : Content) (d : ℕ) → d < top → low ≤ top → top ≤ d + w → Fits d x → Line test Fits w top low xs → Line test Fits w top low (xs ++ x ∷ [])
  line_last x d below lows near fits none = more d below (omega arith) fits none
  line_last x d below lows near fits (skip t l) = skip t (line_last x d below lows near fits l)
  line_last x d below lows near fits (more e b n f l) = more e b n f (line_last x d below (omega arith) near fits l)

  line_last_skip : {Fits : ℕ → Content → Type 0} {w top low : ℕ} {xs : List Content} (x : Content) → test x ≡ false → Line test Fits w top low xs → Line test Fits w top low (xs ++ x ∷ [])
  line_last_skip x e none = skip e none
  line_last_skip x e (skip t l) = skip t (line_last_skip x e l)
  line_last_skip x e (more d b n f l) = more d b n f (line_last_skip x e l)

  pub line_put : {Fits : ℕ → Content → Type 0} {w top low : ℕ} {xs : List Content} (x : Content) (d : ℕ) → d < top → low ≤ top → top ≤ d + w → Fits d x → Line test Fits w top low xs → Line test Fits w top low (put xs x)
  line_put {Fits} {w} {top} {low} {xs} x d below lows near fits l = put_both (Line test Fits w top low) xs x (line_last x d below lows near fits l) l

  pub line_puts_skip : {Fits : ℕ → Content → Type 0} {w top low : ℕ} (ys : List Content) {xs : List Content} → AllByRecursion (λ y. test y ≡ false) ys → Line test Fits w top low xs → Line test Fits w top low (puts xs ys)
  unfolding puts
  line_puts_skip [] a l = l
  line_puts_skip {Fits} {w} {top} {low} (y ∷ ys) {xs} a l = line_puts_skip ys a.1 (put_both (Line test Fits w top low) xs y (line_last_skip y a.0 l) l)
