-- The table of texts and a row of it, scanned byte by byte.
use mathlib.Core.Bool.{Bool, true, false, not, cond, ◌&&◌}
use mathlib.Core.List.{List, [], ◌∷◌}
use mathlib.Core.Path.{◌≡◌, refl, ap}
use native.Mathlib.Numerals.{add-one}
use native.Mathlib.Omega.{arith}
use Prim.Native.Nat.{ℕ, ◌+◌, ◌≤◌, ◌<◌}
use lib.Dec.{eqb, ltb}
use lib.ListN.{length, take, drop, get_or, drop_of_length-le}
use lib.Seq.{drop-cons}
use borrow.Author.Tests.{ltb-false}
use Rattle.std.specs.List.{position, position_or_len}
use Rattle.std.specs.Option.{unwrap_or}
use Rattle.std.proofs.Common.{Some, None}
use Rattle.part.proofs.Choice.{cond_keep}
use Rattle.texts.specs.Text.{up_to_nul, behind_number}

module _ (l other : List ℕ) (n i : ℕ) (inside : Bool) where
  -- the number of a row is found
  pub hit : i < length l → not inside && eqb n (get_or l i 0) ≡ true → drop (i + 1) l ≡ behind_number inside n other (drop i l)
  unfolding behind_number
  hit h e = rw (drop-cons l i 0 h, e, add-one i)

  -- or passed over
  pub missed : i < length l → not inside && eqb n (get_or l i 0) ≡ false → behind_number (not (inside && eqb (get_or l i 0) 0)) n other (drop (i + 1) l) ≡ behind_number inside n other (drop i l)
  unfolding behind_number
  missed h e = rw (drop-cons l i 0 h, e, add-one i)

  -- and behind the last row there is none
  pub none_left : length l ≤ i → other ≡ behind_number inside n other (drop i l)
  unfolding behind_number
  none_left h = rw (drop_of_length-le l h)

-- the words of a row are no longer than the row
pub words_short : (l : List ℕ) → length (up_to_nul l) ≤ length l
unfolding up_to_nul
words_short [] = omega arith
words_short (b ∷ l) = cond_keep (λ (w : List ℕ). length w ≤ length (b ∷ l)) (eqb b 0) (λ e. omega arith) (λ e. omega (arith, words_short l))

-- and they are its front
pub words_first : (l : List ℕ) → take (length (up_to_nul l)) l ≡ up_to_nul l
unfolding up_to_nul
words_first [] = refl
words_first (b ∷ l) = cond_keep (λ (w : List ℕ). take (length w) (b ∷ l) ≡ w) (eqb b 0) (λ e. refl) (λ e. ap (λ (w : List ℕ). b ∷ w) (words_first l))

-- they end at the first NUL
words_end : (l : List ℕ) → length (up_to_nul l) ≡ position_or_len (λ b. eqb b 0) l
unfolding up_to_nul
words_end [] = refl
words_end (b ∷ l) = one (eqb b 0) (words_end l)
  where
    one : (t : Bool) → length (up_to_nul l) ≡ position_or_len (λ b. eqb b 0) l → length (cond t [] (b ∷ up_to_nul l)) ≡ cond (not t) (1 + position_or_len (λ b. eqb b 0) l) 0
    one true e = refl
    one false e = omega (arith, e)

-- or where there is none at the row's
pub nul_found : (l : List ℕ) → unwrap_or (position (λ b. eqb b 0) l) (length l) ≡ length (up_to_nul l)
nul_found l = rw (← words_end l) (go (ltb (length (up_to_nul l)) (length l)) refl)
  where
    go : (t : Bool) → ltb (length (up_to_nul l)) (length l) ≡ t → unwrap_or (cond t (Some (length (up_to_nul l))) None) (length l) ≡ length (up_to_nul l)
    go true e = refl
    go false e = omega (arith, words_short l, ltb-false (length (up_to_nul l)) (length l) e)
