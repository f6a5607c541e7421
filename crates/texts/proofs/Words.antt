-- The table of texts: what is asked of all its words is one test, computed once, and so each number finds its own words in it.
use mathlib.Core.Bool.{Bool, true, false, not, ◌&&◌}
use mathlib.Core.List.{List, [], ◌∷◌, ◌++◌}
use mathlib.Core.Path.{◌≡◌, refl, ap, ◌∙◌}
use Prim.Native.Nat.{ℕ}
use Prim.Native.String.{String}
use lib.Dec.{T, eqb, ltb}
use lib.ListN.{length}
use borrow.Author.Tests.{ltb-true, not-true}
use Rattle.part.proofs.Choice.{cond_no, cond_keep, cond_two, T_true, and_l, and_r}
use Rattle.texts.specs.Promises.{TextFits}
use Rattle.texts.specs.Text.{Meaning, meanings, unmeant, words_among, bytes, text_of, up_to_nul, behind_number}

-- ---- what is asked of all words: no NUL among them, and room in 48 bytes

unfoldable plain : List ℕ → Bool
plain [] = true
plain (b ∷ bs) = not (eqb b 0) && plain bs

unfoldable right : String → Bool
right s = plain (bytes s) && ltb (length (bytes s)) 48

unfoldable every : List Meaning → Bool
every [] = right unmeant
every (m ∷ ms) = right m.words && every ms

all_right : T (every meanings)
unfolding meanings every right plain bytes
all_right = tt

-- each number has words that are right
right_among : (ms : List Meaning) (n : ℕ) → T (every ms) → T (right (words_among ms n))
unfolding every words_among
right_among [] n t = t
right_among (m ∷ ms) n t = cond_keep (λ (s : String). T (right s)) (eqb n m.number) (λ e. and_l (right m.words) (every ms) t) (λ e. right_among ms n (and_r (right m.words) (every ms) t))

pub text_fits : TextFits
unfolding right
text_fits n = let s = words_among meanings n in ltb-true (length (bytes s)) 48 (T_true _ (and_r (plain (bytes s)) _ (right_among meanings n all_right)))

-- ---- the table

-- the rows: a number, its words and a NUL
unfoldable pub rows_of : List Meaning → List ℕ
rows_of [] = []
rows_of (m ∷ ms) = m.number ∷ (bytes m.words ++ (0 ∷ rows_of ms))

-- the words for a number that has none, and the rows
unfoldable pub table : List ℕ
table = bytes unmeant ++ (0 ∷ rows_of meanings)

not_zero : (b : ℕ) (w : List ℕ) → T (plain (b ∷ w)) → eqb b 0 ≡ false
unfolding plain
not_zero b w t = not-true (eqb b 0) (T_true _ (and_l (not (eqb b 0)) (plain w) t))

-- plain words end at their NUL
up_to : (w rest : List ℕ) → T (plain w) → up_to_nul (w ++ (0 ∷ rest)) ≡ w
unfolding plain up_to_nul
up_to [] rest t = refl
up_to (b ∷ w) rest t = cond_no (eqb b 0) _ _ (not_zero b w t) ∙ ap (λ (bs : List ℕ). b ∷ bs) (up_to w rest (and_r (not (eqb b 0)) (plain w) t))

-- and are passed over
past : (w rest : List ℕ) (n : ℕ) (other : List ℕ) → T (plain w) → behind_number true n other (w ++ (0 ∷ rest)) ≡ behind_number false n other rest
unfolding plain behind_number
past [] rest n other t = refl
past (b ∷ w) rest n other t = rw (not_zero b w t) (past w rest n other (and_r (not (eqb b 0)) (plain w) t))

found : (ms : List Meaning) (n : ℕ) (other : List ℕ) → T (every ms) → up_to_nul other ≡ bytes unmeant → up_to_nul (behind_number false n other (rows_of ms)) ≡ bytes (words_among ms n)
unfolding every right behind_number rows_of words_among
found [] n other t h = h
found (m ∷ ms) n other t h =
    let p : T (plain (bytes m.words)) = and_l (plain (bytes m.words)) (ltb (length (bytes m.words)) 48) (and_l (right m.words) (every ms) t) in
    cond_two (λ (row : List ℕ) (s : String). up_to_nul row ≡ bytes s) (eqb n m.number)
    (λ e. up_to (bytes m.words) (rows_of ms) p)
    (λ e. ap up_to_nul (past (bytes m.words) (rows_of ms) n other p) ∙ found ms n other (and_r (right m.words) (every ms) t) h)

-- each number finds its words in the table
pub said : (n : ℕ) → up_to_nul (behind_number true n table table) ≡ text_of n
unfolding table bytes plain
said n = ap up_to_nul (past (bytes unmeant) (rows_of meanings) n table tt) ∙ found meanings n table all_right (up_to (bytes unmeant) (rows_of meanings) tt)
