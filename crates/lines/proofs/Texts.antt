-- Bytes stored in a stretch: digits from the last to the first, and a text from the front.
use mathlib.Core.List.{List, [], ◌∷◌, ◌++◌, append_assoc}
use mathlib.Core.Path.{◌≡◌, refl, sym}
use Prim.Native.Nat.{ℕ, zero, suc, ◌-◌, ◌/◌, ◌%◌, ◌<◌}
use native.Mathlib.Omega.{arith}
use lib.ListN.{length, drop, set, length-set, length-append, drop_of_length-le}
use lib.Seq.{drop-cons, drop-set-lt, get_or-set_same}
use Rattle.lines.specs.Lines.{digit, digits}

-- what stands from a stored place on
pub drop_set : (l : List ℕ) (i v : ℕ) → i < length l → drop i (set l i v) ≡ v ∷ drop (suc i) l
drop_set l i v h =
    let h' : i < length (set l i v) = simp length-set h in
    rw (drop-cons (set l i v) i 0 h', get_or-set_same l i v 0 h, drop-set-lt (suc i) l i v (omega arith))

-- the last place stored
pub drop_last : (l : List ℕ) (v : ℕ) → 0 < length l → drop (length l - 1) (set l (length l - 1) v) ≡ v ∷ []
drop_last l v h = rw (drop_set l (length l - 1) v (omega arith), drop_of_length-le l {i = suc (length l - 1)} (omega arith))

-- one digit more, in front of those that stand already
pub digits_more : (i n v : ℕ) (l : List ℕ) → 0 < i → i < length l → v ≡ digit (n % 10) → digits (i - 1) (n / 10) ++ drop (i - 1) (set l (i - 1) v) ≡ digits i n ++ drop i l
unfolding digits
digits_more zero n v l h k e = absurd (omega arith)
digits_more (suc i) n v l h k e =
    let p : suc i - 1 ≡ i = omega arith in
    rw (p, drop_set l i v (omega arith), e) (sym (append_assoc (digits i (n / 10)) (digit (n % 10) ∷ []) (drop (suc i) l)))

-- k digits are k
pub length_digits : (k n : ℕ) → length (digits k n) ≡ k
unfolding digits
length_digits zero n = refl
length_digits (suc k) n = rw (length-append (digits k (n / 10)) (digit (n % 10) ∷ []), length_digits k (n / 10)) (omega arith)
