-- The lines as they are laid into lent memory: stretch behind stretch from the front.
use mathlib.Core.Bool.{Bool, true, false, cond}
use mathlib.Core.List.{List, [], ◌∷◌, ◌++◌, append_assoc}
use Rattle.std.specs.Prelude.{Option, Some, None}
use mathlib.Core.Path.{◌≡◌, refl, sym, ap, ◌∙◌}
use Prim.Native.Nat.{ℕ, ◌+◌, ◌-◌, ◌≤◌, ◌<◌}
use native.Mathlib.Omega.{arith}
use lib.Dec.{ltb, lit≤}
use lib.ListN.{length, take, drop, length-append, length-drop}
use lib.Seq.{take_at, drop_at, drop-drop, length-take-le}
use borrow.Author.Tests.{lt-ltb, le-ltb, ltb-false}
use Rattle.buslog.specs.declared.Record.{Record}
use Rattle.lines.specs.Lines.{space, newline, digits, places, decimal, decimal_then, hex, fields_of, line_of, word, end_of, Laid, laid, laid_of}
use Rattle.lines.proofs.Texts.{length_digits}

-- ---- how long the texts are

-- a number has at most five digits
either : (b : Bool) (x y : ℕ) → x ≤ 5 → y ≤ 5 → cond b x y ≤ 5
either true x y p q = p
either false x y p q = q

pub places_most : (n : ℕ) → places n ≤ 5
unfolding places
places_most n =
    either (ltb n 10) 1 _ (lit≤ tt) (either (ltb n 100) 2 _ (lit≤ tt) (either (ltb n 1000) 3 _ (lit≤ tt) (either (ltb n 10000) 4 5 (lit≤ tt) (lit≤ tt))))

pub length_decimal_then : (n last : ℕ) → length (decimal_then n last) ≡ places n + 1
unfolding decimal
length_decimal_then n last = rw (length-append (digits (places n) n) (last ∷ []), length_digits (places n) n)

pub length_fields : (e : Record) (o : Option ℕ) (status : ℕ) → length (fields_of e o status) ≡ 8
unfolding fields_of hex
length_fields e None status = refl
length_fields e (Some d) status = refl

pub length_line : (number : ℕ) (e : Record) (o : Option ℕ) (status : ℕ) → length (line_of number e o status) ≡ places number + 1 + 8
unfolding line_of
length_line number e o status = rw (length-append (decimal_then number space) (fields_of e o status), length_decimal_then number space, length_fields e o status)

pub length_end : (refusal records : ℕ) → length (end_of refusal records) ≡ 4 + places refusal + 1 + places records + 1
unfolding end_of
length_end refusal records =
    rw (length-append (word ++ decimal_then refusal space) (decimal_then records newline), length-append word (decimal_then refusal space), length_decimal_then refusal space, length_decimal_then records newline) (omega arith)

-- ---- stretches

-- a stretch behind what is laid already
lay : (a b l m : List ℕ) (k n : ℕ) → k ≡ length a → n ≡ length (a ++ b) → m ≡ a ++ drop k l → take k m ++ (b ++ drop (n - k) (drop k m)) ≡ (a ++ b) ++ drop n l
lay a b l m k n p q e =
    let s : length (a ++ b) ≡ length a + length b = length-append a b in
    let t : k + (n - k) ≡ n = omega arith in
    rw (e, take_at a (drop k l) k (sym p), drop_at a (drop k l) k (sym p), drop-drop (n - k) k l, t) (sym (append_assoc a b (drop n l)))

-- the memory keeps its length
laid_long : (a l m : List ℕ) (k : ℕ) → length a ≡ k → k ≤ length l → m ≡ a ++ drop k l → length m ≡ length l
laid_long a l m k p h e = rw (e, length-append a (drop k l), length-drop k l) (omega arith)

-- a number stored in a stretch of just its length
stored : (l x : List ℕ) (j k n last : ℕ) → k ≡ j + places n + 1 → k ≤ length l → x ≡ digits (length (take (k - j) (drop j l)) - 1) n ++ (last ∷ []) → x ≡ decimal_then n last
unfolding decimal
stored l x j k n last p h e =
    let s : length (drop j l) ≡ length l - j = length-drop j l in
    let t : length (take (k - j) (drop j l)) ≡ k - j = length-take-le (k - j) (drop j l) (omega arith) in
    let u : k - j - 1 ≡ places n = omega arith in
    rw (t, u) at e

-- a text that has room, and one that has None
fits : (text l : List ℕ) (n : ℕ) → length text ≡ n → n ≤ length l → laid (Some n) (text ++ drop n l) ≡ laid_of text l
unfolding laid_of
fits text l n p h = rw (p, le-ltb (length l) n h)

pub short : (text l : List ℕ) (n : ℕ) → length text ≡ n → length l < n → laid None l ≡ laid_of text l
unfolding laid_of
short text l n p h = rw (p, lt-ltb (length l) n h)

-- ---- the two lines

module _ (l x y : List ℕ) (p number : ℕ) (e : Record) (o : Option ℕ) (status : ℕ) where
  -- what lent memory holds after the number
  abbrev numbered : List ℕ
  numbered = take 0 l ++ (x ++ drop (p + 1 - 0) (drop 0 l))

  pub line_laid : p ≡ places number → p + 1 + 8 ≤ length l → x ≡ digits (length (take (p + 1 - 0) (drop 0 l)) - 1) number ++ (space ∷ []) → y ≡ fields_of e o status
      → laid (Some (p + 1 + 8)) (take (p + 1) numbered ++ (y ++ drop (p + 1 + 8 - (p + 1)) (drop (p + 1) numbered))) ≡ laid_of (line_of number e o status) l
  unfolding line_of
  line_laid q h a b =
      let a' : x ≡ decimal_then number space = stored l x 0 (p + 1) number space (omega arith) (omega arith) a in
      let long : length (line_of number e o status) ≡ p + 1 + 8 = length_line number e o status ∙ rw q in
      let m : numbered ≡ decimal_then number space ++ drop (p + 1) l = rw a' (lay [] (decimal_then number space) l l 0 (p + 1) refl (omega (arith, length_decimal_then number space)) refl) in
      rw b (ap (laid (Some (p + 1 + 8))) (lay (decimal_then number space) (fields_of e o status) l numbered (p + 1) (p + 1 + 8) (omega (arith, length_decimal_then number space)) (sym long) m)
      ∙ fits (line_of number e o status) l (p + 1 + 8) long h)

module _ (l w x y : List ℕ) (p q refusal records : ℕ) where
  -- what lent memory holds after the word, and after the refusal's number
  abbrev worded : List ℕ
  worded = take 0 l ++ (w ++ drop 4 (drop 0 l))

  abbrev refused : List ℕ
  refused = take 4 worded ++ (x ++ drop (4 + p + 1 - 4) (drop 4 worded))

  pub end_laid : p ≡ places refusal → q ≡ places records → 4 + p + 1 + q + 1 ≤ length l → w ≡ word
      → x ≡ digits (length (take (4 + p + 1 - 4) (drop 4 worded)) - 1) refusal ++ (space ∷ [])
      → y ≡ digits (length (take (4 + p + 1 + q + 1 - (4 + p + 1)) (drop (4 + p + 1) refused)) - 1) records ++ (newline ∷ [])
      → laid (Some (4 + p + 1 + q + 1)) (take (4 + p + 1) refused ++ (y ++ drop (4 + p + 1 + q + 1 - (4 + p + 1)) (drop (4 + p + 1) refused))) ≡ laid_of (end_of refusal records) l
  unfolding end_of
  end_laid r s h z a b =
      let front : List ℕ = word ++ decimal_then refusal space in
      let w' : worded ≡ word ++ drop 4 l = rw z in
      let w-long : length worded ≡ length l = laid_long word l worded 4 refl (omega arith) w' in
      let a' : x ≡ decimal_then refusal space = stored worded x 4 (4 + p + 1) refusal space (omega arith) (omega arith) a in
      let k-long : length (word ++ decimal_then refusal space) ≡ 4 + p + 1 = rw (length-append word (decimal_then refusal space), length_decimal_then refusal space) (omega arith) in
      let m : refused ≡ (word ++ decimal_then refusal space) ++ drop (4 + p + 1) l = rw a' (lay word (decimal_then refusal space) l worded 4 (4 + p + 1) refl (sym k-long) w') in
      let m-long : length refused ≡ length l = laid_long front l refused (4 + p + 1) k-long (omega arith) m in
      let b' : y ≡ decimal_then records newline = stored refused y (4 + p + 1) (4 + p + 1 + q + 1) records newline (omega arith) (omega arith) b in
      let long : length (end_of refusal records) ≡ 4 + p + 1 + q + 1 = length_end refusal records ∙ rw (r, s) in
      rw b' (ap (laid (Some (4 + p + 1 + q + 1))) (lay front (decimal_then records newline) l refused (4 + p + 1) (4 + p + 1 + q + 1) (sym k-long) (sym long) m)
      ∙ fits (end_of refusal records) l (4 + p + 1 + q + 1) long h)

-- the length that is answered lies within the memory
pub laid_within : (text l m : List ℕ) (n : ℕ) → laid (Some n) m ≡ laid_of text l → n ≤ length l
unfolding laid_of
laid_within text l m n e = go (ltb (length l) (length text)) refl e
  where
    go : (b : Bool) → ltb (length l) (length text) ≡ b → laid (Some n) m ≡ cond b (laid None l) (laid (Some (length text)) (text ++ drop (length text) l)) → n ≤ length l
    go true t p = absurd (let q : ◌≡◌ {A = Option ℕ} (Some n) None = ap (λ (w : Laid). w.count) p in let z : ◌≡◌ {A = ℕ} 0 1 = cc in omega arith)
    go false t p =
        let q : ◌≡◌ {A = Option ℕ} (Some n) (Some (length text)) = ap (λ (w : Laid). w.count) p in
        let e : n ≡ length text = cc in
        omega (arith, e, ltb-false (length l) (length text) t)
