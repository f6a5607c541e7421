-- What each number of refusal means, in a few English words, and how they are put into lent memory.
use Rattle.std.specs.Prelude.{Bool, not, ◌&&◌, List, [], ◌∷◌, ◌++◌, ℕ, ◌+◌, eqb, leb, length, drop, if◌then◌else◌}
use Prim.Native.Char.{code}
use Prim.Native.String.{String, [] as []ˢ, ◌∷◌ as ◌∷ˢ◌}

-- ---- the words

-- a number and its words
pub record Meaning : Type 0 where
  pub number : ℕ
  pub words : String

-- the two together, as a line of the table is written
infix 70 ◌means◌
abbrev pub ◌means◌ : ℕ → String → Meaning
n means s = record { number = n; words = s }

-- document 01's lines, in their order, and then those of document 02: of parameter pages (item 1), of a card (item 5),
-- of a keeper (item 9)
unfoldable pub meanings : List Meaning
meanings =
    0 means "done"
    ∷ 1 means "the geometry is not sound"
    ∷ 2 means "cells of the wrong length"
    ∷ 3 means "cache register of the wrong length"
    ∷ 4 means "page counts of the wrong length"
    ∷ 5 means "the state is not sound"
    ∷ 6 means "the next kind is not in the table"
    ∷ 7 means "the log ends inside a body"
    ∷ 8 means "a WP# level above 1"
    ∷ 9 means "no output room, or too little for a record"
    ∷ 10 means "no copy of the parameter page holds"
    ∷ 11 means "memory too short for the parameter page"
    ∷ 14 means "a core above 3"
    ∷ 15 means "eight transfers wait in that queue"
    ∷ 16 means "no transfer waits"
    ∷ 17 means "card cells of the wrong length"
    ∷ 18 means "card protect bits of the wrong length"
    ∷ 20 means "the keeper is not sound"
    ∷ []

-- the words for a number that has none
abbrev pub unmeant : String
unmeant = "no such refusal"

-- the words of a number among some
unfoldable pub words_among : List Meaning → ℕ → String
words_among [] n = unmeant
words_among (m ∷ ms) n = if eqb n m.number then m.words else words_among ms n

-- the characters' numbers
unfoldable pub bytes : String → List ℕ
bytes []ˢ = []
bytes (c ∷ˢ s) = code c ∷ bytes s

-- the bytes of a number's words
abbrev pub text_of : ℕ → List ℕ
text_of n = bytes (words_among meanings n)

-- ---- a text in lent memory

-- the length that is answered, and what the lent memory then holds
pub record CLaid : Type 0 where
  pub count : ℕ
  pub out : List ℕ

-- the two together
abbrev pub face_laid : ℕ → List ℕ → CLaid
face_laid count out = record { count = count; out = out }

-- a text at the front with a NUL behind it, the rest as it was; where they do not fit, 0 and not a byte changed
unfoldable pub text_laid : List ℕ → List ℕ → CLaid
text_laid text out =
    if leb (length out) (length text) then face_laid 0 out
    else face_laid (length text) (text ++ (0 ∷ drop (length text + 1) out))

-- ---- how the code looks words up: in one table of bytes. First the words for a number that has none, then row by row a number and its
-- words; a NUL stands behind all words

-- the bytes before the first NUL
unfoldable pub up_to_nul : List ℕ → List ℕ
up_to_nul [] = []
up_to_nul (b ∷ bs) = if eqb b 0 then [] else b ∷ up_to_nul bs

-- what stands behind the number of a row, or else `other`; the first byte is inside words, or else it is a number
unfoldable pub behind_number : Bool → ℕ → List ℕ → List ℕ → List ℕ
behind_number inside n other [] = other
behind_number inside n other (b ∷ bs) = if not inside && eqb n b then bs else behind_number (not (inside && eqb b 0)) n other bs
