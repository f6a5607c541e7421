-- The answers of the maker and of the reader in numbers.
use Rattle.std.specs.Prelude.{List, ℕ}
use Rattle.sheet.specs.Page.{MadeEnd, made_number}
use Rattle.copies.specs.Copies.{Figures}
use Rattle.page_face.specs.declared.CSizes.{CSizes}

-- the number of refusal, and what the lent memory then holds
pub record CMade : Type 0 where
  pub refusal : ℕ
  pub memory : List ℕ

-- the two together
abbrev pub face_made : ℕ → List ℕ → CMade
face_made refusal memory = record { refusal = refusal; memory = memory }

-- what the maker answers, its refusal by number
abbrev pub numbered : MadeEnd → CMade
numbered e = face_made (made_number e.made) e.memory

-- what the reader answers
abbrev pub face_sizes : Figures → CSizes
face_sizes t = record { main = t.sizes.main; pages = t.sizes.pages; blocks = t.sizes.blocks; spare = t.sizes.spare; copy = t.copy; refusal = t.refusal }
