-- Each line of the table stands at its place: lines that follow one another without a gap, by one computed test.
use mathlib.Core.Bool.{Bool, true, ◌&&◌}
use mathlib.Core.List.{List, [], ◌∷◌, ◌++◌, append_assoc}
use mathlib.Core.Path.{◌≡◌, refl, sym, ap, subst, ◌∙◌}
use Prim.Native.Nat.{ℕ, ◌+◌}
use native.Mathlib.Omega.{arith}
use lib.Dec.{T, eqb, eqb→eq}
use lib.ListN.{length, length-append}
use lib.Seq.{take_all, take_at, drop_at}
use Rattle.part.specs.declared.Geometry.{Geometry}
use Rattle.part.proofs.Choice.{and_l, and_r}
use Rattle.crc.specs.Crc.{crc_of, all_fed, byte_fed, bit_fed}
use Rattle.texts.specs.Text.{bytes as characters}
use Rattle.sheet.specs.Numbers.{low_first, stretch}
use Rattle.sheet.specs.Sheet.{Line, bytes_in, sheet, laid, sheet_of}
use Rattle.sheet.specs.Page.{page_of}
use Rattle.sheet.specs.Promises.{Placed, PagesRight}
use Rattle.sheet.specs.Cases.{KnownPages}
use Rattle.sheet.proofs.Writing.{low_length}
use Rattle.sheet.proofs.Pages.{sheet_length, page_length}

-- lines follow one another from a place on, each with as many bytes as it says
unfoldable follows : ℕ → List Line → Bool
follows a [] = true
follows a (l ∷ ls) = eqb l.place a && (eqb (length (bytes_in l.size l.content)) l.size && follows (a + l.size) ls)

sheet_follows : (g : Geometry) → T (follows 0 (sheet g))
unfolding follows sheet bytes_in low_first characters
sheet_follows g = tt

-- such lines stand at their places, whatever is before and behind them
placed : (a : ℕ) (before : List ℕ) (ls : List Line) (behind : List ℕ) → length before ≡ a → T (follows a ls) → Placed (before ++ (laid ls ++ behind)) ls
unfolding follows laid
placed a before [] behind e t = tt
placed a before (l ∷ ls) behind e t =
    let b = bytes_in l.size l.content in
    let p : l.place ≡ a = eqb→eq _ _ (and_l (eqb l.place a) _ t) in
    let u = and_r (eqb l.place a) _ t in
    let s : length (bytes_in l.size l.content) ≡ l.size = eqb→eq _ _ (and_l (eqb (length b) l.size) _ u) in (
      rw (p, drop_at before (b ++ laid ls ++ behind) a e, append_assoc b (laid ls) behind, take_at b (laid ls ++ behind) l.size s),
      subst
          (λ (x : List ℕ). Placed x ls)
          (append_assoc before b (laid ls ++ behind) ∙ ap (λ (x : List ℕ). before ++ x) (sym (append_assoc b (laid ls) behind)))
          (placed (a + l.size) (before ++ b) ls behind (rw (length-append, e, s)) (and_r (eqb (length b) l.size) _ u)),
    )

module _ (g : Geometry) where
  table_first : stretch 0 254 (page_of g) ≡ sheet_of g
  unfolding page_of
  table_first = take_at (sheet_of g) (low_first 2 (crc_of (sheet_of g))) 254 (sheet_length g)

  check_last : stretch 254 2 (page_of g) ≡ low_first 2 (crc_of (sheet_of g))
  unfolding page_of
  check_last =
      let c = low_first 2 (crc_of (sheet_of g)) in
      rw (drop_at (sheet_of g) c 254 (sheet_length g)) (take_all 2 c (omega (arith, low_length 2 (crc_of (sheet_of g)))))

  lines_placed : Placed (page_of g) (sheet g)
  unfolding page_of
  lines_placed = placed 0 [] (sheet g) (low_first 2 (crc_of (sheet_of g))) refl (sheet_follows g)

pub pages_right : PagesRight
pages_right g = record { long = page_length g; lines = lines_placed g; check = check_last g ∙ ap (λ (s : List ℕ). low_first 2 (crc_of s)) (sym (table_first g)) }

pub known_pages : KnownPages
unfolding page_of laid sheet bytes_in low_first characters all_fed byte_fed bit_fed
known_pages = (refl, refl)
