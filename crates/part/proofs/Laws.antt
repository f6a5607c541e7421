-- Laws of the part: the soundness test says what the record says, both named parts are sound, how many blocks can be picked, and which
-- block a row can have.
use mathlib.Core.Bool.{Bool, ◌&&◌}
use Prim.Native.Nat.{ℕ, zero, suc, ◌-◌, ◌*◌, ◌^◌, ◌≤◌, ◌<◌}
use native.Mathlib.Nat.{zero-mul, mul_comm, div-le_self, div-lt_iff_lt-mul}
use native.Mathlib.Omega.{arith}
use lib.Dec.{T, leb, eqb, leb→le}
use borrow.Author.Tests.{le-leb}
use Rattle.part.specs.Part.{page, rows, Sound, sound_part, block, bench, fm25s005bi3}
use Rattle.part.specs.Promises.{SoundPartExactly, NamedPartsSound}
use Rattle.part.specs.Protection.{guarded}
use Rattle.part.specs.declared.Geometry.{Geometry}
use Rattle.part.specs.declared.Row.{Row}
use Rattle.part.proofs.Choice.{cond_keep, and_l, and_r}

-- no more blocks are protected than there are
pub guarded_few : (g : Geometry) (b : ℕ) → guarded g b ≤ g.blocks
guarded_few g b = cond_keep (λ (q : ℕ). q ≤ g.blocks) (eqb b 0) (λ e. omega arith) (λ e. div-le_self g.blocks (2 ^ (7 - b)))

-- a part with a row has pages
some_pages : (k n r : ℕ) → r < k * n → 1 ≤ k
some_pages zero n r h = absurd (omega (arith, zero-mul n, h))
some_pages (suc k) n r h = omega arith

-- the block of a row of the array is one of the blocks
pub block_below : (g : Geometry) (r : Row) → r.0 < rows g → block g r < g.blocks
block_below g r h = (div-lt_iff_lt-mul (some_pages g.pages g.blocks r.0 h)).1 (rw (mul_comm g.blocks g.pages) h)

-- six tests hold together exactly when each does
six : (a b c d e f : Bool) → T (a && b && c && d && e && f) → T a × T b × T c × T d × T e × T f
six a b c d e f t =
    let t₅ = and_l (a && b && c && d && e) f t in
    let t₄ = and_l (a && b && c && d) e t₅ in
    let t₃ = and_l (a && b && c) d t₄ in
    let t₂ = and_l (a && b) c t₃ in
    (and_l a b t₂, and_r a b t₂, and_r (a && b) c t₃, and_r (a && b && c) d t₄, and_r (a && b && c && d) e t₅, and_r (a && b && c && d && e) f t)

pub sound_exactly : SoundPartExactly
unfolding sound_part
sound_exactly g = (in_words, as_test)
  where
    in_words : T (sound_part g) → Sound g
    in_words t =
        let h = six (leb 1 g.main) (leb (page g) 4096) (leb 1 g.pages) (leb g.pages 256) (leb 1 g.blocks) (leb (rows g) 65536) t in
        record {
          some_bytes = leb→le 1 g.main h.0;
          small_page = leb→le (page g) 4096 h.1;
          some_pages = leb→le 1 g.pages h.2;
          few_pages = leb→le g.pages 256 h.3;
          some_blocks = leb→le 1 g.blocks h.4;
          few_rows = leb→le (rows g) 65536 h.5;
        }

    as_test : Sound g → T (sound_part g)
    as_test s =
        rw (
          le-leb 1 g.main s.some_bytes,
          le-leb (page g) 4096 s.small_page,
          le-leb 1 g.pages s.some_pages,
          le-leb g.pages 256 s.few_pages,
          le-leb 1 g.blocks s.some_blocks,
          le-leb (rows g) 65536 s.few_rows,
        )
        tt

pub named_parts_sound : NamedPartsSound
unfolding sound_part
named_parts_sound = ((sound_exactly fm25s005bi3).0 tt, (sound_exactly bench).0 tt)
