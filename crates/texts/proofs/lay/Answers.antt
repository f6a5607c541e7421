-- The words are copied up to their NUL.
use native.Mathlib.Omega.{arith}
use lib.ListN.{length, length-take}
use Prim.Native.Nat.{◌<◌}
use Rattle.texts.specs.Text.{up_to_nul}
use Rattle.texts.proofs.Laying.{too_short, laid_whole}
use Rattle.texts.proofs.Scans.{words_short, words_first}
use Rattle.texts.proofs.lay.Goals as goal

pub returns-then-out-n : goal.returns-then-out-n
returns-then-out-n c = too_short _ _ (omega (arith, c.nul_at-n.ensures))

pub slice_bounds-copy-end : goal.slice_bounds-copy-end
slice_bounds-copy-end c = rw length-take (omega (arith, c.nul_at-n.ensures, words_short c.args.row.now))

pub slice_bounds-copy-end-3 : goal.slice_bounds-copy-end-3
slice_bounds-copy-end-3 c = rw length-take (omega (arith, c.nul_at-n.ensures, words_short c.args.row.now))

pub copy-requires : goal.copy-requires
copy-requires c = rw (length-take, length-take) (omega (arith, c.nul_at-n.ensures, words_short c.args.row.now))

pub returns : goal.returns
returns c =
    let t = up_to_nul c.args.row.now in
    let h : length (up_to_nul c.args.row.now) < length c.args.out.now = omega (arith, c.nul_at-n.ensures) in
    rw (c.copy.ensures, c.nul_at-n.ensures, words_first c.args.row.now) (laid_whole t c.args.out.now h)
