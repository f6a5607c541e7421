-- The bytes, two by two. The loop's invariant: what is left, fed to the check so far, gives the check of all.
use mathlib.Core.Path.{◌≡◌, ◌∙◌}
use Prim.Native.Nat.{◌*◌, ◌/◌}
use native.Mathlib.Omega.{arith}
use lib.ListN.{length}
use Rattle.crc.proofs.Linear.{pair_on, one_left, none_left}
use Rattle.crc.proofs.along.Goals as goal

pub loop-pair-preserved : goal.loop-pair-preserved
loop-pair-preserved c =
    let s = c.args.bytes.now in
    let l = c.loop-pair in
    rw (c.two_more-c.ensures, c.as_chunks.ensures.front)
    (pair_on s (length s / 2) l.c l.pair-index (omega arith) (omega arith) ∙ l.invariant)

pub returns-in-Some : goal.returns-in-Some
returns-in-Some c =
    let s = c.args.bytes.now in
    let l = c.loop-pair in
    let e : 2 * l.pair-index ≡ length s / 2 * 2 = omega arith in
    c.one_more.ensures ∙ one_left c.as_chunks.result.1.now l.c c.in-Some.b.now (omega arith) c.in-Some.ensures.value
    ∙ rw (c.as_chunks.ensures.back, ← e) l.invariant

pub returns-in-None : goal.returns-in-None
returns-in-None c =
    let s = c.args.bytes.now in
    let l = c.loop-pair in
    let e : 2 * l.pair-index ≡ length s / 2 * 2 = omega arith in
    none_left c.as_chunks.result.1.now l.c c.in-None.ensures.value ∙ rw (c.as_chunks.ensures.back, ← e) l.invariant
