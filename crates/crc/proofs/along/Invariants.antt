-- The bytes, two by two. The loop's invariant: what is left, fed to the check so far, gives the check of all.
use mathlib.Core.Path.{◌≡◌}
use Prim.Native.Nat.{◌*◌}
use lib.ListN.{drop}
use Rattle.crc.specs.Crc.{all_fed, crc_of}
use Rattle.crc.proofs.along.Given as goal

abbrev pub invariant-loop-pair : goal.invariant-loop-pair
invariant-loop-pair l = all_fed l.c (drop (2 * l.pair-index) l.bytes) ≡ crc_of l.bytes
