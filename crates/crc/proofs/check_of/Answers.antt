-- The check goes by a right table: the test of its 256 entries is computed here.
use mathlib.Core.Path.{refl}
use Rattle.crc.specs.Crc.{bit_fed, byte_fed}
use Rattle.crc.proofs.Rule.{every, right, right_table}
use Rattle.crc.proofs.check_of.Goals as goal

pub along-requires : goal.along-requires
unfolding every right byte_fed bit_fed
along-requires c = right_table _ tt refl
