-- `turn_sector`: its two stretches, one after the other.
use Rattle.ecc.specs.Ecc.{sector_turned, data_at, data_long, spare_at, spare_long}
use Rattle.ecc.proofs.Within.{long}
use Rattle.ecc.proofs.turn_sector.Goals as goal

pub returns : goal.returns
unfolding sector_turned
returns c =
    let a = c.args in
    rw (
      c.turn_back-2.ensures,
      c.turn_back.ensures,
      c.sector_at-s.ensures,
      long (data_at a.g a.j) (data_long a.g),
      long (spare_at a.g a.j) (spare_long a.g),
    )
