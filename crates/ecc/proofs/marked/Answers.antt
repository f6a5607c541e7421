-- `marked`: its two stretches, one after the other.
use Rattle.ecc.specs.Ecc.{marked, data_at, data_long, spare_at, spare_long}
use Rattle.ecc.proofs.Within.{long}
use Rattle.ecc.proofs.marked.Goals as goal

pub returns : goal.returns
unfolding marked
returns c =
    let a = c.args in
    rw (
      c.ones_in-main.ensures.0,
      c.ones_in-spare.ensures.0,
      c.sector_at-s.ensures,
      long (data_at a.g a.j) (data_long a.g),
      long (spare_at a.g a.j) (spare_long a.g),
    )
