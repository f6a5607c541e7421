-- A whole transfer, put right.
use Rattle.sleetanvil.proofs.Refused.{as_exchanged}
use Rattle.sleetanvil.proofs.sleet_transfer.Goals as goal

pub returns : goal.returns
returns c = rw c.answer_of.ensures (as_exchanged _ _ _ _ _ _ _ c.state_of-x.ensures c.part_of-g.ensures c.stand_in.ensures c.transfer-a.ensures)
