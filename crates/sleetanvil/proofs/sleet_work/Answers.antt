-- Work of the model, put right.
use Rattle.sleetanvil.proofs.Refused.{as_worked}
use Rattle.sleetanvil.proofs.sleet_work.Goals as goal

pub returns : goal.returns
returns c = rw c.answer_of.ensures (as_worked _ _ _ _ _ _ c.state_of-x.ensures c.part_of-g.ensures c.stand_in.ensures c.work-a.ensures)
