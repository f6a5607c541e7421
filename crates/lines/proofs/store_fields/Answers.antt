-- The fields, one behind another, are what is copied.
use mathlib.Core.Path.{◌∙◌}
use Rattle.lines.specs.Lines.{fields_of}
use Rattle.lines.proofs.store_fields.Goals as goal

pub returns : goal.returns
unfolding fields_of
returns c = c.copy_from_slice.ensures.after ∙ rw (← c.do_pair-t.ensures, ← c.hex_pair-s.ensures, c.letter.ensures)
