-- The part's four numbers stand in the places that the table has for them.
use mathlib.Core.Path.{◌∙◌}
use Rattle.texts.specs.Text.{bytes as characters}
use Rattle.sheet.specs.Numbers.{low_first}
use Rattle.sheet.specs.Sheet.{bytes_in, sheet, laid, unnumbered}
use Rattle.sheet.proofs.Writing.{low_four}
use Rattle.sheet.proofs.lay_sheet.Goals as goal

pub returns : goal.returns
unfolding unnumbered laid sheet bytes_in low_first characters
returns c =
    rw (c.copy_from_slice-4.ensures.after, c.copy_from_slice-3.ensures.after, c.copy_from_slice-2.ensures.after, c.copy_from_slice.ensures.after)
    (rw (c.to_le_bytes-3.ensures ∙ low_four c.args.g.blocks, c.to_le_bytes-2.ensures ∙ low_four c.args.g.pages)
    (rw (c.to_le_bytes.ensures ∙ low_four c.args.g.main, c.to_le_bytes-spare.ensures ∙ low_four c.args.g.spare, c.lay_table.ensures)))
