-- The bytes of the code are those of the table: one test, computed.
use Rattle.texts.specs.Text.{bytes as characters}
use Rattle.sheet.specs.Numbers.{low_first}
use Rattle.sheet.specs.Sheet.{bytes_in, sheet, laid, unnumbered}
use Rattle.sheet.proofs.lay_table.Goals as goal

pub returns : goal.returns
unfolding unnumbered laid sheet bytes_in low_first characters
returns c = c.copy.ensures
