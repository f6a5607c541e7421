-- The table's bytes, and their check behind them.
use mathlib.Core.Path.{◌∙◌}
use lib.ListN.{drop, length-drop}
use Rattle.sheet.specs.Page.{page_of}
use Rattle.sheet.proofs.Pages.{page-laid}
use Rattle.sheet.proofs.Writing.{low_two}
use Rattle.sheet.proofs.lay_page.Goals as goal

pub returns : goal.returns
unfolding page_of
returns c =
    let p = c.args.page.now in
    rw (c.copy_from_slice.ensures.after, c.to_le_bytes.ensures ∙ low_two c.check_of-check.result, c.check_of-check.ensures, c.lay_sheet.ensures)
    (page-laid c.args.g (drop 254 p) (rw (length-drop, c.requires)))
