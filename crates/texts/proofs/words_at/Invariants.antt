-- From each byte on the rows are those that are left.
use mathlib.Core.Bool.{true}
use mathlib.Core.Path.{◌≡◌}
use lib.ListN.{drop}
use Rattle.texts.specs.Text.{behind_number}
use Rattle.texts.proofs.words_at.Given as goal

abbrev pub invariant-loop-i : goal.invariant-loop-i
invariant-loop-i l = behind_number l.inside l.n l.table (drop l.i l.table) ≡ behind_number true l.n l.table l.table
