-- The bytes of the table are those of the definition, by computation; and in them each number finds its words.
use mathlib.Core.List.{List}
use mathlib.Core.Path.{ap, ◌∙◌}
use Prim.Native.Nat.{ℕ}
use Rattle.texts.specs.Text.{meanings, bytes, text_laid}
use Rattle.texts.proofs.Words.{rows_of, table, said}
use Rattle.texts.proofs.lay_text.Goals as goal

pub returns : goal.returns
unfolding meanings bytes rows_of table
returns c = c.lay_words.ensures ∙ ap (λ (t : List ℕ). text_laid t c.args.out.now) (said c.args.refusal)
