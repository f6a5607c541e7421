-- The chain says whether all queues are sound.
use Rattle.std.proofs.Common.{◌≡◌, ◌&&◌, ltb, rules, arith, refl, sym, ◌∙◌}
use borrow.Author.Tests.{tests}
use Rattle.std.proofs.lemmas.Iterator.{YieldsList-from_slice}
use Rattle.std.proofs.lemmas.Iterator.Search.{all_from_yields_List}
use Rattle.keeper.specs.Keeper.{queue_sound, keeper_sound}
use Rattle.keeper.proofs.Searches.{sound_by}
use Rattle.keeper.proofs.Keeper.sound.Goals as goal

pub returns-then-all : goal.returns-then-all
returns-then-all c =
    let k = c.args.self in
    let e : keeper_sound k ≡ (c.all.result && ltb k.last 4) = sound_by k c.all.result (omega arith) (all_from_yields_List queue_sound _ _ c.all.result c.all.ensures.ran (YieldsList-from_slice k.queues cc) (λ x b q k. search (rules, tests))) in
    sym (e ∙ rw c.if-all.true refl)

pub returns-else-all : goal.returns-else-all
returns-else-all c =
    let k = c.args.self in
    let e : keeper_sound k ≡ (c.all.result && ltb k.last 4) = sound_by k c.all.result (omega arith) (all_from_yields_List queue_sound _ _ c.all.result c.all.ensures.ran (YieldsList-from_slice k.queues cc) (λ x b q k. search (rules, tests))) in
    sym (e ∙ rw c.if-all.false refl)
