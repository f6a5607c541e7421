-- The first of the four in turn whose queue is not empty is the one that the definition looks for.
use Rattle.std.proofs.Common.{◌≡◌, ◌+◌, ◌%◌, ltb, rules, map, refl}
use borrow.Author.Tests.{tests}
use Rattle.std.specs.List.{find, range_with_len}
use Rattle.std.specs.Option.{option_map}
use Rattle.std.proofs.lemmas.Iterator.{YieldsList-from_range, YieldsList-from_map}
use Rattle.std.proofs.lemmas.Iterator.Search.{find_from_yields_List}
use Rattle.keeper.specs.Keeper.{queue_at}
use Rattle.keeper.proofs.Searches.{first_found}
use Rattle.keeper.proofs.Keeper.whose_turn.Goals as goal

pub returns : goal.returns
returns c =
    let k = c.args.self in
    let f : option_map (λ x. x) c.find.result ≡ find (λ d. ltb 0 (queue_at k d).length) (map (λ s. (k.last + 1 + s) % 4) (range_with_len 0 4))
    = find_from_yields_List (λ d. ltb 0 (queue_at k d).length) _ _ c.find.result c.find.ensures.ran
    (YieldsList-from_map _ (λ s. (k.last + 1 + s) % 4) (YieldsList-from_range 0 4 4 (cc) refl) refl (λ x r q k. search rules)) (λ x b q k. search (rules, tests)) in
    first_found k c.find.result f
