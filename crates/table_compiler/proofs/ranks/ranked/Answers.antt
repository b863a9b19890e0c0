use Rattle.std.proofs.Common.{◌≡◌, rules}
use Rattle.std.proofs.lemmas.Fn.{always_returns_same}
use Rattle.std.specs.Ordering.{is_lt}
use Rattle.table_compiler.specs.Rows.{rule_precedes}
use Rattle.table_compiler.proofs.SortedPlaces.{rank_order, sorted_is_ranked}
use Rattle.table_compiler.proofs.ranks.ranked.Goals as goal

pub returns : goal.returns
returns c =
    sorted_is_ranked c.args.rules.now c.in_ok-places.places.items _
    c.in_ok-places.ensures
    c.sort_by.ensures.permutation
    (c.in_ok-sort_by.ensures.sorted (rule_precedes c.args.rules.now) (rank_order c.args.rules.now)
    (always_returns_same _ (λ a r. is_lt r ≡ rule_precedes c.args.rules.now a.0.now a.1.0.now) _ (λ a r q k. search rules)))
