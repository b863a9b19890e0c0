use Rattle.std.proofs.Common.{subst, sym, arith, Ok, Err}
use Rattle.moment_pieces.proofs.Ranks.{Found, found_rank}
use Rattle.moment_pieces.proofs.lists.rank.Goals as goal

pub returns-in-Ok : goal.returns-in-Ok
returns-in-Ok c =
    let found : Found c.args.list.now c.args.n (Ok c.in-Ok.at) = subst (Found c.args.list.now c.args.n) c.in-Ok.is (found_rank c.args.list.now c.args.n c.binary_search.result c.requires.rising c.binary_search.ensures.position) in
    record { value = sym found.0; within = omega (arith, found.1) }

pub returns-in-Err : goal.returns-in-Err
returns-in-Err c =
    let found : Found c.args.list.now c.args.n (Err c.in-Err.at) = subst (Found c.args.list.now c.args.n) c.in-Err.is (found_rank c.args.list.now c.args.n c.binary_search.result c.requires.rising c.binary_search.ensures.position) in
    record { value = sym found.0; within = found.1 }
