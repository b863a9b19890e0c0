use Rattle.std.proofs.Common.{◌≤◌, ◌+◌, ◌*◌, ◌/◌, ◌%◌, arith}
use Rattle.moment_pieces.proofs.Counting.{starts_bound}
use Rattle.moment_pieces.proofs.Ranks.{rank_most}
use Rattle.moment_pieces.proofs.starts.Starts.up_to.Goals as goal

pub overflow_mul-whole : goal.overflow_mul-whole
overflow_mul-whole c =
    let few : c.args.at / 86400 * c.rank.result ≤ c.args.at = rw (c.rank.ensures.value, c.deref.ensures.value) (starts_bound c.args.self.now.daily.items c.args.self.now.singles.items c.args.at c.requires.daily.rising c.requires.singles.rising) in
    omega (arith, few, c.requires.bound)

pub overflow_add-result : goal.overflow_add-result
overflow_add-result c =
    let few : c.args.at / 86400 * c.rank.result ≤ c.args.at = rw (c.rank.ensures.value, c.deref.ensures.value) (starts_bound c.args.self.now.daily.items c.args.self.now.singles.items c.args.at c.requires.daily.rising c.requires.singles.rising) in
    let next : c.rank-2.result ≤ c.args.at % 86400 + 1 = rw (c.rank-2.ensures.value, c.deref-2.ensures.value) (rank_most c.args.self.now.daily.items (c.args.at % 86400) c.requires.daily.rising) in
    omega (arith, few, next, c.requires.bound)

pub overflow_add-result-2 : goal.overflow_add-result-2
overflow_add-result-2 c =
    let few : c.args.at / 86400 * c.rank.result ≤ c.args.at = rw (c.rank.ensures.value, c.deref.ensures.value) (starts_bound c.args.self.now.daily.items c.args.self.now.singles.items c.args.at c.requires.daily.rising c.requires.singles.rising) in
    let next : c.rank-2.result ≤ c.args.at % 86400 + 1 = rw (c.rank-2.ensures.value, c.deref-2.ensures.value) (rank_most c.args.self.now.daily.items (c.args.at % 86400) c.requires.daily.rising) in
    let last : c.rank-3.result ≤ c.args.at + 1 = rw (c.rank-3.ensures.value, c.deref-3.ensures.value) (rank_most c.args.self.now.singles.items c.args.at c.requires.singles.rising) in
    omega (arith, few, next, last, c.requires.bound)
