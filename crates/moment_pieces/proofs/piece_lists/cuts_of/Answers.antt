use Rattle.std.proofs.Common.{arith}
use Rattle.moment_pieces.specs.internal.Spans.{firsts_from}
use Rattle.moment_pieces.proofs.Collected.{counted, starts_few, cuts_listed, cuts_unlisted}
use Rattle.moment_pieces.proofs.piece_lists.cuts_of.Goals as goal

pub overflow_add-count : goal.overflow_add-count
overflow_add-count c =
    let few = starts_few c.args.starts.now.daily.items c.args.starts.now.singles.items c.args.span.now.last c.requires.daily c.requires.singles in
    omega (arith, few, c.count-count.ensures.value, c.requires.span.bound)

pub returns-then-most-count : goal.returns-then-most-count
returns-then-most-count c =
    let number = counted c.args.starts.now.daily.items c.args.starts.now.singles.items c.args.span.now c.count-count.result c.requires.daily c.requires.singles c.requires.span c.count-count.ensures.value in
    record {
      cuts =
          rw c.new.ensures.value
          (cuts_unlisted (firsts_from c.args.starts.now.daily.items c.args.starts.now.singles.items c.args.span.now) c.args.most _ number c.if-most-count.true);
    }

pub returns : goal.returns
returns c =
    let number = counted c.args.starts.now.daily.items c.args.starts.now.singles.items c.args.span.now c.count-count.result c.requires.daily c.requires.singles c.requires.span c.count-count.ensures.value in
    record {
      cuts =
          rw (c.from_vec.ensures.value, c.in_ok-firsts.ensures.firsts)
          (cuts_listed (firsts_from c.args.starts.now.daily.items c.args.starts.now.singles.items c.args.span.now) c.args.most _ number c.if-most-count.false);
    }
