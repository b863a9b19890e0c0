use Rattle.interval_sets.proofs.Equality.{equal_pieces, equal_members}
use Rattle.interval_sets.proofs.interval_set.IntervalSetPartialEq.eq.Goals as goal

pub returns-clause-same_members : goal.returns-clause-same_members
returns-clause-same_members c =
    equal_members c.self.inside.pieces.items c.other.inside.pieces.items c.args.self.now c.args.other.now c.eq.result c.self.view_is c.other.view_is c.self.invariant c.other.invariant c.eq.ensures

pub returns-clause-same_pieces : goal.returns-clause-same_pieces
returns-clause-same_pieces c =
    equal_pieces c.self.inside.pieces.items c.other.inside.pieces.items c.args.self.now c.args.other.now c.eq.result c.self.view_is c.other.view_is c.eq.ensures
