-- `==` of numbers, moments, relations and errors tells exactly whether two are equal.
use Rattle.std.specs.Prelude.{◌≡◌}
use Rattle.std.specs.Bool.{Decides}
use Rattle.std.proofs.Common.{rules}
use Rattle.exact_fraction.specs.declared.frac.Frac.{Frac}
use Rattle.exact_fraction.specs.declared.moment.Moment.{Moment}
use Rattle.exact_fraction.specs.declared.relation.Relation.{Relation}
use Rattle.exact_fraction.specs.declared.error.DivFault.{DivFault}
use Rattle.exact_fraction.specs.contracts.frac.FracPartialEq.TheImpl as FracEq
use Rattle.exact_fraction.specs.contracts.moment.MomentPartialEq.TheImpl as MomentEq
use Rattle.exact_fraction.specs.contracts.relation.RelationPartialEq.TheImpl as RelationEq
use Rattle.exact_fraction.specs.contracts.error.DivFaultPartialEq.TheImpl as DivFaultEq

pub Frac-sames : (a b : Frac) → Decides (FracEq.eq-value.it a b) (a ≡ b)
Frac-sames a b = search rules

pub Moment-sames : (a b : Moment) → Decides (MomentEq.eq-value.it a b) (a ≡ b)
Moment-sames a b = search rules

pub Relation-sames : (a b : Relation) → Decides (RelationEq.eq-value.it a b) (a ≡ b)
Relation-sames a b = search rules

pub DivFault-sames : (a b : DivFault) → Decides (DivFaultEq.eq-value.it a b) (a ≡ b)
DivFault-sames a b = search rules
