use Rattle.std.proofs.Common.{List, All, Contains, subst}
use Rattle.exact_fraction.specs.Number.{Rational}
use Rattle.table_plan.proofs.rising_cuts.column_of.Goals as goal

pub returns-clause-from : goal.returns-clause-from
returns-clause-from c =
    let P : List Rational → Type 0 = λ ends. All (Contains ends) c.in_ok-cuts_of.field-0 in
    subst P c.as_slice.ensures.value c.in_ok-cuts_of.ensures.from
