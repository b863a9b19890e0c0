use Rattle.std.proofs.Common.{◌≡◌, length, sym, subst, rules}
use Rattle.premise_eval.specs.Columns.{ColumnsFit}
use Rattle.premise_eval.specs.internal.ColumnReading.{Extends}
use Rattle.premise_eval.proofs.PlanSteps.{extends_itself, extends_push, fit_pushed, column_pushed}
use Rattle.premise_eval.proofs.plan.column_of.Goals as goal

pub returns-in-Some-clause-more : goal.returns-in-Some-clause-more
returns-in-Some-clause-more c = extends_itself c.args.columns.now.items

pub returns-clause-columns : goal.returns-clause-columns
returns-clause-columns c =
    subst (λ l. ColumnsFit c.args.rules.now l) (sym c.in_ok-push.ensures.items)
    (fit_pushed c.args.rules.now c.args.columns.now.items (record { side = c.args.side.now; place = c.side_place-place.result }) c.requires.columns c.side_place-place.ensures.place)

pub returns-clause-more : goal.returns-clause-more
returns-clause-more c =
    subst (λ l. Extends c.args.columns.now.items l) (sym c.in_ok-push.ensures.items)
    (extends_push c.args.columns.now.items (record { side = c.args.side.now; place = c.side_place-place.result }))

pub returns-clause-column : goal.returns-clause-column
returns-clause-column c =
    let at : c.len-at.result ≡ length c.args.columns.now.items = search rules in
    rw (c.in_ok-push.ensures.items, at) (column_pushed c.args.columns.now.items c.args.side.now c.side_place-place.result)
