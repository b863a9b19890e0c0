use Rattle.std.proofs.Common.{◌≡◌, ◌<◌, length, Ok, None, ap, ap₂, sym, subst, ◌∙◌}
use Rattle.std.specs.Prelude.{IfOk, if◌then◌else◌}
use Rattle.curves_series.specs.Curves.{curve_of}
use Rattle.curves_series.specs.Reading.{some_read}
use Rattle.curves_series.specs.internal.Views.{lines_now}
use Rattle.curves_series.proofs.GroupPuts.{group_is, table_some}
use Rattle.curves_series.proofs.reading.curve_at.Goals as goal

pub read_curve-requires : goal.read_curve-requires
read_curve-requires c =
    let lines = c.deref.ensures.value ∙ ap (λ table. table.lines.items) c.index-table.ensures in
    record {
      some =
          subst (λ found. 0 < length found) (sym lines)
          (table_some c.args.groups.now c.args.at _ c.requires.even c.requires.lines
          c.requires.within);
    }

pub returns-clause-value : goal.returns-clause-value
returns-clause-value c =
    let lines = c.deref.ensures.value ∙ ap (λ table. table.lines.items) c.index-table.ensures in
    let same =
    ap₂ (λ name found. record { name = name; lines = lines_now found })
    c.in_ok-name.ensures.value lines
    ∙ sym (group_is c.args.groups.now c.args.at _ c.requires.even c.requires.within) in
    subst (λ g. IfOk c.read_curve.result (λ read. read ≡ (if c.args.used then some_read (curve_of g) else Ok None))) same
    c.read_curve.ensures.value
