use Rattle.std.proofs.Common.{map, length, drop, ap, sym, ◌∙◌, arith}
use Rattle.std.proofs.lemmas.List.{length-map, length-drop, take_rest}
use Rattle.curves_series.specs.Series.{entries_of, with_entry, entry_pair}
use Rattle.curves_series.specs.internal.Views.{pair_now, texts}
use Rattle.curves_series.proofs.EntrySteps.{entry_step, entries_end, entries_none, texts_drop}
use Rattle.curves_series.proofs.entry.entries_of.Goals as goal

pub returns-in_default-clause-value : goal.returns-in_default-clause-value
returns-in_default-clause-value c =
    let l = c.entries in
    let none = rw c.in_default.is at c.first_entry.ensures.value in
    let same = ap texts (take_rest c.args.found.now l.at) ∙ texts_drop c.args.found.now l.at in
    let here = sym (ap (entries_of l.axis) same) ∙ none in
    entries_none (texts c.args.found.now) (map pair_now l.pairs.items) l.at l.axis _ here l.invariant.0

pub entries-preserved : goal.entries-preserved
entries-preserved c =
    let l = c.entries in
    let cut = c.in-Some.cut in
    let xs = texts c.args.found.now in
    let read = rw c.in-Some.is at c.first_entry.ensures.value in
    let rest = take_rest c.args.found.now l.at in
    let same = ap texts rest ∙ texts_drop c.args.found.now l.at in
    let here = sym (ap (entries_of l.axis) same) ∙ read ∙ ap (λ ys. with_entry (entry_pair cut.axis cut.time.now cut.value.now) (entries_of cut.axis (drop cut.taken ys))) same in (
      entry_step xs l.pairs.items _ c.entry_pair-pair.result l.at cut.taken l.axis cut.axis cut.time.now cut.value.now _ c.in-Ok.ensures.items c.entry_pair-pair.ensures.value here l.invariant.0,
      omega (arith, c.in-Some.ensures.within, ap length rest, length-drop l.at c.args.found.now, c.entries-test.true),
      c.in-Some.ensures.axis,
    )

pub returns-clause-value : goal.returns-clause-value
returns-clause-value c =
    let l = c.entries in
    let xs = texts c.args.found.now in
    entries_end xs (map pair_now l.pairs.items) l.at l.axis _
    (omega (arith, c.entries-test.false, length-map c.args.found.now (λ item. item.now))) l.invariant.0
