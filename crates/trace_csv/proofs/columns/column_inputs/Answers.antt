use Rattle.std.proofs.Common.{ap, sym, ◌∙◌}
use Rattle.std.proofs.lemmas.List.Elements.{All-push}
use Rattle.std.proofs.Common.{map, drop, ◌+◌, ◌++◌, ◌∷◌, [], length, subst, All}
use Rattle.trace_csv.specs.internal.Filling.{Within}
use Rattle.csv.specs.Records.{fields_of}
use Rattle.trace_csv.specs.Columns.{column_input}
use Rattle.trace_csv.proofs.RecordFields.{made_all, made_more}
use Rattle.trace_csv.proofs.columns.column_inputs.Goals as goal

pub returns-in_default-clause-value : goal.returns-in_default-clause-value
returns-in_default-clause-value c =
    made_all (column_input c.args.keys.now c.args.objects.now) (fields_of c.args.row.now) c.loop-at.at c.loop-at.places.items _
    c.in_default.ensures.value c.loop-at.invariant.made

pub loop-at-preserved : goal.loop-at-preserved
loop-at-preserved c = record {
  made =
      ap (λ items. items ++ map (column_input c.args.keys.now c.args.objects.now) (drop (c.loop-at.at + 1) (fields_of c.args.row.now))) c.in_ok-push.ensures.items
      ∙ ap (λ place. (c.loop-at.places.items ++ place ∷ []) ++ map (column_input c.args.keys.now c.args.objects.now) (drop (c.loop-at.at + 1) (fields_of c.args.row.now))) c.in_ok-place.ensures.value
      ∙ made_more (column_input c.args.keys.now c.args.objects.now) (fields_of c.args.row.now) c.loop-at.at c.in-Some.name.now c.loop-at.places.items _
      c.in-Some.ensures.value c.loop-at.invariant.made;
  within =
      subst (All (Within (length c.args.keys.now))) (sym c.in_ok-push.ensures.items)
      (All-push (Within (length c.args.keys.now)) c.loop-at.places.items c.in_ok-place.place c.loop-at.invariant.within c.in_ok-place.ensures.within);
}
