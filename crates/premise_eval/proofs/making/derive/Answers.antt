use Rattle.std.proofs.Common.{◌≡◌, ◌∙◌, sym, subst, ap, length, rules}
use Rattle.std.proofs.lemmas.List.{with_items_is}
use Rattle.rule_meaning.specs.Formula.{is_used, names_stop_for}
use Rattle.premise_eval.specs.Kept.{Kept, MarksUsed}
use Rattle.premise_eval.proofs.making.derive.Goals as goal

pub returns-in-Err-clause-stop : goal.returns-in-Err-clause-stop
unfolding names_stop_for
returns-in-Err-clause-stop c =
    let marks : c.args.values.now.used ≡ c.deref.result.now = ap (λ (k : Kept). k.used) (sym c.values.view_is) ∙ sym c.deref.ensures.value in
    c.in-Err.ensures.stop (is_used c.args.rules.now c.args.rules.now.rules)
    (subst (λ l. MarksUsed c.args.rules.now c.args.rules.now.rules l) marks c.requires.plan.used)

pub returns-clause-stop : goal.returns-clause-stop
unfolding names_stop_for
returns-clause-stop c =
    let marks : c.args.values.now.used ≡ c.deref.result.now = ap (λ (k : Kept). k.used) (sym c.values.view_is) ∙ sym c.deref.ensures.value in
    c.in_default.ensures.stop (is_used c.args.rules.now c.args.rules.now.rules)
    (subst (λ l. MarksUsed c.args.rules.now c.args.rules.now.rules l) marks c.requires.plan.used)

pub returns-clause-made : goal.returns-clause-made
returns-clause-made c =
    let marks : c.args.values.now.used ≡ c.deref.result.now = ap (λ (k : Kept). k.used) (sym c.values.view_is) ∙ sym c.deref.ensures.value in
    let long : length c.read_state.new.values ≡ c.values.inside.values.len = search rules in
    record {
      hours = c.hours_of-hours.ensures.value;
      columns =
          rw (with_items_is c.values.inside.values c.read_state.new.values long, ← c.deref-3.ensures.value)
          (c.in_default.ensures.made (is_used c.args.rules.now c.args.rules.now.rules)
          (subst (λ l. MarksUsed c.args.rules.now c.args.rules.now.rules l) marks c.requires.plan.used));
    }
