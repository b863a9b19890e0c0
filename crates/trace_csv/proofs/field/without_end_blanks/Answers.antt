use Rattle.std.proofs.Common.{◌≡◌, ◌-◌, arith, ap, sym, ◌∙◌, drop, true}
use Rattle.std.specs.List.{list_all}
use Rattle.inp_text.specs.Items.{is_blank}
use Rattle.trace_csv.proofs.Blanks.{ends_at, blanks_alone}
use Rattle.trace_csv.proofs.field.without_end_blanks.Goals as goal

pub returns-then-not-is_blank : goal.returns-then-not-is_blank
returns-then-not-is_blank c =
    ends_at c.args.text.now (c.loop-at.at - 1) c.loop-at.at 0 (omega arith) (omega arith)
    (sym c.if-not-is_blank.ensures) c.loop-at.invariant

pub returns : goal.returns
returns c =
    let none : c.loop-at.at ≡ 0 = omega arith in
    let all : list_all is_blank (drop c.loop-at.at c.args.text.now) ≡ true = c.loop-at.invariant in
    blanks_alone c.args.text.now (ap (λ n. list_all is_blank (drop n c.args.text.now)) (sym none) ∙ all)
