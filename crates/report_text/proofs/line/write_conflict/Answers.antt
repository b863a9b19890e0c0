use Rattle.std.proofs.Common.{◌++◌, [], ◌∷◌, codes, refl}
use Rattle.std.proofs.lemmas.Result.{on_ok_weaker}
use Rattle.verdict_meaning.specs.declared.question.Question.TheVariants.{Conflict}
use Rattle.report_text.specs.WrittenLines.{written_rule, written_link, written_question}
use Rattle.report_text.specs.WrittenReports.{ended}
use Rattle.report_text.proofs.Joining.{two_parts, three_parts, conflict_line}
use Rattle.report_text.proofs.line.write_conflict.Goals as goal

pub returns : goal.returns
returns c =
    let out = c.args.out.now.items in
    let one = written_rule c.args.first in
    let two = written_rule c.args.second in
    let name = written_link c.args.objects.now c.args.link in
    let head = codes "question conflict " in
    let front = (head ++ one) ++ codes " " in
    let rules = (front ++ two) ++ codes " " in
    let at_front = three_parts out head one (codes " ") c.append.new.out.items c.write_rule.new.out.items
    c.append-2.new.out.items front c.in_ok-append.ensures c.in_ok-write_rule.ensures c.in_ok-append-2.ensures refl in
    let at_rules = three_parts out front two (codes " ") c.append-2.new.out.items c.write_rule-2.new.out.items
    c.append-3.new.out.items rules at_front c.in_ok-write_rule-2.ensures c.in_ok-append-3.ensures refl in
    on_ok_weaker c.append-4.result
    (λ end. two_parts out rules (name ++ (10 ∷ [])) c.append-3.new.out.items c.append-4.new.out.items
    (ended (written_question c.args.objects.now (Conflict c.args.first c.args.second c.args.link))) at_rules
    (two_parts c.append-3.new.out.items name (10 ∷ []) c.write_link.new.out.items c.append-4.new.out.items (name ++ (10 ∷ []))
    c.in_ok-write_link.ensures end refl)
    (conflict_line c.args.objects.now c.args.first c.args.second c.args.link)) c.append-4.ensures
