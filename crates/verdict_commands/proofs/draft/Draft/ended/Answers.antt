use Rattle.verdict_commands.proofs.DraftSteps.{report_ended}
use Rattle.verdict_commands.proofs.draft.Draft.ended.Goals as goal

pub returns : goal.returns
returns c =
    let draft = c.args.self in
    report_ended c.args.prepared.now draft.text.items c.write_end.new.out.items
    draft.refuted draft.undecided c.completion_by.result c.requires.draft
    c.in_ok-write_end.ensures.text c.completion_by.ensures
