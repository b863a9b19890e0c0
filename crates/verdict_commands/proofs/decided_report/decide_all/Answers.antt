use Rattle.verdict_commands.proofs.DraftSteps.{all_decided, none_decided, one_decided}
use Rattle.verdict_commands.proofs.decided_report.decide_all.Goals as goal

pub loop-question-init : goal.loop-question-init
loop-question-init c =
    let draft = c.in_ok-draft.draft in
    let made = c.in_ok-draft.ensures in
    none_decided c.args.prepared.now c.as_slice-question-items.result.now
    draft.text.items draft.refuted draft.undecided c.as_slice-question-items.ensures.value
    made.text made.refuted made.undecided

pub loop-question-preserved : goal.loop-question-preserved
loop-question-preserved c =
    let was = c.loop-question.draft in
    let now = c.in_ok-draft-2.draft in
    one_decided c.args.prepared.now c.as_slice-question-items.result.now c.question-item.result
    c.loop-question.question-index was.text.items now.text.items
    was.refuted now.refuted was.undecided now.undecided
    c.loop-question-test.true c.question-item.is c.loop-question.invariant c.in_ok-draft-2.ensures

pub ended-requires : goal.ended-requires
ended-requires c =
    let draft = c.loop-question.draft in
    record {
      draft = all_decided c.args.prepared.now c.as_slice-question-items.result.now
          c.loop-question.question-index draft.text.items draft.refuted draft.undecided
          c.loop-question-test.false c.loop-question.invariant;
    }
