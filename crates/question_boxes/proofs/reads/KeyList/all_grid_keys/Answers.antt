use Rattle.std.proofs.Common.{◌+◌, take}
use Rattle.std.proofs.lemmas.List.{take_more}
use Rattle.verdict_meaning.specs.Questions.{grid_keys_of}
use Rattle.question_boxes.proofs.Additions.{adds_more}
use Rattle.question_boxes.proofs.reads.KeyList.all_grid_keys.Goals as goal

pub loop-key-preserved : goal.loop-key-preserved
loop-key-preserved c =
    let all = c.args.keys.now in
    let at = c.loop-key.key-index in
    adds_more grid_keys_of c.args.self.now c.loop-key.self c.grid_keys_of.new.self (take at all)
    (take (at + 1) all) _ (take_more all at _ c.loop-key-test.true) c.loop-key.invariant
    c.in_ok-grid_keys_of.ensures.adds
