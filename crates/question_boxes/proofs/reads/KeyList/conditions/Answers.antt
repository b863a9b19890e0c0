use Rattle.std.proofs.Common.{◌≡◌, [], ◌∷◌, ◌++◌, ◌+◌, ap, sym, ◌∙◌, take}
use Rattle.std.proofs.lemmas.List.{take_more}
use Rattle.rule_types.specs.Reading.{condition_reads}
use Rattle.question_boxes.proofs.Additions.{adds_more}
use Rattle.question_boxes.proofs.reads.KeyList.conditions.Goals as goal

pub loop-condition-preserved : goal.loop-condition-preserved
loop-condition-preserved c =
    let all = c.args.conditions.now in
    let one = c.condition-item.result in
    let at = c.loop-condition.condition-index in
    let more : take (at + 1) all ≡ take at all ++ one ∷ [] =
    take_more all at one c.loop-condition-test.true
    ∙ ap (λ r. take at all ++ r ∷ []) (sym c.condition-item.is) in
    adds_more (condition_reads c.args.names.now) c.args.self.now c.loop-condition.self
    c.condition.new.self (take at all) (take (at + 1) all) one more c.loop-condition.invariant
    c.in_ok-condition.ensures.adds
