use Rattle.std.proofs.Common.{rules, ◌≡◌, ◌+◌, ◌<◌, ◌++◌, arith}
use Rattle.std.specs.List.{flat_map}
use Rattle.model_generator.specs.InputFile.{up_to}
use Rattle.model_generator.specs.InputFile.{pump_line}
use Rattle.model_generator.proofs.Repeated.{one_more}
use Rattle.model_generator.proofs.input.push_pumps.Goals as goal

pub loop-number-preserved : goal.loop-number-preserved
loop-number-preserved c =
    let within : c.loop-number.number < c.args.n + 1 = search rules in
    let added : c.push_pump.new.text.items ≡ c.loop-number.text.items ++ pump_line c.loop-number.number = search rules in
    one_more (λ i. pump_line i) c.loop-number.text.items c.push_pump.new.text.items
    (c.args.text.now.items ++ flat_map pump_line (up_to c.args.n)) c.loop-number.number (c.args.n + 1)
    within added c.loop-number.invariant
