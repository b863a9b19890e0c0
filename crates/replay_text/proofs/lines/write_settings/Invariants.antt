use Rattle.std.proofs.Common.{◌≡◌, ◌++◌, take}
use Rattle.std.specs.List.{flat_map}
use Rattle.num_text.specs.Values.{written_value}
use Rattle.replay_text.specs.Lines.{comma_before}
use Rattle.replay_text.proofs.lines.write_settings.Given as goal

abbrev pub invariant-loop-setting : goal.invariant-loop-setting
invariant-loop-setting l = l.out.items ≡ l.fn.out.items ++ flat_map (λ setting. comma_before (written_value setting)) (take l.setting-index l.settings)
