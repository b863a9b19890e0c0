use Rattle.std.proofs.Common.{◌≡◌, ◌++◌, length}
use Rattle.generated_replay.specs.GeneratedText.{setting_lines}
use Rattle.generated_replay.proofs.text.push_settings.Given as goal

-- the text so far, and what is still to come
abbrev pub invariant-links : goal.invariant-links
invariant-links l =
    l.text.items ++ setting_lines l.objects l.links l.settings
    ≡ l.initial.text.items ++ setting_lines l.objects l.initial.links l.initial.settings

abbrev pub decreases-links : goal.decreases-links
decreases-links l = length l.links
