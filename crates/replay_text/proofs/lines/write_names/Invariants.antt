use Rattle.std.proofs.Common.{◌≡◌, ◌++◌, take}
use Rattle.std.specs.List.{flat_map}
use Rattle.replay_text.specs.Lines.{written_name, link_name, comma_before}
use Rattle.replay_text.proofs.lines.write_names.Given as goal

abbrev pub invariant-loop-link : goal.invariant-loop-link
invariant-loop-link l = l.out.items ≡ l.fn.out.items ++ flat_map (λ link. comma_before (written_name (link_name l.objects link))) (take l.link-index l.links)
