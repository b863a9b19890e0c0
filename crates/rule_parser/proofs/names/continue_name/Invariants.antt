use Rattle.std.proofs.Common.{◌≡◌, drop}
use Rattle.std.specs.List.{list_all}
use Rattle.rule_parser.specs.Declarations.{continues_name}
use Rattle.rule_parser.proofs.names.continue_name.Given as goal

abbrev pub invariant-loop-byte : goal.invariant-loop-byte
invariant-loop-byte l =
    list_all continues_name (drop l.byte-index l.bytes) ≡ list_all continues_name l.bytes
