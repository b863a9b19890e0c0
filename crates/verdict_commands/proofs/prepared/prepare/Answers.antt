use Rattle.std.proofs.Common.{refl}
use Rattle.range_lines.proofs.PublicLaws.{prepared-well_formed, prepared-tables}
use Rattle.verdict_commands.proofs.PreparedRanges.{prepared_fit}
use Rattle.verdict_commands.proofs.prepared.prepare.Goals as goal

pub returns : goal.returns
returns c =
    let rules = c.args.project.rules in
    let ranges = c.args.ranges in
    record {
      value = refl;
      ready = record {
        formed = prepared-well_formed rules ranges c.requires.well_formed c.requires.fit;
        tables = prepared-tables rules c.args.project.tables ranges c.requires.tables;
        prepared = record { start = refl; step = refl };
        fit = prepared_fit rules ranges c.requires.fit;
        closed = c.requires.closed;
      };
    }
