use Rattle.askable_ranges.proofs.PublicLaws.{read_ranges-closed}
use Rattle.verdict_commands.proofs.prepared.judge.Goals as goal

pub prepare-requires-clause-closed : goal.prepare-requires-clause-closed
prepare-requires-clause-closed c =
    let project = c.args.project in
    read_ranges-closed project.rules project.objects c.args.lines.now c.in-Ok.ranges
    c.requires.well_formed c.in-Ok.ensures.file
