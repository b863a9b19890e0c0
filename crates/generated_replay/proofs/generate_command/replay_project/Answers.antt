use Rattle.generated_replay.proofs.Replays.{can_replay}
use Rattle.generated_replay.proofs.generate_command.replay_project.Goals as goal

pub replay_trace-requires-clause-can_replay : goal.replay_trace-requires-clause-can_replay
replay_trace-requires-clause-can_replay c =
    can_replay c.args.project.now.rules c.args.project.now.tables c.in-Ok.readings.tables.now _
    c.requires.well_formed c.requires.tables c.in-Ok.ensures.held c.in-Ok.ensures.choice
