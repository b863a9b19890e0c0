use Rattle.grid_events.proofs.PublicLaws.{shown_blocks-no_event}
use Rattle.grid_events.proofs.laws.shown_blocks.Goals as goal

pub returns : goal.returns
returns c = record { no_event = shown_blocks-no_event }
