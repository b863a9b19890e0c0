use Rattle.replay_meaning.proofs.PublicLaws.{standing-first, standing-with, standing-state, standing-reading, standing-standings}
use Rattle.replay_meaning.proofs.laws.standing.Goals as goal

pub returns : goal.returns
returns c = record {
  first = standing-first;
  with = standing-with;
  state = standing-state;
  reading = standing-reading;
  standings = standing-standings;
}
