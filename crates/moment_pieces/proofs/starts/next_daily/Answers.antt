use Rattle.moment_pieces.proofs.Counting.{daily_some, daily_none}
use Rattle.moment_pieces.proofs.starts.next_daily.Goals as goal

pub returns-in-Some : goal.returns-in-Some
returns-in-Some c = record { value = daily_some c.args.daily.now c.args.at c.in-Some.next c.requires.daily c.in-Some.ensures.value }

pub returns-in-None : goal.returns-in-None
returns-in-None c = record { value = daily_none c.args.daily.now c.args.at c.requires.daily c.in-None.ensures.value }
