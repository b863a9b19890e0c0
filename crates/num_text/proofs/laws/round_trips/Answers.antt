use Rattle.num_text.proofs.PublicLaws.{round_trips-moment, round_trips-value, round_trips-one_moment, round_trips-one_value}
use Rattle.num_text.proofs.laws.round_trips.Goals as goal

pub returns-clause-moment : goal.returns-clause-moment
returns-clause-moment c = round_trips-moment

pub returns-clause-value : goal.returns-clause-value
returns-clause-value c = round_trips-value

pub returns-clause-one_moment : goal.returns-clause-one_moment
returns-clause-one_moment c = round_trips-one_moment

pub returns-clause-one_value : goal.returns-clause-one_value
returns-clause-one_value c = round_trips-one_value
