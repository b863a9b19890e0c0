-- The laws of standing.
use Rattle.rule_meaning.proofs.PublicLaws.{standing-moved, standing-stayed, standing-as_many}
use Rattle.rule_meaning.proofs.PublicLaws.{standing-setting, standing-settings}
use Rattle.rule_meaning.proofs.laws.standing.Goals as goal

pub returns-clause-moved : goal.returns-clause-moved
returns-clause-moved c = standing-moved

pub returns-clause-stayed : goal.returns-clause-stayed
returns-clause-stayed c = standing-stayed

pub returns-clause-as_many : goal.returns-clause-as_many
returns-clause-as_many c = standing-as_many

pub returns-clause-setting : goal.returns-clause-setting
returns-clause-setting c = standing-setting

pub returns-clause-settings : goal.returns-clause-settings
returns-clause-settings c = standing-settings
