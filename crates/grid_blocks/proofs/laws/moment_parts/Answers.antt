-- The laws `moment_parts`.
use Rattle.grid_blocks.proofs.PublicLaws.{moment_parts-moments}
use Rattle.grid_blocks.proofs.PublicLaws.{moment_parts-inside}
use Rattle.grid_blocks.proofs.PublicLaws.{moment_parts-before}
use Rattle.grid_blocks.proofs.PublicLaws.{moment_parts-from}
use Rattle.grid_blocks.proofs.PublicLaws.{moment_parts-holds}
use Rattle.grid_blocks.proofs.laws.moment_parts.Goals as goal

pub returns-clause-moments : goal.returns-clause-moments
returns-clause-moments c = moment_parts-moments

pub returns-clause-inside : goal.returns-clause-inside
returns-clause-inside c = moment_parts-inside

pub returns-clause-before : goal.returns-clause-before
returns-clause-before c = moment_parts-before

pub returns-clause-from : goal.returns-clause-from
returns-clause-from c = moment_parts-from

pub returns-clause-holds : goal.returns-clause-holds
returns-clause-holds c = moment_parts-holds
