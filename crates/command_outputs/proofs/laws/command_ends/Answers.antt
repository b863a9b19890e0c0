use Rattle.command_outputs.proofs.PublicLaws.{command_ends-written, command_ends-out_of_memory}
use Rattle.command_outputs.proofs.laws.command_ends.Goals as goal

pub returns-clause-written : goal.returns-clause-written
returns-clause-written g c = λ roles completion text was now out_was out_now result.
    command_ends-written roles completion text _ _ _ _ result

pub returns-clause-out_of_memory : goal.returns-clause-out_of_memory
returns-clause-out_of_memory g c = λ count roles outcome was now out.
    command_ends-out_of_memory count roles outcome _ _
