use Rattle.command_outputs.proofs.PublicLaws.{stages-none, stages-next, stages-stopped, stages-through}
use Rattle.command_outputs.proofs.laws.stages.Goals as goal

pub returns-clause-none : goal.returns-clause-none
returns-clause-none g c = λ files. stages-none

pub returns-clause-next : goal.returns-clause-next
returns-clause-next g c = λ kind judge view held value was mid now.
    stages-next kind judge view held value

pub returns-clause-stopped : goal.returns-clause-stopped
returns-clause-stopped g c = λ roles kind judge view next held was mid now out complaint.
    stages-stopped roles kind judge view next held _ _ complaint

pub returns-clause-through : goal.returns-clause-through
returns-clause-through g c =
    λ roles kind judge view next held value was now out_was out_now result.
    stages-through roles kind judge view next held value
