use Rattle.std.proofs.Common.{ℕ, List, Option, Some}
use Rattle.byte_edge.specs.MemoryFiles.{held_in, left_in, faults_in}
use Rattle.byte_edge.specs.MemorySink.{faults_of, written_to}
use Rattle.command_outputs.specs.Outcomes.{Outcome}
use Rattle.command_outputs.specs.Runs.{Leaves, Says}
use Rattle.command_outputs.specs.declared.role.Role.{Role}
use Rattle.project_commands.specs.Replays.{replay_roles}
use Rattle.swmm_rules.specs.Commands.{usage_text}
use Rattle.replay_memory.specs.InMemory.{replay_of_bytes}
use Rattle.replay_memory.proofs.FromRuns.{left_in_memory}
use Rattle.replay_memory.proofs.OfWords.{outcome_of_replay, roles_of_replay}
use Rattle.replay_memory.proofs.in_memory.run_in_memory.Goals as goal

pub returns : goal.returns
returns c = record {
  replay = λ input trace held_input held_trace.
      let second = left_in c.args.files.now 1 in
      let left_now = left_in c.run.new.files in
      let out_was = written_to c.args.out.now in
      let output = written_to c.run.new.out in
      let err_was = written_to c.args.err.now in
      let error = written_to c.run.new.err in
      let files_were = faults_in c.args.files.now in
      let files_now = faults_in c.run.new.files in
      let ofw = faults_of c.args.out.now in
      let ofn = faults_of c.run.new.out in
      let efw = faults_of c.args.err.now in
      let efn = faults_of c.run.new.err in
      let status = c.run.result in
      let P : Outcome → Type 0 = λ o. Leaves o second left_now (Some out_was) (Some output)
      (Some err_was) (Some error) ofw ofn efw efn status in
      let R : List Role → Type 0 = λ roles. Says usage_text roles files_were files_now
      ofw ofn efw efn (Some err_was) (Some error) status in
      left_in_memory replay_roles (replay_of_bytes input trace) second left_now
      out_was output err_was error files_were files_now ofw ofn efw efn status
      c.requires.empty_out c.requires.empty_err
      (outcome_of_replay (held_in c.args.files.now) c.run.ensures.leaves.verdicts _ input trace P
      c.requires.words held_input held_trace c.run.ensures.leaves.leaves)
      (roles_of_replay _ R c.requires.words c.run.ensures.says);
}
