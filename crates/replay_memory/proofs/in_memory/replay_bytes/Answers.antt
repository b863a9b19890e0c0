use Rattle.std.proofs.Common.{ℕ, List, IfSome, ap, sym, ◌∙◌, subst, codes}
use Rattle.byte_edge.specs.Entries.{held_under}
use Rattle.byte_edge.specs.MemorySink.{written_to}
use Rattle.replay_memory.specs.InMemory.{LeavesBytes, replay_of_bytes}
use Rattle.replay_memory.proofs.in_memory.replay_bytes.Goals as goal

pub returns : goal.returns
returns c =
    let input = c.args.input.items in
    let trace = c.args.trace.items in
    let output = c.in_ok-from_slice.ensures.items ∙ c.written.ensures in
    let error = c.in_ok-from_slice-2.ensures.items ∙ c.written-2.ensures in
    let status = c.run_in_memory-status.result in
    let held = c.new-files.ensures.held in
    let ran = c.run_in_memory-status.ensures.replay input trace
    (ap (λ entries. held_under entries (codes "a")) held ∙ c.in_ok-held.ensures.input)
    (ap (λ entries. held_under entries (codes "b")) held ∙ c.in_ok-held.ensures.trace) in
    let P : List ℕ → Type 0 = λ text. IfSome (replay_of_bytes input trace)
    (λ o. LeavesBytes o text (written_to c.run_in_memory-status.new.err) status) in
    let Q : List ℕ → Type 0 = λ text. IfSome (replay_of_bytes input trace)
    (λ o. LeavesBytes o c.in_ok-from_slice.field-0.items text status) in
    record { replay = subst Q (sym error) (subst P (sym output) ran) }
