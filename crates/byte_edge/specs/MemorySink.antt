-- What a sink in memory keeps.
use Rattle.std.specs.Prelude.{◌≡◌, ℕ, ◌+◌, ◌-◌, ◌^◌, min, List, Contains}
use Rattle.byte_edge.specs.declared.memory_sink.MemorySink.{MemorySink}

-- the bytes written
abbrev pub written_to : MemorySink → List ℕ
written_to sink = sink.bytes.items

-- how many bytes more there is room for
abbrev pub room_of : MemorySink → ℕ
room_of sink = sink.room

-- the most bytes that a write takes
abbrev pub cut_of : MemorySink → ℕ
cut_of sink = sink.cut

-- the numbers of the calls that fail
abbrev pub failing_of : MemorySink → List ℕ
failing_of sink = sink.failing.items

-- how many writes there were
abbrev pub calls_of : MemorySink → ℕ
calls_of sink = sink.calls

-- the count of faults
abbrev pub faults_of : MemorySink → ℕ
faults_of sink = sink.faults

-- the number of the next call, which stays at its type's end
abbrev pub next_call : MemorySink → ℕ
next_call sink = min (calls_of sink + 1) (2 ^ 64 - 1)

-- the next call is one of those that fail
abbrev pub FailsNext : MemorySink → Type 0
FailsNext sink = Contains (failing_of sink) (next_call sink)

-- what never changes: the cut and the calls that fail; the number of calls goes on
pub record IsCalled (old new : MemorySink) : Type 0 where
  pub cut : cut_of new ≡ cut_of old
  pub failing : failing_of new ≡ failing_of old
  pub calls : calls_of new ≡ next_call old
