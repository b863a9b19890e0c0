-- What files in memory hold and give.
use Rattle.std.specs.Prelude.{◌≡◌, ℕ, ◌+◌, ◌-◌, ◌^◌, min, List, drop, None, Option, IsSome, option_map, slice_index, slice_index_or, Contains}
use Rattle.byte_edge.specs.Entries.{Entry, bytes_at, held_under}
use Rattle.byte_edge.specs.declared.memory_files.MemoryFiles.{MemoryFiles}
use Rattle.byte_edge.specs.declared.memory_files.Place.{Place}

-- the names with the bytes held under them
abbrev pub entries_of : MemoryFiles → List Entry
entries_of files = files.held.items

-- the most bytes that a read gives
abbrev pub cut_of : MemoryFiles → ℕ
cut_of files = files.cut

-- the numbers of the calls that fail
abbrev pub failing_of : MemoryFiles → List ℕ
failing_of files = files.failing.items

-- how many opens and reads there were
abbrev pub calls_of : MemoryFiles → ℕ
calls_of files = files.calls

-- the count of faults of a slot
abbrev pub faults_in : MemoryFiles → ℕ → ℕ
faults_in files slot = slice_index files.faults slot

-- where a slot is being read
abbrev pub place_in : MemoryFiles → ℕ → Option Place
place_in files slot = slice_index_or files.places slot None

-- the slot is being read
abbrev pub IsOpenIn : MemoryFiles → ℕ → Type 0
IsOpenIn files slot = IsSome (place_in files slot)

-- the bytes held under a name
abbrev pub held_in : MemoryFiles → List ℕ → Option (List ℕ)
held_in files name = held_under (entries_of files) name

-- the bytes of the slot's entry from its place on
abbrev pub left_in : MemoryFiles → ℕ → Option (List ℕ)
left_in files slot =
    option_map (λ place. drop place.at (bytes_at (entries_of files) place.entry))
    (place_in files slot)

-- the number of the next call, which stays at its type's end
abbrev pub next_call : MemoryFiles → ℕ
next_call files = min (calls_of files + 1) (2 ^ 64 - 1)

-- the next call is one of those that fail
abbrev pub FailsNext : MemoryFiles → Type 0
FailsNext files = Contains (failing_of files) (next_call files)

-- what never changes: the bytes held, the cut and the calls that fail; the number of calls goes on
pub record IsCalled (old new : MemoryFiles) : Type 0 where
  pub held : entries_of new ≡ entries_of old
  pub cut : cut_of new ≡ cut_of old
  pub failing : failing_of new ≡ failing_of old
  pub calls : calls_of new ≡ next_call old
