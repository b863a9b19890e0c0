use Rattle.std.proofs.Common.{◌≡◌, ◌+◌, ◌<◌, ◌≤◌, min, ℕ, List, length, take, drop, get_or, Some, None, Option, rules, option_map, get_or-set_same, slice_set}
use Rattle.std.specs.Io.KnownBytes.{Consumes, IsAtEnd}
use Rattle.byte_edge.specs.Entries.{Entry, bytes_at}
use Rattle.byte_edge.specs.declared.memory_files.Place.{Place}
use Rattle.byte_edge.proofs.Lists.{read-front, read-none}
use Rattle.byte_edge.proofs.memory_files.MemoryFilesFiles.read.Goals as goal

-- the bytes of the slot, by its place
abbrev from : List Entry → Option Place → Option (List ℕ)
from entries place = option_map (λ place. drop place.at (bytes_at entries place.entry)) place

-- the slot gave `count` bytes, and its place is that much later
taken : (entries : List Entry) (places : List (Option Place)) (slot count room cut : ℕ) (place : Place) (given : List ℕ)
    → slot < length places → get_or places slot None ≡ Some place
    → take count given ≡ take count (drop place.at (bytes_at entries place.entry))
    → count ≡ min (length (drop place.at (bytes_at entries place.entry))) (min room cut) → 1 ≤ cut → 0 < room
    → Consumes (from entries (get_or places slot None)) (from entries (get_or (slice_set places slot (Some (record { entry = place.entry; at = place.at + count }))) slot None)) (take count given)
    × (count ≡ 0 → 0 < length given → IsAtEnd (from entries (get_or (slice_set places slot (Some (record { entry = place.entry; at = place.at + count }))) slot None)))
taken entries places slot count room cut place given within opened copied count_is some_cut some_room =
    rw (get_or-set_same places slot (Some (record { entry = place.entry; at = place.at + count })) None within, opened) (
      read-front place.at count (bytes_at entries place.entry) given copied,
      λ none some. read-none place.at count room cut (bytes_at entries place.entry) count_is some_cut some_room none,
    )

pub returns-clause-bytes : goal.returns-clause-bytes
returns-clause-bytes c =
    let entries = c.count_call.new.self.held.items in
    let within : c.args.slot < length c.count_call.new.self.places = search rules in
    let count : c.copy_front-count.result ≡ min (length (drop c.in-Some.place.at (bytes_at entries c.in-Some.place.entry))) (min (length c.args.into.now) c.count_call.new.self.cut) = rw c.bytes_from.ensures at c.copy_front-count.ensures.count in
    rw (← c.count_call.ensures.called.held, ← c.count_call.ensures.places)
    (taken entries c.count_call.new.self.places c.args.slot c.copy_front-count.result (length c.args.into.now) c.count_call.new.self.cut c.in-Some.place c.copy_front-count.new.into
    within c.in-Some.is (rw c.bytes_from.ensures at c.copy_front-count.ensures.copied) count c.count_call.new.self.cut_some c.requires.room)
