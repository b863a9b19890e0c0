-- Grids in order: cuts that rise, keys that are distinct, and moments that rise to the last one.
use Rattle.std.specs.Prelude.{◌≡◌, false, IfSome, List, map, All, ℤ, ◌≤ℤ◌, ◌<ℤ◌}
use Rattle.std.specs.List.{AllPairs}
use Rattle.interval_sets.specs.Cuts.{IsRising}
use Rattle.rule_types.specs.declared.key.Key.{Key}
use Rattle.verdict_meaning.specs.Reaches.{same_key}
use Rattle.grid_blocks.specs.declared.grid.Grid.{Grid}
use Rattle.grid_blocks.specs.declared.grid.KeyCuts.{KeyCuts}

-- no key is the same as a later one
abbrev pub AreDistinct : List Key → Type 0
AreDistinct keys = AllPairs (λ key later. same_key key later ≡ false) keys

-- each first moment is before each later one, and none is past the last moment
pub record AreFirstsTo (last : ℤ) (firsts : List ℤ) : Type 0 where
  pub rising : AllPairs (λ first later. first <ℤ later) firsts
  pub to_last : All (λ first. first ≤ℤ last) firsts

abbrev pub key_of : KeyCuts → Key
key_of axis = axis.key

-- a grid in order
pub record IsInOrder (grid : Grid) : Type 0 where
  pub cuts : All (λ axis. IsRising axis.cuts) grid.keys
  pub keys : AreDistinct (map key_of grid.keys)
  pub moments : IfSome grid.moments (λ pieces. AreFirstsTo pieces.last pieces.firsts)
