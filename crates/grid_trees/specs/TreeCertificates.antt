-- The certificate of a tree of cuts.
use Rattle.std.specs.Prelude.{ℕ, Option, Some, None, slice_get}
use Rattle.block_search.specs.declared.tree.Tree.{Tree}
use Rattle.block_search.specs.declared.tree.Tree.TheOpen.{Tree-F}
use Rattle.block_search.specs.declared.tree.Tree.TheFolds.{fold-Tree}
use Rattle.verdict_meaning.specs.declared.cert.Cert.{Cert}
use Rattle.verdict_meaning.specs.declared.cert.Cert.TheVariants as certificate
use Rattle.verdict_meaning.specs.declared.cert.Reason.TheVariants.{Facts}
use Rattle.grid_blocks.specs.declared.grid.Grid.{Grid}
use Rattle.grid_blocks.specs.declared.grid.KeyCuts.{KeyCuts}
use Rattle.grid_blocks.specs.declared.grid.MomentPieces.{MomentPieces}
use Rattle.grid_blocks.specs.GridBoxes.{cut_at, first_moment}

-- a cut at a piece of a key's axis is a split at that number on the key; where there is no such
-- axis, the certificate below the cut stands for the whole
abbrev pub split_cert : Option KeyCuts → ℕ → Cert → Cert → Cert → Cert
split_cert None at below middle above = below
split_cert (Some axis) at below middle above =
    certificate.Split axis.key (cut_at axis.cuts at) below middle above

-- a cut before a piece of moments is a split at its first moment; where the grid has no moments,
-- the certificate before the cut stands for the whole
abbrev pub before_cert : Option MomentPieces → ℕ → Cert → Cert → Cert
before_cert None at before from = before
before_cert (Some pieces) at before from =
    certificate.Before (first_moment pieces at) before from

-- one node, with the certificates of its trees
unfoldable pub node_cert : Grid → Tree-F Cert → Cert
node_cert grid (Tree-F.Leaf facts) = certificate.Leaf (Facts facts)
node_cert grid (Tree-F.Split axis at below middle above) =
    split_cert (slice_get grid.keys axis) at below middle above
node_cert grid (Tree-F.Before axis at before from) = before_cert grid.moments at before from

-- the certificate of a tree: its leaves are of facts
unfoldable pub cert_of : Grid → Tree → Cert
cert_of grid = fold-Tree Cert (node_cert grid)
