-- Trees, node by node.
use Rattle.std.proofs.Common.{◌≡◌, ℕ, zero, suc, ◌-◌, ◌<◌, Bool, List, Ok, Err, ℤ, ap, ◌∙◌, arith}
use Rattle.exact_fraction.specs.Number.{Rational}
use Rattle.inp_text.specs.Sections.{Line}
use Rattle.object_index.specs.Objects.{Objects}
use Rattle.rule_types.specs.declared.key.Key.{Key}
use Rattle.verdict_meaning.specs.declared.cert.Cert.{Cert}
use Rattle.verdict_meaning.specs.declared.cert.Cert.TheVariants as cert
use Rattle.report_lines.specs.TreeLines.{tree_from, node_from, node_at, split_from, before_from}
use Rattle.report_lines.specs.TreeLines.{PlacedTree, placed}
use Rattle.report_lines.specs.Words.{Reading, read_to, behind}
use Rattle.report_lines.specs.declared.grid.Grid.{Grid}

-- a tree of at least one level, by its first line
pub tree_more : (lines : List Line) (objects : Objects) (grid : Grid) (facts : Bool)
    (levels at : ℕ) (places : List ℕ) → 0 < levels
    → tree_from lines objects grid facts levels at places
    ≡ node_from lines grid facts (tree_from lines objects grid facts (levels - 1)) at places
    (node_at lines objects grid at)
unfolding tree_from
tree_more lines objects grid facts zero at places some = absurd (omega (arith, some))
tree_more lines objects grid facts (suc levels) at places some =
    let less : levels ≡ suc levels - 1 = omega arith in
    ap (λ n. node_from lines grid facts (tree_from lines objects grid facts n) at places
    (node_at lines objects grid at)) less

module _ (tree : ℕ → List ℕ → Reading PlacedTree) where
  -- a split at a number, by what its trees give
  pub split_first : (key : Key) (q : Rational) (at fault : ℕ) (places : List ℕ)
      → Err fault ≡ tree at places → Err fault ≡ split_from tree key q at places
  split_first key q at fault places e =
      ap (λ read. behind read λ below next. behind (tree next below.places) λ middle last.
      behind (tree last middle.places) λ above rest.
      Ok (read_to (placed (cert.Split key q below.tree middle.tree above.tree) above.places) rest)) e

  pub split_second : (key : Key) (q : Rational) (at next fault : ℕ) (places one : List ℕ) (below : Cert)
      → Ok (read_to (placed below one) next) ≡ tree at places → Err fault ≡ tree next one
      → Err fault ≡ split_from tree key q at places
  split_second key q at next fault places one below e f =
      ap (λ read. behind read λ middle last. behind (tree last middle.places) λ above rest.
      Ok (read_to (placed (cert.Split key q below middle.tree above.tree) above.places) rest)) f
      ∙ ap (λ read. behind read λ below next. behind (tree next below.places) λ middle last.
      behind (tree last middle.places) λ above rest.
      Ok (read_to (placed (cert.Split key q below.tree middle.tree above.tree) above.places) rest)) e

  pub split_third : (key : Key) (q : Rational) (at next last fault : ℕ) (places one two : List ℕ)
      (below middle : Cert) → Ok (read_to (placed below one) next) ≡ tree at places
      → Ok (read_to (placed middle two) last) ≡ tree next one → Err fault ≡ tree last two
      → Err fault ≡ split_from tree key q at places
  split_third key q at next last fault places one two below middle e f g =
      ap (λ read. behind read λ above rest.
      Ok (read_to (placed (cert.Split key q below middle above.tree) above.places) rest)) g
      ∙ ap (λ read. behind read λ middle last. behind (tree last middle.places) λ above rest.
      Ok (read_to (placed (cert.Split key q below middle.tree above.tree) above.places) rest)) f
      ∙ ap (λ read. behind read λ below next. behind (tree next below.places) λ middle last.
      behind (tree last middle.places) λ above rest.
      Ok (read_to (placed (cert.Split key q below.tree middle.tree above.tree) above.places) rest)) e

  pub split_all : (key : Key) (q : Rational) (at next last rest : ℕ) (places one two three : List ℕ)
      (below middle above : Cert) → Ok (read_to (placed below one) next) ≡ tree at places
      → Ok (read_to (placed middle two) last) ≡ tree next one
      → Ok (read_to (placed above three) rest) ≡ tree last two
      → Ok (read_to (placed (cert.Split key q below middle above) three) rest)
      ≡ split_from tree key q at places
  split_all key q at next last rest places one two three below middle above e f g =
      ap (λ read. behind read λ above rest.
      Ok (read_to (placed (cert.Split key q below middle above.tree) above.places) rest)) g
      ∙ ap (λ read. behind read λ middle last. behind (tree last middle.places) λ above rest.
      Ok (read_to (placed (cert.Split key q below middle.tree above.tree) above.places) rest)) f
      ∙ ap (λ read. behind read λ below next. behind (tree next below.places) λ middle last.
      behind (tree last middle.places) λ above rest.
      Ok (read_to (placed (cert.Split key q below.tree middle.tree above.tree) above.places) rest)) e

  -- a split at a moment
  pub before_first : (moment : ℤ) (at fault : ℕ) (places : List ℕ)
      → Err fault ≡ tree at places → Err fault ≡ before_from tree moment at places
  before_first moment at fault places e =
      ap (λ read. behind read λ before next. behind (tree next before.places) λ later rest.
      Ok (read_to (placed (cert.Before moment before.tree later.tree) later.places) rest)) e

  pub before_second : (moment : ℤ) (at next fault : ℕ) (places one : List ℕ) (before : Cert)
      → Ok (read_to (placed before one) next) ≡ tree at places → Err fault ≡ tree next one
      → Err fault ≡ before_from tree moment at places
  before_second moment at next fault places one before e f =
      ap (λ read. behind read λ later rest.
      Ok (read_to (placed (cert.Before moment before later.tree) later.places) rest)) f
      ∙ ap (λ read. behind read λ before next. behind (tree next before.places) λ later rest.
      Ok (read_to (placed (cert.Before moment before.tree later.tree) later.places) rest)) e

  pub before_all : (moment : ℤ) (at next rest : ℕ) (places one two : List ℕ) (before later : Cert)
      → Ok (read_to (placed before one) next) ≡ tree at places
      → Ok (read_to (placed later two) rest) ≡ tree next one
      → Ok (read_to (placed (cert.Before moment before later) two) rest)
      ≡ before_from tree moment at places
  before_all moment at next rest places one two before later e f =
      ap (λ read. behind read λ later rest.
      Ok (read_to (placed (cert.Before moment before later.tree) later.places) rest)) f
      ∙ ap (λ read. behind read λ before next. behind (tree next before.places) λ later rest.
      Ok (read_to (placed (cert.Before moment before.tree later.tree) later.places) rest)) e
