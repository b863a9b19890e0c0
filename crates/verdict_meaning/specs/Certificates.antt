-- Which certificates are accepted.
use Rattle.std.specs.Prelude.{◌≡◌, ℕ, suc, ◌+◌, Bool, true, false, not, ◌&&◌, ◌||◌, if◌then◌else◌}
use Rattle.std.specs.Prelude.{nat_lt, Option, Some, None, Result, Ok, Err, List, [], ◌∷◌, ◌++◌}
use Rattle.std.specs.Prelude.{length, ℤ, pos, ◌-ℤ◌, int_le}
use Rattle.std.specs.List.{list_all}
use Rattle.exact_fraction.specs.Number.{Rational}
use Rattle.exact_fraction.specs.Order.{less}
use Rattle.interval_sets.specs.declared.interval.Bound.{Bound}
use Rattle.interval_sets.specs.declared.interval.Bound.TheVariants as end
use Rattle.interval_sets.specs.declared.interval.Interval.{Interval}
use Rattle.interval_sets.specs.Intervals.{has_member, lies_in, point_of}
use Rattle.rule_types.specs.declared.key.Key.{Key}
use Rattle.rule_types.specs.declared.rules.Rules.{Rules}
use Rattle.rule_types.specs.declared.state.State.{State}
use Rattle.rule_types.specs.Tables.{TableSet}
use Rattle.rule_meaning.specs.CheckedSteps.{◌>>=◌}
use Rattle.verdict_meaning.specs.declared.cell.Cell.{Cell}
use Rattle.verdict_meaning.specs.declared.cert.Cert.{Cert}
use Rattle.verdict_meaning.specs.declared.cert.Cert.TheOpen.{Cert-F}
use Rattle.verdict_meaning.specs.declared.cert.Cert.TheFolds.{fold-Cert}
use Rattle.verdict_meaning.specs.declared.cert.CertCause.{CertCause}
use Rattle.verdict_meaning.specs.declared.cert.CertCause.TheVariants as cause
use Rattle.verdict_meaning.specs.declared.cert.Reason.{Reason}
use Rattle.verdict_meaning.specs.declared.cert.Reason.TheVariants.{Whole, Facts}
use Rattle.verdict_meaning.specs.declared.question.Question.{Question}
use Rattle.verdict_meaning.specs.declared.ranges.Ranges.{Ranges}
use Rattle.verdict_meaning.specs.declared.truth.Truth.{Truth}
use Rattle.verdict_meaning.specs.declared.truth.Truth.TheVariants.{Yes, No, Open}
use Rattle.verdict_meaning.specs.Boxes.{first_box, IsStateIn}
use Rattle.verdict_meaning.specs.Premises.{rule_truth}
use Rattle.verdict_meaning.specs.Questions.{is_asked}
use Rattle.verdict_meaning.specs.Reaches.{piece_in, same_key}
use Rattle.verdict_meaning.specs.Shown.{is_no, is_yes, shown, shown_by}

-- ---- the parts of a box; an empty part is None

-- whether an interval is more than a point
abbrev pub are_apart : Bound → Bound → Bool
are_apart (end.Bound p m) (end.Bound q n) = less p q
are_apart (end.Bound p m) end.NoBound = true
are_apart end.NoBound high = true

abbrev pub is_wide : Interval → Bool
is_wide piece = are_apart piece.low piece.high

-- whether a number lies between the ends or is one of them
abbrev pub is_not_below : Bound → Rational → Bool
is_not_below end.NoBound q = true
is_not_below (end.Bound p m) q = not (less q p)

abbrev pub is_not_above : Bound → Rational → Bool
is_not_above end.NoBound q = true
is_not_above (end.Bound p m) q = not (less p q)

unfoldable pub can_split : Interval → Rational → Bool
can_split piece q =
    is_wide piece && (is_not_below piece.low q && is_not_above piece.high q)

-- the keys with another interval of a key
unfoldable pub with_piece : Key → Interval → List (Key × Interval) → List (Key × Interval)
with_piece key piece [] = []
with_piece key piece (entry ∷ more) =
    if same_key key entry.0 then (entry.0, piece) ∷ more else entry ∷ with_piece key piece more

-- the part of a box in which a key has this interval
unfoldable pub part_with : Key → Interval → Cell → Option Cell
part_with key piece cell =
    if has_member piece.low piece.high
    then Some (record { keys = with_piece key piece cell.keys; moments = cell.moments })
    else None

-- the parts below, at and above a number on a key
abbrev pub below_of : Interval → Rational → Interval
below_of piece q = record { low = piece.low; high = end.Bound q true }

abbrev pub above_of : Interval → Rational → Interval
above_of piece q = record { low = end.Bound q true; high = piece.high }

unfoldable pub part_at : Key → Interval → Rational → Cell → Option Cell
part_at key piece q cell = if lies_in piece q then part_with key (point_of q) cell else None

-- the part of a box from a moment to another
unfoldable pub part_through : ℤ → ℤ → Cell → Option Cell
part_through first last cell =
    if int_le first last
    then Some (record { keys = cell.keys; moments = Some (first, last) })
    else None

-- ---- nodes

-- what is wrong at which node, by its place in the order of lines from 0
pub record NodeFault : Type 0 where
  pub place : ℕ
  pub cause : CertCause

-- A tree is judged at a depth, in a box or in an empty part, and from a place on. It gives the
-- place of the node after it, or the first fault.
abbrev pub Judged : Type 0
Judged = ℕ → Option Cell → ℕ → Result ℕ NodeFault

-- what a leaf of a reason gives in a box: nothing where it is accepted
abbrev pub Judge : Type 0
Judge = Cell → Reason → Option CertCause

abbrev pub shape_at : ℕ → Result ℕ NodeFault
shape_at place = Err (record { place = place; cause = cause.Shape })

abbrev pub leaf_end : Option CertCause → ℕ → Result ℕ NodeFault
leaf_end None place = Ok (place + 1)
leaf_end (Some why) place = Err (record { place = place; cause = why })

-- a reason that the leaf of an empty part can have: it is without facts
abbrev pub is_plain : Reason → Bool
is_plain Whole = true
is_plain (Facts []) = true
is_plain (Facts (fact ∷ more)) = false

abbrev pub leaf_judged : Judge → Reason → Option Cell → ℕ → Result ℕ NodeFault
leaf_judged judge reason None place = if is_plain reason then Ok (place + 1) else shape_at place
leaf_judged judge reason (Some cell) place = leaf_end (judge cell reason) place

-- three trees and two trees, each from the place where the one before it ends
abbrev pub three_judged : Judged → Judged → Judged → ℕ → Option Cell → Option Cell → Option Cell → ℕ
    → Result ℕ NodeFault
three_judged below at above depth first second third place =
    below depth first place >>= λ next. at depth second next >>= λ last. above depth third last

abbrev pub two_judged : Judged → Judged → ℕ → Option Cell → Option Cell → ℕ → Result ℕ NodeFault
two_judged before from depth first second place =
    before depth first place >>= λ next. from depth second next

-- a split of a box at a number on a key that has this interval, and at a moment
abbrev pub split_in : Key → Rational → Judged → Judged → Judged → ℕ → Cell → ℕ → Option Interval
    → Result ℕ NodeFault
split_in key q below at above depth cell place None = shape_at place
split_in key q below at above depth cell place (Some piece) =
    if can_split piece q
    then three_judged below at above (depth + 1) (part_with key (below_of piece q) cell)
    (part_at key piece q cell) (part_with key (above_of piece q) cell) (place + 1)
    else shape_at place

abbrev pub before_in : ℤ → Judged → Judged → ℕ → Cell → ℕ → Option (ℤ × ℤ) → Result ℕ NodeFault
before_in m before from depth cell place None = shape_at place
before_in m before from depth cell place (Some span) =
    if int_le span.0 m && int_le m span.1
    then two_judged before from (depth + 1) (part_through span.0 (m -ℤ pos 1) cell)
    (part_through m span.1 cell) (place + 1)
    else shape_at place

abbrev pub split_judged : Key → Rational → Judged → Judged → Judged → ℕ → Option Cell → ℕ
    → Result ℕ NodeFault
split_judged key q below at above depth None place = shape_at place
split_judged key q below at above depth (Some cell) place =
    split_in key q below at above depth cell place (piece_in key cell.keys)

abbrev pub before_judged : ℤ → Judged → Judged → ℕ → Option Cell → ℕ → Result ℕ NodeFault
before_judged m before from depth None place = shape_at place
before_judged m before from depth (Some cell) place =
    before_in m before from depth cell place cell.moments

-- one node, with what its trees give
unfoldable pub node_judged : Judge → Cert-F Judged → Judged
node_judged judge (Cert-F.Leaf reason) depth cell place =
    if nat_lt 1024 depth then shape_at place else leaf_judged judge reason cell place
node_judged judge (Cert-F.Split key q below at above) depth cell place =
    if nat_lt 1024 depth
    then shape_at place
    else split_judged key q below at above depth cell place
node_judged judge (Cert-F.Before m before from) depth cell place =
    if nat_lt 1024 depth then shape_at place else before_judged m before from depth cell place

-- a certificate: the first node in the order of lines that is not well formed or not accepted, or
-- the number of nodes
unfoldable pub cert_judged : Judge → Cert → Judged
cert_judged judge = fold-Cert Judged (node_judged judge)

-- a judge that accepts no reason in a box in which a state is
pub record RefusesState (x : Rules) (s : State) (judge : Judge) : Type 0 where
  pub each : (cell : Cell) (reason : Reason) → judge cell reason ≡ None → IsStateIn x cell s → ⊥

-- ---- leaves

-- whether facts are on rules of the question, strictly rising by number
abbrev pub is_before_facts : ℕ → List (ℕ × Bool) → Bool
is_before_facts number [] = true
is_before_facts number (fact ∷ more) = nat_lt number fact.0

unfoldable pub facts_fit : Rules → Question → List (ℕ × Bool) → Bool
facts_fit x question [] = true
facts_fit x question (fact ∷ more) =
    (nat_lt fact.0 (length x.rules) && is_asked x question fact.0)
    && is_before_facts fact.0 more && facts_fit x question more

-- whether each fact is what is known of that premise in the box
abbrev pub is_fact : Bool → Truth → Bool
is_fact true truth = is_yes truth
is_fact false truth = is_no truth

unfoldable pub facts_hold : Rules → Cell → List (ℕ × Bool) → Bool
facts_hold x cell facts = list_all (λ fact. is_fact fact.1 (rule_truth x cell fact.0)) facts

-- a leaf is accepted where its box is shown, and with facts where these are what is known in the
-- box and show it alone
unfoldable pub leaf_cause : Rules → TableSet → Question → Judge
leaf_cause x tables question cell Whole =
    if shown x tables question cell then None else Some cause.NotShown
leaf_cause x tables question cell (Facts facts) =
    if facts_fit x question facts
    then (
    if facts_hold x cell facts && shown_by x tables question cell facts
    then None
    else Some cause.NotShown)
    else Some cause.Shape

-- ---- certificates of questions over ranges

-- what a certificate gives for a question over ranges: the root has depth 1, the first box is the
-- ranges
unfoldable pub checked_cert : Rules → TableSet → Ranges → Question → Cert → Result ℕ NodeFault
checked_cert x tables ranges question cert =
    cert_judged (leaf_cause x tables question) cert 1 (Some (first_box x question ranges)) 0

-- whether it is accepted
abbrev pub is_end : Result ℕ NodeFault → Bool
is_end (Ok nodes) = true
is_end (Err fault) = false

abbrev pub is_accepted : Rules → TableSet → Ranges → Question → Cert → Bool
is_accepted x tables ranges question cert = is_end (checked_cert x tables ranges question cert)
