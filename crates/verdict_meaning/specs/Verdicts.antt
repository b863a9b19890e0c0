-- Which verdicts are right.
use Rattle.std.specs.Prelude.{◌≡◌, ℕ, ◌-◌, ◌^◌, ◌≤◌, ◌<◌, Bool, true, false, not, ◌&&◌, ◌||◌, ◌==◌}
use Rattle.std.specs.Prelude.{nat_lt, if◌then◌else◌, Option, Some, None, List, [], ◌∷◌, ◌++◌}
use Rattle.std.specs.Prelude.{filter_map, filter, ℤ, pos, ◌-ℤ◌}
use Rattle.std.specs.List.{find, list_all}
use Rattle.exact_fraction.specs.Number.{Rational}
use Rattle.interval_sets.specs.declared.interval.Interval.{Interval}
use Rattle.rule_types.specs.declared.action.Action.{Action}
use Rattle.rule_types.specs.declared.action.What.{What}
use Rattle.rule_types.specs.declared.action.What.TheVariants.{Constant, Curve, Series, Pid}
use Rattle.rule_types.specs.declared.condition.Condition.{Condition}
use Rattle.rule_types.specs.declared.condition.Right.{Right}
use Rattle.rule_types.specs.declared.condition.Right.TheVariants as right
use Rattle.rule_types.specs.declared.condition.Side.{Side}
use Rattle.rule_types.specs.declared.condition.Side.TheVariants as side
use Rattle.rule_types.specs.declared.key.Key.{Key}
use Rattle.rule_types.specs.declared.names.NameDef.{NameDef}
use Rattle.rule_types.specs.declared.rule.Rule.{Rule}
use Rattle.rule_types.specs.declared.rules.Rules.{Rules}
use Rattle.rule_types.specs.declared.state.State.{State}
use Rattle.rule_types.specs.Reading.{rule_actions}
use Rattle.rule_types.specs.Tables.{TableSet}
use Rattle.moment_pieces.specs.Sides.{side_of}
use Rattle.verdict_meaning.specs.declared.cell.Cell.{Cell}
use Rattle.verdict_meaning.specs.declared.cert.Cert.{Cert}
use Rattle.verdict_meaning.specs.declared.cert.Cert.TheOpen.{Cert-F}
use Rattle.verdict_meaning.specs.declared.cert.Cert.TheFolds.{fold-Cert}
use Rattle.verdict_meaning.specs.declared.cert.Reason.{Reason}
use Rattle.verdict_meaning.specs.declared.cert.Reason.TheVariants.{Whole, Facts}
use Rattle.verdict_meaning.specs.declared.question.Question.{Question}
use Rattle.verdict_meaning.specs.declared.question.Question.TheVariants.{Conflict, Dead, Limit}
use Rattle.verdict_meaning.specs.declared.ranges.Ranges.{Ranges}
use Rattle.verdict_meaning.specs.declared.verdict.Stuck.{Stuck}
use Rattle.verdict_meaning.specs.declared.verdict.Stuck.TheVariants as stuck
use Rattle.verdict_meaning.specs.declared.verdict.Verdict.{Verdict}
use Rattle.verdict_meaning.specs.declared.verdict.Verdict.TheVariants as verdict
use Rattle.verdict_meaning.specs.Boxes.{first_box}
use Rattle.verdict_meaning.specs.Certificates.{below_of, above_of, is_accepted, leaf_cause, part_at}
use Rattle.verdict_meaning.specs.Certificates.{part_through, part_with}
use Rattle.verdict_meaning.specs.Events.{has_event}
use Rattle.verdict_meaning.specs.Grids.{cell_count, grid_cells, sample_memory, sample_of}
use Rattle.verdict_meaning.specs.Questions.{asked_rules}
use Rattle.verdict_meaning.specs.Reaches.{piece_in}
use Rattle.verdict_meaning.specs.Shown.{shown}

-- ---- certificates without a spare fact or split

-- whether a leaf with these facts is accepted in a box
abbrev pub is_no_cause : {A : Type 0} → Option A → Bool
is_no_cause None = true
is_no_cause (Some why) = false

abbrev pub is_leaf : Rules → TableSet → Question → Cell → List (ℕ × Bool) → Bool
is_leaf x tables question cell facts =
    is_no_cause (leaf_cause x tables question cell (Facts facts))

-- whether no fact can be left out, where those before are passed
unfoldable pub none_spare : (List (ℕ × Bool) → Bool) → List (ℕ × Bool) → List (ℕ × Bool) → Bool
none_spare accepts before [] = true
none_spare accepts before (fact ∷ more) =
    not (accepts (before ++ more)) && none_spare accepts (before ++ (fact ∷ [])) more

-- A tree in a box or in an empty part. Each leaf is of facts, of which none can be left out, and no
-- box that is split is shown.
abbrev pub Lean : Type 0
Lean = Option Cell → Bool

abbrev pub lean_leaf : Rules → TableSet → Question → Reason → Option Cell → Bool
lean_leaf x tables question Whole cell = false
lean_leaf x tables question (Facts facts) None = true
lean_leaf x tables question (Facts facts) (Some cell) =
    none_spare (is_leaf x tables question cell) [] facts

abbrev pub lean_split : Key → Rational → Lean → Lean → Lean → Cell → Option Interval → Bool
lean_split key q below at above cell None = false
lean_split key q below at above cell (Some piece) =
    below (part_with key (below_of piece q) cell) && at (part_at key piece q cell)
    && above (part_with key (above_of piece q) cell)

abbrev pub lean_before : ℤ → Lean → Lean → Cell → Option (ℤ × ℤ) → Bool
lean_before m before from cell None = false
lean_before m before from cell (Some span) =
    before (part_through span.0 (m -ℤ pos 1) cell) && from (part_through m span.1 cell)

unfoldable pub lean_node : Rules → TableSet → Question → Cert-F Lean → Lean
lean_node x tables question (Cert-F.Leaf reason) cell = lean_leaf x tables question reason cell
lean_node x tables question (Cert-F.Split key q below at above) None = false
lean_node x tables question (Cert-F.Split key q below at above) (Some cell) =
    not (shown x tables question cell)
    && lean_split key q below at above cell (piece_in key cell.keys)
lean_node x tables question (Cert-F.Before m before from) None = false
lean_node x tables question (Cert-F.Before m before from) (Some cell) =
    not (shown x tables question cell) && lean_before m before from cell cell.moments

unfoldable pub is_lean : Rules → TableSet → Ranges → Question → Cert → Bool
is_lean x tables ranges question cert =
    fold-Cert Lean (lean_node x tables question) cert (Some (first_box x question ranges))

-- ---- verdicts

-- the greatest number of cells
abbrev pub most_cells : ℕ
most_cells = 1048576

-- the samples of the grid, in the order of cells, and the first one with the event
abbrev pub samples : Rules → Question → Ranges → List State
samples x question ranges = filter_map (sample_of x) (grid_cells x question ranges)

unfoldable pub first_event : Rules → TableSet → Ranges → Question → Option State
first_event x tables ranges question =
    find (λ s. has_event x tables sample_memory s question) (samples x question ranges)

-- the first cell that is not shown
unfoldable pub first_open : Rules → TableSet → Ranges → Question → Option Cell
first_open x tables ranges question =
    find (λ cell. not (shown x tables question cell)) (grid_cells x question ranges)

-- a count as a program writes it: 2^64-1 where it is greater
abbrev pub written_count : ℕ → ℕ
written_count count = if nat_lt (2 ^ 64 - 1) count then 2 ^ 64 - 1 else count

-- Holds: the certificate is accepted and lean, and no sample has the event
pub record IsProof (x : Rules) (tables : TableSet) (ranges : Ranges) (question : Question)
    (cert : Cert) : Type 0 where
  pub few : cell_count x question ranges ≤ most_cells
  pub accepted : is_accepted x tables ranges question cert ≡ true
  pub lean : is_lean x tables ranges question cert ≡ true
  pub none : first_event x tables ranges question ≡ None

-- Refuted: the state is the first sample with the event
pub record IsRefutation (x : Rules) (tables : TableSet) (ranges : Ranges) (question : Question)
    (s : State) : Type 0 where
  pub few : cell_count x question ranges ≤ most_cells
  pub first : first_event x tables ranges question ≡ Some s

-- Cell: no sample has the event, and the cell is the first that is not shown
pub record IsOpenCell (x : Rules) (tables : TableSet) (ranges : Ranges) (question : Question)
    (cell : Cell) : Type 0 where
  pub few : cell_count x question ranges ≤ most_cells
  pub none : first_event x tables ranges question ≡ None
  pub first : first_open x tables ranges question ≡ Some cell

-- TooManyCells: there are too many, and this is their count
pub record AreTooMany (x : Rules) (ranges : Ranges) (question : Question) (count : ℕ) :
    Type 0 where
  pub many : most_cells < cell_count x question ranges
  pub count_is : count ≡ written_count (cell_count x question ranges)

abbrev pub IsStuck : Rules → TableSet → Ranges → Question → Stuck → Type 0
IsStuck x tables ranges question (stuck.Cell cell) = IsOpenCell x tables ranges question cell
IsStuck x tables ranges question (stuck.TooManyCells count) = AreTooMany x ranges question count

abbrev pub IsVerdict : Rules → TableSet → Ranges → Question → Verdict → Type 0
IsVerdict x tables ranges question (verdict.Holds cert) = IsProof x tables ranges question cert
IsVerdict x tables ranges question (verdict.Refuted s) = IsRefutation x tables ranges question s
IsVerdict x tables ranges question (verdict.Undecided why) = IsStuck x tables ranges question why

-- ---- plain questions

-- whether a condition compares a key with a number
abbrev pub compares_key : Side → Right → Bool
compares_key (side.Key key) (right.Value q) = true
compares_key (side.Key key) (right.Key other) = false
compares_key (side.Expr name) right = false

abbrev pub is_number : What → Bool
is_number (Constant q) = true
is_number (Curve curve) = false
is_number (Series series) = false
is_number (Pid set number) = false

-- whether the actions of rules on a limit's link are numbers
abbrev pub orders_numbers : ℕ → List Rule → Bool
orders_numbers link rules =
    list_all
    (λ rule.
    list_all (λ action. is_number action.what)
    (filter (λ action. action.link == link) (rule_actions rule)))
    rules

abbrev pub has_plain_actions : Question → List Rule → Bool
has_plain_actions (Conflict first second link) rules = true
has_plain_actions (Dead number) rules = true
has_plain_actions (Limit link lo hi) rules = orders_numbers link rules

-- whether a question is plain: each condition of its rules compares a key with a number and, for a
-- limit, each action of these rules on the link is a number
unfoldable pub is_plain_question : Rules → Question → Bool
is_plain_question x question =
    list_all
    (λ rule. list_all (λ c. compares_key (side_of x.names c.left) c.right) rule.conditions)
    (asked_rules x question)
    && has_plain_actions question (asked_rules x question)
