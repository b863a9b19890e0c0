-- Each condition of a rule of a plain question is decided at a cell.
use Rattle.std.proofs.Common.{◌≡◌, Bool, true, false, inl, inr, List}
use Rattle.std.proofs.Common.{cond, refl, sym, subst, ap, ◌∙◌, ℤ}
use Rattle.std.proofs.lemmas.Bool.{true≢false}
use Rattle.std.specs.List.{flat_map}
use Rattle.exact_fraction.specs.Number.{Rational}
use Rattle.interval_sets.specs.Intervals.{point_of}
use Rattle.rule_types.specs.declared.condition.Condition.{Condition}
use Rattle.rule_types.specs.declared.condition.Right.{Right}
use Rattle.rule_types.specs.declared.condition.Right.TheVariants as right
use Rattle.rule_types.specs.declared.condition.Side.{Side}
use Rattle.rule_types.specs.declared.condition.Side.TheVariants as side
use Rattle.rule_types.specs.declared.key.Key.{Key}
use Rattle.rule_types.specs.declared.key.Key.TheVariants.{Object, Clock}
use Rattle.rule_types.specs.declared.names.NameDef.{NameDef}
use Rattle.rule_types.specs.declared.rule.Rule.{Rule}
use Rattle.rule_types.specs.declared.rules.Rules.{Rules}
use Rattle.rule_types.specs.WellFormed.{ConditionFits}
use Rattle.rule_meaning.specs.Condition.{hours_of_step, second_truth}
use Rattle.moment_pieces.specs.Sides.{side_of}
use Rattle.verdict_meaning.specs.declared.cell.Cell.{Cell}
use Rattle.verdict_meaning.specs.declared.question.Question.{Question}
use Rattle.verdict_meaning.specs.declared.ranges.Ranges.{Ranges}
use Rattle.verdict_meaning.specs.declared.truth.Reach.TheVariants.{Within}
use Rattle.verdict_meaning.specs.Boxes.{first_box}
use Rattle.verdict_meaning.specs.Grids.{condition_cuts, limit_cuts, number_cuts, side_cuts}
use Rattle.verdict_meaning.specs.Premises.{start_of}
use Rattle.verdict_meaning.specs.Questions.{asked_rules}
use Rattle.verdict_meaning.specs.Reaches.{key_reach, kind_reach, left_reach, named_reach}
use Rattle.verdict_meaning.specs.Reaches.{right_reach}
use Rattle.verdict_meaning.specs.Reaches.{same_key}
use Rattle.verdict_meaning.specs.Truths.{by_moments, condition_truth, on_clock, reach_truth}
use Rattle.verdict_meaning.specs.Truths.{sides_truth}
use Rattle.verdict_meaning.specs.Verdicts.{compares_key}
use Rattle.cell_truths.specs.DecidedTruths.{GivesMoments}
use Rattle.cell_truths.proofs.CellPieces.{key_numbers, rule_cuts}
use Rattle.cell_truths.proofs.GridCells.{cell_piece, cell_run, IsKnownCell}
use Rattle.cell_truths.proofs.GridKeys.{clock_read, IsKeySide, key_in_grid, key_read, key_side}
use Rattle.cell_truths.proofs.GridKeys.{same_itself}
use Rattle.cell_truths.proofs.KeyTruths.{IsReadAt, object_decided}
use Rattle.cell_truths.proofs.Lists.{Among, among_back, among_flat}
use Rattle.cell_truths.proofs.PieceTruths.{IsDecided}
use Rattle.cell_truths.proofs.RunTruths.{clock_decided}

-- ---- a left side is worth what its key is
variable_left : (names : List NameDef) (start : ℤ) (cell : Cell) (left : Side) (key : Key)
    → IsKeySide names left key → left_reach names start cell left ≡ key_reach start cell key
unfolding left_reach named_reach kind_reach
variable_left names start cell left key (inl is) = ap (left_reach names start cell) is
variable_left names start cell left key (inr is) =
    ap (left_reach names start cell) is.left_is
    ∙ ap (named_reach names start cell) is.found
    ∙ ap (kind_reach names start cell) is.variable

-- ---- the numbers of a condition cut its key
own_cuts : (key : Key) (half_step : Bool) (step q n : Rational) (b : Bool) → b ≡ true
    → (others : List Rational) → Among (number_cuts half_step step q) n
    → Among (cond b (number_cuts half_step step q) others) n
own_cuts key half_step step q n true e others at = at
own_cuts key half_step step q n false e others at = absurd (true≢false (sym e))

condition_cut : (x : Rules) (c : Condition) (key : Key) (q n : Rational)
    → side_of x.names c.left ≡ side.Key key → c.right ≡ right.Value q
    → Among (number_cuts c.half_step x.routing_step q) n
    → Among (condition_cuts x.names x.routing_step key c) n
unfolding condition_cuts
condition_cut x c key q n left value at =
    subst (λ one. Among (side_cuts key c.half_step x.routing_step one c.right) n) (sym left)
    (subst (λ one. Among (side_cuts key c.half_step x.routing_step (side.Key key) one) n)
    (sym value)
    (own_cuts key c.half_step x.routing_step q n (same_key key key) (same_itself key) _ at))

rule_cut : (x : Rules) (question : Question) (rule : Rule) (c : Condition) (key : Key)
    (n : Rational) → Among (asked_rules x question) rule → Among rule.conditions c
    → Among (condition_cuts x.names x.routing_step key c) n
    → Among (key_numbers x question key) n
rule_cut x question rule c key n at own cut =
    among_back (limit_cuts key question) (rule_cuts x question key) n
    (among_flat (λ one. flat_map (condition_cuts x.names x.routing_step key) one.conditions)
    (asked_rules x question) rule n at
    (among_flat (condition_cuts x.names x.routing_step key) rule.conditions c n own cut))

read_at : (x : Rules) (question : Question) (box cell : Cell) (rule : Rule) (c : Condition)
    (key : Key) (q : Rational) → IsKnownCell x question box cell → ConditionFits x.names c
    → Among (asked_rules x question) rule → Among rule.conditions c
    → side_of x.names c.left ≡ side.Key key → c.right ≡ right.Value q
    → IsReadAt x question cell c key q
read_at x question box cell rule c key q known fits at own left value = record {
  pieces = λ other in_grid.
      cell_piece x question box cell other known
      (key_in_grid x question key other (key_read x question rule c key at own left) in_grid);
  cuts = λ n cut.
      rule_cut x question rule c key n at own (condition_cut x c key q n left value cut);
  equality = λ half. (fits.half_step half).equality;
}

-- ---- conditions
sides_decided : (x : Rules) (question : Question) (cell : Cell) (c : Condition) (key : Key)
    (q : Rational) → side_of x.names c.left ≡ side.Key key → c.right ≡ right.Value q
    → IsDecided
    (reach_truth c (hours_of_step x.routing_step) (key_reach (start_of x) cell key)
    (Within true (point_of q)))
    → IsDecided (sides_truth x.names (start_of x) x.routing_step cell c)
unfolding sides_truth right_reach
sides_decided x question cell c key q left value h =
    let same =
    variable_left x.names (start_of x) cell c.left key (key_side x.names c.left key left) in
    subst
    (λ one.
    IsDecided
    (reach_truth c (hours_of_step x.routing_step) one (right_reach (start_of x) cell c.right)))
    (sym same)
    (subst
    (λ one.
    IsDecided
    (reach_truth c (hours_of_step x.routing_step) (key_reach (start_of x) cell key)
    (right_reach (start_of x) cell one)))
    (sym value) h)

abbrev IsDecidedAt : Rules → Cell → Condition → Side → Right → Type 0
IsDecidedAt x cell c left other =
    IsDecided
    (on_clock left other
    (λ attribute q.
    by_moments cell.moments (second_truth c x.routing_step attribute q (start_of x))
    (sides_truth x.names (start_of x) x.routing_step cell c))
    (sides_truth x.names (start_of x) x.routing_step cell c))

-- a condition of a rule of a question, at a cell of the question's grid
pub record IsConditionAt (x : Rules) (question : Question) (ranges : Ranges) (cell : Cell)
    (c : Condition) : Type 0 where
  pub rule : Rule
  pub gives : GivesMoments x question ranges
  pub known : IsKnownCell x question (first_box x question ranges) cell
  pub fits : ConditionFits x.names c
  pub asked : Among (asked_rules x question) rule
  pub own : Among rule.conditions c

decided_by : (x : Rules) (question : Question) (ranges : Ranges) (cell : Cell) (c : Condition)
    → IsConditionAt x question ranges cell c → (left : Side) (other : Right)
    → side_of x.names c.left ≡ left → c.right ≡ other
    → compares_key left other ≡ true → IsDecidedAt x cell c left other
decided_by x question ranges cell c h (side.Key (Object object attribute)) (right.Value q) e f
    plain =
    sides_decided x question cell c (Object object attribute) q e f
    (object_decided x question (start_of x) cell c object attribute q
    (read_at x question (first_box x question ranges) cell h.rule c (Object object attribute) q
    h.known h.fits h.asked h.own e f))
decided_by x question ranges cell c h (side.Key (Clock attribute)) (right.Value q) e f plain =
    let run =
    cell_run x question ranges cell h.gives h.known
    (clock_read x question (Clock attribute)
    (key_read x question h.rule c (Clock attribute) h.asked h.own e) refl) in
    subst
    (λ o.
    IsDecided
    (by_moments o (second_truth c x.routing_step attribute q (start_of x))
    (sides_truth x.names (start_of x) x.routing_step cell c)))
    (sym run.is)
    (clock_decided x question h.rule c attribute q run.span
    (sides_truth x.names (start_of x) x.routing_step cell c) h.asked h.own e f run.run)
decided_by x question ranges cell c h (side.Key (Object object attribute)) (right.Key key) e f
    plain = absurd (true≢false (sym plain))
decided_by x question ranges cell c h (side.Key (Clock attribute)) (right.Key key) e f plain =
    absurd (true≢false (sym plain))
decided_by x question ranges cell c h (side.Expr name) other e f plain =
    absurd (true≢false (sym plain))

pub condition_decided : (x : Rules) (question : Question) (ranges : Ranges) (cell : Cell)
    (c : Condition) → IsConditionAt x question ranges cell c
    → compares_key (side_of x.names c.left) c.right ≡ true
    → IsDecided (condition_truth x.names (start_of x) x.routing_step cell c)
unfolding condition_truth
condition_decided x question ranges cell c h plain =
    decided_by x question ranges cell c h (side_of x.names c.left) c.right refl refl plain
