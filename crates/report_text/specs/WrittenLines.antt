-- The lines of reports as they are written, one by one.
use Rattle.std.specs.Prelude.{ℕ, ◌+◌, Bool, true, false, List, ◌++◌, codes, ℤ}
use Rattle.std.specs.Fmt.{decimal}
use Rattle.exact_fraction.specs.Number.{Rational}
use Rattle.interval_sets.specs.declared.interval.Bound.{Bound}
use Rattle.interval_sets.specs.declared.interval.Bound.TheVariants as end
use Rattle.interval_sets.specs.declared.interval.Interval.{Interval}
use Rattle.key_words.specs.KeyTexts.{key_text, name_text}
use Rattle.num_text.specs.Values.{written_value}
use Rattle.num_text.specs.Written.{written_moment}
use Rattle.object_index.specs.Objects.{Objects}
use Rattle.rule_types.specs.declared.key.Key.{Key}
use Rattle.rule_types.specs.declared.object.Space.TheVariants.{Links}
use Rattle.verdict_meaning.specs.declared.question.Question.{Question}
use Rattle.verdict_meaning.specs.declared.question.Question.TheVariants.{Conflict, Dead, Limit}

-- a rule by its number from 1
abbrev pub written_rule : ℕ → List ℕ
written_rule place = decimal (place + 1)

-- a link by its name
abbrev pub written_link : Objects → ℕ → List ℕ
written_link objects link = name_text objects (record { space = Links; index = link })

-- ---- questions: `question conflict R S NAME`, `question dead R` and `question limit NAME LO HI`
unfoldable pub written_question : Objects → Question → List ℕ
written_question objects (Conflict first second link) =
    codes "question conflict " ++ written_rule first ++ codes " " ++ written_rule second
    ++ codes " " ++ written_link objects link
written_question objects (Dead rule) = codes "question dead " ++ written_rule rule
written_question objects (Limit link low high) =
    codes "question limit " ++ written_link objects link ++ codes " " ++ written_value low
    ++ codes " " ++ written_value high

-- ---- states: `value KEY VALUE` and `moment M`
unfoldable pub written_key_value : Objects → Key → Rational → List ℕ
written_key_value objects key q =
    codes "value " ++ key_text objects key ++ codes " " ++ written_value q

unfoldable pub written_state_moment : ℤ → List ℕ
written_state_moment moment = codes "moment " ++ written_moment moment

-- ---- pieces: a square bracket where the end is in the piece, a round one where it is left out,
-- and `-inf` or `+inf` where there is none
abbrev pub low_bracket : Bool → List ℕ
low_bracket true = codes "("
low_bracket false = codes "["

abbrev pub high_bracket : Bool → List ℕ
high_bracket true = codes ")"
high_bracket false = codes "]"

abbrev pub written_low : Bound → List ℕ
written_low end.NoBound = codes "(-inf"
written_low (end.Bound q left_out) = low_bracket left_out ++ written_value q

abbrev pub written_high : Bound → List ℕ
written_high end.NoBound = codes "+inf)"
written_high (end.Bound q left_out) = written_value q ++ high_bracket left_out

unfoldable pub written_piece : Interval → List ℕ
written_piece piece = written_low piece.low ++ codes "," ++ written_high piece.high

-- ---- cells: `piece KEY PIECE` and `piece MOMENT FIRST LAST`
unfoldable pub written_key_piece : Objects → Key × Interval → List ℕ
written_key_piece objects entry =
    codes "piece " ++ key_text objects entry.0 ++ codes " " ++ written_piece entry.1

unfoldable pub written_span : ℤ × ℤ → List ℕ
written_span span =
    codes "piece MOMENT " ++ written_moment span.0 ++ codes " " ++ written_moment span.1

-- ---- nodes: `split KEY VALUE` and `split MOMENT moment`
unfoldable pub written_split : Objects → Key → Rational → List ℕ
written_split objects key q =
    codes "split " ++ key_text objects key ++ codes " " ++ written_value q

unfoldable pub written_before : ℤ → List ℕ
written_before moment = codes "split MOMENT " ++ written_moment moment

-- ---- facts: `fact R yes` and `fact R no`
abbrev pub written_holds : Bool → List ℕ
written_holds true = codes " yes"
written_holds false = codes " no"

unfoldable pub written_fact : ℕ × Bool → List ℕ
written_fact fact = codes "fact " ++ written_rule fact.0 ++ written_holds fact.1

-- ---- counts: `undecided count N`
unfoldable pub written_count : ℕ → List ℕ
written_count count = codes "undecided count " ++ decimal count
