-- The questions of a report.
use Rattle.std.specs.Prelude.{ℕ, ◌==◌, ◌&&◌, if◌then◌else◌, List, [], ◌∷◌, codes}
use Rattle.std.specs.Prelude.{Option, None, Some, Result, Ok, Err}
use Rattle.std.specs.Str.{bytes_eq}
use Rattle.exact_fraction.specs.Number.{Rational}
use Rattle.exact_fraction.specs.Order.{less}
use Rattle.key_words.specs.KeyTexts.{name_text}
use Rattle.object_index.specs.Objects.{Objects, resolution}
use Rattle.object_index.specs.declared.unresolved.Unresolved.{Unresolved}
use Rattle.rule_types.specs.declared.object.ObjectNo.{ObjectNo}
use Rattle.rule_types.specs.declared.object.ObjectWord.TheVariants.{Link}
use Rattle.range_lines.specs.Entries.{is_among}
use Rattle.verdict_meaning.specs.declared.question.Question.{Question}
use Rattle.verdict_meaning.specs.declared.question.Question.TheVariants.{Conflict, Dead, Limit}
use Rattle.report_lines.specs.Words.{Word, value_of, rule_place}

-- what reports speak of: the objects of the network, the number of rules, and the links that an
-- action acts on, in link order
pub record Known : Type 0 where
  pub objects : Objects
  pub rules : ℕ
  pub links : List ℕ

-- the link whose name a word is, with the bytes of its declaration, where an action acts on it
abbrev pub link_if : Known → Word → ObjectNo → Option ℕ
link_if known name object =
    if bytes_eq (name_text known.objects object) name && is_among object.index known.links
    then Some object.index else None

abbrev pub link_by : Known → Word → Result ObjectNo Unresolved → Option ℕ
link_by known name (Err fault) = None
link_by known name (Ok object) = link_if known name object

unfoldable pub link_named : Known → Word → Option ℕ
link_named known name = link_by known name (resolution known.objects Link name)

-- `conflict R S NAME`, of two different rules
abbrev pub conflict_of : Option ℕ → Option ℕ → Option ℕ → Option Question
conflict_of None second link = None
conflict_of (Some first) None link = None
conflict_of (Some first) (Some second) None = None
conflict_of (Some first) (Some second) (Some link) =
    if first == second then None else Some (Conflict first second link)

-- `dead R`
abbrev pub dead_of : Option ℕ → Option Question
dead_of None = None
dead_of (Some rule) = Some (Dead rule)

-- `limit NAME LO HI`, where LO is not above HI
abbrev pub limit_of : Option ℕ → Option Rational → Option Rational → Option Question
limit_of None low high = None
limit_of (Some link) None high = None
limit_of (Some link) (Some low) None = None
limit_of (Some link) (Some low) (Some high) =
    if less high low then None else Some (Limit link low high)

abbrev pub question_text : Word
question_text = codes "question"

abbrev pub conflict_text : Word
conflict_text = codes "conflict"

abbrev pub dead_text : Word
dead_text = codes "dead"

abbrev pub limit_text : Word
limit_text = codes "limit"

-- the question of a kind with three words or with one
abbrev pub three_words : Known → Word → Word → Word → Word → Option Question
three_words known kind first second third =
    if bytes_eq kind conflict_text
    then conflict_of (rule_place known.rules first) (rule_place known.rules second)
    (link_named known third)
    else (if bytes_eq kind limit_text
    then limit_of (link_named known first) (value_of second) (value_of third) else None)

abbrev pub one_word : Known → Word → Word → Option Question
one_word known kind rule =
    if bytes_eq kind dead_text then dead_of (rule_place known.rules rule) else None

-- the question that a line of these words asks
unfoldable pub question_by : Known → List Word → Option Question
question_by known (head ∷ kind ∷ rule ∷ []) =
    if bytes_eq head question_text then one_word known kind rule else None
question_by known (head ∷ kind ∷ first ∷ second ∷ third ∷ []) =
    if bytes_eq head question_text then three_words known kind first second third else None
question_by known words = None
