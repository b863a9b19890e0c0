-- What one line of a ranges file states: the range of a key, the first and the last moment, a step,
-- or a question.
use Rattle.std.specs.Prelude.{ℕ, Bool, true, false, ◌==◌, if◌then◌else◌, List, [], ◌∷◌, codes}
use Rattle.std.specs.Prelude.{Option, None, Some, Result, Ok, Err, ℤ, int_lt}
use Rattle.std.specs.List.{list_any}
use Rattle.std.specs.BTreeMap.{is_at}
use Rattle.std.specs.BTreeSet.{insert_key}
use Rattle.std.specs.Ordering.{nat_cmp}
use Rattle.exact_fraction.specs.Number.{Rational, zero}
use Rattle.exact_fraction.specs.Order.{less}
use Rattle.key_words.specs.Words.{is_word, object_word, attribute_named, attribute_of}
use Rattle.num_text.specs.Clocks.{moment_of}
use Rattle.num_text.specs.Numbers.{number_in}
use Rattle.num_text.specs.Steps.{step_of}
use Rattle.object_index.specs.Objects.{Objects, resolution}
use Rattle.object_index.specs.declared.unresolved.Unresolved.{Unresolved}
use Rattle.rule_types.specs.Finding.{Found, Nothing, At, Several, finds}
use Rattle.rule_types.specs.declared.key.Attr.{Attr}
use Rattle.rule_types.specs.declared.key.Attr.TheVariants.{Setting, Status, TimeOpen, TimeClosed}
use Rattle.rule_types.specs.declared.key.Key.{Key}
use Rattle.rule_types.specs.declared.key.Key.TheVariants.{Object}
use Rattle.rule_types.specs.declared.object.ObjectNo.{ObjectNo}
use Rattle.rule_types.specs.declared.object.ObjectWord.{ObjectWord}
use Rattle.rule_types.specs.declared.object.ObjectWord.TheVariants.{Link}
use Rattle.verdict_meaning.specs.declared.question.Question.TheVariants.{Conflict, Dead, Limit}
use Rattle.range_lines.specs.declared.entry.Entry.{Entry}
use Rattle.range_lines.specs.declared.entry.Entry.TheVariants as entry
use Rattle.range_lines.specs.declared.fault.RangeCause.{RangeCause}
use Rattle.range_lines.specs.declared.fault.RangeCause.TheVariants.{BadLine, UnknownKey, EmptyRange}

abbrev pub Item : Type 0
Item = List ℕ

-- what lines speak of: the objects of the network, the ids of the rules in the order of the file,
-- and the links that an action acts on, in link order
pub record Known : Type 0 where
  pub objects : Objects
  pub ids : List (List ℕ)
  pub links : List ℕ

-- ---- what names find
-- the rule that an id finds: the one with the same bytes, and failing that the only one that is
-- equal when the case of ASCII letters is ignored; none where several have the same bytes
abbrev pub place_found : Found → Option ℕ
place_found Nothing = None
place_found (At place) = Some place
place_found Several = None

unfoldable pub rule_found : Known → Item → Option ℕ
rule_found known id = place_found (finds known.ids id)

-- whether a link is one of these
abbrev pub is_among : ℕ → List ℕ → Bool
is_among link links = list_any (is_at (nat_cmp link)) links

-- the link that a name finds, where some action acts on it
abbrev pub link_if_acted : Known → Result ObjectNo Unresolved → Option ℕ
link_if_acted known (Err fault) = None
link_if_acted known (Ok object) =
    if is_among object.index known.links then Some object.index else None

unfoldable pub link_found : Known → Item → Option ℕ
link_found known name = link_if_acted known (resolution known.objects Link name)

-- the attribute, where it has a range: STATUS has none
abbrev pub with_range : Option Attr → Option Attr
with_range None = None
with_range (Some Status) = None
with_range (Some attribute) = Some attribute

-- the key that an object word, a name and an attribute give, where it has a range
abbrev pub key_of : Result ObjectNo Unresolved → Option Attr → Option Key
key_of (Err fault) attribute = None
key_of (Ok object) None = None
key_of (Ok object) (Some attribute) = Some (Object object attribute)

unfoldable pub key_found : Known → ObjectWord → Item → Item → Option Key
key_found known word name attribute =
    key_of (resolution known.objects word name) (with_range (attribute_of word attribute))

-- ---- ends of ranges
-- SETTING, TIMEOPEN and TIMECLOSED are not below 0
abbrev pub is_not_negative : Option Attr → Bool
is_not_negative None = false
is_not_negative (Some Setting) = true
is_not_negative (Some TimeOpen) = true
is_not_negative (Some TimeClosed) = true
is_not_negative (Some attribute) = false

-- two numbers, where both are there
abbrev pub two_ends : Option Rational → Option Rational → Option (Rational × Rational)
two_ends None high = None
two_ends (Some low) None = None
two_ends (Some low) (Some high) = Some (low, high)

-- the lower end of what may not be negative is not below 0
abbrev pub ends_if : Bool → Option (Rational × Rational) → Option (Rational × Rational)
ends_if false ends = ends
ends_if true None = None
ends_if true (Some ends) = if less ends.0 zero then None else Some ends

-- the two ends that items write, where the attribute can have them
unfoldable pub ends_of : Item → Item → Item → Option (Rational × Rational)
ends_of attribute low high =
    ends_if (is_not_negative (attribute_named attribute))
    (two_ends (number_in low) (number_in high))

-- ---- lines, behind their first word
-- `OBJ id attribute LO HI`
abbrev pub range_of : Key → Rational × Rational → Result Entry RangeCause
range_of key ends =
    if less ends.1 ends.0 then Err EmptyRange else Ok (entry.Range key ends.0 ends.1)

abbrev pub range_from : Option (Rational × Rational) → Option Key → Result Entry RangeCause
range_from None key = Err BadLine
range_from (Some ends) None = Err UnknownKey
range_from (Some ends) (Some key) = range_of key ends

unfoldable pub range_by : Known → ObjectWord → List Item → Result Entry RangeCause
range_by known word (name ∷ attribute ∷ low ∷ high ∷ []) =
    range_from (ends_of attribute low high) (key_found known word name attribute)
range_by known word items = Err BadLine

-- `MOMENT from to`
abbrev pub moments_from : Option ℤ → Option ℤ → Result Entry RangeCause
moments_from None last = Err BadLine
moments_from (Some first) None = Err BadLine
moments_from (Some first) (Some last) =
    if int_lt last first then Err EmptyRange else Ok (entry.Moments first last)

unfoldable pub moments_by : List Item → Result Entry RangeCause
moments_by (first ∷ last ∷ []) = moments_from (moment_of first) (moment_of last)
moments_by items = Err BadLine

-- `STEP seconds`
abbrev pub step_from : Option Rational → Result Entry RangeCause
step_from None = Err BadLine
step_from (Some step) = Ok (entry.Step step)

unfoldable pub step_by : List Item → Result Entry RangeCause
step_by (step ∷ []) = step_from (step_of step)
step_by items = Err BadLine

-- `CONFLICT rule rule link`
abbrev pub conflict_on : ℕ → ℕ → Option ℕ → Result Entry RangeCause
conflict_on first second None = Err UnknownKey
conflict_on first second (Some link) = Ok (entry.Asks (Conflict first second link))

abbrev pub conflict_from : Option ℕ → Option ℕ → Option ℕ → Result Entry RangeCause
conflict_from None second link = Err UnknownKey
conflict_from (Some first) None link = Err UnknownKey
conflict_from (Some first) (Some second) link =
    if first == second then Err BadLine else conflict_on first second link

unfoldable pub conflict_by : Known → List Item → Result Entry RangeCause
conflict_by known (first ∷ second ∷ link ∷ []) =
    conflict_from (rule_found known first) (rule_found known second) (link_found known link)
conflict_by known items = Err BadLine

-- `DEAD rule`
abbrev pub dead_from : Option ℕ → Result Entry RangeCause
dead_from None = Err UnknownKey
dead_from (Some rule) = Ok (entry.Asks (Dead rule))

unfoldable pub dead_by : Known → List Item → Result Entry RangeCause
dead_by known (rule ∷ []) = dead_from (rule_found known rule)
dead_by known items = Err BadLine

-- `LIMIT link LO HI`
abbrev pub limit_of : ℕ → Rational × Rational → Result Entry RangeCause
limit_of link ends =
    if less ends.1 ends.0 then Err EmptyRange else Ok (entry.Asks (Limit link ends.0 ends.1))

abbrev pub limit_from : Option (Rational × Rational) → Option ℕ → Result Entry RangeCause
limit_from None link = Err BadLine
limit_from (Some ends) None = Err UnknownKey
limit_from (Some ends) (Some link) = limit_of link ends

unfoldable pub limit_by : Known → List Item → Result Entry RangeCause
limit_by known (link ∷ low ∷ high ∷ []) =
    limit_from (two_ends (number_in low) (number_in high)) (link_found known link)
limit_by known items = Err BadLine

-- ---- lines
abbrev pub moment_text : Item
moment_text = codes "MOMENT"

abbrev pub step_text : Item
step_text = codes "STEP"

abbrev pub conflict_text : Item
conflict_text = codes "CONFLICT"

abbrev pub dead_text : Item
dead_text = codes "DEAD"

abbrev pub limit_text : Item
limit_text = codes "LIMIT"

-- the line that begins with a word that is no object's
unfoldable pub entry_by : Known → Item → List Item → Result Entry RangeCause
entry_by known word later =
    if is_word word moment_text then moments_by later
    else (if is_word word step_text then step_by later
    else (if is_word word conflict_text then conflict_by known later
    else (if is_word word dead_text then dead_by known later
    else (if is_word word limit_text then limit_by known later
    else Err BadLine))))

abbrev pub entry_from : Known → Option ObjectWord → Item → List Item → Result Entry RangeCause
entry_from known (Some object) word later = range_by known object later
entry_from known None word later = entry_by known word later

-- what a line states that begins with a word and has these items behind it, or its first fault
unfoldable pub entry_of : Known → Item → List Item → Result Entry RangeCause
entry_of known word later = entry_from known (object_word word) word later

-- ---- links
-- links in link order, each once
abbrev pub in_link_order : List ℕ → List ℕ → List ℕ
in_link_order found [] = found
in_link_order found (link ∷ more) = in_link_order (insert_key nat_cmp found link) more
