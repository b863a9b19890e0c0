-- Every line of a report is without line feeds and carriage returns, and is not too long.
use Rattle.std.proofs.Common.{◌≡◌, ℕ, ◌+◌, ◌≤◌, ◌==◌, Bool, true, false, not, ◌&&◌, List, [], ◌∷◌, ◌++◌, codes, length, map, Option, Some, None, refl, sym, ap, subst, ◌∙◌, arith, ℤ}
use Rattle.std.specs.Prelude.{decimal, nat_le, nat_lt}
use Rattle.std.specs.List.{flat_map, list_all}
use Rattle.std.proofs.lemmas.Bool.{and_parts}
use Rattle.std.proofs.lemmas.Bool.Decides.{nat_tests}
use Rattle.std.proofs.lemmas.List.Folds.{list_all-append}
use Rattle.exact_fraction.specs.Number.{Rational}
use Rattle.interval_sets.specs.declared.interval.Bound.{Bound}
use Rattle.interval_sets.specs.declared.interval.Bound.TheVariants as end
use Rattle.interval_sets.specs.declared.interval.Interval.{Interval}
use Rattle.key_words.specs.KeyTexts.{key_text, name_text, space_word}
use Rattle.key_words.specs.Words.{object_text, attribute_text, hours_end}
use Rattle.num_text.specs.Values.{written_value}
use Rattle.num_text.specs.Written.{written_moment}
use Rattle.object_index.specs.Objects.{Objects}
use Rattle.rule_meaning.specs.State.{value}
use Rattle.rule_types.specs.declared.key.Attr.{Attr}
use Rattle.rule_types.specs.declared.key.Attr.TheVariants.{Intensity, HourDepth, Depth, MaxDepth, FullDepth, Head, Volume, Inflow, Flow, FullFlow, Velocity, Length, Slope, Setting, Status, TimeOpen, TimeClosed}
use Rattle.rule_types.specs.declared.key.ClockAttr.TheVariants.{Time, Date, Month, Day, ClockTime, DayOfYear}
use Rattle.rule_types.specs.declared.key.Key.{Key}
use Rattle.rule_types.specs.declared.key.Key.TheVariants.{Object, Clock}
use Rattle.rule_types.specs.declared.object.ObjectNo.{ObjectNo}
use Rattle.rule_types.specs.declared.object.Space.{Space}
use Rattle.rule_types.specs.declared.object.Space.TheVariants.{Nodes, Links, Gages}
use Rattle.rule_types.specs.declared.rules.Rules.{Rules}
use Rattle.rule_types.specs.declared.state.State.{State}
use Rattle.verdict_meaning.specs.declared.cell.Cell.{Cell}
use Rattle.verdict_meaning.specs.declared.cert.Cert.{Cert}
use Rattle.verdict_meaning.specs.declared.cert.Cert.TheFolds.{fold-roll-Cert, ind-Cert, map-Cert}
use Rattle.verdict_meaning.specs.declared.cert.Cert.TheOpen.{Cert-F}
use Rattle.verdict_meaning.specs.declared.cert.Cert.TheViews.{roll-Cert}
use Rattle.verdict_meaning.specs.declared.cert.Reason.{Reason}
use Rattle.verdict_meaning.specs.declared.cert.Reason.TheVariants.{Whole, Facts}
use Rattle.verdict_meaning.specs.declared.question.Question.{Question}
use Rattle.verdict_meaning.specs.declared.question.Question.TheVariants.{Conflict, Dead, Limit}
use Rattle.verdict_meaning.specs.declared.verdict.Stuck.TheVariants as stuck
use Rattle.verdict_meaning.specs.declared.verdict.Verdict.{Verdict}
use Rattle.verdict_meaning.specs.declared.verdict.Verdict.TheVariants as verdict
use Rattle.report_lines.specs.Reports.{grid_of, holds_text, refuted_text, cell_text, second_version, end_text}
use Rattle.report_lines.specs.TreeLines.{leaf_text}
use Rattle.report_lines.specs.declared.grid.Grid.{Grid}
use Rattle.report_text.specs.ReadBack.{is_plain, AreLineNames}
use Rattle.report_text.specs.WrittenLines.{written_rule, written_link, written_question, written_key_value, written_state_moment, written_low, written_high, written_piece, written_key_piece, written_span, written_split, written_before, written_holds, written_fact, written_count}
use Rattle.report_text.specs.WrittenReports.{Texts, Asked, value_lines_of, value_lines, moment_lines, state_lines, span_lines, cell_lines, reason_lines, node_lines, tree_lines, verdict_lines, entry_lines, asked_lines, report_lines}
use Rattle.report_text.proofs.HighBytes.{AreHigh, is_high, of_decimal, of_value, of_moment}
use Rattle.report_text.proofs.TextLengths.{in_row, decimal_short, value_short, moment_short}

-- ---- parts of lines
pub record IsPart (most : ℕ) (text : List ℕ) : Type 0 where
  pub plain : is_plain text ≡ true
  pub short : length text ≤ most

both_true : (a b : Bool) → a ≡ true → b ≡ true → (a && b) ≡ true
both_true a b e f = ap (λ t. t && b) e ∙ f

plain_byte : (byte : ℕ) → nat_lt 44 byte ≡ true → (not (byte == 10) && not (byte == 13)) ≡ true
plain_byte byte high =
    let one : (byte == 10) ≡ false = grind (arith, nat_tests) in
    let other : (byte == 13) ≡ false = grind (arith, nat_tests) in
    both_true (not (byte == 10)) (not (byte == 13)) (ap not one) (ap not other)

high_plain : (text : List ℕ) → list_all is_high text ≡ true → is_plain text ≡ true
high_plain [] e = refl
high_plain (byte ∷ text) e =
    let parts = and_parts (nat_lt 44 byte) (list_all is_high text) e in
    both_true (not (byte == 10) && not (byte == 13)) (is_plain text) (plain_byte byte parts.0) (high_plain text parts.1)

high : (most : ℕ) (text : List ℕ) → AreHigh text → length text ≤ most → IsPart most text
high most text h short = record { plain = high_plain text h.all; short = short }

closed : (most : ℕ) (text : List ℕ) → is_plain text ≡ true → nat_le (length text) most ≡ true → IsPart most text
closed most text plain e = record { plain = plain; short = grind (arith, nat_tests) }

row : (m n : ℕ) (one other : List ℕ) → IsPart m one → IsPart n other → IsPart (m + n) (one ++ other)
row m n one other h k = record {
  plain = list_all-append (λ byte. not (byte == 10) && not (byte == 13)) one other ∙ both_true (is_plain one) (is_plain other) h.plain k.plain;
  short = in_row m n one other h.short k.short;
}

wider : (m n : ℕ) (text : List ℕ) → m ≤ n → IsPart m text → IsPart n text
wider m n text low h = record { plain = h.plain; short = omega (arith, low, h.short) }

abbrev pub IsLine : List ℕ → Type 0
IsLine text = IsPart 8192 text

-- ---- words
a_number : (n : ℕ) → IsPart 64 (decimal n)
a_number n = high 64 (decimal n) (of_decimal n) (decimal_short n)

a_value : (q : Rational) → IsPart 130 (written_value q)
a_value q = high 130 (written_value q) (of_value q) (value_short q)

a_moment : (second : ℤ) → IsPart 19 (written_moment second)
a_moment second = high 19 (written_moment second) (of_moment second) (moment_short second)

a_space : IsPart 1 (codes " ")
a_space = closed 1 (codes " ") refl refl

an_attribute : (a : Attr) → IsPart 73 (attribute_text a)
an_attribute Intensity = closed 73 (codes "INTENSITY") refl refl
an_attribute (HourDepth hours) = row 64 9 (decimal hours) hours_end (a_number hours) (closed 9 hours_end refl refl)
an_attribute Depth = closed 73 (codes "DEPTH") refl refl
an_attribute MaxDepth = closed 73 (codes "MAXDEPTH") refl refl
an_attribute FullDepth = closed 73 (codes "FULLDEPTH") refl refl
an_attribute Head = closed 73 (codes "HEAD") refl refl
an_attribute Volume = closed 73 (codes "VOLUME") refl refl
an_attribute Inflow = closed 73 (codes "INFLOW") refl refl
an_attribute Flow = closed 73 (codes "FLOW") refl refl
an_attribute FullFlow = closed 73 (codes "FULLFLOW") refl refl
an_attribute Velocity = closed 73 (codes "VELOCITY") refl refl
an_attribute Length = closed 73 (codes "LENGTH") refl refl
an_attribute Slope = closed 73 (codes "SLOPE") refl refl
an_attribute Setting = closed 73 (codes "SETTING") refl refl
an_attribute Status = closed 73 (codes "STATUS") refl refl
an_attribute TimeOpen = closed 73 (codes "TIMEOPEN") refl refl
an_attribute TimeClosed = closed 73 (codes "TIMECLOSED") refl refl

a_space_word : (space : Space) → IsPart 4 (object_text (space_word space))
a_space_word Nodes = closed 4 (codes "NODE") refl refl
a_space_word Links = closed 4 (codes "LINK") refl refl
a_space_word Gages = closed 4 (codes "GAGE") refl refl

a_low : (low : Bound) → IsPart 131 (written_low low)
a_low end.NoBound = closed 131 (codes "(-inf") refl refl
a_low (end.Bound q true) = row 1 130 (codes "(") (written_value q) (closed 1 (codes "(") refl refl) (a_value q)
a_low (end.Bound q false) = row 1 130 (codes "[") (written_value q) (closed 1 (codes "[") refl refl) (a_value q)

a_high : (high_end : Bound) → IsPart 131 (written_high high_end)
a_high end.NoBound = closed 131 (codes "+inf)") refl refl
a_high (end.Bound q true) = row 130 1 (written_value q) (codes ")") (a_value q) (closed 1 (codes ")") refl refl)
a_high (end.Bound q false) = row 130 1 (written_value q) (codes "]") (a_value q) (closed 1 (codes "]") refl refl)

a_piece : (piece : Interval) → IsPart 263 (written_piece piece)
unfolding written_piece
a_piece piece =
    row 132 131 (written_low piece.low ++ codes ",") (written_high piece.high)
    (row 131 1 (written_low piece.low) (codes ",") (a_low piece.low) (closed 1 (codes ",") refl refl)) (a_high piece.high)

-- ---- several lines
abbrev pub AreLines : Texts → Type 0
AreLines [] = Unit {0}
AreLines (text ∷ more) = IsLine text × AreLines more

lines_row : (one other : Texts) → AreLines one → AreLines other → AreLines (one ++ other)
lines_row [] other h k = k
lines_row (text ∷ one) other h k = (h.0, lines_row one other h.1 k)

of_map : {A : Type 0} (f : A → List ℕ) (items : List A) → ((item : A) → IsLine (f item)) → AreLines (map f items)
of_map f [] each = tt
of_map f (item ∷ more) each = (each item, of_map f more each)

of_flat_map : {A : Type 0} (f : A → Texts) (items : List A) → ((item : A) → AreLines (f item)) → AreLines (flat_map f items)
of_flat_map f [] each = tt
of_flat_map f (item ∷ more) each = lines_row (f item) (flat_map f more) (each item) (of_flat_map f more each)

-- ---- the lines
a_fact : (fact : ℕ × Bool) → IsLine (written_fact fact)
unfolding written_fact
a_fact fact =
    wider 73 8192 ((codes "fact " ++ written_rule fact.0) ++ written_holds fact.1) (omega arith)
    (row 69 4 (codes "fact " ++ written_rule fact.0) (written_holds fact.1)
    (row 5 64 (codes "fact ") (written_rule fact.0) (closed 5 (codes "fact ") refl refl) (a_number (fact.0 + 1))) (a_holds fact.1))
  where
    a_holds : (holds : Bool) → IsPart 4 (written_holds holds)
    a_holds true = closed 4 (codes " yes") refl refl
    a_holds false = closed 4 (codes " no") refl refl

a_count : (count : ℕ) → IsLine (written_count count)
unfolding written_count
a_count count =
    wider 80 8192 (codes "undecided count " ++ decimal count) (omega arith)
    (row 16 64 (codes "undecided count ") (decimal count) (closed 16 (codes "undecided count ") refl refl) (a_number count))

a_state_moment : (moment : ℤ) → IsLine (written_state_moment moment)
unfolding written_state_moment
a_state_moment moment =
    wider 26 8192 (codes "moment " ++ written_moment moment) (omega arith)
    (row 7 19 (codes "moment ") (written_moment moment) (closed 7 (codes "moment ") refl refl) (a_moment moment))

a_before : (moment : ℤ) → IsLine (written_before moment)
unfolding written_before
a_before moment =
    wider 32 8192 (codes "split MOMENT " ++ written_moment moment) (omega arith)
    (row 13 19 (codes "split MOMENT ") (written_moment moment) (closed 13 (codes "split MOMENT ") refl refl) (a_moment moment))

a_span : (span : ℤ × ℤ) → IsLine (written_span span)
unfolding written_span
a_span span =
    let first = codes "piece MOMENT " ++ written_moment span.0 in
    wider 52 8192 ((first ++ codes " ") ++ written_moment span.1) (omega arith)
    (row 33 19 (first ++ codes " ") (written_moment span.1)
    (row 32 1 first (codes " ")
    (row 13 19 (codes "piece MOMENT ") (written_moment span.0) (closed 13 (codes "piece MOMENT ") refl refl) (a_moment span.0)) a_space)
    (a_moment span.1))

module _ (objects : Objects) (names : AreLineNames objects) where
  a_name : (object : ObjectNo) → IsPart 4096 (name_text objects object)
  a_name object = record { plain = (names object).plain; short = (names object).short }

  a_key : (key : Key) → IsPart 4175 (key_text objects key)
  a_key (Object object a) =
      let word = object_text (space_word object.space) in
      let name = name_text objects object in
      row 4102 73 (((word ++ codes " ") ++ name) ++ codes " ") (attribute_text a)
      (row 4101 1 ((word ++ codes " ") ++ name) (codes " ")
      (row 5 4096 (word ++ codes " ") name (row 4 1 word (codes " ") (a_space_word object.space) a_space) (a_name object)) a_space)
      (an_attribute a)
  a_key (Clock Time) = closed 4175 (codes "SIMULATION TIME") refl refl
  a_key (Clock Date) = closed 4175 (codes "SIMULATION DATE") refl refl
  a_key (Clock Month) = closed 4175 (codes "SIMULATION MONTH") refl refl
  a_key (Clock Day) = closed 4175 (codes "SIMULATION DAY") refl refl
  a_key (Clock ClockTime) = closed 4175 (codes "SIMULATION CLOCKTIME") refl refl
  a_key (Clock DayOfYear) = closed 4175 (codes "SIMULATION DAYOFYEAR") refl refl

  a_key_value : (key : Key) (q : Rational) → IsLine (written_key_value objects key q)
  unfolding written_key_value
  a_key_value key q =
      let front = codes "value " ++ key_text objects key in
      wider 4312 8192 ((front ++ codes " ") ++ written_value q) (omega arith)
      (row 4182 130 (front ++ codes " ") (written_value q)
      (row 4181 1 front (codes " ")
      (row 6 4175 (codes "value ") (key_text objects key) (closed 6 (codes "value ") refl refl) (a_key key)) a_space) (a_value q))

  a_split : (key : Key) (q : Rational) → IsLine (written_split objects key q)
  unfolding written_split
  a_split key q =
      let front = codes "split " ++ key_text objects key in
      wider 4312 8192 ((front ++ codes " ") ++ written_value q) (omega arith)
      (row 4182 130 (front ++ codes " ") (written_value q)
      (row 4181 1 front (codes " ")
      (row 6 4175 (codes "split ") (key_text objects key) (closed 6 (codes "split ") refl refl) (a_key key)) a_space) (a_value q))

  a_key_piece : (entry : Key × Interval) → IsLine (written_key_piece objects entry)
  unfolding written_key_piece
  a_key_piece entry =
      let front = codes "piece " ++ key_text objects entry.0 in
      wider 4445 8192 ((front ++ codes " ") ++ written_piece entry.1) (omega arith)
      (row 4182 263 (front ++ codes " ") (written_piece entry.1)
      (row 4181 1 front (codes " ")
      (row 6 4175 (codes "piece ") (key_text objects entry.0) (closed 6 (codes "piece ") refl refl) (a_key entry.0)) a_space)
      (a_piece entry.1))

  a_link : (link : ℕ) → IsPart 4096 (written_link objects link)
  a_link link = a_name (record { space = Links; index = link })

  a_question : (question : Question) → IsLine (written_question objects question)
  unfolding written_question
  a_question (Conflict first second link) =
      let one = codes "question conflict " ++ written_rule first in
      let two = (one ++ codes " ") ++ written_rule second in
      wider 4244 8192 ((two ++ codes " ") ++ written_link objects link) (omega arith)
      (row 148 4096 (two ++ codes " ") (written_link objects link)
      (row 147 1 two (codes " ")
      (row 83 64 (one ++ codes " ") (written_rule second)
      (row 82 1 one (codes " ")
      (row 18 64 (codes "question conflict ") (written_rule first) (closed 18 (codes "question conflict ") refl refl) (a_number (first + 1)))
      a_space) (a_number (second + 1))) a_space) (a_link link))
  a_question (Dead rule) =
      wider 78 8192 (codes "question dead " ++ written_rule rule) (omega arith)
      (row 14 64 (codes "question dead ") (written_rule rule) (closed 14 (codes "question dead ") refl refl) (a_number (rule + 1)))
  a_question (Limit link low high_end) =
      let one = codes "question limit " ++ written_link objects link in
      let two = (one ++ codes " ") ++ written_value low in
      wider 4373 8192 ((two ++ codes " ") ++ written_value high_end) (omega arith)
      (row 4243 130 (two ++ codes " ") (written_value high_end)
      (row 4242 1 two (codes " ")
      (row 4112 130 (one ++ codes " ") (written_value low)
      (row 4111 1 one (codes " ")
      (row 15 4096 (codes "question limit ") (written_link objects link) (closed 15 (codes "question limit ") refl refl) (a_link link))
      a_space) (a_value low)) a_space) (a_value high_end))

  -- ---- states and cells
  of_state : (x : Rules) (grid : Grid) (s : State) → AreLines (state_lines x objects grid s)
  unfolding state_lines
  of_state x grid s =
      lines_row (value_lines x objects s grid.keys) (moment_lines grid.has_moments s.moment)
      (of_flat_map (λ key. value_lines_of objects key (value x s key)) grid.keys (λ key. one_value key (value x s key)))
      (one_moment grid.has_moments)
    where
      one_value : (key : Key) (o : Option Rational) → AreLines (value_lines_of objects key o)
      one_value key None = tt
      one_value key (Some q) = (a_key_value key q, tt)

      one_moment : (b : Bool) → AreLines (moment_lines b s.moment)
      one_moment true = (a_state_moment s.moment, tt)
      one_moment false = tt

  of_cell : (cell : Cell) → AreLines (cell_lines objects cell)
  unfolding cell_lines
  of_cell cell =
      lines_row (map (written_key_piece objects) cell.keys) (span_lines cell.moments)
      (of_map (written_key_piece objects) cell.keys a_key_piece) (one_span cell.moments)
    where
      one_span : (o : Option (ℤ × ℤ)) → AreLines (span_lines o)
      one_span None = tt
      one_span (Some span) = (a_span span, tt)

  -- ---- trees
  abbrev Fits : Cert → Type 0
  Fits tree = AreLines (tree_lines objects tree)

  of_reason : (reason : Reason) → AreLines (reason_lines reason)
  of_reason Whole = tt
  of_reason (Facts facts) = of_map written_fact facts a_fact

  of_node : (y : Cert-F ((tree : Cert) × Fits tree))
      → AreLines
      (node_lines objects (map-Cert Cert Texts (tree_lines objects) (map-Cert ((tree : Cert) × Fits tree) Cert (λ e. e.0) y)))
  unfolding node_lines
  of_node (Cert-F.Leaf reason) = (closed 8192 leaf_text refl refl, of_reason reason)
  of_node (Cert-F.Split key q a b c) = (
    a_split key q,
    lines_row (tree_lines objects a.0 ++ tree_lines objects b.0) (tree_lines objects c.0)
        (lines_row (tree_lines objects a.0) (tree_lines objects b.0) a.1 b.1) c.1,
  )
  of_node (Cert-F.Before moment a b) = (
    a_before moment,
    lines_row (tree_lines objects a.0) (tree_lines objects b.0) a.1 b.1,
  )

  of_tree : (tree : Cert) → Fits tree
  unfolding tree_lines
  of_tree =
      ind-Cert Fits
      (λ z y is.
      subst (λ w. Fits (roll-Cert w)) is
      (subst AreLines
      (sym (fold-roll-Cert Texts (node_lines objects) (map-Cert ((tree : Cert) × Fits tree) Cert (λ e. e.0) y))) (of_node y)))

  -- ---- verdicts, entries and reports
  of_verdict : (x : Rules) (grid : Grid) (answer : Verdict) → AreLines (verdict_lines x objects grid answer)
  of_verdict x grid (verdict.Holds tree) = (closed 8192 holds_text refl refl, of_tree tree)
  of_verdict x grid (verdict.Refuted s) = (closed 8192 refuted_text refl refl, of_state x grid s)
  of_verdict x grid (verdict.Undecided (stuck.Cell cell)) = (closed 8192 cell_text refl refl, of_cell cell)
  of_verdict x grid (verdict.Undecided (stuck.TooManyCells count)) = (a_count count, tt)

  of_entry : (x : Rules) (asked : Asked) → AreLines (asked_lines x objects asked)
  unfolding entry_lines
  of_entry x asked = (a_question asked.0, of_verdict x (grid_of x asked.0) asked.1)

  pub of_report : (x : Rules) (entries : List Asked) → AreLines (report_lines x objects entries)
  unfolding report_lines
  of_report x entries = (
    closed 8192 second_version refl refl,
    lines_row (flat_map (asked_lines x objects) entries) (end_text ∷ [])
        (of_flat_map (asked_lines x objects) entries (of_entry x)) (closed 8192 end_text refl refl, tt),
  )
