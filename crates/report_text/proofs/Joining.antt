-- The text of lines, part by part.
use Rattle.std.proofs.Common.{◌≡◌, ℕ, Bool, List, [], ◌∷◌, ◌++◌, codes, map, refl, sym, ap, ◌∙◌, append_assoc, append-nil, ℤ}
use Rattle.std.specs.List.{flat_map}
use Rattle.std.proofs.lemmas.Grind.{flat_map-append}
use Rattle.exact_fraction.specs.Number.{Rational}
use Rattle.num_text.specs.Written.{written_moment}
use Rattle.object_index.specs.Objects.{Objects}
use Rattle.rule_meaning.specs.State.{value}
use Rattle.rule_types.specs.declared.key.Key.{Key}
use Rattle.rule_types.specs.declared.rules.Rules.{Rules}
use Rattle.rule_types.specs.declared.state.State.{State}
use Rattle.verdict_meaning.specs.declared.cell.Cell.{Cell}
use Rattle.verdict_meaning.specs.declared.cert.Cert.{Cert}
use Rattle.verdict_meaning.specs.declared.cert.Cert.TheFolds.{fold-Cert, fold-roll-Cert}
use Rattle.verdict_meaning.specs.declared.cert.Cert.TheOpen.{Cert-F}
use Rattle.verdict_meaning.specs.declared.cert.Cert.TheVariants as cert
use Rattle.verdict_meaning.specs.declared.cert.Reason.{Reason}
use Rattle.verdict_meaning.specs.declared.cert.Reason.TheVariants.{Whole, Facts}
use Rattle.verdict_meaning.specs.declared.question.Question.{Question}
use Rattle.verdict_meaning.specs.declared.verdict.Verdict.{Verdict}
use Rattle.report_lines.specs.TreeLines.{leaf_text}
use Rattle.report_lines.specs.declared.grid.Grid.{Grid}
use Rattle.verdict_meaning.specs.declared.question.Question.TheVariants.{Conflict}
use Rattle.report_text.specs.WrittenLines.{written_rule, written_link, written_question, written_key_piece, written_fact, written_split, written_before, written_span}
use Rattle.report_text.specs.WrittenReports.{Texts, text_of, ended, value_lines_of, value_lines, moment_lines, state_lines, span_lines, cell_lines, node_lines, tree_lines, verdict_lines, entry_lines}
use Rattle.report_text.specs.internal.RowTexts.{value_texts, piece_text, fact_text, leaf_lines}

-- ---- texts in a row
pub two_parts : (out a b first second whole : List ℕ) → first ≡ out ++ a → second ≡ first ++ b → a ++ b ≡ whole
    → second ≡ out ++ whole
two_parts out a b first second whole e f is =
    f ∙ ap (λ t. t ++ b) e ∙ append_assoc out a b ∙ ap (λ t. out ++ t) is

pub three_parts : (out a b c first second third whole : List ℕ) → first ≡ out ++ a → second ≡ first ++ b
    → third ≡ second ++ c → (a ++ b) ++ c ≡ whole → third ≡ out ++ whole
three_parts out a b c first second third whole e f g is =
    two_parts out (a ++ b) c second third whole (two_parts out a b first second (a ++ b) e f refl) g is

pub four_parts : (out a b c d first second third fourth whole : List ℕ) → first ≡ out ++ a → second ≡ first ++ b
    → third ≡ second ++ c → fourth ≡ third ++ d → ((a ++ b) ++ c) ++ d ≡ whole → fourth ≡ out ++ whole
four_parts out a b c d first second third fourth whole e f g h is =
    two_parts out ((a ++ b) ++ c) d third fourth whole (three_parts out a b c first second third ((a ++ b) ++ c) e f g refl) h is

-- ---- the parts of single lines
pub before_line : (moment : ℤ)
    → (codes "split MOMENT " ++ written_moment moment) ++ (10 ∷ []) ≡ ended (written_before moment)
unfolding written_before
before_line moment = refl

pub span_line : (first last : ℤ)
    → ((codes "piece MOMENT " ++ written_moment first) ++ codes " ") ++ (written_moment last ++ (10 ∷ []))
    ≡ ended (written_span (first, last))
unfolding written_span
span_line first last =
    sym (append_assoc ((codes "piece MOMENT " ++ written_moment first) ++ codes " ") (written_moment last) (10 ∷ []))

pub conflict_line : (objects : Objects) (first second link : ℕ)
    → ((((codes "question conflict " ++ written_rule first) ++ codes " ") ++ written_rule second) ++ codes " ")
    ++ (written_link objects link ++ (10 ∷ []))
    ≡ ended (written_question objects (Conflict first second link))
unfolding written_question
conflict_line objects first second link =
    sym (append_assoc ((((codes "question conflict " ++ written_rule first) ++ codes " ") ++ written_rule second) ++ codes " ")
    (written_link objects link) (10 ∷ []))

-- ---- lines in a row
joined : (one other : Texts) → text_of one ++ text_of other ≡ text_of (one ++ other)
unfolding text_of
joined one other = sym (flat_map-append ended one other)

of_each : {A : Type 0} (f : A → Texts) (items : List A) → text_of (flat_map f items) ≡ flat_map (λ item. text_of (f item)) items
unfolding text_of
of_each f [] = refl
of_each f (item ∷ more) =
    flat_map-append ended (f item) (flat_map f more) ∙ ap (λ t. text_of (f item) ++ t) (of_each f more)

of_map : {A : Type 0} (f : A → List ℕ) (items : List A) → text_of (map f items) ≡ flat_map (λ item. ended (f item)) items
unfolding text_of
of_map f [] = refl
of_map f (item ∷ more) = ap (λ t. ended (f item) ++ t) (of_map f more)

-- ---- states, cells and leaves
pub state_text : (x : Rules) (objects : Objects) (grid : Grid) (s : State)
    → flat_map (value_texts x objects s) grid.keys ++ text_of (moment_lines grid.has_moments s.moment)
    ≡ text_of (state_lines x objects grid s)
unfolding state_lines
state_text x objects grid s =
    ap (λ t. t ++ text_of (moment_lines grid.has_moments s.moment))
    (sym (of_each (λ key. value_lines_of objects key (value x s key)) grid.keys))
    ∙ joined (value_lines x objects s grid.keys) (moment_lines grid.has_moments s.moment)

pub cell_text : (objects : Objects) (cell : Cell)
    → flat_map (piece_text objects) cell.keys ++ text_of (span_lines cell.moments) ≡ text_of (cell_lines objects cell)
unfolding cell_lines
cell_text objects cell =
    ap (λ t. t ++ text_of (span_lines cell.moments)) (sym (of_map (written_key_piece objects) cell.keys))
    ∙ joined (map (written_key_piece objects) cell.keys) (span_lines cell.moments)

pub facts_text : (facts : List (ℕ × Bool)) → ended leaf_text ++ flat_map fact_text facts ≡ text_of (leaf_text ∷ map written_fact facts)
unfolding text_of
facts_text facts = ap (λ t. ended leaf_text ++ t) (sym (of_map written_fact facts))

-- a line and those behind it
pub first_line : (line : List ℕ) (more : Texts) → ended line ++ text_of more ≡ text_of (line ∷ more)
unfolding text_of
first_line line more = refl

pub lines_written : (line : List ℕ) (more lines : Texts) (out first second : List ℕ) → lines ≡ line ∷ more
    → first ≡ out ++ ended line → second ≡ first ++ text_of more → second ≡ out ++ text_of lines
lines_written line more lines out first second is e f =
    two_parts out (ended line) (text_of more) first second (text_of lines) e f (first_line line more ∙ ap text_of (sym is))

pub whole_written : (reason : Reason) (out now : List ℕ) → reason ≡ Whole → now ≡ out ++ ended leaf_text
    → now ≡ out ++ text_of (leaf_lines reason)
unfolding text_of
whole_written reason out now is e =
    e ∙ ap (λ t. out ++ t) (sym (append-nil (ended leaf_text)) ∙ ap (λ r. text_of (leaf_lines r)) (sym is))

pub facts_written : (reason : Reason) (facts items : List (ℕ × Bool)) (out first second : List ℕ) → reason ≡ Facts facts
    → items ≡ facts → first ≡ out ++ ended leaf_text → second ≡ first ++ flat_map fact_text items
    → second ≡ out ++ text_of (leaf_lines reason)
facts_written reason facts items out first second is same e f =
    two_parts out (ended leaf_text) (flat_map fact_text facts) first second (text_of (leaf_lines reason)) e
    (f ∙ ap (λ l. first ++ flat_map fact_text l) same)
    (facts_text facts ∙ ap (λ r. text_of (leaf_lines r)) (sym is))

pub entry_is : (x : Rules) (objects : Objects) (grid : Grid) (question : Question) (answer : Verdict)
    → entry_lines x objects grid question answer
    ≡ written_question objects question ∷ verdict_lines x objects grid answer
unfolding entry_lines
entry_is x objects grid question answer = refl

-- ---- trees
leaf_is : (objects : Objects) (reason : Reason) → tree_lines objects (cert.Leaf reason) ≡ leaf_lines reason
unfolding tree_lines node_lines
leaf_is objects reason =
    ap (fold-Cert Texts (node_lines objects)) (sym (cert.rolls-Leaf reason))
    ∙ fold-roll-Cert Texts (node_lines objects) (Cert-F.Leaf reason)

split_is : (objects : Objects) (key : Key) (q : Rational) (below middle above : Cert)
    → tree_lines objects (cert.Split key q below middle above)
    ≡ written_split objects key q ∷ ((tree_lines objects below ++ tree_lines objects middle) ++ tree_lines objects above)
unfolding tree_lines node_lines
split_is objects key q below middle above =
    ap (fold-Cert Texts (node_lines objects)) (sym (cert.rolls-Split key q below middle above))
    ∙ fold-roll-Cert Texts (node_lines objects) (Cert-F.Split key q below middle above)

before_is : (objects : Objects) (moment : ℤ) (before later : Cert)
    → tree_lines objects (cert.Before moment before later)
    ≡ written_before moment ∷ (tree_lines objects before ++ tree_lines objects later)
unfolding tree_lines node_lines
before_is objects moment before later =
    ap (fold-Cert Texts (node_lines objects)) (sym (cert.rolls-Before moment before later))
    ∙ fold-roll-Cert Texts (node_lines objects) (Cert-F.Before moment before later)

pub leaf_tree : (objects : Objects) (tree : Cert) (reason : Reason) → tree ≡ cert.Leaf reason
    → text_of (leaf_lines reason) ≡ text_of (tree_lines objects tree)
leaf_tree objects tree reason is = ap text_of (sym (ap (tree_lines objects) is ∙ leaf_is objects reason))

pub split_tree : (objects : Objects) (tree : Cert) (key : Key) (q : Rational) (below middle above : Cert)
    → tree ≡ cert.Split key q below middle above
    → ((ended (written_split objects key q) ++ text_of (tree_lines objects below)) ++ text_of (tree_lines objects middle))
    ++ text_of (tree_lines objects above)
    ≡ text_of (tree_lines objects tree)
split_tree objects tree key q below middle above is =
    let head = ended (written_split objects key q) in
    let one = tree_lines objects below in
    let two = tree_lines objects middle in
    let three = tree_lines objects above in
    append_assoc (head ++ text_of one) (text_of two) (text_of three)
    ∙ append_assoc head (text_of one) (text_of two ++ text_of three)
    ∙ ap (λ t. head ++ t)
    (sym (append_assoc (text_of one) (text_of two) (text_of three)) ∙ ap (λ t. t ++ text_of three) (joined one two)
    ∙ joined (one ++ two) three)
    ∙ first_line (written_split objects key q) ((one ++ two) ++ three)
    ∙ ap text_of (sym (ap (tree_lines objects) is ∙ split_is objects key q below middle above))

pub before_tree : (objects : Objects) (tree : Cert) (moment : ℤ) (before later : Cert)
    → tree ≡ cert.Before moment before later
    → (ended (written_before moment) ++ text_of (tree_lines objects before)) ++ text_of (tree_lines objects later)
    ≡ text_of (tree_lines objects tree)
before_tree objects tree moment before later is =
    let head = ended (written_before moment) in
    let one = tree_lines objects before in
    let two = tree_lines objects later in
    append_assoc head (text_of one) (text_of two)
    ∙ ap (λ t. head ++ t) (joined one two)
    ∙ first_line (written_before moment) (one ++ two)
    ∙ ap text_of (sym (ap (tree_lines objects) is ∙ before_is objects moment before later))

-- ---- trees that are written
pub leaf_written : (objects : Objects) (tree : Cert) (reason : Reason) (out now : List ℕ) → tree ≡ cert.Leaf reason
    → now ≡ out ++ text_of (leaf_lines reason) → now ≡ out ++ text_of (tree_lines objects tree)
leaf_written objects tree reason out now is e = e ∙ ap (λ t. out ++ t) (leaf_tree objects tree reason is)

pub split_written : (objects : Objects) (tree : Cert) (key : Key) (q : Rational) (below middle above b m a : Cert)
    (out first second third fourth : List ℕ) → tree ≡ cert.Split key q below middle above
    → b ≡ below → m ≡ middle → a ≡ above → first ≡ out ++ ended (written_split objects key q)
    → second ≡ first ++ text_of (tree_lines objects b) → third ≡ second ++ text_of (tree_lines objects m)
    → fourth ≡ third ++ text_of (tree_lines objects a) → fourth ≡ out ++ text_of (tree_lines objects tree)
split_written objects tree key q below middle above b m a out first second third fourth is on_b on_m on_a e f g h =
    four_parts out (ended (written_split objects key q)) (text_of (tree_lines objects below))
    (text_of (tree_lines objects middle)) (text_of (tree_lines objects above)) first second third fourth
    (text_of (tree_lines objects tree)) e (f ∙ ap (λ t. first ++ text_of (tree_lines objects t)) on_b)
    (g ∙ ap (λ t. second ++ text_of (tree_lines objects t)) on_m) (h ∙ ap (λ t. third ++ text_of (tree_lines objects t)) on_a)
    (split_tree objects tree key q below middle above is)

pub before_written : (objects : Objects) (tree : Cert) (moment : ℤ) (before later b l : Cert)
    (out first second third : List ℕ) → tree ≡ cert.Before moment before later → b ≡ before → l ≡ later
    → first ≡ out ++ ended (written_before moment) → second ≡ first ++ text_of (tree_lines objects b)
    → third ≡ second ++ text_of (tree_lines objects l) → third ≡ out ++ text_of (tree_lines objects tree)
before_written objects tree moment before later b l out first second third is on_b on_l e f g =
    three_parts out (ended (written_before moment)) (text_of (tree_lines objects before))
    (text_of (tree_lines objects later)) first second third (text_of (tree_lines objects tree)) e
    (f ∙ ap (λ t. first ++ text_of (tree_lines objects t)) on_b)
    (g ∙ ap (λ t. second ++ text_of (tree_lines objects t)) on_l) (before_tree objects tree moment before later is)
