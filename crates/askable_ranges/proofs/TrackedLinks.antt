-- The links of limits are tracked, and questions that no line asks are no limits.
use Rattle.std.proofs.Common.{◌≡◌, ℕ, ◌+◌, Bool, true, false, Some, None, Result, Ok, Err, List}
use Rattle.std.proofs.Common.{[], ◌∷◌, map, refl}
use Rattle.std.proofs.lemmas.List.Elements.{All-nil, All-cons, All-head, All-tail, All-append}
use Rattle.std.proofs.lemmas.List.Elements.{All-contains, All-contains_itself}
use Rattle.std.proofs.lemmas.Map.Lookups.{exact_unsigned}
use Rattle.std.proofs.lemmas.Map.Views.{All-insert_key, Contains-from_any, tells_apart}
use Rattle.std.specs.Prelude.{All, Contains, IfSome, if◌then◌else◌}
use Rattle.std.specs.BTreeSet.{insert_key}
use Rattle.std.specs.Ordering.{nat_cmp}
use Rattle.object_index.specs.Objects.{Objects, resolution}
use Rattle.object_index.specs.declared.unresolved.Unresolved.{Unresolved}
use Rattle.rule_types.specs.Reading.{links_acted}
use Rattle.rule_types.specs.declared.object.ObjectNo.{ObjectNo}
use Rattle.rule_types.specs.declared.object.ObjectWord.TheVariants.{Link}
use Rattle.rule_types.specs.declared.rule.Rule.{Rule}
use Rattle.rule_types.specs.declared.rules.Rules.{Rules}
use Rattle.verdict_meaning.specs.declared.question.Question.{Question}
use Rattle.verdict_meaning.specs.declared.question.Question.TheVariants.{Conflict, Dead}
use Rattle.range_lines.specs.Entries.{Item, Known, in_link_order, is_among, link_found}
use Rattle.range_lines.specs.Entries.{link_if_acted}
use Rattle.range_lines.specs.Lines.{known_of, questions_from}
use Rattle.range_lines.specs.Questions.{all_questions, conflicts_among, conflicts_with}
use Rattle.range_lines.specs.Questions.{dead_questions}
use Rattle.range_lines.specs.Questions.{rule_links, shared_links}
use Rattle.grid_samples.specs.Cells.{TracksLimit}

-- ---- links that an action acts on
-- some action of the rules acts on each link that lines speak of
abbrev pub ActsOn : Rules → Known → Type 0
ActsOn x known = All (Contains (links_acted x.rules)) known.links

all_ordered : (P : ℕ → Type 0) (found links : List ℕ) → All P found → All P links
    → All P (in_link_order found links)
all_ordered P found [] h g = h
all_ordered P found (link ∷ more) h g =
    all_ordered P (insert_key nat_cmp found link) more
    (All-insert_key nat_cmp link P found h (All-head P link more g)) (All-tail P link more g)

pub known_acted : (x : Rules) (objects : Objects) → ActsOn x (known_of x objects)
known_acted x objects =
    let acted = links_acted x.rules in
    all_ordered (Contains acted) [] acted (All-nil (Contains acted)) (All-contains_itself acted)

among_contained : (link : ℕ) (links : List ℕ) → is_among link links ≡ true → Contains links link
among_contained link links is = Contains-from_any (tells_apart exact_unsigned) link links is

object_acted : (x : Rules) (known : Known) (object : Result ObjectNo Unresolved) → ActsOn x known
    → IfSome (link_if_acted known object) (Contains (links_acted x.rules))
object_acted x known (Err fault) h = tt
object_acted x known (Ok object) h = by (is_among object.index known.links) refl
  where
    by : (among : Bool) → is_among object.index known.links ≡ among
        → IfSome (if among then Some object.index else None) (Contains (links_acted x.rules))
    by true is =
        All-contains (Contains (links_acted x.rules)) known.links object.index h
        (among_contained object.index known.links is)
    by false is = tt

-- some action acts on a link that a line names
pub link_acted : (x : Rules) (known : Known) (name : Item) → ActsOn x known
    → IfSome (link_found known name) (Contains (links_acted x.rules))
unfolding link_found
link_acted x known name h = object_acted x known (resolution known.objects Link name) h

-- ---- the questions of a file that asks none
dead_tracked : (x : Rules) (number : ℕ) (rules : List Rule)
    → All (TracksLimit x) (dead_questions number rules)
unfolding dead_questions
dead_tracked x number [] = All-nil (TracksLimit x)
dead_tracked x number (rule ∷ more) =
    All-cons (TracksLimit x) (Dead number) (dead_questions (number + 1) more) tt
    (dead_tracked x (number + 1) more)

conflicts_tracked : (x : Rules) (first second : ℕ) (links : List ℕ)
    → All (TracksLimit x) (map (Conflict first second) links)
conflicts_tracked x first second [] = All-nil (TracksLimit x)
conflicts_tracked x first second (link ∷ more) =
    All-cons (TracksLimit x) (Conflict first second link) (map (Conflict first second) more) tt
    (conflicts_tracked x first second more)

with_tracked : (x : Rules) (rule : ℕ) (links : List ℕ) (number : ℕ) (sets : List (List ℕ))
    → All (TracksLimit x) (conflicts_with rule links number sets)
unfolding conflicts_with
with_tracked x rule links number [] = All-nil (TracksLimit x)
with_tracked x rule links number (others ∷ more) =
    All-append (TracksLimit x) (map (Conflict rule number) (shared_links links others))
    (conflicts_with rule links (number + 1) more)
    (conflicts_tracked x rule number (shared_links links others))
    (with_tracked x rule links (number + 1) more)

among_tracked : (x : Rules) (number : ℕ) (sets : List (List ℕ))
    → All (TracksLimit x) (conflicts_among number sets)
unfolding conflicts_among
among_tracked x number [] = All-nil (TracksLimit x)
among_tracked x number (links ∷ more) =
    All-append (TracksLimit x) (conflicts_with number links (number + 1) more)
    (conflicts_among (number + 1) more) (with_tracked x number links (number + 1) more)
    (among_tracked x (number + 1) more)

all_tracked : (x : Rules) (rules : List Rule) → All (TracksLimit x) (all_questions rules)
unfolding all_questions
all_tracked x rules =
    All-append (TracksLimit x) (dead_questions 0 rules) (conflicts_among 0 (map rule_links rules))
    (dead_tracked x 0 rules) (among_tracked x 0 (map rule_links rules))

pub asked_tracked : (x : Rules) (rules : List Rule) (asked : List Question)
    → All (TracksLimit x) asked → All (TracksLimit x) (questions_from rules asked)
asked_tracked x rules [] h = all_tracked x rules
asked_tracked x rules (question ∷ more) h = h
