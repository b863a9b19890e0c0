-- Each premise of a plain question is decided at a cell, and is as it is at the cell's sample.
use Rattle.std.proofs.Common.{◌≡◌, ℕ, Bool, true, false, ◌⊎◌, inl, inr, Some}
use Rattle.std.proofs.Common.{List, [], ◌∷◌, cond, refl, sym, subst, ap}
use Rattle.std.proofs.lemmas.Bool.{eqb-true, true≢false}
use Rattle.std.proofs.lemmas.List.Elements.{recursion_from_All}
use Rattle.std.specs.List.{AllByRecursion, Contains, flat_map, list_any, onto_first}
use Rattle.std.specs.Prelude.{◌==◌, slice_get}
use Rattle.rule_types.specs.declared.action.Action.{Action}
use Rattle.rule_types.specs.declared.condition.Condition.{Condition}
use Rattle.rule_types.specs.declared.rule.Rule.{Rule}
use Rattle.rule_types.specs.declared.rules.Rules.{Rules}
use Rattle.rule_types.specs.declared.state.State.{State}
use Rattle.rule_types.specs.Reading.{links_acted, rule_actions}
use Rattle.rule_types.specs.WellFormed.{ConditionFits, RuleFits, WellFormed}
use Rattle.rule_meaning.specs.Premise.{ends_before, groups, premise_holds}
use Rattle.rule_meaning.proofs.PublicLaws.{members-first, members-later}
use Rattle.moment_pieces.specs.Sides.{side_of}
use Rattle.verdict_meaning.specs.declared.cell.Cell.{Cell}
use Rattle.verdict_meaning.specs.declared.question.Question.{Question}
use Rattle.verdict_meaning.specs.declared.question.Question.TheVariants.{Conflict, Dead, Limit}
use Rattle.verdict_meaning.specs.declared.ranges.Ranges.{Ranges}
use Rattle.verdict_meaning.specs.declared.truth.Truth.{Truth}
use Rattle.verdict_meaning.specs.declared.truth.Truth.TheVariants.{Yes, No, Open}
use Rattle.verdict_meaning.specs.Grids.{grid_cells, sample_of}
use Rattle.verdict_meaning.specs.Premises.{all_truth, any_truth, both_truth, conditions_of}
use Rattle.verdict_meaning.specs.Premises.{either_truth, premise_truth_by, rule_truth, start_of}
use Rattle.verdict_meaning.specs.Premises.{Tells}
use Rattle.verdict_meaning.specs.Questions.{acts_there, is_asked}
use Rattle.verdict_meaning.specs.Truths.{condition_truth}
use Rattle.verdict_meaning.specs.Verdicts.{compares_key, is_plain_question}
use Rattle.verdict_meaning.proofs.PublicLaws.{boxes-premise}
use Rattle.grid_samples.specs.Cells.{HasClosedRanges, TracksLimit}
use Rattle.grid_samples.proofs.PublicLaws.{limits-tracked}
use Rattle.cell_truths.specs.DecidedTruths.{GivesMoments, truth_of}
use Rattle.cell_truths.proofs.ConditionTruths.{condition_decided}
use Rattle.cell_truths.proofs.GridCells.{known_cell, state_in_cell}
use Rattle.cell_truths.proofs.GridKeys.{asked_rule}
use Rattle.cell_truths.proofs.Lists.{all_among, Among, among_at, among_flat, each_among, each_in}
use Rattle.cell_truths.proofs.Lists.{or_cases}
use Rattle.cell_truths.proofs.NoStops.{no_stop, plain_rule}
use Rattle.cell_truths.proofs.PieceTruths.{IsDecided}

-- ---- groups
onto_all : {A : Type 0} (P : A → Type 0) (c : A) (gs : List (List A)) → P c
    → AllByRecursion (AllByRecursion P) gs
    → AllByRecursion (AllByRecursion P) (onto_first c gs)
onto_all P c [] h later = ((h, tt), tt)
onto_all P c (g ∷ gs) h later = ((h, later.0), later.1)

groups_by : {A : Type 0} (P : A → Type 0) (c : A) (gs : List (List A)) (b : Bool) → P c
    → AllByRecursion (AllByRecursion P) gs
    → AllByRecursion (AllByRecursion P) (cond b ((c ∷ []) ∷ gs) (onto_first c gs))
groups_by P c gs true h later = ((h, tt), later)
groups_by P c gs false h later = onto_all P c gs h later

groups_all : {A : Type 0} (P : A → Type 0) (begins : A → Bool) (xs : List A)
    → AllByRecursion P xs → AllByRecursion (AllByRecursion P) (groups begins xs)
unfolding groups
groups_all P begins [] h = tt
groups_all P begins (c ∷ more) h =
    groups_by P c (groups begins more) (ends_before begins more) h.0
    (groups_all P begins more h.1)

either_decided : (t u : Truth) → IsDecided t → IsDecided u → IsDecided (either_truth t u)
either_decided Yes u h k = refl
either_decided No u h k = k
either_decided Open u h k = absurd (true≢false (sym h))

both_decided : (t u : Truth) → IsDecided t → IsDecided u → IsDecided (both_truth t u)
both_decided Yes u h k = k
both_decided No u h k = refl
both_decided Open u h k = absurd (true≢false (sym h))

any_decided : {A : Type 0} (truth : A → Truth) (xs : List A)
    → AllByRecursion (λ x. IsDecided (truth x)) xs → IsDecided (any_truth truth xs)
unfolding any_truth
any_decided truth [] h = refl
any_decided truth (x ∷ xs) h =
    either_decided (truth x) (any_truth truth xs) h.0 (any_decided truth xs h.1)

all_decided : (truth : Condition → Truth) (gs : List (List Condition))
    → AllByRecursion (AllByRecursion (λ c. IsDecided (truth c))) gs
    → IsDecided (all_truth (any_truth truth) gs)
unfolding all_truth
all_decided truth [] h = refl
all_decided truth (g ∷ gs) h =
    both_decided (any_truth truth g) (all_truth (any_truth truth) gs) (any_decided truth g h.0)
    (all_decided truth gs h.1)

premise_decided : (truth : Condition → Truth) (cs : List Condition)
    → AllByRecursion (λ c. IsDecided (truth c)) cs → IsDecided (premise_truth_by truth cs)
unfolding premise_truth_by
premise_decided truth cs h =
    all_decided truth (groups (λ c. c.joined_by_and) cs)
    (groups_all (λ c. IsDecided (truth c)) (λ c. c.joined_by_and) cs h)

-- ---- the link of a limit
-- a list has a member that is one of them
contained : {A : Type 0} (xs : List A) (x : A) → Among xs x → Contains xs x
contained [] x at = absurd at
contained (y ∷ ys) x (inl e) = subst (Contains (y ∷ ys)) e (members-first y ys)
contained (y ∷ ys) x (inr at) = members-later y ys x (contained ys x at)

acted_links : (link : ℕ) (actions : List Action)
    → list_any (λ action. action.link == link) actions ≡ true
    → Among (flat_map (λ action. action.link ∷ []) actions) link
acted_links link [] h = absurd (true≢false (sym h))
acted_links link (action ∷ actions) h =
    by_cases (or_cases (action.link == link) (list_any (λ one. one.link == link) actions) h)
    (acted_links link actions)
  where
    by_cases : ((action.link == link) ≡ true) ⊎ (list_any (λ one. one.link == link) actions ≡ true)
        → (list_any (λ one. one.link == link) actions ≡ true
        → Among (flat_map (λ one. one.link ∷ []) actions) link)
        → Among (flat_map (λ one. one.link ∷ []) (action ∷ actions)) link
    by_cases (inl is) later = inl (eqb-true action.link link is)
    by_cases (inr is) later = inr (later is)

asked_tracks : (x : Rules) (question : Question) (number : ℕ) (rule : Rule) → WellFormed x
    → slice_get x.rules number ≡ Some rule → is_asked x question number ≡ true
    → TracksLimit x question
unfolding is_asked
asked_tracks x (Conflict first second link) number rule formed is asked = tt
asked_tracks x (Dead other) number rule formed is asked = tt
asked_tracks x (Limit link lo hi) number rule formed is asked =
    let acts = subst (λ o. acts_there link o ≡ true) is asked in
    limits-tracked x link lo hi formed
    (contained (links_acted x.rules) link
    (among_flat (λ one. flat_map (λ action. action.link ∷ []) (rule_actions one)) x.rules rule link
    (among_at x.rules number rule is) (acted_links link (rule_actions rule) acts)))

-- ---- rules
rule_decided : (x : Rules) (question : Question) (ranges : Ranges) (cell : Cell) (k : ℕ)
    (number : ℕ) (rule : Rule) → WellFormed x → HasClosedRanges ranges
    → GivesMoments x question ranges → is_plain_question x question ≡ true
    → slice_get (grid_cells x question ranges) k ≡ Some cell
    → slice_get x.rules number ≡ Some rule → is_asked x question number ≡ true
    → IsDecided (rule_truth x cell number)
unfolding rule_truth
rule_decided x question ranges cell k number rule formed closed gives plain at is asked =
    let in_question = asked_rule x question number rule is asked in
    let plain_conditions = plain_rule x question rule plain in_question in
    let fits : RuleFits x.names rule =
    each_among (RuleFits x.names) x.rules rule
    (recursion_from_All (RuleFits x.names) x.rules formed.rules)
    (among_at x.rules number rule is) in
    let truth = condition_truth x.names (start_of x) x.routing_step cell in
    subst (λ o. IsDecided (premise_truth_by truth (conditions_of o))) (sym is)
    (premise_decided truth rule.conditions
    (each_in (λ c. IsDecided (truth c)) rule.conditions
    (λ c own.
    condition_decided x question ranges cell c
    (record {
      rule = rule;
      gives = gives;
      known = known_cell x question ranges cell k closed at;
      fits =
          each_among (ConditionFits x.names) rule.conditions c
          (recursion_from_All (ConditionFits x.names) rule.conditions fits.conditions) own;
      asked = in_question;
      own = own;
    })
    (all_among (λ one. compares_key (side_of x.names one.left) one.right) rule.conditions c
    plain_conditions own))))

told : (t : Truth) (holds : Bool) → IsDecided t → Tells t holds → t ≡ truth_of holds
told Yes holds h k = ap truth_of (sym k)
told No holds h k = ap truth_of (sym k)
told Open holds h k = absurd (true≢false (sym h))

pub decided : (x : Rules) (question : Question) (ranges : Ranges) (cell : Cell) (k : ℕ)
    (s : State) (number : ℕ) (rule : Rule) → WellFormed x → HasClosedRanges ranges
    → GivesMoments x question ranges → is_plain_question x question ≡ true
    → slice_get (grid_cells x question ranges) k ≡ Some cell → sample_of x cell ≡ Some s
    → slice_get x.rules number ≡ Some rule → is_asked x question number ≡ true
    → rule_truth x cell number ≡ truth_of (premise_holds x s rule)
decided x question ranges cell k s number rule formed closed gives plain at sampled is asked =
    let inside =
    state_in_cell x question ranges cell k s formed closed
    (asked_tracks x question number rule formed is asked) at sampled in
    told (rule_truth x cell number) (premise_holds x s rule)
    (rule_decided x question ranges cell k number rule formed closed gives plain at is asked)
    (boxes-premise x s cell question number rule inside (no_stop x question s plain) is asked)
