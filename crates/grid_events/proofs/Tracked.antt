-- A state at which a link is past its limit has that link: the link is one of the tracked links.
use Rattle.std.proofs.Common.{◌≡◌, ℕ, Bool, true, false, cond, List, [], ◌∷◌, Some, refl, sym}
use Rattle.std.proofs.Common.{subst}
use Rattle.std.specs.Prelude.{◌==◌}
use Rattle.std.specs.List.{Contains}
use Rattle.std.proofs.lemmas.Bool.{and_parts, eqb-true, true≢false}
use Rattle.exact_fraction.specs.Number.{Rational}
use Rattle.rule_types.specs.declared.rules.Rules.{Rules}
use Rattle.rule_types.specs.declared.state.LinkState.{LinkState}
use Rattle.rule_types.specs.declared.state.State.{State}
use Rattle.rule_types.specs.Tables.{TableSet}
use Rattle.rule_meaning.specs.Formula.{names_stop_for}
use Rattle.rule_meaning.specs.Settled.{settled_on}
use Rattle.rule_meaning.specs.Premise.{listed_among}
use Rattle.rule_meaning.specs.State.{beside, link_state}
use Rattle.rule_meaning.proofs.PublicLaws.{members-first, members-later}
use Rattle.verdict_meaning.specs.declared.question.Question.{Question}
use Rattle.verdict_meaning.specs.declared.question.Question.TheVariants.{Conflict, Dead, Limit}
use Rattle.verdict_meaning.specs.Events.{has_event, has_event_by, is_no_stop, is_past}
use Rattle.verdict_meaning.specs.Events.{leads_outside}
use Rattle.verdict_meaning.specs.Events.{stands_within}
use Rattle.verdict_meaning.specs.Grids.{sample_memory}
use Rattle.verdict_meaning.specs.Questions.{asked_numbers, asked_rules}
use Rattle.grid_samples.specs.Cells.{TracksLimit}

tracked_by : (lo hi : Rational) (link first : ℕ) (tracked : List ℕ) (state : LinkState)
    (links : List LinkState) (b : Bool) → (link == first) ≡ b
    → stands_within lo hi (cond b (Some state) (beside (λ other. link == other) tracked links))
    ≡ true
    → (stands_within lo hi (beside (λ other. link == other) tracked links) ≡ true
    → Contains tracked link)
    → Contains (first ∷ tracked) link
tracked_by lo hi link first tracked state links true is h ih =
    subst (λ other. Contains (other ∷ tracked) link) (eqb-true link first is)
    (members-first link tracked)
tracked_by lo hi link first tracked state links false is h ih =
    members-later first tracked link (ih h)

found_tracked : (lo hi : Rational) (link : ℕ) (tracked : List ℕ) (links : List LinkState)
    → stands_within lo hi (beside (λ other. link == other) tracked links) ≡ true
    → Contains tracked link
unfolding beside
found_tracked lo hi link [] links h = absurd (true≢false (sym h))
found_tracked lo hi link (first ∷ tracked) [] h = absurd (true≢false (sym h))
found_tracked lo hi link (first ∷ tracked) (state ∷ links) h =
    tracked_by lo hi link first tracked state links (link == first) refl h
    (found_tracked lo hi link tracked links)

past_tracked : (x : Rules) (tables : TableSet) (s : State) (numbers : List ℕ) (link : ℕ)
    (lo hi : Rational) → is_past x tables sample_memory s numbers link lo hi ≡ true
    → Contains x.tracked link
unfolding is_past link_state
past_tracked x tables s numbers link lo hi h =
    found_tracked lo hi link x.tracked s.links
    (and_parts (stands_within lo hi (link_state x s link))
    (leads_outside x tables sample_memory s lo hi
    (settled_on x.rules (listed_among numbers x s) link)) h).0

pub limit_tracked : (x : Rules) (tables : TableSet) (question : Question) (s : State)
    → has_event x tables sample_memory s question ≡ true → TracksLimit x question
unfolding has_event has_event_by
limit_tracked x tables (Conflict first second link) s h = tt
limit_tracked x tables (Dead number) s h = tt
limit_tracked x tables (Limit link lo hi) s h =
    past_tracked x tables s (asked_numbers x (Limit link lo hi)) link lo hi
    (and_parts (is_no_stop (names_stop_for x (asked_rules x (Limit link lo hi)) s))
    (has_event_by x tables sample_memory s (Limit link lo hi)) h).1
