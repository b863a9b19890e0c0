-- At a sample the target of each link is its setting.
use Rattle.std.proofs.Common.{◌≡◌, ℕ, Bool, true, false, Option, Some, None, List, [], ◌∷◌}
use Rattle.std.proofs.Common.{cond, nat_eq, refl, subst}
use Rattle.std.proofs.lemmas.Option.{none-some, same_Some}
use Rattle.std.specs.Prelude.{IfSome, ℤ, option_map}
use Rattle.exact_fraction.specs.Number.{Rational}
use Rattle.rule_types.specs.declared.key.Key.{Key}
use Rattle.rule_types.specs.declared.rules.Rules.{Rules}
use Rattle.rule_types.specs.declared.state.LinkState.{LinkState}
use Rattle.rule_types.specs.declared.state.State.{State}
use Rattle.rule_meaning.specs.State.{beside, link_state}
use Rattle.verdict_meaning.specs.declared.cell.Cell.{Cell}
use Rattle.verdict_meaning.specs.Grids.{cell_numbers, link_at, number_of_key, number_or}
use Rattle.verdict_meaning.specs.Grids.{sample_links, sample_of, sample_with}
use Rattle.verdict_meaning.specs.Questions.{setting_key}

abbrev pub IsAtTarget : LinkState → Type 0
IsAtTarget link = link.target ≡ link.setting

beside_target : (link : LinkState) (o : Option LinkState) (b : Bool) → IsAtTarget link
    → IfSome o IsAtTarget → IfSome (cond b (Some link) o) IsAtTarget
beside_target link o true h later = h
beside_target link o false h later = later

each_target : (passes : ℕ → Bool) (numbers : List (Key × Rational)) (tracked : List ℕ)
    (initial : List Rational)
    → IfSome (beside passes tracked (sample_links numbers tracked initial)) IsAtTarget
unfolding beside sample_links
each_target passes numbers [] initial = tt
each_target passes numbers (link ∷ tracked) [] = tt
each_target passes numbers (link ∷ tracked) (first ∷ initial) =
    beside_target
    (link_at numbers link (number_or first (number_of_key (setting_key link) numbers)))
    (beside passes tracked (sample_links numbers tracked initial)) (passes link) refl
    (each_target passes numbers tracked initial)

link_target : (x : Rules) (span : Option (ℤ × ℤ)) (numbers : List (Key × Rational)) (link : ℕ)
    → IfSome (link_state x (sample_with x span numbers) link) IsAtTarget
unfolding link_state
link_target x span numbers link =
    each_target (λ other. nat_eq link other) numbers x.tracked x.initial

numbers_target : (x : Rules) (span : Option (ℤ × ℤ)) (s : State) (link : ℕ)
    (o : Option (List (Key × Rational))) → option_map (sample_with x span) o ≡ Some s
    → IfSome (link_state x s link) IsAtTarget
numbers_target x span s link None e = absurd (none-some s e)
numbers_target x span s link (Some numbers) e =
    subst (λ one. IfSome (link_state x one link) IsAtTarget)
    (same_Some (sample_with x span numbers) s e) (link_target x span numbers link)

pub sample_target : (x : Rules) (cell : Cell) (s : State) (link : ℕ) → sample_of x cell ≡ Some s
    → IfSome (link_state x s link) IsAtTarget
unfolding sample_of
sample_target x cell s link e = numbers_target x cell.moments s link (cell_numbers cell.keys) e
