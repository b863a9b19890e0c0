-- The links of a sample want the numbers of settings and timers alone.
use Rattle.std.proofs.Common.{◌≡◌, ℕ, Bool, true, false, not, List, [], ◌∷◌, cond, refl, ap, ap₂, ◌∙◌}
use Rattle.std.specs.List.{filter}
use Rattle.exact_fraction.specs.Number.{Rational, zero}
use Rattle.exact_fraction.specs.Order.{less}
use Rattle.rule_types.specs.declared.key.Key.{Key}
use Rattle.rule_types.specs.Keys.{is_input}
use Rattle.verdict_meaning.specs.Grids.{link_at, number_of_key, number_or, sample_links}
use Rattle.verdict_meaning.specs.Questions.{setting_key}
use Rattle.grid_samples.proofs.Placing.{same_number}
use Rattle.grid_samples.proofs.SampledKeys.{closed_key, open_key}

abbrev pub of_links : List (Key × Rational) → List (Key × Rational)
of_links numbers = filter (λ number. not (is_input number.0)) numbers

timer_same : (numbers : List (Key × Rational)) (link : ℕ) (above : Bool)
    → number_of_key (cond above (open_key link) (closed_key link)) (of_links numbers)
    ≡ number_of_key (cond above (open_key link) (closed_key link)) numbers
timer_same numbers link true =
    same_number (λ key. not (is_input key)) (open_key link) numbers refl
timer_same numbers link false =
    same_number (λ key. not (is_input key)) (closed_key link) numbers refl

link_same : (numbers : List (Key × Rational)) (link : ℕ) (setting : Rational)
    → link_at (of_links numbers) link setting ≡ link_at numbers link setting
link_same numbers link setting =
    ap (λ o. record { setting = setting; target = setting; timer = number_or zero o })
    (timer_same numbers link (less zero setting))

pub links_same : (numbers : List (Key × Rational)) (tracked : List ℕ) (initial : List Rational)
    → sample_links (of_links numbers) tracked initial ≡ sample_links numbers tracked initial
unfolding sample_links
links_same numbers [] initial = refl
links_same numbers (link ∷ tracked) [] = refl
links_same numbers (link ∷ tracked) (first ∷ initial) =
    ap₂ (λ one more. one ∷ more)
    (ap (λ o. link_at (of_links numbers) link (number_or first o))
    (same_number (λ key. not (is_input key)) (setting_key link) numbers refl)
    ∙ link_same numbers link (number_or first (number_of_key (setting_key link) numbers)))
    (links_same numbers tracked initial)
