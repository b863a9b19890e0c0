-- The rules of well formed rules fit.
use Rattle.std.proofs.Common.{◌≡◌, ℕ, Some, subst, slice_get}
use Rattle.std.proofs.lemmas.Option.{slice_get_within, get_or_from_slice_get}
use Rattle.rule_types.specs.declared.rule.Rule.{Rule}
use Rattle.rule_types.specs.declared.rules.Rules.{Rules}
use Rattle.rule_types.specs.WellFormed.{WellFormed, RuleFits}

pub rule_at : (x : Rules) (place : ℕ) (rule : Rule) → WellFormed x → slice_get x.rules place ≡ Some rule → RuleFits x.names rule
rule_at x place rule fit is =
    subst (RuleFits x.names) (get_or_from_slice_get x.rules place rule rule is)
    (fit.rules place rule (slice_get_within x.rules place rule is))
