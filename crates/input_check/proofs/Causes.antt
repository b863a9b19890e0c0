-- Each cause of refusal of the input file is one of those of its lines.
use Rattle.std.proofs.Common.{ℕ, IsTrue, refl}
use Rattle.rule_types.specs.Causes.{cause_number}
use Rattle.rule_types.specs.declared.refusal.Cause.{Cause}
use Rattle.rule_types.specs.declared.refusal.Cause.TheVariants.{LineTooLong, BadText, BadOption}
use Rattle.rule_types.specs.declared.refusal.Cause.TheVariants.{DuplicateName, BadCurve, BadSeries}
use Rattle.rule_types.specs.declared.refusal.Cause.TheVariants.{BadClause, ClauseOrder, UnknownObject}
use Rattle.rule_types.specs.declared.refusal.Cause.TheVariants.{WrongKind, UnknownAttribute, WrongValue}
use Rattle.rule_types.specs.declared.refusal.Cause.TheVariants.{UnknownName, ReservedName, OutsideFunction}
use Rattle.rule_types.specs.declared.refusal.Cause.TheVariants.{BadExpression, NumberTooLarge, UnknownTable}
use Rattle.rule_types.specs.declared.refusal.Cause.TheVariants.{FileSeries, RuleStep, TooMany}
use Rattle.command_outputs.specs.Messages.{is_cause}
use Rattle.command_outputs.specs.declared.place.Place.TheVariants.{InputLine}
use Rattle.input_check.specs.InputRefusals.{cause_name}

pub known_cause : (line : ℕ) (cause : Cause)
    → IsTrue (is_cause (InputLine line) (cause_name cause) (cause_number cause))
known_cause line LineTooLong = refl
known_cause line BadText = refl
known_cause line BadOption = refl
known_cause line DuplicateName = refl
known_cause line BadCurve = refl
known_cause line BadSeries = refl
known_cause line BadClause = refl
known_cause line ClauseOrder = refl
known_cause line UnknownObject = refl
known_cause line WrongKind = refl
known_cause line UnknownAttribute = refl
known_cause line WrongValue = refl
known_cause line UnknownName = refl
known_cause line ReservedName = refl
known_cause line OutsideFunction = refl
known_cause line BadExpression = refl
known_cause line NumberTooLarge = refl
known_cause line UnknownTable = refl
known_cause line FileSeries = refl
known_cause line RuleStep = refl
known_cause line TooMany = refl
