-- The numbers of the causes of refusal.
use Rattle.std.specs.Prelude.{ℕ}
use Rattle.rule_types.specs.declared.refusal.Cause.{Cause}
use Rattle.rule_types.specs.declared.refusal.Cause.TheVariants.{LineTooLong, BadText, BadOption}
use Rattle.rule_types.specs.declared.refusal.Cause.TheVariants.{DuplicateName, BadCurve, BadSeries}
use Rattle.rule_types.specs.declared.refusal.Cause.TheVariants.{BadClause, ClauseOrder}
use Rattle.rule_types.specs.declared.refusal.Cause.TheVariants.{UnknownObject, WrongKind}
use Rattle.rule_types.specs.declared.refusal.Cause.TheVariants.{UnknownAttribute, WrongValue}
use Rattle.rule_types.specs.declared.refusal.Cause.TheVariants.{UnknownName, ReservedName}
use Rattle.rule_types.specs.declared.refusal.Cause.TheVariants.{OutsideFunction, BadExpression}
use Rattle.rule_types.specs.declared.refusal.Cause.TheVariants.{NumberTooLarge, UnknownTable}
use Rattle.rule_types.specs.declared.refusal.Cause.TheVariants.{FileSeries, RuleStep, TooMany}

-- the number of a cause: on one line the cause of the least number is reported
abbrev pub cause_number : Cause → ℕ
cause_number LineTooLong = 1
cause_number BadText = 2
cause_number BadOption = 3
cause_number DuplicateName = 4
cause_number BadCurve = 5
cause_number BadSeries = 6
cause_number BadClause = 7
cause_number ClauseOrder = 8
cause_number UnknownObject = 9
cause_number WrongKind = 10
cause_number UnknownAttribute = 11
cause_number WrongValue = 12
cause_number UnknownName = 13
cause_number ReservedName = 14
cause_number OutsideFunction = 15
cause_number BadExpression = 16
cause_number NumberTooLarge = 17
cause_number UnknownTable = 18
cause_number FileSeries = 19
cause_number RuleStep = 20
cause_number TooMany = 21
