-- Which of several refusals is reported.
use Rattle.std.specs.Prelude.{Bool, ◌&&◌, ◌||◌, ◌==◌, nat_lt, if◌then◌else◌, Option, Some, None}
use Rattle.rule_types.specs.declared.refusal.Refusal.{Refusal}
use Rattle.rule_types.specs.Causes.{cause_number}

-- whether a refusal goes before another: it is on a lower line, or on the same line with a cause of
-- a lower number
unfoldable pub goes_before : Refusal → Refusal → Bool
goes_before a b =
    nat_lt a.line b.line
    || (a.line == b.line && nat_lt (cause_number a.cause) (cause_number b.cause))

-- the lower of two refusals: the one that goes before the other, and the first where neither does
unfoldable pub lower : Refusal → Refusal → Refusal
lower a b = if goes_before b a then b else a

-- the lower of the refusals that there are
unfoldable pub earlier : Option Refusal → Option Refusal → Option Refusal
earlier None b = b
earlier (Some a) None = Some a
earlier (Some a) (Some b) = Some (lower a b)
