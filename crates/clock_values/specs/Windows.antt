-- Windows of seconds: a condition on hours holds within a window of whole seconds, or outside it.
use Rattle.std.specs.Prelude.{Bool, true, false, not, ◌&&◌, ◌||◌, if◌then◌else◌, Option, None, Some}
use Rattle.std.specs.Prelude.{ℤ, pos, neg_ℤ, ◌+ℤ◌, ◌*ℤ◌, int_lt}
use Rattle.std.specs.Int.{int_div_euclid}
use Rattle.std.specs.Ordering.{int_eq}
use Rattle.exact_fraction.specs.Number.{Rational, den}
use Rattle.exact_fraction.specs.Operations.{sum_of, difference_of}
use Rattle.exact_fraction.specs.declared.relation.Relation.{Relation}
use Rattle.exact_fraction.specs.declared.relation.Relation.TheVariants.{Eq, Ne, Lt, Le, Gt, Ge}
use Rattle.rule_types.specs.declared.condition.Condition.{Condition}
use Rattle.rule_meaning.specs.Condition.{half_of}
use Rattle.clock_values.specs.declared.window.Window.{Window}

-- whether one of two tests passes and the other does not
abbrev pub differs : Bool → Bool → Bool
differs first second = if first then not second else second

abbrev pub window_from : ℤ → Option ℤ → Bool → Window
window_from low high inside = record { low = low; high = high; inside = inside }

-- the first second that is at least so many hours
unfoldable pub first_second_at : Rational → ℤ
first_second_at q = neg_ℤ (int_div_euclid (neg_ℤ (q.num *ℤ pos 3600)) (pos (den q)))

-- the first second that is more than so many hours
unfoldable pub first_second_past : Rational → ℤ
first_second_past q = int_div_euclid (q.num *ℤ pos 3600) (pos (den q)) +ℤ pos 1

-- whether a second is before the end of a window, if it ends
abbrev pub is_before : ℤ → Option ℤ → Bool
is_before second None = true
is_before second (Some high) = int_lt second high

-- whether a second lies in a window
abbrev pub lies_in : ℤ → Option ℤ → ℤ → Bool
lies_in low high second = not (int_lt second low) && is_before second high

-- whether the condition of a window holds at a second
unfoldable pub window_holds : Window → ℤ → Bool
window_holds w second =
    if w.inside then lies_in w.low w.high second else not (lies_in w.low w.high second)

-- the window of a relation to so many hours
unfoldable pub exact_window : Relation → Rational → Window
exact_window Eq q = window_from (first_second_at q) (Some (first_second_past q)) true
exact_window Ne q = window_from (first_second_at q) (Some (first_second_past q)) false
exact_window Lt q = window_from (first_second_at q) None false
exact_window Le q = window_from (first_second_past q) None false
exact_window Gt q = window_from (first_second_past q) None true
exact_window Ge q = window_from (first_second_at q) None true

-- the same within half a step
abbrev pub within_half : Rational → Rational → Bool → Window
within_half q half inside =
    window_from (first_second_at (difference_of q half)) (Some (first_second_at (sum_of q half)))
    inside

unfoldable pub half_window : Relation → Rational → Rational → Window
half_window Eq q half = within_half q half true
half_window Ne q half = within_half q half false
half_window relation q half = exact_window relation q

-- the window of a condition against so many hours, at a step in hours
unfoldable pub window_of : Condition → Rational → Rational → Window
window_of c step q =
    if c.half_step then half_window c.rel q (half_of step) else exact_window c.rel q

-- whether a condition changes at a second, where it holds there and not at the second before, or the
-- other way round: at either end of its window, unless this is empty
abbrev pub turns_at : ℤ → Option ℤ → ℤ → Bool
turns_at low None second = int_eq second low
turns_at low (Some high) second = int_lt low high && (int_eq second low || int_eq second high)

unfoldable pub window_turns : Window → ℤ → Bool
window_turns w second = turns_at w.low w.high second
