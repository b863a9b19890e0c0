-- Windows over all seconds of a run.
use Rattle.std.specs.Prelude.{Bool, not, ◌&&◌, ◌||◌, if◌then◌else◌, Option, None, Some, ℤ, int_lt}
use Rattle.clock_values.specs.Windows.{is_before}
use Rattle.clock_values.specs.declared.window.Window.{Window}

-- whether the seconds from one to another all lie in a window
abbrev pub all_lie_in : ℤ → Option ℤ → ℤ → ℤ → Bool
all_lie_in low high from to = not (int_lt from low) && is_before to high

-- whether none of the seconds from one to another lies in a window
abbrev pub none_lies_in : ℤ → Option ℤ → ℤ → ℤ → Bool
none_lies_in low None from to = int_lt to low
none_lies_in low (Some high) from to =
    int_lt to low || (not (int_lt from high) || not (int_lt low high))

-- whether the condition of a window holds at all of these seconds, and whether at none
unfoldable pub all_in_window : Window → ℤ → ℤ → Bool
all_in_window w from to =
    if w.inside then all_lie_in w.low w.high from to else none_lies_in w.low w.high from to

unfoldable pub none_in_window : Window → ℤ → ℤ → Bool
none_in_window w from to =
    if w.inside then none_lies_in w.low w.high from to else all_lie_in w.low w.high from to
