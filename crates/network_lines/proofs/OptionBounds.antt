-- The routing step of options.
use Rattle.std.proofs.Common.{◌≡◌, ℕ, Bool, true, false, cond, List, [], ◌∷◌, Option, None, Some, Ok, Err, ℤ, pos, refl}
use Rattle.std.specs.Prelude.{IfOk, ok_or, option_map, nat_lt}
use Rattle.exact_fraction.specs.Number.{Rational, zero, whole, den}
use Rattle.exact_fraction.specs.Order.{less}
use Rattle.exact_fraction.proofs.PublicLaws.{tests-less, tests-not_less}
use Rattle.inp_text.specs.Items.{items}
use Rattle.inp_text.specs.declared.source_line.SourceLine.{SourceLine}
use Rattle.key_words.specs.Words.{is_word}
use Rattle.num_text.specs.Clocks.{clock, clock_below}
use Rattle.num_text.specs.Dates.{date_of}
use Rattle.num_text.specs.Steps.{routing_step_of, IsReadStep}
use Rattle.num_text.proofs.PublicLaws.{readings-routing_step}
use Rattle.rule_types.specs.WellFormed.{IsRoutingStep}
use Rattle.control_lines.specs.Faults.{FaultText, Checked}
use Rattle.network_lines.specs.Options.{no_options, options_from, options_after, option_read, option_set}
use Rattle.network_lines.specs.Options.{with_rule_step, value_item}
use Rattle.network_lines.specs.Options.{start_date_text, start_time_text, routing_step_text, rule_step_text}
use Rattle.network_lines.specs.declared.options.OptionSet.{OptionSet}

-- the options have a routing step
abbrev HasStep : OptionSet → Type 0
HasStep options = IsRoutingStep options.routing_step

step_is : (q : Rational) → IsReadStep q → IsRoutingStep q
step_is q h = record { positive = h.above; most = h.most; exact = record { divides = h.multiple } }

at_first : HasStep no_options
unfolding less whole den
at_first = record {
  positive = (tests-less zero (whole (pos 20))).0 refl;
  most = (tests-not_less (whole (pos 86_400)) (whole (pos 20))).0 refl;
  exact = record { divides = refl };
}

either : (b : Bool) (x y : Checked OptionSet) → IfOk x HasStep → IfOk y HasStep
    → IfOk (cond b x y) HasStep
either true x y f g = f
either false x y f g = g

dated : (options : OptionSet) (day : Option ℤ) (fault : FaultText) → HasStep options
    → IfOk (ok_or (option_map (λ day. record options { start_day = Some day }) day) fault) HasStep
dated options (Some day) fault h = h
dated options None fault h = tt

timed : (options : OptionSet) (second : Option ℕ) (fault : FaultText) → HasStep options
    → IfOk (ok_or (option_map (λ second. record options { start_second = second }) second) fault) HasStep
timed options (Some second) fault h = h
timed options None fault h = tt

routed : (options : OptionSet) (value : List ℕ) (step : Option Rational) (fault : FaultText)
    → routing_step_of value ≡ step
    → IfOk (ok_or (option_map (λ step. record options { routing_step = step }) step) fault) HasStep
routed options value (Some step) fault e = step_is step (readings-routing_step value step e)
routed options value None fault e = tt

ruled : (options : OptionSet) (word value : List ℕ) (seconds : Option ℕ) → HasStep options
    → IfOk (with_rule_step options word value seconds) HasStep
ruled options word value None h = tt
ruled options word value (Some seconds) h = either (nat_lt 86_400 seconds) _ _ tt h

set_keeps : (options : OptionSet) (word value : List ℕ) → HasStep options
    → IfOk (option_set options word value) HasStep
set_keeps options word value h =
    either (is_word word start_date_text) _ _ (dated options (date_of value) _ h)
    (either (is_word word start_time_text) _ _ (timed options (clock_below 7 86_400 value) _ h)
    (either (is_word word routing_step_text) _ _ (routed options value (routing_step_of value) _ refl)
    (either (is_word word rule_step_text) _ _ (ruled options word value (clock 7 value) h) h)))

read_keeps : (options : OptionSet) (found : List (List ℕ)) → HasStep options
    → IfOk (option_read options found) HasStep
unfolding option_read
read_keeps options [] h = h
read_keeps options (word ∷ later) h = set_keeps options word (value_item later) h

after_keeps : (options : OptionSet) (read : Checked OptionSet) → HasStep options
    → IfOk read HasStep → HasStep (options_after options read)
after_keeps options (Ok next) h k = k
after_keeps options (Err fault) h k = h

from_keeps : (options : OptionSet) (lines : List SourceLine) → HasStep options
    → HasStep (options_from options lines)
from_keeps options [] h = h
from_keeps options (line ∷ later) h =
    from_keeps (options_after options (option_read options (items line.bytes))) later
    (after_keeps options (option_read options (items line.bytes)) h
    (read_keeps options (items line.bytes) h))

pub routing_step : (lines : List SourceLine)
    → IsRoutingStep (options_from no_options lines).routing_step
routing_step lines = from_keeps no_options lines at_first
