-- The line of a stop at an action is that of the commands.
use Rattle.std.proofs.Common.{◌≡◌, ℕ, ◌+◌, List, ◌++◌, Some, refl, ap, sym, ◌∙◌, append_assoc}
use Rattle.std.specs.Prelude.{codes}
use Rattle.std.specs.Fmt.{decimal}
use Rattle.command_outputs.specs.Messages.{line_of, stop_in_rule_line}
use Rattle.rule_types.specs.declared.action.ActionAt.{ActionAt}
use Rattle.rule_types.specs.declared.action.Branch.{Branch}
use Rattle.rule_types.specs.declared.action.Branch.TheVariants.{Then, Otherwise}
use Rattle.rule_types.specs.declared.names.NameDef.{NameDef}
use Rattle.rule_types.specs.declared.stop.Stop.{Stop}
use Rattle.rule_types.specs.declared.stop.StopCause.{StopCause}
use Rattle.rule_types.specs.declared.stop.StopCause.TheVariants.{Overflow}
use Rattle.rule_types.specs.declared.stop.StopPlace.{StopPlace}
use Rattle.rule_types.specs.declared.stop.StopPlace.TheVariants as place
use Rattle.replay_text.specs.Ends.{Stopped, stop_word, branch_word, place_text, action_place}
use Rattle.replay_printer.specs.Printed.{end_line}
use Rattle.replay_printer.specs.internal.Ends.{branch_of, action_said}

words : (rule space word gap action : List ℕ) → rule ++ space ++ word ++ gap ++ action ≡ rule ++ (space ++ (word ++ (gap ++ action)))
words rule space word gap action =
    append_assoc (rule ++ space ++ word) gap action ∙ append_assoc (rule ++ space) word (gap ++ action) ∙ append_assoc rule space (word ++ (gap ++ action))

joined : (line rule word spaced action : List ℕ) → spaced ++ action ≡ codes " " ++ (word ++ (codes " " ++ action))
    → Some (line_of (codes "error: trace line " ++ line ++ codes ": " ++ (codes "Overflow" ++ codes " in " ++ (codes "rule " ++ rule ++ (spaced ++ action)))))
    ≡ Some (line_of (codes "error: trace line " ++ line ++ codes ": Overflow in rule " ++ (rule ++ codes " " ++ word ++ codes " " ++ action)))
joined line rule word spaced action same =
    ap (λ rest. Some (line_of (codes "error: trace line " ++ rest)))
    (append_assoc line (codes ": ") (codes "Overflow in rule " ++ (rule ++ (spaced ++ action)))
    ∙ ap (λ rest. line ++ (codes ": Overflow in rule " ++ (rule ++ rest))) same
    ∙ sym (ap (λ rest. line ++ (codes ": Overflow in rule " ++ rest)) (words rule (codes " ") word (codes " ") action))
    ∙ sym (append_assoc line (codes ": Overflow in rule ") (rule ++ codes " " ++ word ++ codes " " ++ action)))

action_by : (line rule : ℕ) (branch : Branch) (action : ℕ)
    → Some (line_of (codes "error: trace line " ++ decimal line ++ codes ": "
    ++ (stop_word Overflow ++ codes " in " ++ (codes "rule " ++ decimal rule ++ (branch_word branch ++ decimal action)))))
    ≡ Some (stop_in_rule_line line rule (branch_of branch) action)
action_by line rule Then action = joined (decimal line) (decimal rule) (codes "then") (codes " then ") (decimal action) refl
action_by line rule Otherwise action = joined (decimal line) (decimal rule) (codes "else") (codes " else ") (decimal action) refl

pub action_line : (names : List NameDef) (line : ℕ) (stop : Stop) (at : ActionAt) → stop.place ≡ place.Action at → stop.cause ≡ Overflow
    → end_line names (Stopped line stop) ≡ action_said line at
action_line names line stop at is overflow =
    ap (λ (found : StopPlace). Some (line_of (codes "error: trace line " ++ decimal line ++ codes ": "
    ++ (stop_word stop.cause ++ codes " in " ++ place_text names found)))) is
    ∙ ap (λ (cause : StopCause). Some (line_of (codes "error: trace line " ++ decimal line ++ codes ": "
    ++ (stop_word cause ++ codes " in " ++ action_place at)))) overflow
    ∙ action_by line (at.rule + 1) at.branch (at.action + 1)
