-- The texts of the lines that lists give, one by one.
use Rattle.std.specs.Prelude.{ℕ, Bool, List, ◌∷◌}
use Rattle.interval_sets.specs.declared.interval.Interval.{Interval}
use Rattle.object_index.specs.Objects.{Objects}
use Rattle.rule_meaning.specs.State.{value}
use Rattle.rule_types.specs.declared.key.Key.{Key}
use Rattle.rule_types.specs.declared.rules.Rules.{Rules}
use Rattle.rule_types.specs.declared.state.State.{State}
use Rattle.verdict_meaning.specs.declared.cert.Reason.{Reason}
use Rattle.report_lines.specs.TreeLines.{leaf_text}
use Rattle.report_text.specs.WrittenLines.{written_fact, written_key_piece}
use Rattle.report_text.specs.WrittenReports.{Texts, text_of, ended, value_lines_of, reason_lines}

-- the line of the value of a key, or nothing where the key is missing
abbrev pub value_texts : Rules → Objects → State → Key → List ℕ
value_texts x objects s key = text_of (value_lines_of objects key (value x s key))

-- the line of the piece of a key
abbrev pub piece_text : Objects → Key × Interval → List ℕ
piece_text objects entry = ended (written_key_piece objects entry)

-- the line of a fact
abbrev pub fact_text : ℕ × Bool → List ℕ
fact_text fact = ended (written_fact fact)

-- the lines of a leaf
abbrev pub leaf_lines : Reason → Texts
leaf_lines reason = leaf_text ∷ reason_lines reason
