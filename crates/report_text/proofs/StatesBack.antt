-- States are read back from their lines.
use Rattle.std.proofs.Common.{◌≡◌, ℕ, suc, ◌+◌, Bool, true, false, cond, List, [], ◌∷◌, ◌++◌, codes, length, Option, Some, None, Ok, refl, ap, ◌∙◌, arith, length-append, ℤ}
use Rattle.std.specs.Prelude.{IsTrue}
use Rattle.std.specs.BTreeMap.{insert_entry}
use Rattle.exact_fraction.specs.Number.{Rational}
use Rattle.inp_text.specs.Sections.{Line}
use Rattle.num_text.specs.Fields.{◌>>=◌}
use Rattle.num_text.specs.Written.{written_moment}
use Rattle.object_index.specs.Objects.{Objects}
use Rattle.rule_meaning.specs.State.{value}
use Rattle.rule_types.specs.KeyOrder.{key_cmp}
use Rattle.rule_types.specs.declared.key.Key.{Key}
use Rattle.rule_types.specs.declared.rules.Rules.{Rules}
use Rattle.rule_types.specs.declared.state.State.{State}
use Rattle.verdict_meaning.specs.Grids.{sample_with}
use Rattle.report_lines.specs.StateLines.{values_from, value_after, value_line, is_present, setting_after, state_from, state_with, moment_line, moment_by, span_at}
use Rattle.report_lines.specs.Words.{Reading, read_to, words_of, line_at, value_of, behind, made_of, one_line}
use Rattle.report_lines.specs.declared.grid.Grid.{Grid}
use Rattle.report_text.specs.Readable.{StandAt, IsTold, AreTold, with_value, values_with, span_if, is_number, is_moment, IsGridState}
use Rattle.report_text.specs.WrittenLines.{written_key_value, written_state_moment}
use Rattle.report_text.specs.WrittenReports.{Texts, value_lines_of, value_lines, moment_lines, state_lines}
use Rattle.report_text.proofs.KeysBack.{past_value}
use Rattle.report_text.proofs.NumbersBack.{number_held, value_back, moment_back}
use Rattle.report_text.proofs.SpacedWords.{word_alone, of_second}
use Rattle.report_text.proofs.Standing.{front, back}

value_read : (objects : Objects) (key : Key) (q : Rational) → IsTrue (is_number q)
    → value_line objects key (Some (written_key_value objects key q)) ≡ Some q
value_read objects key q h =
    ap (λ o. o >>= value_of) (past_value objects key q) ∙ value_back q (number_held q h)

abbrev Told : Rules → Objects → State → Texts → List (Key × Rational) → ℕ → Reading (List (Key × Rational))
Told x objects s texts values at = Ok (read_to values (at + length texts))

-- one key and those behind it
module _ (lines : List Line) (x : Rules) (objects : Objects) (s : State) where
  step : (key : Key) (more : List Key) (at : ℕ) (setting : Option Rational) (values : List (Key × Rational))
      (b : Bool) (o : Option Rational)
      → IsTold b o (λ q. AreTold x s more (setting_after key q setting)) (AreTold x s more setting)
      → StandAt lines at (value_lines_of objects key o ++ value_lines x objects s more)
      → ((next : ℕ) (last : Option Rational) (so_far : List (Key × Rational)) → AreTold x s more last
      → StandAt lines next (value_lines x objects s more)
      → values_from lines objects more next last so_far
      ≡ Ok (read_to (values_with x s more so_far) (next + length (value_lines x objects s more))))
      → cond b
      (value_after key at (value_line objects key (line_at lines at))
      (λ q. values_from lines objects more (suc at) (setting_after key q setting) (insert_entry key_cmp values key q)))
      (values_from lines objects more at setting values)
      ≡ Ok
      (read_to (values_with x s more (with_value values key o))
      (at + length (value_lines_of objects key o ++ value_lines x objects s more)))
  step key more at setting values true (Some q) told there later =
      let rest = length (value_lines x objects s more) in
      let next : suc at + rest ≡ at + suc rest = omega arith in
      ap (λ line. value_after key at (value_line objects key line)
      (λ q. values_from lines objects more (suc at) (setting_after key q setting) (insert_entry key_cmp values key q))) there.0
      ∙ ap (λ found. value_after key at found
      (λ q. values_from lines objects more (suc at) (setting_after key q setting) (insert_entry key_cmp values key q)))
      (value_read objects key q told.0)
      ∙ later (suc at) (setting_after key q setting) (insert_entry key_cmp values key q) told.1 there.1
      ∙ ap (λ n. Ok (read_to (values_with x s more (insert_entry key_cmp values key q)) n)) next
  step key more at setting values true None told there later = absurd told
  step key more at setting values false (Some q) told there later = absurd told
  step key more at setting values false None told there later = later at setting values told there

  pub values_read : (keys : List Key) (at : ℕ) (setting : Option Rational) (values : List (Key × Rational))
      → AreTold x s keys setting → StandAt lines at (value_lines x objects s keys)
      → values_from lines objects keys at setting values
      ≡ Ok (read_to (values_with x s keys values) (at + length (value_lines x objects s keys)))
  unfolding values_from
  values_read [] at setting values told there =
      let here : at ≡ at + 0 = omega arith in ap (λ n. Ok (read_to values n)) here
  values_read (key ∷ more) at setting values told there =
      step key more at setting values (is_present key setting) (value x s key) told there
      (λ next last so_far. values_read more next last so_far)

-- ---- the moment
moment_front : (rest : List ℕ) → words_of (codes "moment " ++ rest) ≡ codes "moment" ∷ words_of rest
unfolding words_of
moment_front rest = refl

moment_read : (moment : ℤ) → IsTrue (is_moment moment) → moment_line (Some (written_state_moment moment)) ≡ Some moment
unfolding written_state_moment
moment_read moment h =
    ap moment_by (moment_front (written_moment moment) ∙ ap (λ l. codes "moment" ∷ l) (word_alone (written_moment moment) (of_second moment)))
    ∙ moment_back moment h

state_by : (lines : List Line) (x : Rules) (has : Bool) (moment : ℤ) (values : List (Key × Rational)) (at : ℕ)
    → IsTrue (is_moment moment) → StandAt lines at (moment_lines has moment)
    → state_with lines x has values at
    ≡ Ok (read_to (sample_with x (span_if has moment) values) (at + length (moment_lines has moment)))
state_by lines x false moment values at h there =
    let here : at ≡ at + 0 = omega arith in
    ap (λ n. Ok (read_to (sample_with x None values) n)) here
state_by lines x true moment values at h there =
    let next : suc at ≡ at + 1 = omega arith in
    ap (λ line. made_of (λ m. sample_with x (span_at m) values) (one_line (moment_line line) at)) there.0
    ∙ ap (λ found. made_of (λ m. sample_with x (span_at m) values) (one_line found at)) (moment_read moment h)
    ∙ ap (λ n. Ok (read_to (sample_with x (span_at moment) values) n)) next

pub state_back : (lines : List Line) (x : Rules) (objects : Objects) (grid : Grid) (s : State) (at : ℕ)
    → IsGridState x grid s → StandAt lines at (state_lines x objects grid s)
    → state_from lines x objects grid at ≡ Ok (read_to s (at + length (state_lines x objects grid s)))
unfolding state_from state_lines
state_back lines x objects grid s at h there =
    let values = value_lines x objects s grid.keys in
    let moments = moment_lines grid.has_moments s.moment in
    let numbers = values_with x s grid.keys [] in
    let ends : (at + length values) + length moments ≡ at + length (values ++ moments) = omega (arith, length-append values moments) in
    ap (λ read. behind read (state_with lines x grid.has_moments))
    (values_read lines x objects s grid.keys at None [] h.told (front lines values moments at there))
    ∙ state_by lines x grid.has_moments s.moment numbers (at + length values) h.moment (back lines values moments at there)
    ∙ ap (λ state. Ok (read_to state ((at + length values) + length moments))) h.whole
    ∙ ap (λ n. Ok (read_to s n)) ends
