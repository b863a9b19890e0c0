use Rattle.std.proofs.Common.{◌≡◌, Some, sym, ap, ◌∙◌, true}
use Rattle.num_text.specs.Values.{spelled_value, written_value}
use Rattle.num_text.proofs.ValueTrips.{value_back}
use Rattle.num_text.proofs.values.read_value.Goals as goal

pub returns-in_err-value-clause-every : goal.returns-in_err-value-clause-every
returns-in_err-value-clause-every c = λ q held is.
    let read : spelled_value c.args.text.now ≡ Some q = ap spelled_value (sym is) ∙ value_back q held in
    c.from_residual.ensures ∙ sym c.in_err-value.was ∙ c.spelled_value.ensures.value ∙ read

pub returns-then-not-is_same-clause-every : goal.returns-then-not-is_same-clause-every
returns-then-not-is_same-clause-every c = λ q held is.
    let read : spelled_value c.args.text.now ≡ Some q = ap spelled_value (sym is) ∙ value_back q held in
    let found : Some c.in_ok-value.value ≡ Some q = sym c.in_ok-value.was ∙ c.spelled_value.ensures.value ∙ read in
    let same : c.in_ok-value.value ≡ q = cc in
    let bytes : c.as_bytes.result.now ≡ c.args.text.now = c.as_bytes.ensures.value ∙ c.value_text.ensures.value ∙ ap written_value same ∙ is in
    let yes : c.is_same.result ≡ true = c.is_same.ensures.value.1 bytes in
    cc

pub returns-clause-every : goal.returns-clause-every
returns-clause-every c = λ q held is.
    let read : spelled_value c.args.text.now ≡ Some q = ap spelled_value (sym is) ∙ value_back q held in
    sym c.in_ok-value.was ∙ c.spelled_value.ensures.value ∙ read
