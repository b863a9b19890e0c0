use Rattle.std.proofs.Common.{◌≡◌, ◌∙◌, ℕ, List, IfOk, subst}
use Rattle.verdict_commands.proofs.FaultTexts.{said_line}
use Rattle.verdict_commands.proofs.faults.range_refusal.Goals as goal

pub returns : goal.returns
returns c =
    let P : List ℕ → Type 0 = λ line. IfOk c.fault.result (λ said. said ≡ line) in
    let said = said_line c.args.objects.now c.args.line c.args.cause c.args.key
    c.place_of-place.result c.name.result.now c.number.result c.as_slice.result.now
    c.place_of-place.ensures.value c.name.ensures.value c.number.ensures.value
    (c.as_slice.ensures.value ∙ c.in_ok-token.ensures.value) in
    record { value = subst P said c.fault.ensures.value }
