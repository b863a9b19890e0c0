use Rattle.streamed_lines.proofs.PublicLaws.{streams-performs}
use Rattle.streamed_lines.proofs.laws.streams.Goals as goal

pub returns : goal.returns
returns g c = record {
  performs = λ roles print held was mid now out_was out_now result.
      streams-performs roles print held _ _ _ _ result;
}
