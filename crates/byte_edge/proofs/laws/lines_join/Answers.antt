use Rattle.byte_edge.proofs.PublicLaws.{lines_join-joined, lines_join-cut}
use Rattle.byte_edge.proofs.laws.lines_join.Goals as goal

pub returns : goal.returns
returns c = record {
  joined = lines_join-joined c.args.bytes.now;
  cut = lines_join-cut c.args.bytes.now;
}
