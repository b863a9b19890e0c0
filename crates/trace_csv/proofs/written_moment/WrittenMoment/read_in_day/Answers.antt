use Rattle.std.proofs.Common.{rules, ◌≡◌, ◌++◌, take, drop}
use Rattle.num_text.specs.Written.{written_moment, written_time}
use Rattle.trace_csv.proofs.SameDay.{joined, read_back}
use Rattle.trace_csv.proofs.written_moment.WrittenMoment.read_in_day.Goals as goal

pub returns : goal.returns
returns c =
    let kept : c.self.inside.text ≡ written_moment c.args.self.now = search rules in
    let front : c.split_at.result.0.now ≡ take 11 c.args.text.now = search rules in
    let back : c.split_at.result.1.now ≡ drop 11 c.args.text.now = search rules in
    let same : c.split_at.result.0.now ≡ take 11 c.self.inside.text = search rules in
    let written : written_moment c.in-Some-moment_in_day.moment ≡ take 11 (written_moment c.args.self.now) ++ written_time c.in-Some.second = search rules in
    let text : c.args.text.now ≡ written_moment c.in-Some-moment_in_day.moment =
    joined c.args.self.now c.in-Some-moment_in_day.moment c.in-Some.second c.args.text.now c.self.inside.text
    c.split_at.result.0.now c.split_at.result.1.now kept front back same c.in-Some.ensures.written written in
    record {
      text = λ yes. text;
      read = λ yes. read_back c.in-Some-moment_in_day.moment c.args.text.now c.in-Some-moment_in_day.ensures.range text;
    }
