use Rattle.std.proofs.Common.{rules, ◌≡◌, ap}
use Rattle.std.specs.Fmt.{decimal, digits}
use Rattle.model_generator.proofs.trace.written_depth.Goals as goal

pub returns-in-0 : goal.returns-in-0
unfolding digits
returns-in-0 c = let same : 0 ≡ c.args.depth = search rules in ap (λ n. decimal n) same

pub returns-in-1 : goal.returns-in-1
unfolding digits
returns-in-1 c = let same : 1 ≡ c.args.depth = search rules in ap (λ n. decimal n) same

pub returns-in-2 : goal.returns-in-2
unfolding digits
returns-in-2 c = let same : 2 ≡ c.args.depth = search rules in ap (λ n. decimal n) same

pub returns-in-3 : goal.returns-in-3
unfolding digits
returns-in-3 c = let same : 3 ≡ c.args.depth = search rules in ap (λ n. decimal n) same

pub returns-in-4 : goal.returns-in-4
unfolding digits
returns-in-4 c = let same : 4 ≡ c.args.depth = search rules in ap (λ n. decimal n) same

pub returns-in-5 : goal.returns-in-5
unfolding digits
returns-in-5 c = let same : 5 ≡ c.args.depth = search rules in ap (λ n. decimal n) same

pub returns-in-6 : goal.returns-in-6
unfolding digits
returns-in-6 c = let same : 6 ≡ c.args.depth = search rules in ap (λ n. decimal n) same

pub returns-in-7 : goal.returns-in-7
unfolding digits
returns-in-7 c = let same : 7 ≡ c.args.depth = search rules in ap (λ n. decimal n) same

pub returns-in-8 : goal.returns-in-8
unfolding digits
returns-in-8 c = let same : 8 ≡ c.args.depth = search rules in ap (λ n. decimal n) same

pub returns-in-9 : goal.returns-in-9
unfolding digits
returns-in-9 c = let same : 9 ≡ c.args.depth = search rules in ap (λ n. decimal n) same

pub returns-in_default : goal.returns-in_default
unfolding digits
returns-in_default c = let same : 10 ≡ c.args.depth = search rules in ap (λ n. decimal n) same
