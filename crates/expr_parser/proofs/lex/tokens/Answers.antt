use Rattle.std.proofs.Common.{◌++◌, sym, ap, ◌∙◌, rules, arith, append-nil}
use Rattle.std.proofs.lemmas.Grind.{common_steps}
use Rattle.std.proofs.lemmas.List.{drop_all}
use Rattle.expr_parser.specs.Tokens.{tokens, tokens_from}
use Rattle.expr_parser.proofs.Cutting.{ends_stray, goes_past}
use Rattle.expr_parser.proofs.lex.tokens.Goals as goal

pub returns-then-is_stray : goal.returns-then-is_stray
unfolding tokens
returns-then-is_stray c =
    let done = ends_stray c.args.text.now c.loop-at.found.items c.loop-at.at c.token_at-token.result c.loop-at.invariant.0 c.loop-at-test.true
    c.if-text-at-eq32.false c.token_at-token.ensures.value (grind arith) in
    first_of (search rules, grind (arith, common_steps))

pub loop-at-preserved : goal.loop-at-preserved
loop-at-preserved c =
    let more = goes_past c.args.text.now c.loop-at.found.items c.loop-at.at c.token_at-token.result c.loop-at.invariant.0 c.loop-at-test.true
    c.if-text-at-eq32.false c.token_at-token.ensures.value (grind arith) c.token_at-token.ensures.longer in
    first_of (search rules, grind (arith, common_steps))

pub returns : goal.returns
unfolding tokens
returns c =
    let none = ap (tokens_from c.loop-at.at 0) (drop_all c.loop-at.at c.args.text.now (omega arith)) in
    record { value = sym (append-nil c.loop-at.found.items) ∙ ap (λ ts. c.loop-at.found.items ++ ts) (sym none) ∙ c.loop-at.invariant.0 }
