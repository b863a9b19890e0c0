use Rattle.std.proofs.Common.{◌≡◌, true, false, rules, arith}
use Rattle.verdict_meaning.specs.Reaches.{same_key}
use Rattle.cert_checker.proofs.Entries.{all_passed, entry_passed, found_at}
use Rattle.cert_checker.proofs.pieces.place_of.Goals as goal

pub returns-then-eq : goal.returns-then-eq
returns-then-eq c =
    let same : same_key c.args.key.now c.index-keys-at.result.0 ≡ true = search rules in
    record {
      found =
          found_at c.args.key.now c.loop-at.at c.args.keys.now c.index-keys-at.result
          (omega (arith, c.loop-at-test.true)) c.index-keys-at.is same c.loop-at.invariant.0;
    }

pub loop-at-preserved : goal.loop-at-preserved
loop-at-preserved c =
    let other : same_key c.args.key.now c.index-keys-at.result.0 ≡ false = search rules in (
      entry_passed c.args.key.now c.loop-at.at c.args.keys.now c.index-keys-at.result
          (omega (arith, c.loop-at-test.true)) c.index-keys-at.is other c.loop-at.invariant.0,
      omega (arith, c.loop-at-test.true),
    )

pub returns : goal.returns
returns c = record {
  found =
      all_passed c.args.key.now c.loop-at.at c.args.keys.now
      (omega (arith, c.loop-at-test.false)) c.loop-at.invariant.0;
}
