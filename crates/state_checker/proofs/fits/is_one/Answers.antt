use Rattle.state_checker.proofs.FitSteps.{one_value}
use Rattle.state_checker.proofs.fits.is_one.Goals as goal

pub returns : goal.returns
returns c =
    record { value = one_value c.is_equal.result c.args.one.now c.args.other.now c.is_equal.ensures.exact }
