-- The three tests are those of what fits.
use Rattle.std.proofs.Common.{◌<◌, ◌^◌, pred, Some, arith, inl, inr, ap, ap₂, ◌∙◌}
use Rattle.std.specs.Prelude.{unsigned_abs}
use Rattle.std.proofs.lemmas.Int.{ints}
use Rattle.exact_fraction.specs.Number.{den}
use Rattle.exact_fraction.proofs.Held.{pair, den-pair, fits_from, fitting_none, fitting_some, narrowed}
use Rattle.exact_fraction.proofs.frac.fitting_number.Goals as goal
use Rattle.exact_fraction.proofs.frac.fitting_number.Goals.{then-num-via-then-num, then-num-via-else-num+then-num-gt-MOST, then-num-via-else-num+else-num-gt-MOST+then-den-gt-MOST}

pub returns-then-num : goal.returns-then-num
returns-then-num c =
    let q = pair c.args.num (pred (unsigned_abs c.args.den)) in
    let s = den-pair c.args.num c.args.den c.requires.positive in
    elim c.then-num.branch [
      | then-num-via-then-num w ↦ fitting_none q (inl (omega (arith, ints)))
      | then-num-via-else-num+then-num-gt-MOST w ↦ fitting_none q (inl (omega (arith, ints)))
      | then-num-via-else-num+else-num-gt-MOST+then-den-gt-MOST w ↦ fitting_none q (inr (omega (arith, ints, s)))
    ]

pub invariant_of-result : goal.invariant_of-result
invariant_of-result c =
    let q = pair c.args.num (pred (unsigned_abs c.args.den)) in
    let s = den-pair c.args.num c.args.den c.requires.positive in
    let n : unsigned_abs c.args.num < 2 ^ 63 = omega (arith, ints) in
    let d : unsigned_abs c.args.den < 2 ^ 63 = omega (arith, ints) in
    let e : den q < 2 ^ 63 = omega (arith, ints, s) in
    rw (narrowed c.args.num n, narrowed c.args.den d) (c.requires.positive, record { lowest = c.requires.lowest; fitting = fits_from q n e })

pub returns : goal.returns
returns c =
    let q = pair c.args.num (pred (unsigned_abs c.args.den)) in
    let s = den-pair c.args.num c.args.den c.requires.positive in
    let n : unsigned_abs c.args.num < 2 ^ 63 = omega (arith, ints) in
    let d : unsigned_abs c.args.den < 2 ^ 63 = omega (arith, ints) in
    let e : den q < 2 ^ 63 = omega (arith, ints, s) in
    ap Some (ap₂ (λ x y. pair x (pred (unsigned_abs y))) (narrowed c.args.num n) (narrowed c.args.den d)) ∙ fitting_some q n e
