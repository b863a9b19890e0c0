-- What the tokens of a formula are read as, by what the rules read where as many parentheses may
-- enclose one another as a formula may have levels.
use Rattle.std.proofs.Common.{◌≡◌, ℕ, suc, ◌+◌, ◌≤◌, Bool, true, false, nat_le, List}
use Rattle.std.proofs.Common.{[], ◌∷◌, length, Option, None, Some, is_some, Err, refl}
use Rattle.std.proofs.Common.{sym, ap, ◌∙◌, arith}
use Rattle.std.proofs.Common.{subst}
use Rattle.std.proofs.lemmas.Bool.Decides.{nat_tests}
use Rattle.expr_parser.specs.declared.acceptance.Stage.TheVariants.{Operand}
use Rattle.expr_parser.specs.declared.built.Built.{Built}
use Rattle.expr_parser.specs.declared.fault.ExprCause.TheVariants.{BadExpression, NumberTooLarge}
use Rattle.expr_parser.specs.declared.fault.ExprCause.TheVariants.{TooDeep}
use Rattle.expr_parser.specs.declared.token.Token.{Token}
use Rattle.expr_parser.specs.Parsers.{Outcome}
use Rattle.expr_parser.specs.Formulas.{Source, most_levels, sum, if_whole, formula_in}
use Rattle.expr_parser.specs.Reading.{is_too_large, first_token, unless_at, whole_span}
use Rattle.expr_parser.specs.Reading.{if_shallow, built_or_fault}
use Rattle.expr_parser.specs.internal.Acceptance.{accepts}
use Rattle.expr_parser.proofs.Accepted.{accepts-formula}
use Rattle.expr_parser.proofs.Nesting.{Extends, more, as_few}

-- what stands behind a whole formula
at_end : (source : Source) (o : Outcome Built) (b : Built) (rest : List Token) → o ≡ Some (b, rest) → is_some (if_whole source o) ≡ true → if_whole source o ≡ Some b
at_end source o b [] e some = ap (if_whole source) e
at_end source o b (t ∷ ts) e some = let none : is_some (if_whole source o) ≡ false = ap (λ x. is_some (if_whole source x)) e in absurd (cc)

pub whole_is : (source : Source) (o : Outcome Built) (b : Built) → if_whole source o ≡ Some b → o ≡ Some (b, [])
whole_is source None b h = absurd (cc)
whole_is source (Some (a, [])) b h = let same : a ≡ b = cc in ap (λ x. Some (x, [])) same
whole_is source (Some (a, t ∷ ts)) b h = absurd (cc)

-- a formula whose levels are too many
deep_by : (text : List ℕ) (b : Built) (t : Bool) → nat_le b.levels most_levels ≡ t → (b.levels ≤ most_levels → ⊥)
    → if_shallow text b ≡ Err (record { cause = TooDeep; span = whole_span text })
unfolding if_shallow
deep_by text b false e h = rw (e) refl
deep_by text b true e h = absurd (h (grind (arith, nat_tests)))

not_read : (few o : Outcome Built) (b : Built) → few ≡ None → o ≡ Some (b, []) → Extends (λ n. n ≤ most_levels) o few → b.levels ≤ most_levels → ⊥
not_read few o b none e h le =
    let extended : Extends (λ n. n ≤ most_levels) (Some (b, [])) few =
    subst (λ x. Extends (λ n. n ≤ most_levels) x few) e h in
    let found = extended le in
    absurd (cc)

none_of : (o : Option Built) → is_some o ≡ false → o ≡ None
none_of None h = refl
none_of (Some b) h = absurd (cc)

module _ (source : Source) (ts : List Token) (accepted : accepts source Operand 0 ts ≡ true) where
  some : is_some (formula_in source ts) ≡ true
  some = sym (accepts-formula source ts) ∙ accepted

  built_from : (o : Option Built) → is_some o ≡ true → (b : Built) × (o ≡ Some b)
  built_from None h = absurd (cc)
  built_from (Some b) h = (b, refl)

  pub too_large : (token : Token) → first_token (is_too_large source) ts ≡ Some token
      → built_or_fault source ts (formula_in source ts) ≡ Err (record { cause = NumberTooLarge; span = token.span })
  unfolding built_or_fault
  too_large token e =
      let found = built_from (formula_in source ts) some in
      ap (built_or_fault source ts) found.1 ∙ ap (λ t. unless_at NumberTooLarge t (if_shallow source.text found.0)) e

  pub read : (b : Built) (rest : List Token) → first_token (is_too_large source) ts ≡ None → sum source (suc most_levels) ts ≡ Some (b, rest)
      → built_or_fault source ts (formula_in source ts) ≡ if_shallow source.text b
  unfolding built_or_fault formula_in
  read b rest none e =
      let order : length ts + suc most_levels ≡ suc most_levels + length ts = omega arith in
      let all = ap (λ n. sum source n ts) (sym order) ∙ more source (length ts) (suc most_levels) ts (b, rest) e in
      ap (built_or_fault source ts) (at_end source (sum source (suc most_levels + length ts) ts) b rest all some) ∙ ap (λ t. unless_at NumberTooLarge t (if_shallow source.text b)) none

  pub deep : first_token (is_too_large source) ts ≡ None → sum source (suc most_levels) ts ≡ None
      → built_or_fault source ts (formula_in source ts) ≡ Err (record { cause = TooDeep; span = whole_span source.text })
  unfolding built_or_fault formula_in
  deep none e =
      let nesting = suc most_levels + length ts in
      let found = built_from (formula_in source ts) some in
      let never = not_read (sum source (suc most_levels) ts) (sum source nesting ts) found.0 e (whole_is source (sum source nesting ts) found.0 found.1)
      (as_few source nesting most_levels ts (omega arith)) in
      ap (built_or_fault source ts) found.1 ∙ ap (λ t. unless_at NumberTooLarge t (if_shallow source.text found.0)) none
      ∙ deep_by source.text found.0 (nat_le found.0.levels most_levels) refl never

-- tokens that are not accepted
pub refused : (source : Source) (ts : List Token) → accepts source Operand 0 ts ≡ false
    → built_or_fault source ts (formula_in source ts) ≡ Err (record { cause = BadExpression; span = whole_span source.text })
unfolding built_or_fault
refused source ts h = ap (built_or_fault source ts) (none_of (formula_in source ts) (sym (accepts-formula source ts) ∙ h))
