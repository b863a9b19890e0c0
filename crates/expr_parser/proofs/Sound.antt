-- What is read has the levels that are counted, exponents of at most 8, and names of variables
-- alone.
use Rattle.std.proofs.Common.{◌≡◌, ℕ, zero, suc, ◌+◌, ◌-◌, ◌<◌, ◌≤◌, Bool, true, false, not, ◌&&◌}
use Rattle.std.proofs.Common.{nat_le, if◌then◌else◌, max, List, [], ◌∷◌, length, Option, None, Some}
use Rattle.std.proofs.Common.{is_some, is_none, option_and_then, slice_get, Result, Ok, Err, refl}
use Rattle.std.proofs.Common.{sym, ap, ◌∙◌, subst, arith}
use Rattle.std.specs.Prelude.{IsTrue}
use Rattle.std.proofs.lemmas.Bool.Decides.{nat_tests}
use Rattle.exact_fraction.specs.Number.{Rational}
use Rattle.exact_fraction.specs.Number as fraction
use Rattle.num_text.specs.Numbers.{number_in}
use Rattle.rule_types.specs.declared.expr.Expr.{Expr}
use Rattle.rule_types.specs.declared.expr.Expr.TheVariants as formula
use Rattle.rule_types.specs.declared.expr.Expr.TheOpen.{Expr-F}
use Rattle.rule_types.specs.declared.expr.Expr.TheFolds.{fold-Expr, fold-roll-Expr}
use Rattle.rule_types.specs.Formulas.{levels_step, exponents_step, names_pass_step, levels, has_small_exponents, names_pass}
use Rattle.expr_parser.specs.declared.token.TokenKind.{TokenKind}
use Rattle.expr_parser.specs.declared.token.TokenKind.TheVariants.{Name, Number, Plus, Minus, Star}
use Rattle.expr_parser.specs.declared.token.TokenKind.TheVariants.{Slash, Caret, Open, Close, Stray}
use Rattle.expr_parser.specs.declared.token.TokenKind.TheVariants.{End}
use Rattle.expr_parser.specs.declared.token.Token.{Token}
use Rattle.expr_parser.specs.declared.name_index.DeclaredName.{DeclaredName}
use Rattle.expr_parser.specs.declared.function.Function.{Function}
use Rattle.expr_parser.specs.declared.function.Function.TheVariants.{Abs, Sgn, Step}
use Rattle.expr_parser.specs.declared.built.Built.{Built}
use Rattle.expr_parser.specs.declared.built.Operator.{Operator}
use Rattle.expr_parser.specs.declared.built.Operator.TheVariants.{Add, Subtract, Multiply, Divide}
use Rattle.expr_parser.specs.declared.fault.ExprCause.{ExprCause}
use Rattle.expr_parser.specs.declared.fault.ExprCause.TheVariants.{UnknownName, OutsideFunction}
use Rattle.expr_parser.specs.declared.fault.ExprCause.TheVariants.{NumberTooLarge, TooDeep}
use Rattle.expr_parser.specs.Formulas.{value_or_zero, refused_formula, operator_formula}
use Rattle.expr_parser.specs.Reading.{is_outside, is_too_large, whole_span}
use Rattle.expr_parser.specs.Names.{place_of, if_variable, variable_of, is_variable_at}
use Rattle.expr_parser.specs.Tokens.{kind, tokens, token_text}
use Rattle.expr_parser.specs.Parsers.{Outcome, Parser, and_then, pure, is_close}
use Rattle.expr_parser.specs.Formulas.{Source, function_of, digit_in, digit_of, place_or_first}
use Rattle.expr_parser.specs.Formulas.{most_levels, deeper, leaf, constant, enclosed, negated}
use Rattle.expr_parser.specs.Formulas.{applied, raised, joined, variable}
use Rattle.expr_parser.specs.Formulas.{sum_operator, product_operator, continued}
use Rattle.expr_parser.specs.Formulas.{chain, operations, closed, digit_or_none, power_by, exponent}
use Rattle.expr_parser.specs.Formulas.{power_behind, to_power, group, called, named_by, named}
use Rattle.expr_parser.specs.Formulas.{atom_by, atom, power, signed_by, signed, product, products}
use Rattle.expr_parser.specs.Formulas.{sum, formula_in}
use Rattle.expr_parser.specs.Reading.{is_name, is_open, is_unknown, first_token, FaultAt, unless_at}
use Rattle.expr_parser.specs.Reading.{if_shallow, built_or_fault, formula_of, expr_in, IsBuilt}
use Rattle.expr_parser.proofs.Nesting.{deeper-above, deeper-low}
use Rattle.expr_parser.proofs.Readings.{whole_is}

-- a formula and its count of levels, where names pass a test
record IsSound (passes : ℕ → Bool) (b : Built) : Type 0 where
  few : b.levels ≤ most_levels → levels b.formula ≤ b.levels
  exponents : has_small_exponents b.formula ≡ true
  variables : names_pass passes b.formula ≡ true

-- the equations of a fold at formulas of one node
of_number : {A : Type 0} (step : Expr-F A → A) (q : Rational) → fold-Expr A step (formula.Number q) ≡ step (Expr-F.Number q)
of_number {A = A} step q = ap (fold-Expr A step) (sym (formula.rolls-Number q)) ∙ fold-roll-Expr A step (Expr-F.Number q)

of_name : {A : Type 0} (step : Expr-F A → A) (n : ℕ) → fold-Expr A step (formula.Name n) ≡ step (Expr-F.Name n)
of_name {A = A} step n = ap (fold-Expr A step) (sym (formula.rolls-Name n)) ∙ fold-roll-Expr A step (Expr-F.Name n)

of_neg : {A : Type 0} (step : Expr-F A → A) (a : Expr) → fold-Expr A step (formula.Neg a) ≡ step (Expr-F.Neg (fold-Expr A step a))
of_neg {A = A} step a = ap (fold-Expr A step) (sym (formula.rolls-Neg a)) ∙ fold-roll-Expr A step (Expr-F.Neg a)

of_abs : {A : Type 0} (step : Expr-F A → A) (a : Expr) → fold-Expr A step (formula.Abs a) ≡ step (Expr-F.Abs (fold-Expr A step a))
of_abs {A = A} step a = ap (fold-Expr A step) (sym (formula.rolls-Abs a)) ∙ fold-roll-Expr A step (Expr-F.Abs a)

of_sgn : {A : Type 0} (step : Expr-F A → A) (a : Expr) → fold-Expr A step (formula.Sgn a) ≡ step (Expr-F.Sgn (fold-Expr A step a))
of_sgn {A = A} step a = ap (fold-Expr A step) (sym (formula.rolls-Sgn a)) ∙ fold-roll-Expr A step (Expr-F.Sgn a)

of_step : {A : Type 0} (step : Expr-F A → A) (a : Expr) → fold-Expr A step (formula.Step a) ≡ step (Expr-F.Step (fold-Expr A step a))
of_step {A = A} step a = ap (fold-Expr A step) (sym (formula.rolls-Step a)) ∙ fold-roll-Expr A step (Expr-F.Step a)

of_add : {A : Type 0} (step : Expr-F A → A) (a b : Expr) → fold-Expr A step (formula.Add a b) ≡ step (Expr-F.Add (fold-Expr A step a) (fold-Expr A step b))
of_add {A = A} step a b = ap (fold-Expr A step) (sym (formula.rolls-Add a b)) ∙ fold-roll-Expr A step (Expr-F.Add a b)

of_sub : {A : Type 0} (step : Expr-F A → A) (a b : Expr) → fold-Expr A step (formula.Sub a b) ≡ step (Expr-F.Sub (fold-Expr A step a) (fold-Expr A step b))
of_sub {A = A} step a b = ap (fold-Expr A step) (sym (formula.rolls-Sub a b)) ∙ fold-roll-Expr A step (Expr-F.Sub a b)

of_mul : {A : Type 0} (step : Expr-F A → A) (a b : Expr) → fold-Expr A step (formula.Mul a b) ≡ step (Expr-F.Mul (fold-Expr A step a) (fold-Expr A step b))
of_mul {A = A} step a b = ap (fold-Expr A step) (sym (formula.rolls-Mul a b)) ∙ fold-roll-Expr A step (Expr-F.Mul a b)

of_div : {A : Type 0} (step : Expr-F A → A) (a b : Expr) → fold-Expr A step (formula.Div a b) ≡ step (Expr-F.Div (fold-Expr A step a) (fold-Expr A step b))
of_div {A = A} step a b = ap (fold-Expr A step) (sym (formula.rolls-Div a b)) ∙ fold-roll-Expr A step (Expr-F.Div a b)

of_pow : {A : Type 0} (step : Expr-F A → A) (a : Expr) (n : ℕ) → fold-Expr A step (formula.Pow a n) ≡ step (Expr-F.Pow (fold-Expr A step a) n)
of_pow {A = A} step a n = ap (fold-Expr A step) (sym (formula.rolls-Pow a n)) ∙ fold-roll-Expr A step (Expr-F.Pow a n)

-- a level above those below it
above_one : (n m : ℕ) → (n ≤ most_levels → m ≤ n) → deeper n ≤ most_levels → suc m ≤ deeper n
above_one n m h few =
    let low : n < most_levels + 1 = omega (arith, deeper-above n most_levels (omega arith) few) in
    let at : deeper n ≡ suc n = deeper-low n (omega arith) in
    let most : m ≤ n = h (omega arith) in
    omega arith

both : (x y : Bool) → x ≡ true → y ≡ true → (x && y) ≡ true
both x y a b = grind arith

module _ (passes : ℕ → Bool) where
  constant_sound : (q : Rational) → IsSound passes (leaf (formula.Number q))
  constant_sound q = record {
    few = λ _. rw (of_number levels_step q) (omega arith);
    exponents = of_number exponents_step q;
    variables = of_number (names_pass_step passes) q;
  }

  name_sound : (n : ℕ) → passes n ≡ true → IsSound passes (leaf (formula.Name n))
  name_sound n h = record {
    few = λ _. rw (of_name levels_step n) (omega arith);
    exponents = of_name exponents_step n;
    variables = of_name (names_pass_step passes) n ∙ h;
  }

  enclosed_sound : (b : Built) → IsSound passes b → IsSound passes (enclosed b)
  unfolding enclosed
  enclosed_sound b h = record {
    few = λ low. omega (arith, above_one b.levels (levels b.formula) h.few low);
    exponents = h.exponents;
    variables = h.variables;
  }

  negated_sound : (b : Built) → IsSound passes b → IsSound passes (negated b)
  unfolding negated
  negated_sound b h = record {
    few = λ low. rw (of_neg levels_step b.formula) (above_one b.levels (levels b.formula) h.few low);
    exponents = of_neg exponents_step b.formula ∙ (h.exponents);
    variables = of_neg (names_pass_step passes) b.formula ∙ (h.variables);
  }

  raised_sound : (b : Built) (n : ℕ) → nat_le n 8 ≡ true → IsSound passes b → IsSound passes (raised b n)
  unfolding raised
  raised_sound b n small h = record {
    few = λ low. rw (of_pow levels_step b.formula n) (above_one b.levels (levels b.formula) h.few low);
    exponents = of_pow exponents_step b.formula n ∙ (both (has_small_exponents b.formula) (nat_le n 8) h.exponents small);
    variables = of_pow (names_pass_step passes) b.formula n ∙ (h.variables);
  }

  applied_sound : (function : Function) (b : Built) → IsSound passes b → IsSound passes (applied function b)
  unfolding applied
  applied_sound Abs b h = record {
    few = λ low. rw (of_abs levels_step b.formula) (above_one b.levels (levels b.formula) h.few low);
    exponents = of_abs exponents_step b.formula ∙ (h.exponents);
    variables = of_abs (names_pass_step passes) b.formula ∙ (h.variables);
  }
  applied_sound Sgn b h = record {
    few = λ low. rw (of_sgn levels_step b.formula) (above_one b.levels (levels b.formula) h.few low);
    exponents = of_sgn exponents_step b.formula ∙ (h.exponents);
    variables = of_sgn (names_pass_step passes) b.formula ∙ (h.variables);
  }
  applied_sound Step b h = record {
    few = λ low. rw (of_step levels_step b.formula) (above_one b.levels (levels b.formula) h.few low);
    exponents = of_step exponents_step b.formula ∙ (h.exponents);
    variables = of_step (names_pass_step passes) b.formula ∙ (h.variables);
  }

  deepest : (a b : Built) → IsSound passes a → IsSound passes b → max a.levels b.levels ≤ most_levels
      → max (levels a.formula) (levels b.formula) ≤ max a.levels b.levels
  deepest a b h k low =
      let left : levels a.formula ≤ a.levels = h.few (omega arith) in
      let right : levels b.formula ≤ b.levels = k.few (omega arith) in
      omega arith

  joined_by : (operator : Operator) (a b : Built) → IsSound passes a → IsSound passes b → (t : Bool) → nat_le (deeper (max a.levels b.levels)) most_levels ≡ t
      → IsSound passes (record { formula = if t then operator_formula operator a.formula b.formula else refused_formula; levels = deeper (max a.levels b.levels) })
  joined_by operator a b h k false e = record {
    few = λ low. absurd (grind (arith, nat_tests));
    exponents = of_number exponents_step fraction.zero;
    variables = of_number (names_pass_step passes) fraction.zero;
  }
  joined_by Add a b h k true e = record {
    few = λ low. rw (of_add levels_step a.formula b.formula) (above_one (max a.levels b.levels) (max (levels a.formula) (levels b.formula)) (deepest a b h k) low);
    exponents = of_add exponents_step a.formula b.formula ∙ (both (has_small_exponents a.formula) (has_small_exponents b.formula) h.exponents k.exponents);
    variables = of_add (names_pass_step passes) a.formula b.formula ∙ (both (names_pass passes a.formula) (names_pass passes b.formula) h.variables k.variables);
  }
  joined_by Subtract a b h k true e = record {
    few = λ low. rw (of_sub levels_step a.formula b.formula) (above_one (max a.levels b.levels) (max (levels a.formula) (levels b.formula)) (deepest a b h k) low);
    exponents = of_sub exponents_step a.formula b.formula ∙ (both (has_small_exponents a.formula) (has_small_exponents b.formula) h.exponents k.exponents);
    variables = of_sub (names_pass_step passes) a.formula b.formula ∙ (both (names_pass passes a.formula) (names_pass passes b.formula) h.variables k.variables);
  }
  joined_by Multiply a b h k true e = record {
    few = λ low. rw (of_mul levels_step a.formula b.formula) (above_one (max a.levels b.levels) (max (levels a.formula) (levels b.formula)) (deepest a b h k) low);
    exponents = of_mul exponents_step a.formula b.formula ∙ (both (has_small_exponents a.formula) (has_small_exponents b.formula) h.exponents k.exponents);
    variables = of_mul (names_pass_step passes) a.formula b.formula ∙ (both (names_pass passes a.formula) (names_pass passes b.formula) h.variables k.variables);
  }
  joined_by Divide a b h k true e = record {
    few = λ low. rw (of_div levels_step a.formula b.formula) (above_one (max a.levels b.levels) (max (levels a.formula) (levels b.formula)) (deepest a b h k) low);
    exponents = of_div exponents_step a.formula b.formula ∙ (both (has_small_exponents a.formula) (has_small_exponents b.formula) h.exponents k.exponents);
    variables = of_div (names_pass_step passes) a.formula b.formula ∙ (both (names_pass passes a.formula) (names_pass passes b.formula) h.variables k.variables);
  }

  joined_sound : (operator : Operator) (a b : Built) → IsSound passes a → IsSound passes b → IsSound passes (joined operator a b)
  unfolding joined
  joined_sound operator a b h k = joined_by operator a b h k (nat_le (deeper (max a.levels b.levels)) most_levels) refl

-- the number that a name finds is that of a variable
same_place : (p n : ℕ) (x : Option DeclaredName) → if_variable p x ≡ Some n → p ≡ n
same_place p n None h = absurd (cc)
same_place p n (Some declared) h = by_test declared.is_variable h
  where
    by_test : (t : Bool) → (if t then Some p else None) ≡ Some n → p ≡ n
    by_test true e = cc
    by_test false e = absurd (cc)

found_variable : (names : List DeclaredName) (o : Option ℕ) (n : ℕ) → option_and_then (λ p. if_variable p (slice_get names p)) o ≡ Some n
    → is_variable_at names n ≡ true
found_variable names None n h = absurd (cc)
found_variable names (Some p) n h =
    let same : p ≡ n = same_place p n (slice_get names p) h in
    let there : is_variable_at names p ≡ true = ap is_some h in
    subst (λ m. is_variable_at names m ≡ true) same there

variable_passes : (names : List DeclaredName) (name : List ℕ) (o : Option ℕ) → variable_of names name ≡ o → is_none o ≡ false
    → is_variable_at names (place_or_first o) ≡ true
unfolding variable_of
variable_passes names name None e h = absurd (cc)
variable_passes names name (Some n) e h = found_variable names (place_of names name) n e

-- the digits of powers are at most 8
digit_small : (text : List ℕ) (n : ℕ) → digit_in text ≡ Some n → nat_le n 8 ≡ true
digit_small [] n h = absurd (cc)
digit_small (byte ∷ other ∷ bytes) n h = absurd (cc)
digit_small (byte ∷ []) n h = by_test (nat_le 48 byte && nat_le byte 56) refl h
  where
    by_test : (t : Bool) → (nat_le 48 byte && nat_le byte 56) ≡ t → (if t then Some (byte - 48) else None) ≡ Some n → nat_le n 8 ≡ true
    by_test false e i = absurd (cc)
    by_test true e i = let same : byte - 48 ≡ n = cc in grind (arith, nat_tests)

-- where the first token that passes is none, the token at the head does not pass, and none of the others does
none_first : (t : Bool) (token : Token) (o : Option Token) → (if t then Some token else o) ≡ None → (t ≡ false) × (o ≡ None)
none_first true token o h = absurd (cc)
none_first false token o h = (refl, h)

module _ (source : Source) (passes : ℕ → Bool) (holds : (n : ℕ) → is_variable_at source.names n ≡ true → passes n ≡ true) where
  abbrev Known : List Token → Type 0
  Known ts = first_token (is_unknown source) ts ≡ None

  known_later : (t : Token) (ts : List Token) → Known (t ∷ ts) → Known ts
  known_later t ts h = (none_first (is_unknown source t (kind ts)) t (first_token (is_unknown source) ts) h).1

  -- a name without `(` behind it is that of a variable
  known_name : (t : Token) (ts : List Token) → Known (t ∷ ts) → t.kind ≡ Name → is_open (kind ts) ≡ false
      → is_none (variable_of source.names (token_text source.text t)) ≡ false
  unfolding is_unknown
  known_name t ts h name closed =
      let e = (none_first (is_unknown source t (kind ts)) t (first_token (is_unknown source) ts) h).0 in
      by_kind t.kind (is_open (kind ts)) (is_none (variable_of source.names (token_text source.text t))) name closed e
    where
      by_kind : (k : TokenKind) (o x : Bool) → k ≡ Name → o ≡ false → (is_name k && not o && x) ≡ false → x ≡ false
      by_kind k o x a b e = let named : is_name k ≡ true = ap is_name a in grind arith

  abbrev Sound : Outcome Built → Type 0
  Sound None = Unit {0}
  Sound (Some found) = IsSound passes found.0 × Known found.1

  sound_then : (o : Outcome Built) (next : Built → Parser Built) → Sound o
      → ((b : Built) (rest : List Token) → IsSound passes b → Known rest → Sound (next b rest)) → Sound (and_then o next)
  sound_then None next h f = tt
  sound_then (Some found) next h f = f found.0 found.1 h.0 h.1

  module _ (operand : Parser Built) (operators : TokenKind → Option Operator) (reads : (ts : List Token) → Known ts → Sound (operand ts)) where
    continued_sound : (later : Built → Parser Built) → ((left : Built) (ts : List Token) → IsSound passes left → Known ts → Sound (later left ts))
        → (left : Built) (ts : List Token) (o : Option Operator) → IsSound passes left → Known ts → Sound (continued operand later left o ts)
    continued_sound later sound left ts None h known = (h, known)
    continued_sound later sound left [] (Some operator) h known = tt
    continued_sound later sound left (t ∷ ts) (Some operator) h known =
        sound_then (operand ts) (λ right. later (joined operator left right)) (reads ts (known_later t ts known))
        (λ right rest k some. sound (joined operator left right) rest (joined_sound passes operator left right h k) some)

    chain_sound : (turns : ℕ) (left : Built) (ts : List Token) → IsSound passes left → Known ts → Sound (chain operand operators turns left ts)
    chain_sound zero left ts h known = (h, known)
    chain_sound (suc turns) left ts h known =
        continued_sound (chain operand operators turns) (chain_sound turns) left ts (operators (kind ts)) h known

    operations_sound : (left : Built) (ts : List Token) → IsSound passes left → Known ts → Sound (operations operand operators left ts)
    unfolding operations
    operations_sound left ts h known = chain_sound (length ts) left ts h known

  digit_sound : (b : Built) (digit : Option ℕ) (ts : List Token) → ((n : ℕ) → digit ≡ Some n → nat_le n 8 ≡ true)
      → IsSound passes b → Known ts → Sound (digit_or_none b digit ts)
  digit_sound b None ts small h known = tt
  digit_sound b (Some power) ts small h known = (raised_sound passes b power (small power refl) h, known)

  digit_of-small : (t : Token) (n : ℕ) → digit_of source t ≡ Some n → nat_le n 8 ≡ true
  unfolding digit_of
  digit_of-small t n h = digit_small (token_text source.text t) n h

  power_by_sound : (b : Built) (t : Token) (ts : List Token) (k : TokenKind) → IsSound passes b → Known (t ∷ ts) → Sound (power_by source b k (t ∷ ts))
  power_by_sound b t ts Number h known = digit_sound b (digit_of source t) ts (digit_of-small t) h (known_later t ts known)
  power_by_sound b t ts Name h known = tt
  power_by_sound b t ts Plus h known = tt
  power_by_sound b t ts Minus h known = tt
  power_by_sound b t ts Star h known = tt
  power_by_sound b t ts Slash h known = tt
  power_by_sound b t ts Caret h known = tt
  power_by_sound b t ts Open h known = tt
  power_by_sound b t ts Close h known = tt
  power_by_sound b t ts Stray h known = tt
  power_by_sound b t ts End h known = tt

  exponent_sound : (b : Built) (ts : List Token) → IsSound passes b → Known ts → Sound (exponent source b ts)
  unfolding exponent
  exponent_sound b [] h known = tt
  exponent_sound b (t ∷ ts) h known = power_by_sound b t ts t.kind h known

  power_behind_sound : (b : Built) (t : Token) (ts : List Token) (k : TokenKind) → IsSound passes b → Known (t ∷ ts) → Sound (power_behind source b k (t ∷ ts))
  power_behind_sound b t ts Caret h known = exponent_sound b ts h (known_later t ts known)
  power_behind_sound b t ts Name h known = (h, known)
  power_behind_sound b t ts Number h known = (h, known)
  power_behind_sound b t ts Plus h known = (h, known)
  power_behind_sound b t ts Minus h known = (h, known)
  power_behind_sound b t ts Star h known = (h, known)
  power_behind_sound b t ts Slash h known = (h, known)
  power_behind_sound b t ts Open h known = (h, known)
  power_behind_sound b t ts Close h known = (h, known)
  power_behind_sound b t ts Stray h known = (h, known)
  power_behind_sound b t ts End h known = (h, known)

  to_power_sound : (b : Built) (ts : List Token) → IsSound passes b → Known ts → Sound (to_power source b ts)
  unfolding to_power
  to_power_sound b [] h known = (h, known)
  to_power_sound b (t ∷ ts) h known = power_behind_sound b t ts t.kind h known

  closed_sound_by : (b : Built) (ts : List Token) (c : Bool) → IsSound passes b → Known ts → Sound (if c then Some (b, ts) else None)
  closed_sound_by b ts true h known = (h, known)
  closed_sound_by b ts false h known = tt

  closed_sound : (b : Built) (ts : List Token) → IsSound passes b → Known ts → Sound (closed b ts)
  unfolding closed
  closed_sound b [] h known = tt
  closed_sound b (t ∷ ts) h known = closed_sound_by b ts (is_close t.kind) h (known_later t ts known)

  variable_sound : (t : Token) (ts : List Token) → Known (t ∷ ts) → t.kind ≡ Name → is_open (kind ts) ≡ false → Sound (pure (variable source t) ts)
  unfolding variable
  variable_sound t ts known name closed =
      let o = variable_of source.names (token_text source.text t) in (
        name_sound passes (place_or_first o) (holds (place_or_first o) (variable_passes source.names (token_text source.text t) o refl (known_name t ts known name closed))),
        known_later t ts known,
      )

  number_sound : (t : Token) (ts : List Token) → Known (t ∷ ts) → Sound (pure (constant source t) ts)
  unfolding constant
  number_sound t ts known = (constant_sound passes (value_or_zero (number_in (token_text source.text t))), known_later t ts known)

  -- the rules over a rule for what parentheses enclose
  module _ (inner : Parser Built) (reads : (ts : List Token) → Known ts → Sound (inner ts)) where
    group_sound : (t : Token) (ts : List Token) → Known (t ∷ ts) → Sound (group source inner (t ∷ ts))
    unfolding group
    group_sound t ts known = sound_then (inner ts) closed (reads ts (known_later t ts known)) closed_sound

    called_sound : (f : Option Function) (t : Token) (ts : List Token) → Known (t ∷ ts) → Sound (called source inner f (t ∷ ts))
    called_sound None t ts known = tt
    called_sound (Some function) t ts known =
        sound_then (group source inner (t ∷ ts)) (λ a. pure (applied function a)) (group_sound t ts known)
        (λ b rest h some. (applied_sound passes function b h, some))

    named_by_sound : (name t : Token) (ts : List Token) (k : TokenKind) → Known (name ∷ t ∷ ts) → name.kind ≡ Name → t.kind ≡ k
        → Sound (named_by source inner name k (t ∷ ts))
    named_by_sound name t ts Open known is e = called_sound (function_of source name) t ts (known_later name (t ∷ ts) known)
    named_by_sound name t ts Name known is e = variable_sound name (t ∷ ts) known is (ap is_open e)
    named_by_sound name t ts Number known is e = variable_sound name (t ∷ ts) known is (ap is_open e)
    named_by_sound name t ts Plus known is e = variable_sound name (t ∷ ts) known is (ap is_open e)
    named_by_sound name t ts Minus known is e = variable_sound name (t ∷ ts) known is (ap is_open e)
    named_by_sound name t ts Star known is e = variable_sound name (t ∷ ts) known is (ap is_open e)
    named_by_sound name t ts Slash known is e = variable_sound name (t ∷ ts) known is (ap is_open e)
    named_by_sound name t ts Caret known is e = variable_sound name (t ∷ ts) known is (ap is_open e)
    named_by_sound name t ts Close known is e = variable_sound name (t ∷ ts) known is (ap is_open e)
    named_by_sound name t ts Stray known is e = variable_sound name (t ∷ ts) known is (ap is_open e)
    named_by_sound name t ts End known is e = variable_sound name (t ∷ ts) known is (ap is_open e)

    named_sound : (name : Token) (ts : List Token) → Known (name ∷ ts) → name.kind ≡ Name → Sound (named source inner name ts)
    unfolding named
    named_sound name [] known is = variable_sound name [] known is refl
    named_sound name (t ∷ ts) known is = named_by_sound name t ts t.kind known is refl

    atom_by_sound : (t : Token) (ts : List Token) (k : TokenKind) → Known (t ∷ ts) → t.kind ≡ k → Sound (atom_by source inner k (t ∷ ts))
    atom_by_sound t ts Name known e = named_sound t ts known e
    atom_by_sound t ts Number known e = number_sound t ts known
    atom_by_sound t ts Open known e =
        sound_then (group source inner (t ∷ ts)) (λ a. pure (enclosed a)) (group_sound t ts known) (λ b rest h some. (enclosed_sound passes b h, some))
    atom_by_sound t ts Plus known e = tt
    atom_by_sound t ts Minus known e = tt
    atom_by_sound t ts Star known e = tt
    atom_by_sound t ts Slash known e = tt
    atom_by_sound t ts Caret known e = tt
    atom_by_sound t ts Close known e = tt
    atom_by_sound t ts Stray known e = tt
    atom_by_sound t ts End known e = tt

    atom_sound : (ts : List Token) → Known ts → Sound (atom source inner ts)
    unfolding atom
    atom_sound [] known = tt
    atom_sound (t ∷ ts) known = atom_by_sound t ts t.kind known refl

    power_sound : (ts : List Token) → Known ts → Sound (power source inner ts)
    unfolding power
    power_sound ts known = sound_then (atom source inner ts) (to_power source) (atom_sound ts known) to_power_sound

    signed_by_sound : (t : Token) (ts : List Token) (k : TokenKind) → Known (t ∷ ts) → Sound (signed_by source inner k (t ∷ ts))
    signed_by_sound t ts Plus known =
        sound_then (power source inner ts) (λ a. pure (enclosed a)) (power_sound ts (known_later t ts known)) (λ b rest h some. (enclosed_sound passes b h, some))
    signed_by_sound t ts Minus known =
        sound_then (power source inner ts) (λ a. pure (negated a)) (power_sound ts (known_later t ts known)) (λ b rest h some. (negated_sound passes b h, some))
    signed_by_sound t ts Name known = power_sound (t ∷ ts) known
    signed_by_sound t ts Number known = power_sound (t ∷ ts) known
    signed_by_sound t ts Star known = power_sound (t ∷ ts) known
    signed_by_sound t ts Slash known = power_sound (t ∷ ts) known
    signed_by_sound t ts Caret known = power_sound (t ∷ ts) known
    signed_by_sound t ts Open known = power_sound (t ∷ ts) known
    signed_by_sound t ts Close known = power_sound (t ∷ ts) known
    signed_by_sound t ts Stray known = power_sound (t ∷ ts) known
    signed_by_sound t ts End known = power_sound (t ∷ ts) known

    signed_sound : (ts : List Token) → Known ts → Sound (signed source inner ts)
    unfolding signed
    signed_sound [] known = power_sound [] known
    signed_sound (t ∷ ts) known = signed_by_sound t ts t.kind known

    product_sound : (ts : List Token) → Known ts → Sound (product source inner ts)
    unfolding product
    product_sound ts known =
        sound_then (signed source inner ts) (operations (signed source inner) product_operator) (signed_sound ts known)
        (operations_sound (signed source inner) product_operator signed_sound)

    products_sound : (ts : List Token) → Known ts → Sound (products source inner ts)
    unfolding products
    products_sound ts known =
        sound_then (product source inner ts) (operations (product source inner) sum_operator) (product_sound ts known)
        (operations_sound (product source inner) sum_operator product_sound)

  sum_sound : (nesting : ℕ) (ts : List Token) → Known ts → Sound (sum source nesting ts)
  unfolding sum
  sum_sound zero ts known = tt
  sum_sound (suc nesting) ts known = products_sound (sum source nesting) (sum_sound nesting) ts known

  formula_sound : (ts : List Token) (b : Built) → Known ts → formula_in source ts ≡ Some b → IsSound passes b
  unfolding formula_in
  formula_sound ts b known e =
      let nesting = suc most_levels + length ts in
      let whole = whole_is source (sum source nesting ts) b e in
      let found : Sound (Some (b, [])) = subst Sound whole (sum_sound nesting ts known) in
      found.0

-- what a reading without fault says
no_fault_at : (cause : ExprCause) (o : Option Token) (later : Result Expr FaultAt) (formula : Expr) → unless_at cause o later ≡ Ok formula
    → (o ≡ None) × (later ≡ Ok formula)
no_fault_at cause None later formula h = (refl, h)
no_fault_at cause (Some t) later formula h = absurd (cc)

shallow_if : (text : List ℕ) (b : Built) (t : Bool) (formula : Expr)
    → (if◌then◌else◌ {A = Result Expr FaultAt} t (Ok b.formula) (Err (record { cause = TooDeep; span = whole_span text }))) ≡ Ok formula → (t ≡ true) × (b.formula ≡ formula)
shallow_if text b true formula h = (refl, cc)
shallow_if text b false formula h = absurd (cc)

shallow_is : (text : List ℕ) (b : Built) (formula : Expr) → if_shallow text b ≡ Ok formula → (b.levels ≤ most_levels) × (b.formula ≡ formula)
unfolding if_shallow
shallow_is text b formula h =
    let p = shallow_if text b (nat_le b.levels most_levels) formula h in
    let low : nat_le b.levels most_levels ≡ true = p.0 in
    (grind (arith, nat_tests), p.1)

built_by : (source : Source) (ts : List Token) (o : Option Built) (formula : Expr) → built_or_fault source ts o ≡ Ok formula
    → (b : Built) × (o ≡ Some b) × (b.levels ≤ most_levels) × (b.formula ≡ formula)
unfolding built_or_fault
built_by source ts None formula h = absurd (cc)
built_by source ts (Some b) formula h =
    let later = (no_fault_at NumberTooLarge (first_token (is_too_large source) ts) (if_shallow source.text b) formula h).1 in
    let shallow = shallow_is source.text b formula later in
    (b, refl, shallow.0, shallow.1)

-- a formula that is read, where variables pass a test
pub record IsRead (passes : ℕ → Bool) (formula : Expr) : Type 0 where
  pub shallow : levels formula ≤ most_levels
  pub exponents : IsTrue (has_small_exponents formula)
  pub variables : IsTrue (names_pass passes formula)

-- what is read was built from the tokens
pub built_from : (source : Source) (ts : List Token) (formula : Expr) → formula_of source ts ≡ Ok formula
    → (first_token (is_unknown source) ts ≡ None) × ((b : Built) × (formula_in source ts ≡ Some b) × (b.levels ≤ most_levels) × (b.formula ≡ formula))
unfolding formula_of
built_from source ts formula h =
    let found = built_or_fault source ts (formula_in source ts) in
    let outside = first_token (is_outside source) ts in
    let named = no_fault_at UnknownName (first_token (is_unknown source) ts) (unless_at OutsideFunction outside found) formula h in
    let whole = no_fault_at OutsideFunction outside found formula named.1 in
    (named.0, built_by source ts (formula_in source ts) formula whole.1)

read_formula : (source : Source) (passes : ℕ → Bool) → ((n : ℕ) → is_variable_at source.names n ≡ true → passes n ≡ true)
    → (ts : List Token) (formula : Expr) → formula_of source ts ≡ Ok formula → IsRead passes formula
read_formula source passes holds ts formula h =
    let found = built_from source ts formula h in
    let built = found.1 in
    let sound = formula_sound source passes holds ts built.0 found.0 built.1 in
    let low : levels built.0.formula ≤ built.0.levels = sound.few built.2 in
    let few : built.0.levels ≤ most_levels = built.2 in
    let most : levels built.0.formula ≤ most_levels = omega arith in
    record {
      shallow = subst (λ f. levels f ≤ most_levels) built.3 most;
      exponents = subst (λ f. has_small_exponents f ≡ true) built.3 (sound.exponents);
      variables = subst (λ f. names_pass passes f ≡ true) built.3 (sound.variables);
    }

pub read_is : (names : List DeclaredName) (passes : ℕ → Bool) → ((n : ℕ) → is_variable_at names n ≡ true → passes n ≡ true)
    → (text : List ℕ) (formula : Expr) → expr_in names text ≡ Ok formula → IsRead passes formula
unfolding expr_in
read_is names passes holds text formula h = read_formula (record { text = text; names = names }) passes holds (tokens text) formula h

-- the grammar built what is read
pub built_is : (names : List DeclaredName) (text : List ℕ) (formula : Expr) → expr_in names text ≡ Ok formula → IsBuilt names text formula
unfolding expr_in
built_is names text formula h =
    let found = (built_from (record { text = text; names = names }) (tokens text) formula h).1 in
    record { built = found.0; from_grammar = found.1; few = found.2; same = found.3 }
