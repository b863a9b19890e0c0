-- The bound of nested parentheses changes what the rules read in one way alone: what is read with
-- few is read with more, and a formula of few levels is read with few.
use Rattle.std.proofs.Common.{◌≡◌, ℕ, zero, suc, ◌+◌, ◌<◌, ◌≤◌, min, Bool, true, false}
use Rattle.std.proofs.Common.{if◌then◌else◌, max, List, [], ◌∷◌, length, Option, None, Some, refl}
use Rattle.std.proofs.Common.{ap, ◌∙◌, arith}
use Rattle.std.proofs.Common.{subst}
use Rattle.expr_parser.specs.declared.token.TokenKind.{TokenKind}
use Rattle.expr_parser.specs.declared.token.TokenKind.TheVariants.{Name, Number, Plus, Minus, Star}
use Rattle.expr_parser.specs.declared.token.TokenKind.TheVariants.{Slash, Caret, Open, Close, Stray}
use Rattle.expr_parser.specs.declared.token.TokenKind.TheVariants.{End}
use Rattle.expr_parser.specs.declared.token.Token.{Token}
use Rattle.expr_parser.specs.declared.function.Function.{Function}
use Rattle.expr_parser.specs.declared.built.Built.{Built}
use Rattle.expr_parser.specs.declared.built.Operator.{Operator}
use Rattle.expr_parser.specs.Tokens.{kind}
use Rattle.expr_parser.specs.Parsers.{Outcome, Parser, and_then, pure, is_close}
use Rattle.expr_parser.specs.Formulas.{Source, function_of, digit_of, most_levels, deeper}
use Rattle.expr_parser.specs.Formulas.{enclosed, negated, applied, raised, joined}
use Rattle.expr_parser.specs.Formulas.{sum_operator, product_operator, continued, chain, operations}
use Rattle.expr_parser.specs.Formulas.{closed, digit_or_none, power_by, exponent, power_behind}
use Rattle.expr_parser.specs.Formulas.{to_power, group, called, named_by, named, atom_by, atom}
use Rattle.expr_parser.specs.Formulas.{power, signed_by, signed, product, products, sum}

-- a level is above those below it, as long as there are few
pub deeper-above : (n m : ℕ) → m ≤ most_levels → deeper n ≤ m → n < m
unfolding deeper
deeper-above n m few h = let low : min (suc n) (suc most_levels) ≤ m = h in omega arith

pub deeper-low : (n : ℕ) → n ≤ most_levels → deeper n ≡ suc n
unfolding deeper
deeper-low n low = let e : min (suc n) (suc most_levels) ≡ suc n = omega arith in e

-- an outcome of few levels, as `few` says it, is also the other outcome
abbrev pub Extends : (few : ℕ → Type 0) → Outcome Built → Outcome Built → Type 0
Extends few None other = Unit {0}
Extends few (Some found) other = few found.0.levels → other ≡ Some found

-- where the outcome has few levels, so have those below it
abbrev Carries : (below few : ℕ → Type 0) → ℕ → Outcome Built → Type 0
Carries below few n None = Unit {0}
Carries below few n (Some found) = few found.0.levels → below n

extends_itself : (few : ℕ → Type 0) (o : Outcome Built) → Extends few o o
extends_itself few None = tt
extends_itself few (Some found) = λ h. refl

extends_behind : (below few : ℕ → Type 0) (first : Built × List Token) (o : Outcome Built) (next : Built → Parser Built) (last : Outcome Built)
    → (below first.0.levels → o ≡ Some first) → Carries below few first.0.levels last → Extends few last (next first.0 first.1) → Extends few last (and_then o next)
extends_behind below few first o next None h c f = tt
extends_behind below few first o next (Some found) h c f = λ p. ap (λ x. and_then x next) (h (c p)) ∙ f p

extends_then : (below few : ℕ → Type 0) (o other : Outcome Built) (next onward : Built → Parser Built) → Extends below o other
    → ((b : Built) (rest : List Token) → Carries below few b.levels (next b rest))
    → ((b : Built) (rest : List Token) → Extends few (next b rest) (onward b rest)) → Extends few (and_then o next) (and_then other onward)
extends_then below few None other next onward h c f = tt
extends_then below few (Some first) other next onward h c f =
    extends_behind below few first other onward (next first.0 first.1) h (c first.0 first.1) (f first.0 first.1)

module _ (few : ℕ → Type 0) (down : (m n : ℕ) → m ≤ n → few n → few m) (below : (n : ℕ) → few (deeper n) → few n) where
  carries_from : (m n : ℕ) (o : Outcome Built) → (few n → few m) → Carries few few n o → Carries few few m o
  carries_from m n None f h = tt
  carries_from m n (Some found) f h = λ p. f (h p)

  carries_then : (m : ℕ) (o : Outcome Built) (next : Built → Parser Built)
      → ((b : Built) (rest : List Token) → Carries few few m (next b rest)) → Carries few few m (and_then o next)
  carries_then m None next f = tt
  carries_then m (Some found) next f = f found.0 found.1

  joined-left : (operator : Operator) (a b : Built) → few (joined operator a b).levels → few a.levels
  unfolding joined
  joined-left operator a b p = down a.levels (max a.levels b.levels) (omega arith) (below (max a.levels b.levels) p)

  joined-right : (operator : Operator) (a b : Built) → few (joined operator a b).levels → few b.levels
  unfolding joined
  joined-right operator a b p = down b.levels (max a.levels b.levels) (omega arith) (below (max a.levels b.levels) p)

  module _ (operand : Parser Built) (operators : TokenKind → Option Operator) where
    continued_carries : (later : Built → Parser Built) → ((left : Built) (ts : List Token) → Carries few few left.levels (later left ts))
        → (left : Built) (ts : List Token) (o : Option Operator) → Carries few few left.levels (continued operand later left o ts)
    continued_carries later carries left ts None = λ p. p
    continued_carries later carries left [] (Some operator) = tt
    continued_carries later carries left (t ∷ ts) (Some operator) =
        carries_then left.levels (operand ts) (λ right. later (joined operator left right))
        (λ right rest. carries_from left.levels (joined operator left right).levels (later (joined operator left right) rest)
        (joined-left operator left right) (carries (joined operator left right) rest))

    chain_carries : (turns : ℕ) (left : Built) (ts : List Token) → Carries few few left.levels (chain operand operators turns left ts)
    chain_carries zero left ts = λ p. p
    chain_carries (suc turns) left ts = continued_carries (chain operand operators turns) (chain_carries turns) left ts (operators (kind ts))

    operations_carry : (left : Built) (ts : List Token) → Carries few few left.levels (operations operand operators left ts)
    unfolding operations
    operations_carry left ts = chain_carries (length ts) left ts

  module _ (operand other : Parser Built) (operators : TokenKind → Option Operator) (extends : (ts : List Token) → Extends few (operand ts) (other ts)) where
    continued_extends : (later onward : Built → Parser Built) → ((left : Built) (ts : List Token) → Extends few (later left ts) (onward left ts))
        → ((left : Built) (ts : List Token) → Carries few few left.levels (later left ts))
        → (left : Built) (ts : List Token) (o : Option Operator) → Extends few (continued operand later left o ts) (continued other onward left o ts)
    continued_extends later onward extend carries left ts None = λ p. refl
    continued_extends later onward extend carries left [] (Some operator) = tt
    continued_extends later onward extend carries left (t ∷ ts) (Some operator) =
        extends_then few few (operand ts) (other ts) (λ right. later (joined operator left right)) (λ right. onward (joined operator left right)) (extends ts)
        (λ right rest. carries_from right.levels (joined operator left right).levels (later (joined operator left right) rest)
        (joined-right operator left right) (carries (joined operator left right) rest))
        (λ right rest. extend (joined operator left right) rest)

    chain_extends : (turns : ℕ) (left : Built) (ts : List Token) → Extends few (chain operand operators turns left ts) (chain other operators turns left ts)
    chain_extends zero left ts = λ p. refl
    chain_extends (suc turns) left ts =
        continued_extends (chain operand operators turns) (chain other operators turns) (chain_extends turns) (chain_carries operand operators turns) left ts
        (operators (kind ts))

    operations_extend : (left : Built) (ts : List Token) → Extends few (operations operand operators left ts) (operations other operators left ts)
    unfolding operations
    operations_extend left ts = chain_extends (length ts) left ts

  module _ (source : Source) where
    digit_carries : (b : Built) (digit : Option ℕ) (ts : List Token) → Carries few few b.levels (digit_or_none b digit ts)
    unfolding raised
    digit_carries b None ts = tt
    digit_carries b (Some _) ts = λ p. below b.levels p

    power_by_carries : (b : Built) (t : Token) (ts : List Token) (k : TokenKind) → Carries few few b.levels (power_by source b k (t ∷ ts))
    power_by_carries b t ts Number = digit_carries b (digit_of source t) ts
    power_by_carries b t ts Name = tt
    power_by_carries b t ts Plus = tt
    power_by_carries b t ts Minus = tt
    power_by_carries b t ts Star = tt
    power_by_carries b t ts Slash = tt
    power_by_carries b t ts Caret = tt
    power_by_carries b t ts Open = tt
    power_by_carries b t ts Close = tt
    power_by_carries b t ts Stray = tt
    power_by_carries b t ts End = tt

    exponent_carries : (b : Built) (ts : List Token) → Carries few few b.levels (exponent source b ts)
    unfolding exponent
    exponent_carries b [] = tt
    exponent_carries b (t ∷ ts) = power_by_carries b t ts t.kind

    power_behind_carries : (b : Built) (t : Token) (ts : List Token) (k : TokenKind) → Carries few few b.levels (power_behind source b k (t ∷ ts))
    power_behind_carries b t ts Caret = exponent_carries b ts
    power_behind_carries b t ts Name = λ p. p
    power_behind_carries b t ts Number = λ p. p
    power_behind_carries b t ts Plus = λ p. p
    power_behind_carries b t ts Minus = λ p. p
    power_behind_carries b t ts Star = λ p. p
    power_behind_carries b t ts Slash = λ p. p
    power_behind_carries b t ts Open = λ p. p
    power_behind_carries b t ts Close = λ p. p
    power_behind_carries b t ts Stray = λ p. p
    power_behind_carries b t ts End = λ p. p

    to_power_carries : (b : Built) (ts : List Token) → Carries few few b.levels (to_power source b ts)
    unfolding to_power
    to_power_carries b [] = λ p. p
    to_power_carries b (t ∷ ts) = power_behind_carries b t ts t.kind

    closed_carries_by : (below : ℕ → Type 0) (b : Built) (ts : List Token) (c : Bool) → Carries below below b.levels (if c then Some (b, ts) else None)
    closed_carries_by below b ts true = λ p. p
    closed_carries_by below b ts false = tt

    closed_carries : (below : ℕ → Type 0) (b : Built) (ts : List Token) → Carries below below b.levels (closed b ts)
    unfolding closed
    closed_carries below b [] = tt
    closed_carries below b (t ∷ ts) = closed_carries_by below b ts (is_close t.kind)

    enclosed_carries : (b : Built) (ts : List Token) → Carries (λ n. few (deeper n)) few b.levels (pure (enclosed b) ts)
    unfolding enclosed
    enclosed_carries b ts = λ p. p

    applied_carries : (function : Function) (b : Built) (ts : List Token) → Carries (λ n. few (deeper n)) few b.levels (pure (applied function b) ts)
    unfolding applied
    applied_carries function b ts = λ p. p

    sign_carries : (b : Built) (ts : List Token) → Carries few few b.levels (pure (enclosed b) ts)
    unfolding enclosed
    sign_carries b ts = λ p. below b.levels p

    negated_carries : (b : Built) (ts : List Token) → Carries few few b.levels (pure (negated b) ts)
    unfolding negated
    negated_carries b ts = λ p. below b.levels p

    -- the rules over two rules for what parentheses enclose, of which one extends the other
    module _ (inner other : Parser Built) (extends : (ts : List Token) → Extends (λ n. few (deeper n)) (inner ts) (other ts)) where
      group_extends : (t : Token) (ts : List Token) → Extends (λ n. few (deeper n)) (group source inner (t ∷ ts)) (group source other (t ∷ ts))
      unfolding group
      group_extends t ts =
          extends_then (λ n. few (deeper n)) (λ n. few (deeper n)) (inner ts) (other ts) closed closed (extends ts)
          (λ b rest. closed_carries (λ n. few (deeper n)) b rest) (λ b rest. extends_itself (λ n. few (deeper n)) (closed b rest))

      called_extends : (f : Option Function) (t : Token) (ts : List Token) → Extends few (called source inner f (t ∷ ts)) (called source other f (t ∷ ts))
      called_extends None t ts = tt
      called_extends (Some function) t ts =
          extends_then (λ n. few (deeper n)) few (group source inner (t ∷ ts)) (group source other (t ∷ ts)) (λ a. pure (applied function a)) (λ a. pure (applied function a))
          (group_extends t ts) (λ b rest. applied_carries function b rest) (λ b rest. λ p. refl)

      named_by_extends : (name : Token) (t : Token) (ts : List Token) (k : TokenKind)
          → Extends few (named_by source inner name k (t ∷ ts)) (named_by source other name k (t ∷ ts))
      named_by_extends name t ts Open = called_extends (function_of source name) t ts
      named_by_extends name t ts Name = λ p. refl
      named_by_extends name t ts Number = λ p. refl
      named_by_extends name t ts Plus = λ p. refl
      named_by_extends name t ts Minus = λ p. refl
      named_by_extends name t ts Star = λ p. refl
      named_by_extends name t ts Slash = λ p. refl
      named_by_extends name t ts Caret = λ p. refl
      named_by_extends name t ts Close = λ p. refl
      named_by_extends name t ts Stray = λ p. refl
      named_by_extends name t ts End = λ p. refl

      named_extends : (name : Token) (ts : List Token) → Extends few (named source inner name ts) (named source other name ts)
      unfolding named
      named_extends name [] = λ p. refl
      named_extends name (t ∷ ts) = named_by_extends name t ts t.kind

      atom_by_extends : (t : Token) (ts : List Token) (k : TokenKind) → Extends few (atom_by source inner k (t ∷ ts)) (atom_by source other k (t ∷ ts))
      atom_by_extends t ts Name = named_extends t ts
      atom_by_extends t ts Number = λ p. refl
      atom_by_extends t ts Open =
          extends_then (λ n. few (deeper n)) few (group source inner (t ∷ ts)) (group source other (t ∷ ts)) (λ a. pure (enclosed a)) (λ a. pure (enclosed a))
          (group_extends t ts) (λ b rest. enclosed_carries b rest) (λ b rest. λ p. refl)
      atom_by_extends t ts Plus = tt
      atom_by_extends t ts Minus = tt
      atom_by_extends t ts Star = tt
      atom_by_extends t ts Slash = tt
      atom_by_extends t ts Caret = tt
      atom_by_extends t ts Close = tt
      atom_by_extends t ts Stray = tt
      atom_by_extends t ts End = tt

      atom_extends : (ts : List Token) → Extends few (atom source inner ts) (atom source other ts)
      unfolding atom
      atom_extends [] = tt
      atom_extends (t ∷ ts) = atom_by_extends t ts t.kind

      power_extends : (ts : List Token) → Extends few (power source inner ts) (power source other ts)
      unfolding power
      power_extends ts =
          extends_then few few (atom source inner ts) (atom source other ts) (to_power source) (to_power source) (atom_extends ts)
          (λ b rest. to_power_carries b rest) (λ b rest. extends_itself few (to_power source b rest))

      signed_by_extends : (t : Token) (ts : List Token) (k : TokenKind) → Extends few (signed_by source inner k (t ∷ ts)) (signed_by source other k (t ∷ ts))
      signed_by_extends t ts Plus =
          extends_then few few (power source inner ts) (power source other ts) (λ a. pure (enclosed a)) (λ a. pure (enclosed a)) (power_extends ts)
          (λ b rest. sign_carries b rest) (λ b rest. λ p. refl)
      signed_by_extends t ts Minus =
          extends_then few few (power source inner ts) (power source other ts) (λ a. pure (negated a)) (λ a. pure (negated a)) (power_extends ts)
          (λ b rest. negated_carries b rest) (λ b rest. λ p. refl)
      signed_by_extends t ts Name = power_extends (t ∷ ts)
      signed_by_extends t ts Number = power_extends (t ∷ ts)
      signed_by_extends t ts Star = power_extends (t ∷ ts)
      signed_by_extends t ts Slash = power_extends (t ∷ ts)
      signed_by_extends t ts Caret = power_extends (t ∷ ts)
      signed_by_extends t ts Open = power_extends (t ∷ ts)
      signed_by_extends t ts Close = power_extends (t ∷ ts)
      signed_by_extends t ts Stray = power_extends (t ∷ ts)
      signed_by_extends t ts End = power_extends (t ∷ ts)

      signed_extends : (ts : List Token) → Extends few (signed source inner ts) (signed source other ts)
      unfolding signed
      signed_extends [] = power_extends []
      signed_extends (t ∷ ts) = signed_by_extends t ts t.kind

      product_extends : (ts : List Token) → Extends few (product source inner ts) (product source other ts)
      unfolding product
      product_extends ts =
          extends_then few few (signed source inner ts) (signed source other ts) (operations (signed source inner) product_operator)
          (operations (signed source other) product_operator) (signed_extends ts) (λ b rest. operations_carry (signed source inner) product_operator b rest)
          (λ b rest. operations_extend (signed source inner) (signed source other) product_operator signed_extends b rest)

      pub products_extend : (ts : List Token) → Extends few (products source inner ts) (products source other ts)
      unfolding products
      products_extend ts =
          extends_then few few (product source inner ts) (product source other ts) (operations (product source inner) sum_operator)
          (operations (product source other) sum_operator) (product_extends ts) (λ b rest. operations_carry (product source inner) sum_operator b rest)
          (λ b rest. operations_extend (product source inner) (product source other) sum_operator product_extends b rest)

abbrev Any : ℕ → Type 0
Any n = Unit {0}

module _ (source : Source) where
  -- with one more level of parentheses the same is read
  one_more : (nesting : ℕ) (ts : List Token) → Extends Any (sum source nesting ts) (sum source (suc nesting) ts)
  unfolding sum
  one_more zero ts = tt
  one_more (suc nesting) ts = products_extend Any (λ m n le h. tt) (λ n h. tt) source (sum source nesting) (sum source (suc nesting)) (one_more nesting) ts

  pub more : (k nesting : ℕ) (ts : List Token) (found : Built × List Token) → sum source nesting ts ≡ Some found → sum source (k + nesting) ts ≡ Some found
  more zero nesting ts found h = let e : zero + nesting ≡ nesting = omega arith in ap (λ n. sum source n ts) e ∙ h
  more (suc k) nesting ts found h =
      let before : sum source (k + nesting) ts ≡ Some found = more k nesting ts found h in
      let e : suc k + nesting ≡ suc (k + nesting) = omega arith in
      let extended : Extends Any (Some found) (sum source (suc (k + nesting)) ts) =
      subst (λ o. Extends Any o (sum source (suc (k + nesting)) ts)) before (one_more (k + nesting) ts) in
      ap (λ n. sum source n ts) e ∙ extended tt

  -- with as many as a formula has levels the same is read
  weaker : (few other : ℕ → Type 0) (o p : Outcome Built) → ((n : ℕ) → few n → other n) → Extends other o p → Extends few o p
  weaker few other None p f h = tt
  weaker few other (Some found) p f h = λ e. h (f found.0.levels e)

  no_deeper : (o p : Outcome Built) → Extends (λ n. deeper n ≤ 0) o p
  no_deeper None p = tt
  no_deeper (Some found) p = λ h. absurd (omega (arith, deeper-above found.0.levels 0 (omega arith) h))

  pub as_few : (nesting most : ℕ) (ts : List Token) → most ≤ most_levels → Extends (λ n. n ≤ most) (sum source nesting ts) (sum source (suc most) ts)
  unfolding sum
  as_few zero most ts few = tt
  as_few (suc nesting) zero ts few =
      products_extend (λ n. n ≤ 0) (λ m n le h. omega arith) (λ n h. omega (arith, deeper-above n 0 (omega arith) h)) source (sum source nesting) (sum source 0) (λ rest. no_deeper (sum source nesting rest) (sum source 0 rest)) ts
  as_few (suc nesting) (suc most) ts few =
      products_extend (λ n. n ≤ suc most) (λ m n le h. omega arith) (λ n h. omega (arith, deeper-above n (suc most) few h)) source (sum source nesting) (sum source (suc most))
      (λ rest. weaker (λ n. deeper n ≤ suc most) (λ n. n ≤ most) (sum source nesting rest) (sum source (suc most) rest)
      (λ n h. omega (arith, deeper-above n (suc most) few h)) (as_few nesting most rest (omega arith))) ts
