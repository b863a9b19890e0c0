-- Tokens are accepted exactly where they are in the grammar. Each rule of the grammar agrees with a
-- stage: where the rule reads tokens, they are accepted from its stage on exactly where the tokens
-- behind what it reads are accepted from the stage behind the rule on; and where it does not read
-- them, they are not accepted.
use Rattle.std.proofs.Common.{◌≡◌, ℕ, zero, suc, ◌+◌, ◌<◌, ◌≤◌, Bool, true, false, ◌==◌}
use Rattle.std.proofs.Common.{if◌then◌else◌, List, [], ◌∷◌, length, Option, None, Some, is_some}
use Rattle.std.proofs.Common.{refl, sym, ap, ◌∙◌, arith}
use Rattle.std.proofs.lemmas.Bool.Decides.{nat_tests}
use Rattle.expr_parser.specs.declared.token.TokenKind.{TokenKind}
use Rattle.expr_parser.specs.declared.token.TokenKind.TheVariants.{Name, Number, Plus, Minus, Star}
use Rattle.expr_parser.specs.declared.token.TokenKind.TheVariants.{Slash, Caret, Open, Close, Stray}
use Rattle.expr_parser.specs.declared.token.TokenKind.TheVariants.{End}
use Rattle.expr_parser.specs.declared.token.Token.{Token}
use Rattle.expr_parser.specs.declared.function.Function.{Function}
use Rattle.expr_parser.specs.declared.built.Built.{Built}
use Rattle.expr_parser.specs.declared.built.Operator.{Operator}
use Rattle.expr_parser.specs.declared.acceptance.Stage.{Stage}
use Rattle.expr_parser.specs.declared.acceptance.Stage.TheVariants as at
use Rattle.expr_parser.specs.declared.acceptance.Move.{Move}
use Rattle.expr_parser.specs.declared.acceptance.Move.TheVariants.{Stop, To, Closes}
use Rattle.expr_parser.specs.Tokens.{kind}
use Rattle.expr_parser.specs.Parsers.{Outcome, Parser, and_then, pure, is_close}
use Rattle.expr_parser.specs.Formulas.{Source, function_of, digit_of, most_levels}
use Rattle.expr_parser.specs.Formulas.{enclosed, negated, applied, joined, variable}
use Rattle.expr_parser.specs.Formulas.{sum_operator, product_operator, continued, chain, operations}
use Rattle.expr_parser.specs.Formulas.{closed, digit_or_none, power_by, exponent, power_behind}
use Rattle.expr_parser.specs.Formulas.{to_power, group, called, named_by, named, atom_by, atom}
use Rattle.expr_parser.specs.Formulas.{power, signed_by, signed, product, products, sum, if_whole}
use Rattle.expr_parser.specs.Formulas.{formula_in}
use Rattle.expr_parser.specs.Reading.{is_open}
use Rattle.expr_parser.specs.internal.Acceptance.{name_stage, digit_move, power_move}
use Rattle.expr_parser.specs.internal.Acceptance.{operand_move, signed_move, move_by, next_move}
use Rattle.expr_parser.specs.internal.Acceptance.{moved, accepts}

abbrev Agrees : Bool → (List Token → Bool) → ℕ → Outcome Built → Type 0
Agrees start behind n None = start ≡ false
Agrees start behind n (Some found) = (start ≡ behind found.1) × (length found.1 < n)

agrees_from : (start before : Bool) (behind : List Token → Bool) (n m : ℕ) (o : Outcome Built) → start ≡ before → m ≤ n → Agrees before behind m o → Agrees start behind n o
agrees_from start before behind n m None e le h = e ∙ h
agrees_from start before behind n m (Some found) e le h = (e ∙ h.0, omega arith)

agrees_then : (start : Bool) (between behind : List Token → Bool) (n : ℕ) (o : Outcome Built) (next : Built → Parser Built) → Agrees start between n o
    → ((b : Built) (rest : List Token) → Agrees (between rest) behind (suc (length rest)) (next b rest)) → Agrees start behind n (and_then o next)
agrees_then start between behind n None next h f = h
agrees_then start between behind n (Some found) next h f = agrees_from _ _ _ _ _ (next found.0 found.1) h.0 (omega arith) (f found.0 found.1)

-- the same where the tokens behind are fewer than before
agrees_within : (start : Bool) (between behind : List Token → Bool) (n : ℕ) (o : Outcome Built) (next : Built → Parser Built) → Agrees start between n o
    → ((b : Built) (rest : List Token) → length rest < n → Agrees (between rest) behind (suc (length rest)) (next b rest)) → Agrees start behind n (and_then o next)
agrees_within start between behind n None next h f = h
agrees_within start between behind n (Some found) next h f = agrees_from _ _ _ _ _ (next found.0 found.1) h.0 (omega arith) (f found.0 found.1 h.1)

-- what may come behind a product and behind a sum
abbrev product_move : TokenKind → Move
product_move Plus = To at.Operand
product_move Minus = To at.Operand
product_move Close = Closes
product_move Name = Stop
product_move Number = Stop
product_move Star = Stop
product_move Slash = Stop
product_move Caret = Stop
product_move Open = Stop
product_move Stray = Stop
product_move End = Stop

abbrev sum_move : TokenKind → Move
sum_move Close = Closes
sum_move Plus = Stop
sum_move Minus = Stop
sum_move Name = Stop
sum_move Number = Stop
sum_move Star = Stop
sum_move Slash = Stop
sum_move Caret = Stop
sum_move Open = Stop
sum_move Stray = Stop
sum_move End = Stop

module _ (source : Source) where
  abbrev go : List Token → Stage → ℕ → Bool
  go ts s d = accepts source s d ts

  abbrev behind : (TokenKind → Move) → ℕ → List Token → Bool
  behind move d [] = d == 0
  behind move d (t ∷ ts) = moved (go ts) d (move t.kind)

  -- what a stage accepts, once the kind of the next token is known
  step : (s : Stage) (d : ℕ) (t : Token) (ts : List Token) (k : TokenKind) → t.kind ≡ k
      → accepts source s d (t ∷ ts) ≡ moved (go ts) d (move_by s (is_some (function_of source t)) (is_some (digit_of source t)) k)
  unfolding next_move
  step s d t ts k e = ap (λ x. moved (go ts) d (move_by s (is_some (function_of source t)) (is_some (digit_of source t)) x)) e

  step_behind : (move : TokenKind → Move) (d : ℕ) (t : Token) (ts : List Token) (k : TokenKind) → t.kind ≡ k → behind move d (t ∷ ts) ≡ moved (go ts) d (move k)
  step_behind move d t ts k e = ap (λ x. moved (go ts) d (move x)) e

  behind_power : (d : ℕ) (ts : List Token) → accepts source at.Power d ts ≡ behind power_move d ts
  behind_power d [] = refl
  behind_power d (t ∷ ts) = step at.Power d t ts t.kind refl

  product_goes_on : (k : TokenKind) (operator : Operator) → product_operator k ≡ Some operator → power_move k ≡ To at.Operand
  product_goes_on Star operator h = refl
  product_goes_on Slash operator h = refl
  product_goes_on Plus operator h = refl
  product_goes_on Minus operator h = refl
  product_goes_on Name operator h = absurd (cc)
  product_goes_on Number operator h = absurd (cc)
  product_goes_on Caret operator h = absurd (cc)
  product_goes_on Open operator h = absurd (cc)
  product_goes_on Close operator h = absurd (cc)
  product_goes_on Stray operator h = absurd (cc)
  product_goes_on End operator h = absurd (cc)

  product_ends : (k : TokenKind) → product_operator k ≡ None → power_move k ≡ product_move k
  product_ends Star h = absurd (cc)
  product_ends Slash h = absurd (cc)
  product_ends Plus h = refl
  product_ends Minus h = refl
  product_ends Name h = refl
  product_ends Number h = refl
  product_ends Caret h = refl
  product_ends Open h = refl
  product_ends Close h = refl
  product_ends Stray h = refl
  product_ends End h = refl

  sum_goes_on : (k : TokenKind) (operator : Operator) → sum_operator k ≡ Some operator → product_move k ≡ To at.Operand
  sum_goes_on Plus operator h = refl
  sum_goes_on Minus operator h = refl
  sum_goes_on Star operator h = absurd (cc)
  sum_goes_on Slash operator h = absurd (cc)
  sum_goes_on Name operator h = absurd (cc)
  sum_goes_on Number operator h = absurd (cc)
  sum_goes_on Caret operator h = absurd (cc)
  sum_goes_on Open operator h = absurd (cc)
  sum_goes_on Close operator h = absurd (cc)
  sum_goes_on Stray operator h = absurd (cc)
  sum_goes_on End operator h = absurd (cc)

  sum_ends : (k : TokenKind) → sum_operator k ≡ None → product_move k ≡ sum_move k
  sum_ends Plus h = absurd (cc)
  sum_ends Minus h = absurd (cc)
  sum_ends Star h = refl
  sum_ends Slash h = refl
  sum_ends Name h = refl
  sum_ends Number h = refl
  sum_ends Caret h = refl
  sum_ends Open h = refl
  sum_ends Close h = refl
  sum_ends Stray h = refl
  sum_ends End h = refl

  -- what `(` does behind a name hangs on no other test
  open_move : (f x y : Bool) → move_by (name_stage f) x y Open ≡ move_by (name_stage f) false false Open
  open_move true x y = refl
  open_move false x y = refl

  may_end_named : (f : Bool) (d : ℕ) → accepts source (name_stage f) d [] ≡ accepts source at.Atom d []
  may_end_named true d = refl
  may_end_named false d = refl

  -- powers
  digit_agrees : (b : Built) (digit : Option ℕ) (ts : List Token) (d : ℕ)
      → Agrees (moved (go ts) d (digit_move (is_some digit))) (behind power_move d) (suc (length ts)) (digit_or_none b digit ts)
  digit_agrees b None ts d = refl
  digit_agrees b (Some power) ts d = (behind_power d ts, omega arith)

  power_by_agrees : (b : Built) (t : Token) (ts : List Token) (d : ℕ) (k : TokenKind) → t.kind ≡ k
      → Agrees (accepts source at.Exponent d (t ∷ ts)) (behind power_move d) (suc (length (t ∷ ts))) (power_by source b k (t ∷ ts))
  power_by_agrees b t ts d Number e =
      agrees_from _ _ _ _ _ (digit_or_none b (digit_of source t) ts) (step at.Exponent d t ts Number e) (omega arith) (digit_agrees b (digit_of source t) ts d)
  power_by_agrees b t ts d Name e = step at.Exponent d t ts Name e
  power_by_agrees b t ts d Plus e = step at.Exponent d t ts Plus e
  power_by_agrees b t ts d Minus e = step at.Exponent d t ts Minus e
  power_by_agrees b t ts d Star e = step at.Exponent d t ts Star e
  power_by_agrees b t ts d Slash e = step at.Exponent d t ts Slash e
  power_by_agrees b t ts d Caret e = step at.Exponent d t ts Caret e
  power_by_agrees b t ts d Open e = step at.Exponent d t ts Open e
  power_by_agrees b t ts d Close e = step at.Exponent d t ts Close e
  power_by_agrees b t ts d Stray e = step at.Exponent d t ts Stray e
  power_by_agrees b t ts d End e = step at.Exponent d t ts End e

  exponent_agrees : (b : Built) (ts : List Token) (d : ℕ) → Agrees (accepts source at.Exponent d ts) (behind power_move d) (suc (length ts)) (exponent source b ts)
  unfolding exponent
  exponent_agrees b [] d = refl
  exponent_agrees b (t ∷ ts) d = power_by_agrees b t ts d t.kind refl

  power_behind_agrees : (b : Built) (t : Token) (ts : List Token) (d : ℕ) (k : TokenKind) → t.kind ≡ k
      → Agrees (accepts source at.Atom d (t ∷ ts)) (behind power_move d) (suc (length (t ∷ ts))) (power_behind source b k (t ∷ ts))
  power_behind_agrees b t ts d Caret e = agrees_from _ _ _ _ _ (exponent source b ts) (step at.Atom d t ts Caret e) (omega arith) (exponent_agrees b ts d)
  power_behind_agrees b t ts d Name e = (step at.Atom d t ts Name e ∙ sym (step_behind power_move d t ts Name e), omega arith)
  power_behind_agrees b t ts d Number e = (step at.Atom d t ts Number e ∙ sym (step_behind power_move d t ts Number e), omega arith)
  power_behind_agrees b t ts d Plus e = (step at.Atom d t ts Plus e ∙ sym (step_behind power_move d t ts Plus e), omega arith)
  power_behind_agrees b t ts d Minus e = (step at.Atom d t ts Minus e ∙ sym (step_behind power_move d t ts Minus e), omega arith)
  power_behind_agrees b t ts d Star e = (step at.Atom d t ts Star e ∙ sym (step_behind power_move d t ts Star e), omega arith)
  power_behind_agrees b t ts d Slash e = (step at.Atom d t ts Slash e ∙ sym (step_behind power_move d t ts Slash e), omega arith)
  power_behind_agrees b t ts d Open e = (step at.Atom d t ts Open e ∙ sym (step_behind power_move d t ts Open e), omega arith)
  power_behind_agrees b t ts d Close e = (step at.Atom d t ts Close e ∙ sym (step_behind power_move d t ts Close e), omega arith)
  power_behind_agrees b t ts d Stray e = (step at.Atom d t ts Stray e ∙ sym (step_behind power_move d t ts Stray e), omega arith)
  power_behind_agrees b t ts d End e = (step at.Atom d t ts End e ∙ sym (step_behind power_move d t ts End e), omega arith)

  to_power_agrees : (b : Built) (ts : List Token) (d : ℕ) → Agrees (accepts source at.Atom d ts) (behind power_move d) (suc (length ts)) (to_power source b ts)
  unfolding to_power
  to_power_agrees b [] d = (refl, omega arith)
  to_power_agrees b (t ∷ ts) d = power_behind_agrees b t ts d t.kind refl

  -- operands with operators between them
  module _ (operand : Parser Built) (operators : TokenKind → Option Operator) (before after : TokenKind → Move) (most : ℕ)
      (goes_on : (k : TokenKind) (operator : Operator) → operators k ≡ Some operator → before k ≡ To at.Operand)
      (ends : (k : TokenKind) → operators k ≡ None → before k ≡ after k)
      (none : operators End ≡ None)
      (reads : (ts : List Token) (d : ℕ) → length ts ≤ most → Agrees (accepts source at.Operand d ts) (behind before d) (length ts) (operand ts)) where
    ended : (d : ℕ) (ts : List Token) → operators (kind ts) ≡ None → behind before d ts ≡ behind after d ts
    ended d [] h = refl
    ended d (t ∷ ts) h = ap (moved (go ts) d) (ends t.kind h)

    continued_agrees : (turns : ℕ) (later : Built → Parser Built)
        → ((left : Built) (ts : List Token) (d : ℕ) → length ts ≤ turns → length ts ≤ most
        → Agrees (behind before d ts) (behind after d) (suc (length ts)) (later left ts))
        → (left : Built) (ts : List Token) (d : ℕ) → length ts ≤ suc turns → length ts ≤ most → (o : Option Operator) → operators (kind ts) ≡ o
        → Agrees (behind before d ts) (behind after d) (suc (length ts)) (continued operand later left o ts)
    continued_agrees turns later agrees left ts d le few None e = (ended d ts e, omega arith)
    continued_agrees turns later agrees left [] d le few (Some operator) e = absurd (cc)
    continued_agrees turns later agrees left (t ∷ ts) d le few (Some operator) e =
        let start : behind before d (t ∷ ts) ≡ accepts source at.Operand d ts = ap (moved (go ts) d) (goes_on t.kind operator e) in
        agrees_from _ _ _ _ _ (and_then (operand ts) (λ right. later (joined operator left right))) start (omega arith)
        (agrees_within _ _ _ _ (operand ts) (λ right. later (joined operator left right)) (reads ts d (omega arith))
        (λ right rest shorter. agrees (joined operator left right) rest d (omega arith) (omega arith)))

    chain_agrees : (turns : ℕ) (left : Built) (ts : List Token) (d : ℕ) → length ts ≤ turns → length ts ≤ most
        → Agrees (behind before d ts) (behind after d) (suc (length ts)) (chain operand operators turns left ts)
    chain_agrees zero left [] d le few = (refl, omega arith)
    chain_agrees zero left (t ∷ ts) d le few = absurd (omega arith)
    chain_agrees (suc turns) left ts d le few =
        continued_agrees turns (chain operand operators turns) (chain_agrees turns) left ts d le few (operators (kind ts)) refl

    operations_agree : (left : Built) (ts : List Token) (d : ℕ) → length ts ≤ most
        → Agrees (behind before d ts) (behind after d) (suc (length ts)) (operations operand operators left ts)
    unfolding operations
    operations_agree left ts d few = chain_agrees (length ts) left ts d (omega arith) few

  -- the rules, over a rule for what parentheses enclose
  module _ (inner : Parser Built) (most : ℕ)
      (reads : (ts : List Token) (d : ℕ) → length ts < most → Agrees (accepts source at.Operand d ts) (behind sum_move d) (length ts) (inner ts)) where
    closed_by : (b : Built) (d : ℕ) (ts : List Token) (k : TokenKind)
        → Agrees (moved (go ts) (suc d) (sum_move k)) (accepts source at.Atom d) (suc (suc (length ts))) (if is_close k then Some (b, ts) else None)
    closed_by b d ts Close = (refl, omega arith)
    closed_by b d ts Plus = refl
    closed_by b d ts Minus = refl
    closed_by b d ts Name = refl
    closed_by b d ts Number = refl
    closed_by b d ts Star = refl
    closed_by b d ts Slash = refl
    closed_by b d ts Caret = refl
    closed_by b d ts Open = refl
    closed_by b d ts Stray = refl
    closed_by b d ts End = refl

    closed_agrees : (b : Built) (ts : List Token) (d : ℕ) → Agrees (behind sum_move (suc d) ts) (accepts source at.Atom d) (suc (length ts)) (closed b ts)
    unfolding closed
    closed_agrees b [] d = grind (arith, nat_tests)
    closed_agrees b (t ∷ ts) d = closed_by b d ts t.kind

    group_agrees : (t : Token) (ts : List Token) (d : ℕ) → length ts < most
        → Agrees (accepts source at.Operand (suc d) ts) (accepts source at.Atom d) (suc (length ts)) (group source inner (t ∷ ts))
    unfolding group
    group_agrees t ts d few =
        agrees_from _ _ _ _ _ (and_then (inner ts) closed) refl (omega arith)
        (agrees_then _ _ _ _ (inner ts) closed (reads ts (suc d) few) (λ b rest. closed_agrees b rest d))

    called_agrees : (f : Option Function) (t : Token) (ts : List Token) (d : ℕ) → length ts < most
        → Agrees (moved (go ts) d (move_by (name_stage (is_some f)) false false Open)) (accepts source at.Atom d) (suc (length ts)) (called source inner f (t ∷ ts))
    called_agrees None t ts d few = refl
    called_agrees (Some function) t ts d few =
        agrees_then _ _ _ _ (group source inner (t ∷ ts)) (λ a. pure (applied function a)) (group_agrees t ts d few) (λ b rest. (refl, omega arith))

    as_atom : (f : Bool) (k : TokenKind) (x y : Bool) → is_open k ≡ false → move_by (name_stage f) x y k ≡ move_by at.Atom x y k
    as_atom false k x y h = refl
    as_atom true Open x y h = absurd (cc)
    as_atom true Caret x y h = refl
    as_atom true Plus x y h = refl
    as_atom true Minus x y h = refl
    as_atom true Star x y h = refl
    as_atom true Slash x y h = refl
    as_atom true Close x y h = refl
    as_atom true Name x y h = refl
    as_atom true Number x y h = refl
    as_atom true Stray x y h = refl
    as_atom true End x y h = refl

    variable_agrees : (f : Bool) (b : Built) (t : Token) (ts : List Token) (d : ℕ) → is_open t.kind ≡ false
        → Agrees (accepts source (name_stage f) d (t ∷ ts)) (accepts source at.Atom d) (suc (length (t ∷ ts))) (pure b (t ∷ ts))
    variable_agrees f b t ts d h =
        let g = is_some (function_of source t) in
        let x = is_some (digit_of source t) in
        (step (name_stage f) d t ts t.kind refl ∙ ap (moved (go ts) d) (as_atom f t.kind g x h) ∙ sym (step at.Atom d t ts t.kind refl), omega arith)

    named_by_agrees : (name : Token) (t : Token) (ts : List Token) (d : ℕ) → length ts < most → (k : TokenKind) → t.kind ≡ k
        → Agrees (accepts source (name_stage (is_some (function_of source name))) d (t ∷ ts)) (accepts source at.Atom d) (suc (length (t ∷ ts)))
        (named_by source inner name k (t ∷ ts))
    named_by_agrees name t ts d few Open e =
        let f = function_of source name in
        agrees_from _ _ _ _ _ (called source inner f (t ∷ ts)) (step (name_stage (is_some f)) d t ts Open e ∙ ap (moved (go ts) d) (open_move (is_some f) _ _))
        (omega arith) (called_agrees f t ts d few)
    named_by_agrees name t ts d few Name e = variable_agrees (is_some (function_of source name)) (variable source name) t ts d (ap is_open e)
    named_by_agrees name t ts d few Number e = variable_agrees (is_some (function_of source name)) (variable source name) t ts d (ap is_open e)
    named_by_agrees name t ts d few Plus e = variable_agrees (is_some (function_of source name)) (variable source name) t ts d (ap is_open e)
    named_by_agrees name t ts d few Minus e = variable_agrees (is_some (function_of source name)) (variable source name) t ts d (ap is_open e)
    named_by_agrees name t ts d few Star e = variable_agrees (is_some (function_of source name)) (variable source name) t ts d (ap is_open e)
    named_by_agrees name t ts d few Slash e = variable_agrees (is_some (function_of source name)) (variable source name) t ts d (ap is_open e)
    named_by_agrees name t ts d few Caret e = variable_agrees (is_some (function_of source name)) (variable source name) t ts d (ap is_open e)
    named_by_agrees name t ts d few Close e = variable_agrees (is_some (function_of source name)) (variable source name) t ts d (ap is_open e)
    named_by_agrees name t ts d few Stray e = variable_agrees (is_some (function_of source name)) (variable source name) t ts d (ap is_open e)
    named_by_agrees name t ts d few End e = variable_agrees (is_some (function_of source name)) (variable source name) t ts d (ap is_open e)

    named_agrees : (name : Token) (ts : List Token) (d : ℕ) → length ts ≤ most
        → Agrees (accepts source (name_stage (is_some (function_of source name))) d ts) (accepts source at.Atom d) (suc (length ts)) (named source inner name ts)
    unfolding named
    named_agrees name [] d few = (may_end_named (is_some (function_of source name)) d, omega arith)
    named_agrees name (t ∷ ts) d few = named_by_agrees name t ts d (omega arith) t.kind refl

    atom_by_agrees : (t : Token) (ts : List Token) (d : ℕ) → length ts < most → (k : TokenKind) → t.kind ≡ k
        → Agrees (accepts source at.Signed d (t ∷ ts)) (accepts source at.Atom d) (length (t ∷ ts)) (atom_by source inner k (t ∷ ts))
    atom_by_agrees t ts d few Name e = agrees_from _ _ _ _ _ (named source inner t ts) (step at.Signed d t ts Name e) (omega arith) (named_agrees t ts d (omega arith))
    atom_by_agrees t ts d few Number e = (step at.Signed d t ts Number e, omega arith)
    atom_by_agrees t ts d few Open e =
        agrees_from _ _ _ _ _ (and_then (group source inner (t ∷ ts)) (λ a. pure (enclosed a))) (step at.Signed d t ts Open e) (omega arith)
        (agrees_then _ _ _ _ (group source inner (t ∷ ts)) (λ a. pure (enclosed a)) (group_agrees t ts d few) (λ b rest. (refl, omega arith)))
    atom_by_agrees t ts d few Plus e = step at.Signed d t ts Plus e
    atom_by_agrees t ts d few Minus e = step at.Signed d t ts Minus e
    atom_by_agrees t ts d few Star e = step at.Signed d t ts Star e
    atom_by_agrees t ts d few Slash e = step at.Signed d t ts Slash e
    atom_by_agrees t ts d few Caret e = step at.Signed d t ts Caret e
    atom_by_agrees t ts d few Close e = step at.Signed d t ts Close e
    atom_by_agrees t ts d few Stray e = step at.Signed d t ts Stray e
    atom_by_agrees t ts d few End e = step at.Signed d t ts End e

    atom_agrees : (ts : List Token) (d : ℕ) → length ts ≤ most → Agrees (accepts source at.Signed d ts) (accepts source at.Atom d) (length ts) (atom source inner ts)
    unfolding atom
    atom_agrees [] d few = refl
    atom_agrees (t ∷ ts) d few = atom_by_agrees t ts d (omega arith) t.kind refl

    power_agrees : (ts : List Token) (d : ℕ) → length ts ≤ most → Agrees (accepts source at.Signed d ts) (behind power_move d) (length ts) (power source inner ts)
    unfolding power
    power_agrees ts d few = agrees_then _ _ _ _ (atom source inner ts) (to_power source) (atom_agrees ts d few) (λ b rest. to_power_agrees b rest d)

    unsigned_agrees : (t : Token) (ts : List Token) (d : ℕ) → length (t ∷ ts) ≤ most → (k : TokenKind) → t.kind ≡ k
        → signed_move (is_some (function_of source t)) k ≡ operand_move (is_some (function_of source t)) k
        → Agrees (accepts source at.Operand d (t ∷ ts)) (behind power_move d) (length (t ∷ ts)) (power source inner (t ∷ ts))
    unsigned_agrees t ts d few k e same =
        agrees_from _ _ _ _ _ (power source inner (t ∷ ts)) (step at.Operand d t ts k e ∙ ap (moved (go ts) d) same ∙ sym (step at.Signed d t ts k e)) (omega arith)
        (power_agrees (t ∷ ts) d few)

    signed_by_agrees : (t : Token) (ts : List Token) (d : ℕ) → length (t ∷ ts) ≤ most → (k : TokenKind) → t.kind ≡ k
        → Agrees (accepts source at.Operand d (t ∷ ts)) (behind power_move d) (length (t ∷ ts)) (signed_by source inner k (t ∷ ts))
    signed_by_agrees t ts d few Plus e =
        agrees_from _ _ _ _ _ (and_then (power source inner ts) (λ a. pure (enclosed a))) (step at.Operand d t ts Plus e) (omega arith)
        (agrees_then _ _ _ _ (power source inner ts) (λ a. pure (enclosed a)) (power_agrees ts d (omega arith)) (λ b rest. (refl, omega arith)))
    signed_by_agrees t ts d few Minus e =
        agrees_from _ _ _ _ _ (and_then (power source inner ts) (λ a. pure (negated a))) (step at.Operand d t ts Minus e) (omega arith)
        (agrees_then _ _ _ _ (power source inner ts) (λ a. pure (negated a)) (power_agrees ts d (omega arith)) (λ b rest. (refl, omega arith)))
    signed_by_agrees t ts d few Name e = unsigned_agrees t ts d few Name e refl
    signed_by_agrees t ts d few Number e = unsigned_agrees t ts d few Number e refl
    signed_by_agrees t ts d few Star e = unsigned_agrees t ts d few Star e refl
    signed_by_agrees t ts d few Slash e = unsigned_agrees t ts d few Slash e refl
    signed_by_agrees t ts d few Caret e = unsigned_agrees t ts d few Caret e refl
    signed_by_agrees t ts d few Open e = unsigned_agrees t ts d few Open e refl
    signed_by_agrees t ts d few Close e = unsigned_agrees t ts d few Close e refl
    signed_by_agrees t ts d few Stray e = unsigned_agrees t ts d few Stray e refl
    signed_by_agrees t ts d few End e = unsigned_agrees t ts d few End e refl

    signed_agrees : (ts : List Token) (d : ℕ) → length ts ≤ most → Agrees (accepts source at.Operand d ts) (behind power_move d) (length ts) (signed source inner ts)
    unfolding signed
    signed_agrees [] d few = power_agrees [] d few
    signed_agrees (t ∷ ts) d few = signed_by_agrees t ts d few t.kind refl

    product_agrees : (ts : List Token) (d : ℕ) → length ts ≤ most → Agrees (accepts source at.Operand d ts) (behind product_move d) (length ts) (product source inner ts)
    unfolding product
    product_agrees ts d few =
        agrees_within _ _ _ _ (signed source inner ts) (operations (signed source inner) product_operator) (signed_agrees ts d few)
        (λ b rest shorter. operations_agree (signed source inner) product_operator power_move product_move most product_goes_on product_ends refl signed_agrees b rest d (omega arith))

    products_agree : (ts : List Token) (d : ℕ) → length ts ≤ most → Agrees (accepts source at.Operand d ts) (behind sum_move d) (length ts) (products source inner ts)
    unfolding products
    products_agree ts d few =
        agrees_within _ _ _ _ (product source inner ts) (operations (product source inner) sum_operator) (product_agrees ts d few)
        (λ b rest shorter. operations_agree (product source inner) sum_operator product_move sum_move most sum_goes_on sum_ends refl product_agrees b rest d (omega arith))

  sum_agrees : (nesting : ℕ) (ts : List Token) (d : ℕ) → length ts < nesting → Agrees (accepts source at.Operand d ts) (behind sum_move d) (length ts) (sum source nesting ts)
  unfolding sum
  sum_agrees zero ts d few = absurd (omega arith)
  sum_agrees (suc nesting) ts d few = products_agree (sum source nesting) nesting (sum_agrees nesting) ts d (omega arith)

  none_open : (ts : List Token) (k : TokenKind) → moved (go ts) 0 (sum_move k) ≡ false
  none_open ts Close = refl
  none_open ts Plus = refl
  none_open ts Minus = refl
  none_open ts Name = refl
  none_open ts Number = refl
  none_open ts Star = refl
  none_open ts Slash = refl
  none_open ts Caret = refl
  none_open ts Open = refl
  none_open ts Stray = refl
  none_open ts End = refl

  whole : (start : Bool) (n : ℕ) (o : Outcome Built) → Agrees start (behind sum_move 0) n o → start ≡ is_some (if_whole source o)
  whole start n None h = h
  whole start n (Some (b, [])) h = h.0
  whole start n (Some (b, t ∷ ts)) h = h.0 ∙ none_open ts t.kind

  pub accepts-formula : (ts : List Token) → accepts source at.Operand 0 ts ≡ is_some (formula_in source ts)
  unfolding formula_in
  accepts-formula ts = whole _ _ (sum source (suc most_levels + length ts) ts) (sum_agrees (suc most_levels + length ts) ts 0 (omega arith))
