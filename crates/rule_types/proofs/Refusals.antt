-- Of several refusals the lowest is reported, however they are compared.
use Rattle.std.proofs.Common.{◌≡◌, ℕ, Bool, true, false, Option, Some, None, ◌&&◌, refl, sym, ap}
use Rattle.std.proofs.Common.{◌∙◌, arith}
use Rattle.std.specs.Prelude.{◌==◌, ◌||◌, nat_lt, is_none, List, [], ◌∷◌, get_or, pred}
use Rattle.std.specs.Prelude.{◌<◌}
use Rattle.std.proofs.lemmas.Bool.Decides.{nat_tests}
use Rattle.rule_types.specs.declared.refusal.Cause.{Cause}
use Rattle.rule_types.specs.declared.refusal.Cause.TheVariants.{LineTooLong, BadText, BadOption}
use Rattle.rule_types.specs.declared.refusal.Cause.TheVariants.{DuplicateName, BadCurve, BadSeries}
use Rattle.rule_types.specs.declared.refusal.Cause.TheVariants.{BadClause}
use Rattle.rule_types.specs.declared.refusal.Cause.TheVariants.{ClauseOrder, UnknownObject}
use Rattle.rule_types.specs.declared.refusal.Cause.TheVariants.{WrongKind, UnknownAttribute}
use Rattle.rule_types.specs.declared.refusal.Cause.TheVariants.{WrongValue, UnknownName}
use Rattle.rule_types.specs.declared.refusal.Cause.TheVariants.{ReservedName, OutsideFunction}
use Rattle.rule_types.specs.declared.refusal.Cause.TheVariants.{BadExpression, NumberTooLarge}
use Rattle.rule_types.specs.declared.refusal.Cause.TheVariants.{UnknownTable}
use Rattle.rule_types.specs.declared.refusal.Cause.TheVariants.{FileSeries, RuleStep, TooMany}
use Rattle.rule_types.specs.declared.refusal.Refusal.{Refusal}
use Rattle.rule_types.specs.Causes.{cause_number}
use Rattle.rule_types.specs.Refusals.{goes_before, lower, earlier}

-- the same test over lines and numbers of causes
before : ℕ → ℕ → ℕ → ℕ → Bool
before m c n d = nat_lt m n || (m == n && nat_lt c d)

before_is : (a b : Refusal) → goes_before a b ≡ before a.line (cause_number a.cause) b.line (cause_number b.cause)
unfolding goes_before before
before_is a b = refl

before_through : (l c m d n e : ℕ) → before l c m d ≡ true → before m d n e ≡ true → before l c n e ≡ true
unfolding before
before_through l c m d n e h i = grind (arith, nat_tests)

not_before_through : (l c m d n e : ℕ) → before l c m d ≡ false → before m d n e ≡ false → before l c n e ≡ false
unfolding before
not_before_through l c m d n e h i = grind (arith, nat_tests)

before_itself : (m c : ℕ) → before m c m c ≡ false
unfolding before
before_itself m c = grind (arith, nat_tests)

before_one_way : (l c m d : ℕ) → before l c m d ≡ true → before m d l c ≡ false
unfolding before
before_one_way l c m d h = grind (arith, nat_tests)

tied_lines : (m c n d : ℕ) → before m c n d ≡ false → before n d m c ≡ false → m ≡ n
unfolding before
tied_lines m c n d h i = grind (arith, nat_tests)

tied_numbers : (m c n d : ℕ) → before m c n d ≡ false → before n d m c ≡ false → c ≡ d
unfolding before
tied_numbers m c n d h i = grind (arith, nat_tests)

before_by_line : (m c n d : ℕ) → m < n → before m c n d ≡ true
unfolding before
before_by_line m c n d h = grind (arith, nat_tests)

before_by_cause : (m c n d : ℕ) → m ≡ n → c < d → before m c n d ≡ true
unfolding before
before_by_cause m c n d e h = grind (arith, nat_tests)

-- the order of refusals
pub by_line : (a b : Refusal) → a.line < b.line → goes_before a b ≡ true
by_line a b h =
    before_is a b ∙ before_by_line a.line (cause_number a.cause) b.line (cause_number b.cause) h

pub by_cause : (a b : Refusal) → a.line ≡ b.line → cause_number a.cause < cause_number b.cause
    → goes_before a b ≡ true
by_cause a b e h =
    before_is a b ∙ before_by_cause a.line (cause_number a.cause) b.line (cause_number b.cause) e h

pub transitive : (a b c : Refusal) → goes_before a b ≡ true → goes_before b c ≡ true → goes_before a c ≡ true
transitive a b c h i =
    before_is a c ∙ before_through a.line (cause_number a.cause) b.line (cause_number b.cause) c.line (cause_number c.cause)
    (sym (before_is a b) ∙ h) (sym (before_is b c) ∙ i)

not_through : (a b c : Refusal) → goes_before a b ≡ false → goes_before b c ≡ false → goes_before a c ≡ false
not_through a b c h i =
    before_is a c ∙ not_before_through a.line (cause_number a.cause) b.line (cause_number b.cause) c.line (cause_number c.cause)
    (sym (before_is a b) ∙ h) (sym (before_is b c) ∙ i)

pub irreflexive : (a : Refusal) → goes_before a a ≡ false
irreflexive a = before_is a a ∙ before_itself a.line (cause_number a.cause)

one_way : (a b : Refusal) → goes_before a b ≡ true → goes_before b a ≡ false
one_way a b h =
    before_is b a ∙ before_one_way a.line (cause_number a.cause) b.line (cause_number b.cause) (sym (before_is a b) ∙ h)

-- each number belongs to one cause
abbrev all_causes : List Cause
all_causes =
    LineTooLong ∷ BadText ∷ BadOption ∷ DuplicateName ∷ BadCurve ∷ BadSeries ∷ BadClause ∷ ClauseOrder ∷ UnknownObject
    ∷ WrongKind ∷ UnknownAttribute ∷ WrongValue ∷ UnknownName ∷ ReservedName ∷ OutsideFunction ∷ BadExpression
    ∷ NumberTooLarge ∷ UnknownTable ∷ FileSeries ∷ RuleStep ∷ TooMany ∷ []

abbrev cause_of : ℕ → Cause
cause_of number = get_or all_causes (pred number) LineTooLong

found_again : (c : Cause) → cause_of (cause_number c) ≡ c
found_again LineTooLong = refl
found_again BadText = refl
found_again BadOption = refl
found_again DuplicateName = refl
found_again BadCurve = refl
found_again BadSeries = refl
found_again BadClause = refl
found_again ClauseOrder = refl
found_again UnknownObject = refl
found_again WrongKind = refl
found_again UnknownAttribute = refl
found_again WrongValue = refl
found_again UnknownName = refl
found_again ReservedName = refl
found_again OutsideFunction = refl
found_again BadExpression = refl
found_again NumberTooLarge = refl
found_again UnknownTable = refl
found_again FileSeries = refl
found_again RuleStep = refl
found_again TooMany = refl

pub tied : (a b : Refusal) → goes_before a b ≡ false → goes_before b a ≡ false → (a.line ≡ b.line) × (a.cause ≡ b.cause)
tied a b h i =
    let p = sym (before_is a b) ∙ h in
    let q = sym (before_is b a) ∙ i in
    let number = tied_numbers a.line (cause_number a.cause) b.line (cause_number b.cause) p q in (
      tied_lines a.line (cause_number a.cause) b.line (cause_number b.cause) p q,
      sym (found_again a.cause) ∙ ap cause_of number ∙ found_again b.cause,
    )

-- the lower of two
pub first_lower : (a b : Refusal) → goes_before b a ≡ false → lower a b ≡ a
unfolding lower
first_lower a b h = rw h refl

pub second_lower : (a b : Refusal) → goes_before b a ≡ true → lower a b ≡ b
unfolding lower
second_lower a b h = rw h refl

abbrev IsLeast : Refusal → Refusal → Refusal → Type 0
IsLeast a b one = (goes_before a one ≡ false) × (goes_before b one ≡ false)

pub least : (a b : Refusal) → (goes_before a (lower a b) ≡ false) × (goes_before b (lower a b) ≡ false)
least a b = by (goes_before b a) refl
  where
    by : (s : Bool) → goes_before b a ≡ s → IsLeast a b (lower a b)
    by true e = rw (second_lower a b e) (one_way b a e, irreflexive b)
    by false e = rw (first_lower a b e) (irreflexive a, e)

pub associative : (a b c : Refusal) → lower a (lower b c) ≡ lower (lower a b) c
associative a b c = by (goes_before b a) (goes_before c b) refl refl
  where
    by : (s t : Bool) → goes_before b a ≡ s → goes_before c b ≡ t → lower a (lower b c) ≡ lower (lower a b) c
    by true true p q = rw (second_lower b c q, second_lower a b p, second_lower b c q)
        (second_lower a c (transitive c b a q p))
    by true false p q = rw (first_lower b c q, second_lower a b p, first_lower b c q) refl
    by false true p q = rw (second_lower b c q, first_lower a b p) refl
    by false false p q = rw (first_lower b c q, first_lower a b p) (sym (first_lower a c (not_through c b a q p)))

-- the lower of those that there are
pub earlier_none : (a : Option Refusal) → earlier None a ≡ a
unfolding earlier
earlier_none a = refl

pub earlier_alone : (a : Option Refusal) → earlier a None ≡ a
unfolding earlier
earlier_alone None = refl
earlier_alone (Some a) = refl

pub earlier_both : (a b : Refusal) → earlier (Some a) (Some b) ≡ Some (lower a b)
unfolding earlier
earlier_both a b = refl

pub earlier_associative : (a b c : Option Refusal) → earlier a (earlier b c) ≡ earlier (earlier a b) c
unfolding earlier
earlier_associative None b c = refl
earlier_associative (Some a) None c = refl
earlier_associative (Some a) (Some b) None = refl
earlier_associative (Some a) (Some b) (Some c) = ap Some (associative a b c)

pub neither : (a b : Option Refusal) → is_none (earlier a b) ≡ (is_none a && is_none b)
unfolding earlier
neither None b = refl
neither (Some a) None = refl
neither (Some a) (Some b) = refl
