-- The rule that precedes all others that surely act on a link.
use Rattle.std.proofs.Common.{◌≡◌, ℕ, ◌+◌, Bool, true, false, ◌&&◌, ◌||◌, Option, Some, length, refl, sym, ap, ◌∙◌}
use Rattle.std.specs.List.{list_any, range_with_len}
use Rattle.rule_types.specs.declared.rules.Rules.{Rules}
use Rattle.rule_meaning.proofs.PublicLaws.{ranks-transitive, ranks-weak}
use Rattle.verdict_meaning.specs.Events.{priority_of}
use Rattle.verdict_meaning.specs.Shown.{KnownPremises, is_preceded, rule_precedes, surely_acts}
use Rattle.box_eval.specs.internal.Preceding.{IsFirstActing, comes_after}
use Rattle.box_eval.proofs.Folds.{any_more}

through : (x : Rules) (m n k : ℕ) → rule_precedes x m n ≡ true → rule_precedes x n k ≡ true
    → rule_precedes x m k ≡ true
unfolding rule_precedes
through x m n k =
    ranks-transitive (priority_of x.rules m) (priority_of x.rules n) (priority_of x.rules k) m n k

through_weak : (x : Rules) (m n k : ℕ) → rule_precedes x m n ≡ false
    → rule_precedes x n k ≡ false → rule_precedes x m k ≡ false
unfolding rule_precedes
through_weak x m n k =
    ranks-weak (priority_of x.rules m) (priority_of x.rules n) (priority_of x.rules k) m n k

upper : (a b : Bool) → (b ≡ true → a ≡ true) → a ≡ (b || a)
upper a true f = f refl
upper a false f = refl

lower : (a b : Bool) → (b ≡ false → a ≡ false) → b ≡ (b || a)
lower a true f = refl
lower a false f = sym (f refl)

-- the one of two rules that precedes comes before what one of them precedes
pub new_precedes : (x : Rules) (number before : ℕ) (first : Option ℕ) → first ≡ Some before
    → rule_precedes x number before ≡ true → (other : ℕ)
    → rule_precedes x number other
    ≡ (comes_after x first other || rule_precedes x number other)
new_precedes x number before first is h other =
    upper (rule_precedes x number other) (rule_precedes x before other)
    (through x number before other h)
    ∙ ap (λ o. comes_after x o other || rule_precedes x number other) (sym is)

pub old_precedes : (x : Rules) (number before : ℕ) (first : Option ℕ) → first ≡ Some before
    → rule_precedes x number before ≡ false → (other : ℕ)
    → rule_precedes x before other
    ≡ (comes_after x first other || rule_precedes x number other)
old_precedes x number before first is h other =
    lower (rule_precedes x number other) (rule_precedes x before other)
    (through_weak x number before other h)
    ∙ ap (λ o. comes_after x o other || rule_precedes x number other) (sym is)

pub first_goes_on : (x : Rules) (known : KnownPremises) (link n : ℕ) (first next : Option ℕ)
    → ((other : ℕ) → comes_after x next other
    ≡ (comes_after x first other || (rule_precedes x n other && surely_acts x known n link)))
    → ((other : ℕ) → comes_after x first other
    ≡ list_any (λ one. rule_precedes x one other && surely_acts x known one link)
    (range_with_len 0 n))
    → (other : ℕ) → comes_after x next other
    ≡ list_any (λ one. rule_precedes x one other && surely_acts x known one link)
    (range_with_len 0 (n + 1))
first_goes_on x known link n first next step so_far other =
    step other
    ∙ ap (λ t. t || (rule_precedes x n other && surely_acts x known n link)) (so_far other)
    ∙ sym (any_more (λ one. rule_precedes x one other && surely_acts x known one link) n)

pub first_is : (x : Rules) (known : KnownPremises) (link n : ℕ) (first : Option ℕ)
    → n ≡ length x.rules
    → ((other : ℕ) → comes_after x first other
    ≡ list_any (λ one. rule_precedes x one other && surely_acts x known one link)
    (range_with_len 0 n))
    → IsFirstActing x known link first
unfolding is_preceded
first_is x known link n first all so_far = record {
  each = λ number.
      sym
      (so_far number
      ∙ ap
      (λ k.
      list_any (λ one. rule_precedes x one number && surely_acts x known one link)
      (range_with_len 0 k)) all);
}
