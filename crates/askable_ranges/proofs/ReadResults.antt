-- What holds of what is read, and of a list of entries when one is put in.
use Rattle.std.proofs.Common.{◌≡◌, Bool, true, false, Some, Result, Ok, Err, List, [], ◌∷◌, refl}
use Rattle.std.proofs.Common.{cond, subst}
use Rattle.std.proofs.lemmas.Bool.{true≢false}
use Rattle.std.proofs.lemmas.List.Elements.{All-nil, All-cons, All-head, All-tail}
use Rattle.std.specs.Prelude.{All, if◌then◌else◌, is_some}
use Rattle.std.specs.BTreeMap.{insert_entry, is_at}
use Rattle.std.specs.Map.{lookup}
use Rattle.std.specs.Ordering.{is_eq, match_ordering}
use Rattle.std.specs.declared.cmp.Ordering.{Ordering}
use Rattle.std.specs.declared.cmp.Ordering.TheVariants.{Less, Equal, Greater}

-- the type of a value, and of what is read, where it has no name that can be written here
abbrev pub TypeOf : {A : Type 0} → A → Type 0
TypeOf {A} value = A

abbrev pub ReadType : {A E : Type 0} → Result A E → Type 0
ReadType {A} {E} read = A

-- what is read has a property
abbrev pub Gives : {A E : Type 0} → (A → Type 0) → Result A E → Type 0
Gives P (Ok value) = P value
Gives P (Err cause) = Unit {0}

pub gives_if : {A E : Type 0} (P : A → Type 0) (t : Bool) (a b : Result A E)
    → (t ≡ true → Gives P a) → (t ≡ false → Gives P b) → Gives P (if t then a else b)
gives_if P true a b h g = h refl
gives_if P false a b h g = g refl

pub gives_ok : {A E : Type 0} (P : A → Type 0) (read : Result A E) (value : A) → read ≡ Ok value
    → Gives P read → P value
gives_ok P read value e h = subst (Gives P) e h

-- a key that is not there gets an entry of its own
pub inserted : {K X : Type 0} (cmp : K → K → Ordering) (key : K) (value : X) (P : K × X → Type 0)
    (entries : List (K × X)) → is_some (lookup (is_at (cmp key)) entries) ≡ false
    → All P entries → P (key, value) → All P (insert_entry cmp entries key value)
inserted cmp key value P [] none h p = All-cons P (key, value) [] p (All-nil P)
inserted cmp key value P (entry ∷ more) none h p =
    by (cmp key entry.0) none
    (λ later. inserted cmp key value P more later (All-tail P entry more h) p)
  where
    by : (order : Ordering)
        → is_some (cond (is_eq order) (Some entry.1) (lookup (is_at (cmp key)) more)) ≡ false
        → (is_some (lookup (is_at (cmp key)) more) ≡ false
        → All P (insert_entry cmp more key value))
        → All P
        (match_ordering order ((key, value) ∷ entry ∷ more) ((entry.0, value) ∷ more)
        (entry ∷ insert_entry cmp more key value))
    by Less e g = All-cons P (key, value) (entry ∷ more) p h
    by Equal e g = absurd (true≢false e)
    by Greater e g =
        All-cons P entry (insert_entry cmp more key value) (All-head P entry more h) (g e)
