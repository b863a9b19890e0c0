-- A set in normal form that has the members of an operation is the operation's set.
use Rattle.std.proofs.Common.{◌≡◌, not, List, sym, ap, ap₂, subst, ◌∙◌}
use Rattle.std.specs.Prelude.{◌&&◌, ◌||◌}
use Rattle.exact_fraction.specs.Number.{Rational, IsNumber}
use Rattle.exact_fraction.specs.Relations.{relates}
use Rattle.exact_fraction.specs.declared.relation.Relation.{Relation}
use Rattle.interval_sets.specs.declared.interval.Interval.{Interval}
use Rattle.interval_sets.specs.Sets.{members, IsNormal, normal_form, set_of, union_of, intersection_of, complement_of}
use Rattle.interval_sets.proofs.SetMembers.{normal_form_members, union_members, intersection_members, complement_members, set_members}
use Rattle.interval_sets.proofs.SetNormal.{normal_form_rising, normal_form_held, union_rising, union_held, intersection_rising, intersection_held, complement_rising, complement_held, set_rising, set_held}
use Rattle.interval_sets.proofs.Unique.{unique_pieces}

pub normal_form_same : (a : List Interval) → IsNormal a → normal_form a ≡ a
normal_form_same a h = unique_pieces (normal_form a) a (record { rising = normal_form_rising a; held = normal_form_held a h.held }) h (normal_form_members a)

pub is_union : (a b made : List Interval) → IsNormal a → IsNormal b → IsNormal made → ((q : Rational) → members made q ≡ (members a q || members b q)) → made ≡ union_of a b
is_union a b made na nb normal same =
    unique_pieces made (union_of a b) normal (record { rising = union_rising a b; held = union_held a b na.held nb.held }) (λ q. same q ∙ sym (union_members a b q))

pub is_intersection : (a b made : List Interval) → IsNormal a → IsNormal b → IsNormal made → ((q : Rational) → members made q ≡ (members a q && members b q)) → made ≡ intersection_of a b
is_intersection a b made na nb normal same =
    unique_pieces made (intersection_of a b) normal (record { rising = intersection_rising a b; held = intersection_held a b na.held nb.held }) (λ q. same q ∙ sym (intersection_members a b q))

pub is_complement : (a made : List Interval) → IsNormal a → IsNormal made → ((q : Rational) → members made q ≡ not (members a q)) → made ≡ complement_of a
is_complement a made na normal same =
    unique_pieces made (complement_of a) normal (record { rising = complement_rising a; held = complement_held a na.held }) (λ q. same q ∙ sym (complement_members a q))

-- ---- the same over the lists that a function holds
pub union_made : (x z y w a b made : List Interval) → x ≡ z → z ≡ a → y ≡ w → w ≡ b → IsNormal z → IsNormal w → IsNormal made → ((q : Rational) → members made q ≡ (members x q || members y q)) → made ≡ union_of a b
union_made x z y w a b made p s t u nz nw normal same =
    is_union z w made nz nw normal (λ q. same q ∙ ap₂ (λ l r. members l q || members r q) p t) ∙ ap₂ union_of s u

pub intersection_made : (x z y w a b made : List Interval) → x ≡ z → z ≡ a → y ≡ w → w ≡ b → IsNormal z → IsNormal w → IsNormal made → ((q : Rational) → members made q ≡ (members x q && members y q)) → made ≡ intersection_of a b
intersection_made x z y w a b made p s t u nz nw normal same =
    is_intersection z w made nz nw normal (λ q. same q ∙ ap₂ (λ l r. members l q && members r q) p t) ∙ ap₂ intersection_of s u

pub complement_made : (x z a made : List Interval) → x ≡ z → z ≡ a → IsNormal z → IsNormal made → ((q : Rational) → members made q ≡ not (members x q)) → made ≡ complement_of a
complement_made x z a made p s nz normal same =
    is_complement z made nz normal (λ q. same q ∙ ap (λ l. not (members l q)) p) ∙ ap complement_of s

pub set_made_members : (rel : Relation) (c : Rational) (made : List Interval) → made ≡ set_of rel c → (q : Rational) → members made q ≡ relates rel q c
set_made_members rel c made is q = ap (λ l. members l q) is ∙ set_members rel c q

pub set_made_normal : (rel : Relation) (c : Rational) (made : List Interval) → made ≡ set_of rel c → IsNumber c → IsNormal made
set_made_normal rel c made is held =
    let P : List Interval → Type 0 = λ l. IsNormal l in
    subst P (sym is) (record { rising = set_rising rel c; held = set_held rel c held })
