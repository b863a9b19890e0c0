-- The numbers of a cell, key by key.
use Rattle.std.proofs.Common.{◌≡◌, Option, Some, None, List, [], ◌∷◌, ◌++◌, refl, sym, ap, ◌∙◌, append_assoc}
use Rattle.std.proofs.lemmas.List.{append-nil}
use Rattle.std.specs.Prelude.{option_and_then, option_map}
use Rattle.exact_fraction.specs.Number.{Rational}
use Rattle.interval_sets.specs.declared.interval.Interval.{Interval}
use Rattle.rule_types.specs.declared.key.Key.{Key}
use Rattle.verdict_meaning.specs.Grids.{cell_numbers, piece_number}

-- some numbers and those of the entries that are left
abbrev pub Behind : List (Key × Rational) → List (Key × Interval) → Option (List (Key × Rational))
Behind found rest = option_map (λ more. found ++ more) (cell_numbers rest)

same_option : {A : Type 0} (o : Option (List A)) → o ≡ option_map (λ more. [] ++ more) o
same_option None = refl
same_option (Some more) = refl

pub none_found : (keys : List (Key × Interval)) → cell_numbers keys ≡ Behind [] keys
none_found keys = same_option (cell_numbers keys)

one_more : {A : Type 0} (found : List A) (one : A) (o : Option (List A))
    → option_map (λ more. found ++ more) (option_map (λ more. one ∷ more) o)
    ≡ option_map (λ more. (found ++ one ∷ []) ++ more) o
one_more found one None = refl
one_more found one (Some more) = ap Some (sym (append_assoc found (one ∷ []) more))

pub one_found : (all : Option (List (Key × Rational))) (found after : List (Key × Rational))
    (entry : Key × Interval) (keys rest : List (Key × Interval)) (q : Rational)
    → Some q ≡ piece_number entry.1.low entry.1.high → keys ≡ entry ∷ rest
    → after ≡ found ++ (entry.0, q) ∷ [] → all ≡ Behind found keys → all ≡ Behind after rest
unfolding cell_numbers
one_found all found after entry keys rest q is keys_are after_is so_far =
    so_far ∙ ap (Behind found) keys_are
    ∙ ap
    (λ o.
    option_map (λ more. found ++ more)
    (option_and_then
    (λ (p : Rational). option_map (λ numbers. (entry.0, p) ∷ numbers) (cell_numbers rest)) o))
    (sym is)
    ∙ one_more found (entry.0, q) (cell_numbers rest)
    ∙ ap (λ done. Behind done rest) (sym after_is)

pub one_unfit : (all : Option (List (Key × Rational))) (found : List (Key × Rational))
    (entry : Key × Interval) (keys rest : List (Key × Interval))
    → None ≡ piece_number entry.1.low entry.1.high → keys ≡ entry ∷ rest
    → all ≡ Behind found keys → all ≡ None
unfolding cell_numbers
one_unfit all found entry keys rest is keys_are so_far =
    so_far ∙ ap (Behind found) keys_are
    ∙ ap
    (λ o.
    option_map (λ more. found ++ more)
    (option_and_then
    (λ (p : Rational). option_map (λ numbers. (entry.0, p) ∷ numbers) (cell_numbers rest)) o))
    (sym is)

pub all_found : (all : Option (List (Key × Rational))) (found : List (Key × Rational))
    (keys : List (Key × Interval)) → keys ≡ [] → all ≡ Behind found keys → all ≡ Some found
unfolding cell_numbers
all_found all found keys none so_far =
    so_far ∙ ap (Behind found) none ∙ ap Some (append-nil found)
