-- Numbers that are added piece by piece.
use Rattle.std.proofs.Common.{◌≡◌, ℕ, true, false, cond, List, [], ◌∷◌, ◌++◌, refl, sym, subst, ap, ◌∙◌, append_assoc}
use Rattle.std.proofs.lemmas.List.{append-nil}
use Rattle.std.proofs.lemmas.List.Elements.{All-append, All-cons, All-nil, filter-append}
use Rattle.std.proofs.lemmas.Grind.{flat_map-append}
use Rattle.std.specs.Prelude.{All, Option, Some, None, filter_map, slice_get}
use Rattle.std.specs.List.{cons_option, flat_map}
use Rattle.exact_fraction.specs.Number.{Rational, IsLowest, IsNumber}
use Rattle.interval_sets.specs.Intervals.{lies_in}
use Rattle.rule_types.specs.declared.rule.Rule.{Rule}
use Rattle.rule_types.specs.declared.rules.Rules.{Rules}
use Rattle.verdict_meaning.specs.Grids.{condition_cuts}
use Rattle.grid_cuts.specs.declared.key_range.KeyRange.{KeyRange}
use Rattle.grid_cuts.specs.internal.Additions.{Adds, asked_cuts, rule_cuts, within}

pub adds-none : (list : List Rational) → Adds list list []
adds-none list = record { numbers = sym (append-nil list); lowest = λ all. all }

pub adds-then : (before between after one other : List Rational) → Adds before between one
    → Adds between after other → Adds before after (one ++ other)
adds-then before between after one other h k = record {
  numbers =
      k.numbers ∙ ap (λ list. list ++ other) h.numbers ∙ append_assoc before one other;
  lowest = λ all. k.lowest (h.lowest all);
}

pub adds-one : (before after : List Rational) (q : Rational) → IsNumber q
    → after ≡ before ++ q ∷ [] → Adds before after (q ∷ [])
adds-one before after q held is = record {
  numbers = is;
  lowest =
      λ all.
      subst (All IsLowest) (sym is)
      (All-append IsLowest before (q ∷ []) all
      (All-cons IsLowest q [] held.lowest (All-nil IsLowest)));
}

pub ruleset additions = (adds-none, adds-then, adds-one)

-- ---- those in a range

pub adds_in : (wanted : KeyRange) (before after : List Rational) (q : Rational)
    → lies_in wanted.range q ≡ true → Adds before after (q ∷ [])
    → Adds before after (within wanted (q ∷ []))
adds_in wanted before after q e h =
    subst (Adds before after) (ap (λ t. cond t (q ∷ []) []) (sym e)) h

pub adds_out : (wanted : KeyRange) (list : List Rational) (q : Rational)
    → lies_in wanted.range q ≡ false → Adds list list (within wanted (q ∷ []))
adds_out wanted list q e =
    subst (Adds list list) (ap (λ t. cond t (q ∷ []) []) (sym e)) (adds-none list)

pub adds_both : (wanted : KeyRange) (before between after one other : List Rational)
    → Adds before between (within wanted one) → Adds between after (within wanted other)
    → Adds before after (within wanted (one ++ other))
adds_both wanted before between after one other h k =
    subst (Adds before after) (sym (filter-append (lies_in wanted.range) one other))
    (adds-then before between after (within wanted one) (within wanted other) h k)

-- one more thing adds its numbers
pub adds_more : {A : Type 0} (wanted : KeyRange) (read : A → List Rational)
    (before between after : List Rational) (so_far all : List A) (thing : A)
    → all ≡ so_far ++ thing ∷ []
    → Adds before between (within wanted (flat_map read so_far))
    → Adds between after (within wanted (read thing))
    → Adds before after (within wanted (flat_map read all))
adds_more wanted read before between after so_far all thing is h k =
    subst (λ list. Adds before after (within wanted (flat_map read list))) (sym is)
    (subst (λ found. Adds before after (within wanted found))
    (sym (flat_map-append read so_far (thing ∷ [])))
    (adds_both wanted before between after (flat_map read so_far) (flat_map read (thing ∷ [])) h
    (subst (λ found. Adds between after (within wanted found)) (sym (append-nil (read thing))) k)))

-- ---- the rules of a question

rule_first : (x : Rules) (wanted : KeyRange) (o : Option Rule) (more : List Rule)
    → flat_map (λ rule. flat_map (condition_cuts x.names wanted.step wanted.key) rule.conditions)
    (cons_option o more)
    ≡ rule_cuts x.names wanted o
    ++ flat_map (λ rule. flat_map (condition_cuts x.names wanted.step wanted.key) rule.conditions)
    more
rule_first x wanted None more = refl
rule_first x wanted (Some rule) more = refl

pub asked_cuts_are : (x : Rules) (wanted : KeyRange) (asked : List ℕ)
    → flat_map (λ rule. flat_map (condition_cuts x.names wanted.step wanted.key) rule.conditions)
    (filter_map (slice_get x.rules) asked)
    ≡ asked_cuts x wanted asked
asked_cuts_are x wanted [] = refl
asked_cuts_are x wanted (number ∷ asked) =
    rule_first x wanted (slice_get x.rules number) (filter_map (slice_get x.rules) asked)
    ∙ ap (λ found. rule_cuts x.names wanted (slice_get x.rules number) ++ found)
    (asked_cuts_are x wanted asked)
