-- What the tables of a plan order, table by table.
use Rattle.std.proofs.Common.{◌≡◌, ℕ, ◌+◌, ◌<◌, ◌≤◌, Bool, true, false, nat_lt, Option, Some, List, length, get_or, set, refl, sym, ap, ◌∙◌, arith}
use Rattle.std.proofs.lemmas.Bool.Decides.{nat_tests}
use Rattle.std.proofs.lemmas.List.{get_or-set_same, get_or-set_other, length-set}
use Rattle.std.proofs.lemmas.Option.{slice_get-get_or, slice_get_within, get_or_from_slice_get}
use Rattle.std.specs.Prelude.{slice_get}
use Rattle.rule_types.specs.declared.action.ActionAt.{ActionAt}
use Rattle.table_plan.specs.Plan.{Plan, first_by}
use Rattle.table_run.specs.Planned.{AreFirsts}
use Rattle.table_run.specs.internal.Firsts.{FirstsTo}

pub no_firsts : (plan : Plan) (pieces : List (Option ℕ)) (truth : ActionAt → ℕ → Bool) (firsts : List (Option ActionAt))
    → FirstsTo plan pieces truth 0 firsts
unfolding FirstsTo
no_firsts plan pieces truth firsts = λ table first below is. absurd (omega arith)

here : {A : Type 0} (xs : List A) (k : ℕ) (new one : A) → k < length xs → slice_get (set xs k new) k ≡ Some one → one ≡ new
here xs k new one within is =
    sym (get_or_from_slice_get (set xs k new) k one new is) ∙ get_or-set_same xs k new new within

there : {A : Type 0} (xs : List A) (k j : ℕ) (new one : A) → (j ≡ k → ⊥) → slice_get (set xs k new) j ≡ Some one
    → slice_get xs j ≡ Some one
there xs k j new one other is =
    let within : j < length (set xs k new) = slice_get_within (set xs k new) j one is in
    let long : length (set xs k new) ≡ length xs = length-set xs k new in
    let found : get_or xs j one ≡ one =
    sym (get_or-set_other xs k j new one other) ∙ get_or_from_slice_get (set xs k new) j one one is in
    slice_get-get_or xs j one (omega (arith, within, long)) ∙ ap Some found

pub one_first : (plan : Plan) (pieces : List (Option ℕ)) (truth : ActionAt → ℕ → Bool) (firsts : List (Option ActionAt))
    (k : ℕ) (new : Option ActionAt)
    → FirstsTo plan pieces truth k firsts → k < length firsts → new ≡ first_by plan k pieces truth
    → FirstsTo plan pieces truth (k + 1) (set firsts k new)
unfolding FirstsTo
one_first plan pieces truth firsts k new done within made = λ table first below is.
    one_by plan pieces truth firsts k new done within made table first (nat_lt table k) refl below is
  where
    one_by : (plan : Plan) (pieces : List (Option ℕ)) (truth : ActionAt → ℕ → Bool) (firsts : List (Option ActionAt))
        (k : ℕ) (new : Option ActionAt)
        → ((table : ℕ) (first : Option ActionAt) → table < k → slice_get firsts table ≡ Some first → first ≡ first_by plan table pieces truth)
        → k < length firsts → new ≡ first_by plan k pieces truth
        → (table : ℕ) (first : Option ActionAt) (b : Bool) → nat_lt table k ≡ b → table < k + 1
        → slice_get (set firsts k new) table ≡ Some first → first ≡ first_by plan table pieces truth
    one_by plan pieces truth firsts k new done within made table first true lt below is =
        let less : table < k = grind (arith, nat_tests) in
        done table first less (there firsts k table new first (λ e. omega (arith, e, less)) is)
    one_by plan pieces truth firsts k new done within made table first false lt below is =
        let same : table ≡ k = grind (arith, nat_tests) in
        here firsts k new first within (ap (slice_get (set firsts k new)) (sym same) ∙ is)
        ∙ made ∙ ap (λ n. first_by plan n pieces truth) (sym same)

pub all_firsts : (plan : Plan) (pieces : List (Option ℕ)) (truth : ActionAt → ℕ → Bool) (firsts : List (Option ActionAt))
    (k : ℕ)
    → FirstsTo plan pieces truth k firsts → length firsts ≤ k → AreFirsts plan pieces truth firsts
unfolding FirstsTo AreFirsts
all_firsts plan pieces truth firsts k done past = λ table first is.
    let within = slice_get_within firsts table first is in
    done table first (omega (arith, within, past)) is

pub first_at : (plan : Plan) (pieces : List (Option ℕ)) (truth : ActionAt → ℕ → Bool) (firsts : List (Option ActionAt))
    (k : ℕ) (one : Option ActionAt)
    → AreFirsts plan pieces truth firsts → k < length firsts → one ≡ get_or firsts k one
    → one ≡ first_by plan k pieces truth
unfolding AreFirsts
first_at plan pieces truth firsts k one are within is =
    are k one (slice_get-get_or firsts k one within ∙ ap Some (sym is))

pub kept_first : (plan : Plan) (pieces : List (Option ℕ)) (truth : ActionAt → ℕ → Bool) (firsts : List (Option ActionAt))
    (k : ℕ) (d : Option ActionAt)
    → AreFirsts plan pieces truth firsts → k < length firsts
    → get_or firsts k d ≡ first_by plan k pieces truth
unfolding AreFirsts
kept_first plan pieces truth firsts k d are within =
    are k (get_or firsts k d) (slice_get-get_or firsts k d within)
