-- What verdicts tell of the states of the ranges.
use Rattle.std.proofs.Common.{◌≡◌, ℕ, Bool, true, false, cond, Option, Some, Result, Ok, Err, List}
use Rattle.std.proofs.Common.{[], ◌∷◌, refl, sym, subst}
use Rattle.std.specs.List.{AllByRecursion, find}
use Rattle.std.proofs.lemmas.Bool.{true≢false}
use Rattle.std.proofs.lemmas.List.Elements.{recursion_from_All}
use Rattle.std.proofs.lemmas.Option.{none-some, same_Some}
use Rattle.rule_types.specs.declared.action.PidMemory.{PidMemory}
use Rattle.rule_types.specs.declared.rules.Rules.{Rules}
use Rattle.rule_types.specs.declared.state.State.{State}
use Rattle.rule_types.specs.Tables.{HoldsTables, TableSet}
use Rattle.rule_types.specs.WellFormed.{WellFormed}
use Rattle.verdict_meaning.specs.declared.cert.Cert.{Cert}
use Rattle.verdict_meaning.specs.declared.question.Question.{Question}
use Rattle.verdict_meaning.specs.declared.ranges.Ranges.{Ranges}
use Rattle.verdict_meaning.specs.declared.verdict.Verdict.TheVariants as verdict
use Rattle.verdict_meaning.specs.Boxes.{IsInRanges}
use Rattle.verdict_meaning.specs.Certificates.{checked_cert, is_end, NodeFault}
use Rattle.verdict_meaning.specs.Events.{has_event}
use Rattle.verdict_meaning.specs.Grids.{sample_memory}
use Rattle.verdict_meaning.specs.Verdicts.{first_event, IsVerdict, samples}
use Rattle.verdict_meaning.proofs.PublicLaws.{certificates-no_state}
use Rattle.grid_samples.specs.Cells.{HasClosedRanges}
use Rattle.grid_events.proofs.PublicLaws.{grids-tracked}
use Rattle.grid_samples.proofs.PublicLaws.{grids-states}

-- ---- what is found passes, and is one of the items
passes_by : {A : Type 0} (test : A → Bool) (first item : A) (b : Bool) (later : Option A)
    → test first ≡ b → cond b (Some first) later ≡ Some item
    → (later ≡ Some item → test item ≡ true) → test item ≡ true
passes_by test first item true later passes is ih =
    subst (λ one. test one ≡ true) (same_Some first item is) passes
passes_by test first item false later passes is ih = ih is

found_passes : {A : Type 0} (test : A → Bool) (xs : List A) (item : A)
    → find test xs ≡ Some item → test item ≡ true
found_passes test [] item is = absurd (none-some item is)
found_passes test (x ∷ xs) item is =
    passes_by test x item (test x) (find test xs) refl is (found_passes test xs item)

holds_by : {A : Type 0} (P : A → Type 0) (first item : A) (b : Bool) (later : Option A) → P first
    → cond b (Some first) later ≡ Some item → (later ≡ Some item → P item) → P item
holds_by P first item true later h is ih = subst P (same_Some first item is) h
holds_by P first item false later h is ih = ih is

found_holds : {A : Type 0} (P : A → Type 0) (test : A → Bool) (xs : List A) (item : A)
    → AllByRecursion P xs → find test xs ≡ Some item → P item
found_holds P test [] item each is = absurd (none-some item is)
found_holds P test (x ∷ xs) item each is =
    holds_by P x item (test x) (find test xs) each.0 is (found_holds P test xs item each.1)

-- ---- verdicts
pub no_state : (x : Rules) (tables : TableSet) (ranges : Ranges) (question : Question)
    (cert : Cert) (memory : ℕ → PidMemory) (s : State) → HoldsTables tables x.rules
    → IsVerdict x tables ranges question (verdict.Holds cert)
    → IsInRanges x question ranges memory s
    → has_event x tables memory s question ≡ true → ⊥
no_state x tables ranges question cert memory s held proof inside event =
    by_result (checked_cert x tables ranges question cert) refl proof.accepted
  where
    by_result : (r : Result ℕ NodeFault) → checked_cert x tables ranges question cert ≡ r
        → is_end r ≡ true → ⊥
    by_result (Ok n) is h =
        certificates-no_state x tables memory s question ranges cert n held is inside event
    by_result (Err fault) is h = absurd (true≢false (sym h))

pub refuted_event : (x : Rules) (tables : TableSet) (ranges : Ranges) (question : Question)
    (s : State) → IsVerdict x tables ranges question (verdict.Refuted s)
    → has_event x tables sample_memory s question ≡ true
unfolding first_event
refuted_event x tables ranges question s is =
    found_passes (λ one. has_event x tables sample_memory one question)
    (samples x question ranges) s is.first

pub refuted_in_ranges : (x : Rules) (tables : TableSet) (ranges : Ranges) (question : Question)
    (s : State) → WellFormed x → HasClosedRanges ranges
    → IsVerdict x tables ranges question (verdict.Refuted s)
    → IsInRanges x question ranges sample_memory s
unfolding first_event
refuted_in_ranges x tables ranges question s formed closed is =
    let limit = grids-tracked x tables question s (refuted_event x tables ranges question s is) in
    found_holds (IsInRanges x question ranges sample_memory)
    (λ one. has_event x tables sample_memory one question) (samples x question ranges) s
    (recursion_from_All (IsInRanges x question ranges sample_memory) (samples x question ranges)
    (grids-states x question ranges formed limit closed)) is.first
