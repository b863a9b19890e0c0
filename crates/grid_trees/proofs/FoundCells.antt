-- What is found among the samples of cells, by what is found among the cells.
use Rattle.std.proofs.Common.{◌≡◌, ℕ, Bool, true, false, cond, Option, Some, None, List, [], ◌∷◌}
use Rattle.std.proofs.Common.{map, refl, sym, ap, ◌∙◌, subst}
use Rattle.std.specs.Prelude.{filter_map}
use Rattle.std.specs.List.{cons_option, find}
use Rattle.std.proofs.lemmas.Bool.{true≢false}
use Rattle.std.proofs.lemmas.Option.{none-some, same_Some}
use Rattle.rule_types.specs.declared.rules.Rules.{Rules}
use Rattle.rule_types.specs.declared.state.State.{State}
use Rattle.rule_types.specs.Tables.{TableSet}
use Rattle.verdict_meaning.specs.declared.cell.Cell.{Cell}
use Rattle.verdict_meaning.specs.declared.question.Question.{Question}
use Rattle.verdict_meaning.specs.Events.{has_event}
use Rattle.verdict_meaning.specs.Grids.{sample_memory, sample_of}
use Rattle.grid_trees.specs.GridJudgements.{sample_event}

-- ---- lists
pub found_passes : {A : Type 0} (test : A → Bool) (items : List A) (item : A)
    → find test items ≡ Some item → test item ≡ true
found_passes test [] item e = absurd (none-some item e)
found_passes test (first ∷ more) item e =
    found_by test first item (test first) refl (find test more) e (found_passes test more item)
  where
    found_by : {A : Type 0} (test : A → Bool) (first item : A) (b : Bool) → test first ≡ b
        → (later : Option A) → cond b (Some first) later ≡ Some item
        → (later ≡ Some item → test item ≡ true) → test item ≡ true
    found_by test first item true is later e ih =
        subst (λ one. test one ≡ true) (same_Some first item e) is
    found_by test first item false is later e ih = ih e

pub found_mapped : {A B : Type 0} (test : B → Bool) (f : A → B) (items : List A) (item : A)
    → find (λ one. test (f one)) items ≡ Some item → find test (map f items) ≡ Some (f item)
found_mapped test f [] item e = absurd (none-some item e)
found_mapped test f (first ∷ more) item e =
    mapped_by f first item (test (f first)) (find (λ one. test (f one)) more)
    (find test (map f more)) e (found_mapped test f more item)
  where
    mapped_by : {A B : Type 0} (f : A → B) (first item : A) (b : Bool) (later : Option A)
        (mapped : Option B) → cond b (Some first) later ≡ Some item
        → (later ≡ Some item → mapped ≡ Some (f item))
        → cond b (Some (f first)) mapped ≡ Some (f item)
    mapped_by f first item true later mapped e ih =
        ap (λ one. Some (f one)) (same_Some first item e)
    mapped_by f first item false later mapped e ih = ih e

-- ---- samples
-- whether a state has the event
abbrev pub state_event : Rules → TableSet → Question → State → Bool
state_event x tables question s = has_event x tables sample_memory s question

none_at : (b : Bool) (cell : List ℕ) (s : State) (later : Option (List ℕ)) (states : Option State)
    → cond b (Some cell) later ≡ None → (later ≡ None → states ≡ None)
    → cond b (Some s) states ≡ None
none_at true cell s later states e ih = absurd (none-some cell (sym e))
none_at false cell s later states e ih = ih e

none_by : (x : Rules) (tables : TableSet) (question : Question) (cell : List ℕ)
    (o : Option State) (later : Option (List ℕ)) (states : List State)
    → cond (sample_event x tables question o) (Some cell) later ≡ None
    → (later ≡ None → find (state_event x tables question) states ≡ None)
    → find (state_event x tables question) (cons_option o states) ≡ None
none_by x tables question cell None later states e ih = ih e
none_by x tables question cell (Some s) later states e ih =
    none_at (state_event x tables question s) cell s later
    (find (state_event x tables question) states) e ih

-- where no cell has the event, no sample has it
pub none_found : (x : Rules) (tables : TableSet) (question : Question) (cell_is : List ℕ → Cell)
    (cells : List (List ℕ))
    → find (λ cell. sample_event x tables question (sample_of x (cell_is cell))) cells ≡ None
    → find (state_event x tables question) (filter_map (sample_of x) (map cell_is cells)) ≡ None
none_found x tables question cell_is [] e = refl
none_found x tables question cell_is (cell ∷ more) e =
    none_by x tables question cell (sample_of x (cell_is cell))
    (find (λ one. sample_event x tables question (sample_of x (cell_is one))) more)
    (filter_map (sample_of x) (map cell_is more)) e
    (none_found x tables question cell_is more)

first_at : (x : Rules) (cell_is : List ℕ → Cell) (cell found : List ℕ) (t s : State) (b : Bool)
    (later : Option (List ℕ)) (states : Option State) → sample_of x (cell_is cell) ≡ Some t
    → sample_of x (cell_is found) ≡ Some s → cond b (Some cell) later ≡ Some found
    → (later ≡ Some found → states ≡ Some s) → cond b (Some t) states ≡ Some s
first_at x cell_is cell found t s true later states here is e ih =
    sym here ∙ ap (λ one. sample_of x (cell_is one)) (same_Some cell found e) ∙ is
first_at x cell_is cell found t s false later states here is e ih = ih e

first_by : (x : Rules) (tables : TableSet) (question : Question) (cell_is : List ℕ → Cell)
    (cell found : List ℕ) (s : State) (o : Option State) → sample_of x (cell_is cell) ≡ o
    → (later : Option (List ℕ)) (states : List State) → sample_of x (cell_is found) ≡ Some s
    → cond (sample_event x tables question o) (Some cell) later ≡ Some found
    → (later ≡ Some found → find (state_event x tables question) states ≡ Some s)
    → find (state_event x tables question) (cons_option o states) ≡ Some s
first_by x tables question cell_is cell found s None here later states is e ih = ih e
first_by x tables question cell_is cell found s (Some t) here later states is e ih =
    first_at x cell_is cell found t s (state_event x tables question t) later
    (find (state_event x tables question) states) here is e ih

-- the sample of the first cell with the event is the first sample with it
pub first_found : (x : Rules) (tables : TableSet) (question : Question) (cell_is : List ℕ → Cell)
    (cells : List (List ℕ)) (found : List ℕ) (s : State) → sample_of x (cell_is found) ≡ Some s
    → find (λ cell. sample_event x tables question (sample_of x (cell_is cell))) cells
    ≡ Some found
    → find (state_event x tables question) (filter_map (sample_of x) (map cell_is cells))
    ≡ Some s
first_found x tables question cell_is [] found s is e = absurd (none-some found e)
first_found x tables question cell_is (cell ∷ more) found s is e =
    first_by x tables question cell_is cell found s (sample_of x (cell_is cell)) refl
    (find (λ one. sample_event x tables question (sample_of x (cell_is one))) more)
    (filter_map (sample_of x) (map cell_is more)) is e
    (first_found x tables question cell_is more found s is)

-- a cell with the event has a sample
pub sample_there : (x : Rules) (tables : TableSet) (question : Question) (o : Option State)
    → o ≡ None → sample_event x tables question o ≡ true → ⊥
sample_there x tables question o none e =
    true≢false (sym (sym (ap (sample_event x tables question) none) ∙ e))
