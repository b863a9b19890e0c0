-- One pass over facts.
use Rattle.std.proofs.Common.{◌≡◌, ℕ, Bool, true, false, not, ◌&&◌, List, [], ◌∷◌, ◌++◌, refl, sym}
use Rattle.std.proofs.Common.{ap, ap₂, ◌∙◌, subst}
use Rattle.std.specs.Prelude.{if◌then◌else◌, ⊤}
use Rattle.std.proofs.lemmas.List.{append-nil, append_assoc}
use Rattle.lean_facts.specs.Lean.{Acceptance, kept_with, lean_of, none_spare}

abbrev pub Facts : Type 0
Facts = List (ℕ × Bool)

-- facts that are accepted are accepted with one more
abbrev pub Grows : Acceptance → Type 0
Grows accepts =
    (xs ys : Facts) (fact : ℕ × Bool) → accepts (xs ++ ys) ≡ true → accepts (xs ++ fact ∷ ys) ≡ true

-- which facts a judge may be asked about, and that these stay so without one of them
abbrev pub Fitting : Type 1
Fitting = Facts → Type 0

abbrev pub Shrinks : Fitting → Type 0
Shrinks fits = (xs ys : Facts) (fact : ℕ × Bool) → fits (xs ++ fact ∷ ys) → fits (xs ++ ys)

-- no fact that is kept can be left out, where those before stay and the rest is still there
abbrev pub AreNeeded : Acceptance → Facts → Facts → Facts → Type 0
AreNeeded accepts before [] rest = ⊤
AreNeeded accepts before (fact ∷ kept) rest =
    (accepts (before ++ (kept ++ rest)) ≡ false)
    × AreNeeded accepts (before ++ (fact ∷ [])) kept rest

-- ---- one of the rest is left out
fewer_by : (b : Bool) → (b ≡ true → true ≡ false) → b ≡ false
fewer_by true h = h refl
fewer_by false h = refl

fewer : (accepts : Acceptance) → Grows accepts → (xs ys : Facts) (fact : ℕ × Bool)
    → accepts (xs ++ fact ∷ ys) ≡ false → accepts (xs ++ ys) ≡ false
fewer accepts grows xs ys fact e =
    fewer_by (accepts (xs ++ ys)) (λ h. sym (grows xs ys fact h) ∙ e)

pub needed_out : (accepts : Acceptance) → Grows accepts → (before kept rest : Facts)
    (fact : ℕ × Bool) → AreNeeded accepts before kept (fact ∷ rest)
    → AreNeeded accepts before kept rest
needed_out accepts grows before [] rest fact h = tt
needed_out accepts grows before (first ∷ kept) rest fact h =
    let e : accepts ((before ++ kept) ++ fact ∷ rest) ≡ false =
    ap accepts (append_assoc before kept (fact ∷ rest)) ∙ h.0 in (
      ap accepts (sym (append_assoc before kept rest))
          ∙ fewer accepts grows (before ++ kept) rest fact e,
      needed_out accepts grows (before ++ (first ∷ [])) kept rest fact h.1,
    )

-- ---- one of the rest is kept
pub needed_in : (accepts : Acceptance) → (before kept rest : Facts) (fact : ℕ × Bool)
    → accepts (before ++ (kept ++ rest)) ≡ false
    → AreNeeded accepts before kept (fact ∷ rest)
    → AreNeeded accepts before (kept ++ (fact ∷ [])) rest
needed_in accepts before [] rest fact e h = (e, tt)
needed_in accepts before (first ∷ kept) rest fact e h = (
  ap (λ list. accepts (before ++ list)) (append_assoc kept (fact ∷ []) rest) ∙ h.0,
  needed_in accepts (before ++ (first ∷ [])) kept rest fact
      (ap accepts (append_assoc before (first ∷ []) (kept ++ rest)) ∙ e) h.1,
)

-- ---- at the end
pub none_left : (accepts : Acceptance) → (before kept : Facts)
    → AreNeeded accepts before kept [] → none_spare accepts before kept ≡ true
unfolding none_spare
none_left accepts before [] h = refl
none_left accepts before (fact ∷ kept) h =
    let e : accepts (before ++ kept) ≡ false =
    ap (λ list. accepts (before ++ list)) (sym (append-nil kept)) ∙ h.0 in
    ap₂ (λ x y. not x && y) e (none_left accepts (before ++ (fact ∷ [])) kept h.1)

-- ---- turns of the loop
pub record IsKept (accepts : Acceptance) (fits : Fitting) (facts kept rest : Facts) : Type 0 where
  pub same : lean_of accepts kept rest ≡ lean_of accepts [] facts
  pub accepted : accepts (kept ++ rest) ≡ true
  pub fitting : fits (kept ++ rest)
  pub needed : AreNeeded accepts [] kept rest

pub kept_first : (accepts : Acceptance) (fits : Fitting) (facts : Facts) → accepts facts ≡ true
    → fits facts → IsKept accepts fits facts [] facts
kept_first accepts fits facts h f = record { same = refl; accepted = h; fitting = f; needed = tt }

turn_by : (accepts : Acceptance) (fits : Fitting) → Grows accepts → Shrinks fits
    → (facts kept rest : Facts) (fact : ℕ × Bool) → IsKept accepts fits facts kept (fact ∷ rest)
    → (b : Bool) → accepts (kept ++ rest) ≡ b
    → lean_of accepts (if b then kept else kept ++ (fact ∷ [])) rest ≡ lean_of accepts [] facts
    → IsKept accepts fits facts (if b then kept else kept ++ (fact ∷ [])) rest
turn_by accepts fits grows shrinks facts kept rest fact h true e same = record {
  same = same;
  accepted = e;
  fitting = shrinks kept rest fact h.fitting;
  needed = needed_out accepts grows [] kept rest fact h.needed;
}
turn_by accepts fits grows shrinks facts kept rest fact h false e same = record {
  same = same;
  accepted = ap accepts (append_assoc kept (fact ∷ []) rest) ∙ h.accepted;
  fitting = subst fits (sym (append_assoc kept (fact ∷ []) rest)) h.fitting;
  needed = needed_in accepts [] kept rest fact e h.needed;
}

pub kept_turn : (accepts : Acceptance) (fits : Fitting) → Grows accepts → Shrinks fits
    → (facts kept rest : Facts) (fact : ℕ × Bool) → IsKept accepts fits facts kept (fact ∷ rest)
    → IsKept accepts fits facts (kept_with accepts kept fact rest) rest
unfolding lean_of
kept_turn accepts fits grows shrinks facts kept rest fact h =
    turn_by accepts fits grows shrinks facts kept rest fact h (accepts (kept ++ rest)) refl h.same

pub kept_if : (accepts : Acceptance) (kept rest : Facts) (fact : ℕ × Bool) (b : Bool)
    → b ≡ accepts (kept ++ rest)
    → (if b then kept else kept ++ (fact ∷ [])) ≡ kept_with accepts kept fact rest
kept_if accepts kept rest fact b e = ap (λ b. if b then kept else kept ++ (fact ∷ [])) e

pub record IsLeft (accepts : Acceptance) (fits : Fitting) (facts kept : Facts) : Type 0 where
  pub same : kept ≡ lean_of accepts [] facts
  pub accepted : accepts kept ≡ true
  pub fitting : fits kept
  pub spare : none_spare accepts [] kept ≡ true

pub kept_end : (accepts : Acceptance) (fits : Fitting) (facts kept : Facts)
    → IsKept accepts fits facts kept [] → IsLeft accepts fits facts kept
unfolding lean_of
kept_end accepts fits facts kept h = record {
  same = h.same;
  accepted = ap accepts (sym (append-nil kept)) ∙ h.accepted;
  fitting = subst fits (append-nil kept) h.fitting;
  spare = none_left accepts [] kept h.needed;
}
