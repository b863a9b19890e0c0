-- The line of a fault of the ranges is the text of the fault, with its end.
use Rattle.std.proofs.Common.{◌≡◌, ◌<◌, ℕ, List, [], ◌∷◌, ◌++◌, length}
use Rattle.std.proofs.Common.{Option, None, Some, refl, ◌∙◌, ap, arith, length-append}
use Rattle.std.specs.Prelude.{codes}
use Rattle.command_outputs.specs.Messages.{fault_line, line_of, token_part}
use Rattle.command_outputs.specs.Messages.{place_text as place_said}
use Rattle.command_outputs.specs.declared.place.Place.{Place}
use Rattle.key_words.specs.KeyTexts.{key_text, name_text, space_word}
use Rattle.key_words.specs.Words.{attribute_text, object_text}
use Rattle.object_index.specs.Objects.{Objects}
use Rattle.range_lines.specs.Causes.{FileFault, cause_name, cause_number, cause_text, fault_text}
use Rattle.range_lines.specs.Causes.{named_text, place_text}
use Rattle.range_lines.specs.declared.fault.RangeCause.{RangeCause}
use Rattle.range_lines.specs.declared.fault.RangeCause.TheVariants.{BadLine, UnknownKey}
use Rattle.range_lines.specs.declared.fault.RangeCause.TheVariants.{EmptyRange, MissingRange}
use Rattle.range_lines.specs.declared.fault.RangeCause.TheVariants.{MissingMoment, Duplicate}
use Rattle.rule_types.specs.declared.key.Key.{Key}
use Rattle.rule_types.specs.declared.key.Key.TheVariants.{Object, Clock}
use Rattle.verdict_commands.specs.Faults.{HasPlace, fault_place, key_token, range_said}

-- ---- the place
abbrev place_front : Option ℕ → RangeCause → List ℕ
place_front line cause = codes "error: " ++ place_said (fault_place line cause) ++ codes ": "

-- a fault of a line, and one of the ranges as a whole
same_place : (line : Option ℕ) (cause : RangeCause)
    → HasPlace (record { line = line; cause = cause; key = None })
    → place_front line cause ≡ codes "error: ranges" ++ place_text line
same_place None BadLine placed = cc
same_place None UnknownKey placed = cc
same_place None EmptyRange placed = cc
same_place None MissingRange placed = refl
same_place None MissingMoment placed = refl
same_place None Duplicate placed = cc
same_place (Some line) BadLine placed = refl
same_place (Some line) UnknownKey placed = refl
same_place (Some line) EmptyRange placed = refl
same_place (Some line) MissingRange placed = cc
same_place (Some line) MissingMoment placed = cc
same_place (Some line) Duplicate placed = refl

-- ---- the token
some_token : (token : List ℕ) → 0 < length token → token_part token ≡ codes ": " ++ token
some_token [] some = absurd (omega (arith, some))
some_token (byte ∷ bytes) some = refl

spaced : (word name attribute : List ℕ)
    → 0 < length ((((word ++ codes " ") ++ name) ++ codes " ") ++ attribute)
spaced word name attribute =
    let one : length (codes " ") ≡ 1 = refl in
    omega (
      arith,
      one,
      length-append (((word ++ codes " ") ++ name) ++ codes " ") attribute,
      length-append ((word ++ codes " ") ++ name) (codes " "),
      length-append (word ++ codes " ") name,
      length-append word (codes " "),
    )

key_length : (objects : Objects) (key : Key) → 0 < length (key_text objects key)
key_length objects (Object object attribute) =
    spaced (object_text (space_word object.space)) (name_text objects object)
    (attribute_text attribute)
key_length objects (Clock attribute) = omega arith

same_token : (objects : Objects) (key : Option Key)
    → token_part (key_token objects key) ≡ named_text objects key
same_token objects None = refl
same_token objects (Some key) = some_token (key_text objects key) (key_length objects key)

-- ---- the line
pub same_line : (objects : Objects) (fault : FileFault) → HasPlace fault
    → range_said objects fault ≡ line_of (fault_text objects fault)
same_line objects fault placed =
    ap (λ front.
    line_of ((front ++ cause_text fault.cause) ++ token_part (key_token objects fault.key)))
    (same_place fault.line fault.cause placed)
    ∙ ap (λ token.
    line_of (((codes "error: ranges" ++ place_text fault.line) ++ cause_text fault.cause) ++ token))
    (same_token objects fault.key)

-- the line that was made of these parts
pub said_line : (objects : Objects) (line : Option ℕ) (cause : RangeCause) (key : Option Key)
    (p : Place) (name : List ℕ) (number : ℕ) (token : List ℕ)
    → p ≡ fault_place line cause → name ≡ cause_name cause → number ≡ cause_number cause
    → token ≡ key_token objects key
    → fault_line p name number token
    ≡ range_said objects (record { line = line; cause = cause; key = key })
said_line objects line cause key p name number token at named numbered tokened =
    ap (λ x. fault_line x name number token) at
    ∙ ap (λ x. fault_line (fault_place line cause) x number token) named
    ∙ ap (λ x. fault_line (fault_place line cause) (cause_name cause) x token) numbered
    ∙ ap (λ x. fault_line (fault_place line cause) (cause_name cause) (cause_number cause) x)
    tokened
