-- The items and the control bytes of lines, worked out by hand.
use Rattle.std.specs.Prelude.{◌≡◌, ℕ, List, [], ◌∷◌, ◌++◌, None, Some, codes}
use Rattle.inp_text.specs.Bytes.{tab, delete}
use Rattle.inp_text.specs.Items.{items, item_places}
use Rattle.inp_text.specs.Control.{first_control}
use Rattle.inp_text.specs.declared.line.Span.{Span}

-- the place of an item
abbrev pub place : ℕ → ℕ → Span
place start end = record { start = start; end = end }

abbrev pub carriage_return : ℕ
carriage_return = 13

pub record AreItems : Type 0 where
  pub equal_items : item_places (codes "a a") ≡ place 0 1 ∷ place 2 3 ∷ []
  pub blanks_around : item_places (codes "  ab   c ") ≡ place 2 4 ∷ place 7 8 ∷ []
  pub tabs : items (tab ∷ codes "P1" ++ tab ∷ tab ∷ codes "N1") ≡ codes "P1" ∷ codes "N1" ∷ []
  pub only_blanks : item_places (codes " " ++ tab ∷ []) ≡ []
  pub no_bytes : items [] ≡ []
  pub comment_at_once : items (codes ";P1 N1") ≡ []
  pub comment_after_item : items (codes "P1;N1 N2") ≡ codes "P1" ∷ []
  pub comment_after_blank : items (codes "P1 ; N1") ≡ codes "P1" ∷ []
  pub second_semicolon : items (codes "P1;;N1") ≡ codes "P1" ∷ []
  pub comma_and_quotes : items (codes "a,b \"c d\"") ≡ codes "a,b" ∷ codes "\"c" ∷ codes "d\"" ∷ []
  pub carriage_return_is_content :
      items (codes "P1 N1" ++ carriage_return ∷ [])
      ≡ codes "P1" ∷ (codes "N1" ++ carriage_return ∷ []) ∷ []

pub record AreControlBytes : Type 0 where
  pub none : first_control (codes "P1 N1 ; ok") ≡ None
  pub tab_is_none : first_control (tab ∷ codes "P1") ≡ None
  pub after_tab : first_control (codes "a" ++ tab ∷ 1 ∷ []) ≡ Some 2
  pub at_once : first_control (0 ∷ []) ≡ Some 0
  pub the_first : first_control (codes "P1 " ++ 31 ∷ 30 ∷ []) ≡ Some 3
  pub at_delete : first_control (codes "P1" ++ delete ∷ []) ≡ Some 2
  pub past_delete : first_control (126 ∷ 128 ∷ 255 ∷ []) ≡ None
  pub at_carriage_return : first_control (codes "P1" ++ carriage_return ∷ []) ≡ Some 2
  pub in_comment : first_control (codes "a;" ++ 1 ∷ []) ≡ None
