-- The tokens of some texts, and what some names find, worked out by hand.
use Rattle.std.specs.Prelude.{◌≡◌, ℕ, Bool, true, false, List, [], ◌∷◌, None, Some, codes}
use Rattle.expr_parser.specs.declared.name_index.DeclaredName.{DeclaredName}
use Rattle.expr_parser.specs.declared.token.TokenKind.{TokenKind}
use Rattle.expr_parser.specs.declared.token.TokenKind.TheVariants.{Name, Number, Plus, Minus, Star}
use Rattle.expr_parser.specs.declared.token.TokenKind.TheVariants.{Slash, Caret, Open, Close, Stray}
use Rattle.expr_parser.specs.declared.token.Token.{Token}
use Rattle.expr_parser.specs.Names.{place_of, variable_of}
use Rattle.expr_parser.specs.Tokens.{tokens}

-- a token from its first byte to before its end
abbrev pub token : TokenKind → ℕ → ℕ → Token
token kind start end = record { kind = kind; span = record { start = start; end = end } }

-- numbers in their longest reading
pub record AreNumbers : Type 0 where
  pub power_without_digits : tokens (codes "2e") ≡ token Number 0 1 ∷ token Name 1 2 ∷ []
  pub power_with_name : tokens (codes "2e+a")
      ≡ token Number 0 1 ∷ token Name 1 2 ∷ token Plus 2 3 ∷ token Name 3 4 ∷ []
  pub power_of_four_digits : tokens (codes "1e1234") ≡ token Number 0 5 ∷ token Number 5 6 ∷ []
  pub signed_power : tokens (codes "1.5E-03x") ≡ token Number 0 7 ∷ token Name 7 8 ∷ []
  pub two_points : tokens (codes "1..2") ≡ token Number 0 2 ∷ token Number 2 4 ∷ []
  pub point_before : tokens (codes ".5e1.") ≡ token Number 0 4 ∷ token Stray 4 5 ∷ []
  pub point_and_power : tokens (codes "5.e1") ≡ token Number 0 4 ∷ []
  pub digit_with_point : tokens (codes "a^2.")
      ≡ token Name 0 1 ∷ token Caret 1 2 ∷ token Number 2 4 ∷ []
  pub sign_before : tokens (codes "-1") ≡ token Minus 0 1 ∷ token Number 1 2 ∷ []
  pub point_alone : tokens (codes ".e1") ≡ token Stray 0 1 ∷ []

-- names, signs, spaces, and bytes that begin no token
pub record AreTokens : Type 0 where
  pub names : tokens (codes "_a1 B2_") ≡ token Name 0 3 ∷ token Name 4 7 ∷ []
  pub name_behind_number : tokens (codes "2x3") ≡ token Number 0 1 ∷ token Name 1 3 ∷ []
  pub signs : tokens (codes "(+ -)*/^")
      ≡ token Open 0 1 ∷ token Plus 1 2 ∷ token Minus 3 4 ∷ token Close 4 5 ∷ token Star 5 6
      ∷ token Slash 6 7 ∷ token Caret 7 8 ∷ []
  pub spaces : tokens (codes "  ") ≡ []
  pub stray : tokens (codes "a $ b") ≡ token Name 0 1 ∷ token Stray 2 3 ∷ []
  pub tab : tokens (97 ∷ 9 ∷ 98 ∷ []) ≡ token Name 0 1 ∷ token Stray 1 2 ∷ []
  pub letter_past_ascii : tokens (195 ∷ 164 ∷ []) ≡ token Stray 0 1 ∷ []

-- a name that is declared as a variable or not
abbrev pub declared : List ℕ → Bool → DeclaredName
declared name is_variable = record { name = name; is_variable = is_variable }

-- variables `a`, `abs` and `e`, and the expression `q`
abbrev pub names : List DeclaredName
names =
    declared (codes "a") true ∷ declared (codes "q") false ∷ declared (codes "abs") true
    ∷ declared (codes "e") true ∷ []

-- names are found whatever their case, and of variables those of variables alone
pub record AreFound : Type 0 where
  pub expression : place_of names (codes "Q") ≡ Some 1
  pub last : place_of names (codes "E") ≡ Some 3
  pub none : place_of names (codes "ab") ≡ None
  pub variable : variable_of names (codes "ABS") ≡ Some 2
  pub no_variable : variable_of names (codes "q") ≡ None
  pub no_name : variable_of names (codes "b") ≡ None
