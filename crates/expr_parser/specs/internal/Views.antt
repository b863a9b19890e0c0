-- What contracts see of the values that functions of the crate pass on.
use Rattle.std.specs.Prelude.{List, drop}
use Rattle.expr_parser.specs.declared.token.Token.{Token}
use Rattle.expr_parser.specs.declared.cursor.Cursor.TheInside.{Inside as CursorInside}
use Rattle.expr_parser.specs.declared.source.SourceText.TheInside.{Inside as SourceInside}
use Rattle.expr_parser.specs.Formulas.{Source}

-- the tokens from the next one on
abbrev pub tokens_ahead : CursorInside → List Token
tokens_ahead c = drop c.at c.all.now

-- a text and the names before it
abbrev pub source_of : SourceInside → Source
source_of s = record { text = s.text.now; names = s.names.now }
