-- What contracts see of the values that functions of the crate hand on.
use Rattle.num_text.specs.declared.fields.Field.{Field as Held}
use Rattle.num_text.specs.Fields.{Field}
use Rattle.num_text.specs.declared.numbers.Spelling.{Spelling as HeldSpelling}
use Rattle.num_text.specs.Numbers.{Spelling}
use Rattle.num_text.specs.declared.dates.Dated.{Dated as HeldDay}
use Rattle.num_text.specs.Dates.{Dated}

-- a number and what stands behind it
abbrev pub field_now : Held → Field
field_now found = record { number = found.number; rest = found.rest.now }

-- a day and what stands behind it
abbrev pub dated_now : HeldDay → Dated
dated_now found = record { day = found.day; rest = found.rest.now }

-- a spelling of a number
abbrev pub spelling_now : HeldSpelling → Spelling
spelling_now s =
    record {
      negative = s.negative;
      whole = s.whole.now;
      behind = s.behind.now;
      exponent = s.exponent;
    }
