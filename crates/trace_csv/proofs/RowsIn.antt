-- The row of a record, from its parts.
use Rattle.std.proofs.Common.{◌≡◌, ℕ, suc, ◌+◌, Bool, true, false, not, cond, ◌==◌, List, ◌∷◌, length, Option, Some, None, Result, Ok, Err, refl, ap, sym, ◌∙◌, subst, arith, replicate, All, ℤ, IfOk, IfSome}
use Rattle.std.proofs.lemmas.Bool.Decides.{nat_tests}
use Rattle.exact_fraction.specs.Number.{Rational}
use Rattle.rule_types.specs.declared.row.Row.{Row}
use Rattle.trace_csv.specs.Causes.{Answers}
use Rattle.trace_csv.specs.Columns.{Columns, has_duplicate, when_read}
use Rattle.trace_csv.specs.Fields.{first_field, further_fields}
use Rattle.trace_csv.specs.Records.{is_plain_line, cut_at_commas}
use Rattle.trace_csv.specs.Rows.{has_bad, inputs_of, moment_in, row_at, row_in, some_row, row_of}
use Rattle.trace_csv.specs.internal.Filling.{Within, filled, where_good, row_with, answer_with, end_of}
use Rattle.trace_csv.specs.declared.fault.TraceCause.{TraceCause}
use Rattle.trace_csv.specs.declared.fault.TraceEnd.{TraceEnd}
use Rattle.trace_csv.specs.declared.fault.TraceCause.TheVariants.{FieldCount, BadNumber}
use Rattle.trace_csv.proofs.Filled.{filled_row}
use Rattle.trace_csv.proofs.Plain.{plain_line_cut}

-- the row of inputs that were filled in, if none was bad
abbrev made : Bool → ℤ → List (Option Rational) → Result Row TraceCause
made good moment inputs = cond good (Ok (record { moment = moment; inputs = inputs })) (Err BadNumber)

by_good : (good bad : Bool) (moment : ℤ) (inputs right : List (Option Rational)) → where_good good inputs ≡ cond bad None (Some right)
    → made good moment inputs ≡ cond bad (Err BadNumber) (Ok (record { moment = moment; inputs = right }))
by_good true true moment inputs right is = cc
by_good true false moment inputs right is =
    let same : inputs ≡ right = cc in ap (λ list. Ok (record { moment = moment; inputs = list })) same
by_good false true moment inputs right is = refl
by_good false false moment inputs right is = cc

counted_right : (header : Columns) (last start : Option ℤ) (first : List ℕ) (rest : List (List ℕ)) → length rest ≡ length header.columns
    → row_in header last start (first ∷ rest) ≡ row_at header rest (moment_in last start first)
unfolding row_in
counted_right header last start first rest count =
    let right : (suc (length rest) == 1 + length header.columns) ≡ true = grind (arith, nat_tests) in
    ap (λ test. cond (not test) (Err FieldCount) (row_at header rest (moment_in last start first))) right

pub row_made : (header : Columns) (last start : Option ℤ) (fields : List (List ℕ)) (first : List ℕ) (rest : List (List ℕ)) (moment : ℤ) (good : Bool) (inputs : List (Option Rational))
    → fields ≡ first ∷ rest → length fields ≡ 1 + length header.columns → Ok moment ≡ moment_in last start first
    → All (Within header.inputs) header.columns → has_duplicate header.columns ≡ false
    → where_good good inputs ≡ filled header.columns rest (replicate header.inputs None)
    → made good moment inputs ≡ row_in header last start fields
row_made header last start fields first rest moment good inputs cut count read within single fill =
    let long : suc (length rest) ≡ 1 + length header.columns = sym (ap length cut) ∙ count in
    by_good good (has_bad header.columns rest) moment inputs (inputs_of header rest)
    (fill ∙ filled_row header rest header.inputs refl within single)
    ∙ ap (row_at header rest) read
    ∙ sym (counted_right header last start first rest (omega arith))
    ∙ ap (row_in header last start) (sym cut)

-- a record whose moment has a fault
pub row_untimed : (header : Columns) (last start : Option ℤ) (fields : List (List ℕ)) (first : List ℕ) (rest : List (List ℕ)) (cause : TraceCause)
    → fields ≡ first ∷ rest → length fields ≡ 1 + length header.columns → Err cause ≡ moment_in last start first
    → Err cause ≡ row_in header last start fields
row_untimed header last start fields first rest cause cut count read =
    let long : suc (length rest) ≡ 1 + length header.columns = sym (ap length cut) ∙ count in
    ap (row_at header rest) read
    ∙ sym (counted_right header last start first rest (omega arith))
    ∙ ap (row_in header last start) (sym cut)

-- a record of another number of fields
pub row_miscounted : (header : Columns) (last start : Option ℤ) (fields : List (List ℕ)) → (length fields ≡ 1 + length header.columns → ⊥)
    → Err FieldCount ≡ row_in header last start fields
unfolding row_in
row_miscounted header last start fields other =
    let wrong : (length fields == 1 + length header.columns) ≡ false = grind (arith, nat_tests) in
    sym (ap (λ test. cond (not test) (Err FieldCount) (row_at header (further_fields fields) (moment_in last start (first_field fields)))) wrong)

-- the answer for a line that is cut at its commas
pub plain_answer : (header : Columns) (last start : Option ℤ) (line : List ℕ) (row : Result ℤ TraceCause) (inputs : List (Option Rational))
    → is_plain_line line ≡ true → row_with inputs row ≡ row_in header last start (cut_at_commas line)
    → Answers (answer_with inputs (end_of row)) (row_of header last start line)
unfolding row_of
plain_answer header last start line (Ok moment) inputs plain is =
    ap (some_row header last start) (plain_line_cut line plain) ∙ ap when_read (sym is)
plain_answer header last start line (Err cause) inputs plain is =
    ap (some_row header last start) (plain_line_cut line plain) ∙ ap when_read (sym is)

-- the same under a header that is given by its parts
pub plain_answer_by : (header : Columns) (columns items : List (Option ℕ)) (count inputs : ℕ) (last start : Option ℤ) (line : List ℕ) (row : Result ℤ TraceCause) (new : List (Option Rational))
    → record { columns = items; inputs = inputs } ≡ header → columns ≡ items → count ≡ header.inputs
    → is_plain_line line ≡ true
    → row_with new row ≡ row_in (record { columns = columns; inputs = count }) last start (cut_at_commas line)
    → Answers (answer_with new (end_of row)) (row_of header last start line)
plain_answer_by header columns items count inputs last start line row new view same long plain is =
    plain_answer header last start line row new plain
    (is ∙ ap (λ h. row_in h last start (cut_at_commas line)) (whole_header header columns items count inputs view same long))
  where
    whole_header : (header : Columns) (columns items : List (Option ℕ)) (count inputs : ℕ) → record { columns = items; inputs = inputs } ≡ header → columns ≡ items → count ≡ header.inputs
        → record { columns = columns; inputs = count } ≡ header
    whole_header header columns items count inputs view same long = λ i. record {
      columns = (same ∙ ap (λ (h : Columns). h.columns) view) i;
      inputs = long i;
    }

-- the moment of the answer is that of the row
by_row : (row : Result ℤ TraceCause) (new : ℤ) → IfOk row (λ moment. new ≡ moment) → IfOk (end_of row) (λ found. IfSome found (λ moment. new ≡ moment))
by_row (Ok moment) new is = is
by_row (Err cause) new is = tt

pub written_end : (row : Result ℤ TraceCause) (end : Result (Option ℤ) TraceEnd) (new : ℤ) → end ≡ end_of row → IfOk row (λ moment. new ≡ moment)
    → IfOk end (λ found. IfSome found (λ moment. new ≡ moment))
written_end row end new same is = subst (λ (e : Result (Option ℤ) TraceEnd). IfOk e (λ found. IfSome found (λ moment. new ≡ moment))) (sym same) (by_row row new is)

-- the row of a moment and of the fields behind it
pub row_filled : (header : Columns) (rest : List (List ℕ)) (moment : ℤ) (good : Bool) (inputs : List (Option Rational))
    → All (Within header.inputs) header.columns → has_duplicate header.columns ≡ false
    → where_good good inputs ≡ filled header.columns rest (replicate header.inputs None)
    → made good moment inputs ≡ row_at header rest (Ok moment)
row_filled header rest moment good inputs within single fill =
    by_good good (has_bad header.columns rest) moment inputs (inputs_of header rest)
    (fill ∙ filled_row header rest header.inputs refl within single)

-- a row by its moment and the fields behind it
pub row_by : (header : Columns) (last start : Option ℤ) (fields : List (List ℕ)) (first : List ℕ) (rest : List (List ℕ)) (read : Result ℤ TraceCause) (row : Result Row TraceCause)
    → fields ≡ first ∷ rest → length fields ≡ 1 + length header.columns → read ≡ moment_in last start first
    → row ≡ row_at header rest read → row ≡ row_in header last start fields
row_by header last start fields first rest read row cut count is made_of =
    let long : suc (length rest) ≡ 1 + length header.columns = sym (ap length cut) ∙ count in
    made_of ∙ ap (row_at header rest) is
    ∙ sym (counted_right header last start first rest (omega arith))
    ∙ ap (row_in header last start) (sym cut)

-- the row of a moment that was checked and of fields of which none is bad
pub row_complete : (header : Columns) (rest : List (List ℕ)) (read : Result ℤ TraceCause) (inputs : List (Option Rational))
    → All (Within header.inputs) header.columns → has_duplicate header.columns ≡ false
    → Some inputs ≡ filled header.columns rest (replicate header.inputs None)
    → row_with inputs read ≡ row_at header rest read
row_complete header rest (Err cause) inputs within single fill = refl
row_complete header rest (Ok moment) inputs within single fill = row_filled header rest moment true inputs within single fill
