use Rattle.std.proofs.Common.{ℕ, List, ◌++◌, codes, refl, sym, ap}
use Rattle.num_text.specs.Counts.{count_of}
use Rattle.num_text.specs.Fields.{leading_digits, past_digits}
use Rattle.num_text.proofs.PublicLaws.{counts-written}
use Rattle.key_words.specs.Words.{hours_end}
use Rattle.key_words.proofs.laws.key_examples.Goals as goal

pub returns-clause-gage : goal.returns-clause-gage
unfolding count_of leading_digits past_digits
returns-clause-gage c =
    ap (λ (number : List ℕ). codes "GAGE R1 " ++ number ++ hours_end) (sym (counts-written (codes "12") 12 refl))
