-- Questions are read back from their lines.
use Rattle.std.proofs.Common.{◌≡◌, ℕ, ◌+◌, ◌^◌, ◌<◌, cond, ◌&&◌, List, ◌∷◌, ◌++◌, codes, Some, None, refl, ap, ◌∙◌, append_assoc}
use Rattle.exact_fraction.specs.Number.{Rational}
use Rattle.num_text.specs.Values.{written_value}
use Rattle.range_lines.specs.Entries.{is_among}
use Rattle.rule_types.specs.declared.object.ObjectNo.{ObjectNo}
use Rattle.rule_types.specs.declared.object.Space.TheVariants.{Links}
use Rattle.verdict_meaning.specs.declared.question.Question.{Question}
use Rattle.verdict_meaning.specs.declared.question.Question.TheVariants.{Conflict, Dead, Limit}
use Rattle.report_lines.specs.QuestionLines.{Known, link_named, link_by, question_by, conflict_of, dead_of, limit_of}
use Rattle.report_lines.specs.Words.{words_of, value_of, rule_place}
use Rattle.report_text.specs.Readable.{IsFoundLink, IsQuestionOf, IsConflictOf, IsLimitOf}
use Rattle.report_text.specs.WrittenLines.{written_rule, written_link, written_question}
use Rattle.report_text.proofs.NumbersBack.{same_text, number_held, value_back, rule_back}
use Rattle.report_text.proofs.KeysBack.{name_word}
use Rattle.report_text.proofs.SpacedWords.{word_alone, three, of_number, of_fraction}

abbrev link_object : ℕ → ObjectNo
link_object link = record { space = Links; index = link }

pub link_back : (known : Known) (link : ℕ) → IsFoundLink known link
    → link_named known (written_link known.objects link) ≡ Some link
unfolding link_named
link_back known link h =
    ap (link_by known (written_link known.objects link)) h.found
    ∙ ap (λ b. cond (b && is_among link known.links) (Some link) None) (same_text (written_link known.objects link))
    ∙ ap (λ b. cond b (Some link) None) h.acted

-- ---- the words of each form
conflict_front : (rest : List ℕ) → words_of (codes "question conflict " ++ rest) ≡ codes "question" ∷ codes "conflict" ∷ words_of rest
unfolding words_of
conflict_front rest = refl

dead_front : (rest : List ℕ) → words_of (codes "question dead " ++ rest) ≡ codes "question" ∷ codes "dead" ∷ words_of rest
unfolding words_of
dead_front rest = refl

limit_front : (rest : List ℕ) → words_of (codes "question limit " ++ rest) ≡ codes "question" ∷ codes "limit" ∷ words_of rest
unfolding words_of
limit_front rest = refl

joined : (head first second third : List ℕ)
    → ((((head ++ first) ++ codes " ") ++ second) ++ codes " ") ++ third
    ≡ head ++ ((((first ++ codes " ") ++ second) ++ codes " ") ++ third)
joined head first second third =
    ap (λ t. (((t ++ second) ++ codes " ") ++ third)) (append_assoc head first (codes " "))
    ∙ ap (λ t. ((t ++ codes " ") ++ third)) (append_assoc head (first ++ codes " ") second)
    ∙ ap (λ t. t ++ third) (append_assoc head ((first ++ codes " ") ++ second) (codes " "))
    ∙ append_assoc head (((first ++ codes " ") ++ second) ++ codes " ") third

three_known : (known : Known) → known.rules < 2 ^ 64 → (first second link : ℕ) → IsConflictOf known first second link
    → conflict_of (rule_place known.rules (written_rule first)) (rule_place known.rules (written_rule second))
    (link_named known (written_link known.objects link))
    ≡ Some (Conflict first second link)
three_known known few first second link h =
    ap (λ o. conflict_of o (rule_place known.rules (written_rule second)) (link_named known (written_link known.objects link)))
    (rule_back known.rules first few h.first_rule)
    ∙ ap (λ o. conflict_of (Some first) o (link_named known (written_link known.objects link)))
    (rule_back known.rules second few h.second_rule)
    ∙ ap (λ o. conflict_of (Some first) (Some second) o) (link_back known link h.found)
    ∙ ap (λ b. cond b None (Some (Conflict first second link))) h.apart

limit_known : (known : Known) (link : ℕ) (low high : Rational) → IsLimitOf known link low high
    → limit_of (link_named known (written_link known.objects link)) (value_of (written_value low)) (value_of (written_value high))
    ≡ Some (Limit link low high)
limit_known known link low high h =
    ap (λ o. limit_of o (value_of (written_value low)) (value_of (written_value high))) (link_back known link h.found)
    ∙ ap (λ o. limit_of (Some link) o (value_of (written_value high))) (value_back low (number_held low h.low_number))
    ∙ ap (λ o. limit_of (Some link) (Some low) o) (value_back high (number_held high h.high_number))
    ∙ ap (λ b. cond b None (Some (Limit link low high))) h.rising

pub question_back : (known : Known) (question : Question) → known.rules < 2 ^ 64 → IsQuestionOf known question
    → question_by known (words_of (written_question known.objects question)) ≡ Some question
unfolding written_question question_by
question_back known (Conflict first second link) few h =
    ap (λ t. question_by known (words_of t))
    (joined (codes "question conflict ") (written_rule first) (written_rule second) (written_link known.objects link))
    ∙ ap (question_by known)
    (conflict_front ((((written_rule first ++ codes " ") ++ written_rule second) ++ codes " ") ++ written_link known.objects link))
    ∙ ap (λ l. question_by known (codes "question" ∷ codes "conflict" ∷ l))
    (three (written_rule first) (written_rule second) (written_link known.objects link)
    (of_number (first + 1)) (of_number (second + 1))
    (name_word (written_link known.objects link) h.found.word))
    ∙ three_known known few first second link h
question_back known (Dead rule) few h =
    ap (question_by known) (dead_front (written_rule rule))
    ∙ ap (λ l. question_by known (codes "question" ∷ codes "dead" ∷ l)) (word_alone (written_rule rule) (of_number (rule + 1)))
    ∙ ap dead_of (rule_back known.rules rule few h)
question_back known (Limit link low high) few h =
    ap (λ t. question_by known (words_of t))
    (joined (codes "question limit ") (written_link known.objects link) (written_value low) (written_value high))
    ∙ ap (question_by known)
    (limit_front ((((written_link known.objects link ++ codes " ") ++ written_value low) ++ codes " ") ++ written_value high))
    ∙ ap (λ l. question_by known (codes "question" ∷ codes "limit" ∷ l))
    (three (written_link known.objects link) (written_value low) (written_value high)
    (name_word (written_link known.objects link) h.found.word) (of_fraction low)
    (of_fraction high))
    ∙ limit_known known link low high h
