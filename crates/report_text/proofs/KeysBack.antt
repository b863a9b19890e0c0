-- What stands behind a key at the head of a line, and the key that a line names.
use Rattle.std.proofs.Common.{◌≡◌, ℕ, ◌==◌, Bool, true, false, not, cond, List, [], ◌∷◌, ◌++◌, codes, Some, None, refl, ap, ◌∙◌, arith, append_assoc}
use Rattle.std.specs.Prelude.{Ok}
use Rattle.std.specs.Fmt.{decimal}
use Rattle.std.proofs.lemmas.Bool.{and_parts, not-true}
use Rattle.std.proofs.lemmas.Bool.Decides.{nat_tests}
use Rattle.std.proofs.lemmas.List.Elements.{All-nil, All-cons, All-append}
use Rattle.exact_fraction.specs.Number.{Rational}
use Rattle.interval_sets.specs.declared.interval.Interval.{Interval}
use Rattle.key_words.specs.KeyTexts.{key_text, name_text, space_word}
use Rattle.key_words.specs.Words.{object_text, attribute_text, attribute_of, in_row, has_word, hours_end}
use Rattle.key_words.proofs.PublicLaws.{objects-back, attributes-back}
use Rattle.num_text.specs.Values.{written_value}
use Rattle.object_index.specs.Objects.{Objects, word_space}
use Rattle.rule_types.specs.Keys.{has_attribute}
use Rattle.rule_types.specs.declared.key.Attr.{Attr}
use Rattle.rule_types.specs.declared.key.Attr.TheVariants.{Intensity, HourDepth, Depth, MaxDepth, FullDepth, Head, Volume, Inflow, Flow, FullFlow, Velocity, Length, Slope, Setting, Status, TimeOpen, TimeClosed}
use Rattle.rule_types.specs.declared.key.Key.{Key}
use Rattle.rule_types.specs.declared.key.Key.TheVariants.{Object, Clock}
use Rattle.rule_types.specs.declared.object.ObjectNo.{ObjectNo}
use Rattle.rule_types.specs.declared.object.Space.{Space}
use Rattle.rule_types.specs.declared.object.Space.TheVariants.{Nodes, Links, Gages}
use Rattle.report_lines.specs.KeyLines.{past_text, past_key, key_named, key_by, key_with}
use Rattle.report_lines.specs.StateLines.{value_text, piece_text}
use Rattle.report_lines.specs.TreeLines.{split_text}
use Rattle.report_lines.specs.Words.{Word, words_of}
use Rattle.report_text.specs.Readable.{is_one_word, IsFoundKey}
use Rattle.report_text.specs.WrittenLines.{written_key_value, written_key_piece, written_piece, written_split}
use Rattle.report_text.proofs.SpacedWords.{IsOneWord, word_first, of_number}

-- ---- behind a text at the head of a line
same_byte : (byte : ℕ) → (byte == byte) ≡ true
same_byte byte = grind (arith, nat_tests)

past_front : (front rest : List ℕ) → past_text front (front ++ rest) ≡ Some rest
unfolding past_text
past_front [] rest = refl
past_front (byte ∷ front) rest =
    ap (λ b. cond b (past_text front (front ++ rest)) None) (same_byte byte) ∙ past_front front rest

pub past_value : (objects : Objects) (key : Key) (q : Rational)
    → past_key value_text objects key (written_key_value objects key q) ≡ Some (written_value q)
unfolding past_key written_key_value
past_value objects key q = past_front (codes "value " ++ key_text objects key ++ codes " ") (written_value q)

pub past_piece : (objects : Objects) (entry : Key × Interval)
    → past_key piece_text objects entry.0 (written_key_piece objects entry) ≡ Some (written_piece entry.1)
unfolding past_key written_key_piece
past_piece objects entry =
    past_front (codes "piece " ++ key_text objects entry.0 ++ codes " ") (written_piece entry.1)

pub past_split : (objects : Objects) (key : Key) (q : Rational)
    → past_key split_text objects key (written_split objects key q) ≡ Some (written_value q)
unfolding past_key written_split
past_split objects key q = past_front (codes "split " ++ key_text objects key ++ codes " ") (written_value q)

-- ---- words
pub name_word : (name : List ℕ) → is_one_word name ≡ true → IsOneWord name
name_word [] e = All-nil (λ byte. (byte == 32) ≡ false)
name_word (byte ∷ name) e =
    let parts = and_parts (not (byte == 32)) (is_one_word name) e in
    All-cons (λ b. (b == 32) ≡ false) byte name (not-true (byte == 32) parts.0) (name_word name parts.1)

abbrev spaceless : List ℕ → Bool
spaceless = is_one_word

object_spaceless : (space : Space) → spaceless (object_text (space_word space)) ≡ true
object_spaceless Nodes = refl
object_spaceless Links = refl
object_spaceless Gages = refl

both : (one other : List ℕ) → IsOneWord one → IsOneWord other → IsOneWord (one ++ other)
both one other h k = All-append (λ byte. (byte == 32) ≡ false) one other h k

attribute_spaceless : (a : Attr) → IsOneWord (attribute_text a)
attribute_spaceless Intensity = name_word (codes "INTENSITY") refl
attribute_spaceless (HourDepth hours) =
    both (decimal hours) hours_end (of_number hours) (name_word hours_end refl)
attribute_spaceless Depth = name_word (codes "DEPTH") refl
attribute_spaceless MaxDepth = name_word (codes "MAXDEPTH") refl
attribute_spaceless FullDepth = name_word (codes "FULLDEPTH") refl
attribute_spaceless Head = name_word (codes "HEAD") refl
attribute_spaceless Volume = name_word (codes "VOLUME") refl
attribute_spaceless Inflow = name_word (codes "INFLOW") refl
attribute_spaceless Flow = name_word (codes "FLOW") refl
attribute_spaceless FullFlow = name_word (codes "FULLFLOW") refl
attribute_spaceless Velocity = name_word (codes "VELOCITY") refl
attribute_spaceless Length = name_word (codes "LENGTH") refl
attribute_spaceless Slope = name_word (codes "SLOPE") refl
attribute_spaceless Setting = name_word (codes "SETTING") refl
attribute_spaceless Status = name_word (codes "STATUS") refl
attribute_spaceless TimeOpen = name_word (codes "TIMEOPEN") refl
attribute_spaceless TimeClosed = name_word (codes "TIMECLOSED") refl

-- ---- the words of a split at a key
apart : (word name attribute value : List ℕ)
    → (((((word ++ codes " ") ++ name) ++ codes " ") ++ attribute) ++ codes " ") ++ value
    ≡ word ++ (32 ∷ (name ++ (32 ∷ (attribute ++ (32 ∷ value)))))
apart word name attribute value =
    append_assoc ((((word ++ codes " ") ++ name) ++ codes " ") ++ attribute) (codes " ") value
    ∙ append_assoc (((word ++ codes " ") ++ name) ++ codes " ") attribute (32 ∷ value)
    ∙ append_assoc ((word ++ codes " ") ++ name) (codes " ") (attribute ++ (32 ∷ value))
    ∙ append_assoc (word ++ codes " ") name (32 ∷ (attribute ++ (32 ∷ value)))
    ∙ append_assoc word (codes " ") (name ++ (32 ∷ (attribute ++ (32 ∷ value))))

split_front : (rest : List ℕ) → words_of (codes "split " ++ rest) ≡ codes "split" ∷ words_of rest
unfolding words_of
split_front rest = refl

split_apart : (key value : List ℕ) → (codes "split " ++ key ++ codes " ") ++ value ≡ codes "split " ++ ((key ++ codes " ") ++ value)
split_apart key value =
    ap (λ t. t ++ value) (append_assoc (codes "split ") key (codes " "))
    ∙ append_assoc (codes "split ") (key ++ codes " ") value

pub record IsSplitWords (objects : Objects) (key : Key) (q : Rational) : Type 0 where
  pub second : Word
  pub third : Word
  pub fourth : Word
  pub words : words_of (written_split objects key q) ≡ codes "split" ∷ second ∷ third ∷ fourth ∷ words_of (written_value q)
  pub named : (more : List Word) → key_named objects (codes "split" ∷ second ∷ third ∷ fourth ∷ more) ≡ Some key

same_space : (space : Space) → word_space (space_word space) ≡ space
same_space Nodes = refl
same_space Links = refl
same_space Gages = refl

in_its_row : (space : Space) (a : Attr) → has_word a ≡ true → has_attribute space a ≡ true
    → attribute_of (space_word space) (attribute_text a) ≡ Some a
in_its_row space a word row =
    ap (in_row (space_word space)) (attributes-back a word)
    ∙ ap (λ s. cond (has_attribute s a) (Some a) None) (same_space space)
    ∙ ap (λ b. cond b (Some a) None) row

found_key : (objects : Objects) (object : ObjectNo) (a : Attr) → IsFoundKey objects (Object object a) → (more : List Word)
    → key_named objects
    (codes "split" ∷ object_text (space_word object.space) ∷ name_text objects object ∷ attribute_text a ∷ more)
    ≡ Some (Object object a)
unfolding key_named
found_key objects object a h more =
    ap (λ word. key_by objects word (name_text objects object) (attribute_text a)) (objects-back (space_word object.space))
    ∙ ap (λ found. key_with found (attribute_of (space_word object.space) (attribute_text a))) h.found
    ∙ ap (λ found. key_with (Ok object) found) (in_its_row object.space a h.attribute_word h.row)

pub split_words : (objects : Objects) (key : Key) (q : Rational) → IsFoundKey objects key → IsSplitWords objects key q
unfolding written_split
split_words objects (Object object a) q h =
    let word = object_text (space_word object.space) in
    let name = name_text objects object in
    let attribute = attribute_text a in
    record {
      second = word;
      third = name;
      fourth = attribute;
      words =
          ap words_of (split_apart (key_text objects (Object object a)) (written_value q))
          ∙ split_front ((key_text objects (Object object a) ++ codes " ") ++ written_value q)
          ∙ ap (λ t. codes "split" ∷ words_of t) (apart word name attribute (written_value q))
          ∙ ap (λ l. codes "split" ∷ l)
          (word_first word (name ++ (32 ∷ (attribute ++ (32 ∷ written_value q)))) (name_word word (object_spaceless object.space)))
          ∙ ap (λ l. codes "split" ∷ word ∷ l)
          (word_first name (attribute ++ (32 ∷ written_value q)) (name_word name h.word))
          ∙ ap (λ l. codes "split" ∷ word ∷ name ∷ l)
          (word_first attribute (written_value q) (attribute_spaceless a));
      named = found_key objects object a h;
    }
split_words objects (Clock a) q h = absurd h
