-- Just the words of attributes are read, each as its attribute.
use Rattle.std.proofs.Common.{◌≡◌, ◌↔◌, ℕ, true, false, Option, None, Some, List, ◌++◌, drop, refl, sym, ap, ◌∙◌}
use Rattle.std.specs.Prelude.{IsTrue}
use Rattle.std.specs.Char.{to_ascii_lowercase}
use Rattle.std.specs.Fmt.{decimal}
use Rattle.std.specs.List.{find}
use Rattle.std.specs.Option.{option_or}
use Rattle.std.specs.Str.{bytes_eq, str_to_ascii_lowercase}
use Rattle.std.proofs.lemmas.Bool.{false≢true, true≢false}
use Rattle.std.proofs.lemmas.List.{drop-map}
use Rattle.std.proofs.lemmas.Slice.Eq.{bytes_eq-Decides}
use Rattle.rule_types.specs.declared.key.Attr.{Attr}
use Rattle.rule_types.specs.declared.key.Attr.TheVariants.{Intensity, HourDepth, Depth, MaxDepth, FullDepth, Head, Volume, Inflow, Flow, FullFlow, Velocity, Length, Slope, Setting, Status, TimeOpen, TimeClosed}
use Rattle.key_words.specs.Words.{is_word, hours_end, attribute_text, plain_attributes, plain_attribute, are_hours, before_end, hour_depth, attribute_named, has_word}
use Rattle.key_words.proofs.Tables.{found, found_all, table_exact, word_same, word_itself}
use Rattle.key_words.proofs.Hours.{parts_of, hour_read, hour_back, hour_none, is_plain}

own_word : (a : Attr) → is_plain a ≡ true → find (λ v. bytes_eq (str_to_ascii_lowercase (attribute_text a)) (str_to_ascii_lowercase (attribute_text v))) plain_attributes ≡ Some a
own_word (HourDepth hours) h = absurd (false≢true h)
own_word Intensity h = refl
own_word Depth h = refl
own_word MaxDepth h = refl
own_word FullDepth h = refl
own_word Head h = refl
own_word Volume h = refl
own_word Inflow h = refl
own_word Flow h = refl
own_word FullFlow h = refl
own_word Velocity h = refl
own_word Length h = refl
own_word Slope h = refl
own_word Setting h = refl
own_word Status h = refl
own_word TimeOpen h = refl
own_word TimeClosed h = refl

-- no other word has the end of n-HR_DEPTH
own_end : (a : Attr) → is_plain a ≡ true → bytes_eq (drop (before_end (attribute_text a)) (str_to_ascii_lowercase (attribute_text a))) (str_to_ascii_lowercase hours_end) ≡ false
own_end (HourDepth hours) h = absurd (false≢true h)
own_end Intensity h = refl
own_end Depth h = refl
own_end MaxDepth h = refl
own_end FullDepth h = refl
own_end Head h = refl
own_end Volume h = refl
own_end Inflow h = refl
own_end Flow h = refl
own_end FullFlow h = refl
own_end Velocity h = refl
own_end Length h = refl
own_end Slope h = refl
own_end Setting h = refl
own_end Status h = refl
own_end TimeOpen h = refl
own_end TimeClosed h = refl

plain_read : (item : List ℕ) (a : Attr) → plain_attribute item ≡ Some a → IsTrue (is_word item (attribute_text a)) × (is_plain a ≡ true)
unfolding plain_attribute
plain_read item a e = (
  found Attr (λ v. is_word item (attribute_text v)) plain_attributes a e,
  found_all Attr (λ v. is_word item (attribute_text v)) is_plain plain_attributes a refl e,
)

plain_back : (item : List ℕ) (a : Attr) → is_plain a ≡ true → IsTrue (is_word item (attribute_text a)) → plain_attribute item ≡ Some a
unfolding plain_attribute
plain_back item a plain h = (table_exact Attr attribute_text plain_attributes a (own_word a plain) item).1 h

-- an item that is n-HR_DEPTH is no other word
apart : (item : List ℕ) (a : Attr) (hours : ℕ) → plain_attribute item ≡ Some a → IsTrue (is_word item (decimal hours ++ hours_end)) → ⊥
apart item a hours e h =
    let read = plain_read item a e in
    let same : str_to_ascii_lowercase (attribute_text a) ≡ str_to_ascii_lowercase (decimal hours ++ hours_end) = sym (word_same item (attribute_text a) read.0) ∙ word_same item (decimal hours ++ hours_end) h in
    let parts = parts_of (attribute_text a) (decimal hours) same in
    let ends = (bytes_eq-Decides (drop (before_end (attribute_text a)) (str_to_ascii_lowercase (attribute_text a))) (str_to_ascii_lowercase hours_end)).1
    (drop-map to_ascii_lowercase (before_end (attribute_text a)) (attribute_text a) ∙ parts.ended) in
    false≢true (sym (own_end a read.1) ∙ ends)

-- ---- n-HR_DEPTH
hours_exact : (item : List ℕ) (hours : ℕ) → (attribute_named item ≡ Some (HourDepth hours)) ↔ (IsTrue (is_word item (decimal hours ++ hours_end)) × IsTrue (are_hours hours))
unfolding attribute_named
hours_exact item hours = (λ e. read (plain_attribute item) refl e, λ (h, fit). back (plain_attribute item) refl h fit)
  where
    read : (plain : Option Attr) → plain_attribute item ≡ plain → option_or plain (hour_depth item) ≡ Some (HourDepth hours) → IsTrue (is_word item (decimal hours ++ hours_end)) × IsTrue (are_hours hours)
    read None is e = hour_read item hours e
    read (Some a) is e =
        let same : a ≡ HourDepth hours = cc in
        absurd (true≢false (sym (plain_read item a is).1 ∙ ap is_plain same))

    back : (plain : Option Attr) → plain_attribute item ≡ plain → IsTrue (is_word item (decimal hours ++ hours_end)) → IsTrue (are_hours hours) → option_or plain (hour_depth item) ≡ Some (HourDepth hours)
    back None is h fit = hour_back item hours h fit
    back (Some a) is h fit = absurd (apart item a hours is h)

-- ---- the other words
plain_exact : (item : List ℕ) (a : Attr) → is_plain a ≡ true → (attribute_named item ≡ Some a) ↔ IsTrue (is_word item (attribute_text a))
unfolding attribute_named
plain_exact item a plain = (λ e. read (plain_attribute item) refl e, λ h. ap (λ o. option_or o (hour_depth item)) (plain_back item a plain h))
  where
    read : (o : Option Attr) → plain_attribute item ≡ o → option_or o (hour_depth item) ≡ Some a → IsTrue (is_word item (attribute_text a))
    read None is e = absurd (false≢true (sym (hour_none item a e) ∙ plain))
    read (Some b) is e =
        let same : b ≡ a = cc in
        ap (λ v. is_word item (attribute_text v)) (sym same) ∙ (plain_read item b is).0

with_true : {P Q : Type 0} → P ↔ Q → P ↔ (Q × IsTrue true)
with_true e = (λ p. (e.0 p, refl), λ (q, t). e.1 q)

pub attribute_exact : (item : List ℕ) (a : Attr) → (attribute_named item ≡ Some a) ↔ (IsTrue (is_word item (attribute_text a)) × IsTrue (has_word a))
attribute_exact item (HourDepth hours) = hours_exact item hours
attribute_exact item Intensity = with_true (plain_exact item Intensity refl)
attribute_exact item Depth = with_true (plain_exact item Depth refl)
attribute_exact item MaxDepth = with_true (plain_exact item MaxDepth refl)
attribute_exact item FullDepth = with_true (plain_exact item FullDepth refl)
attribute_exact item Head = with_true (plain_exact item Head refl)
attribute_exact item Volume = with_true (plain_exact item Volume refl)
attribute_exact item Inflow = with_true (plain_exact item Inflow refl)
attribute_exact item Flow = with_true (plain_exact item Flow refl)
attribute_exact item FullFlow = with_true (plain_exact item FullFlow refl)
attribute_exact item Velocity = with_true (plain_exact item Velocity refl)
attribute_exact item Length = with_true (plain_exact item Length refl)
attribute_exact item Slope = with_true (plain_exact item Slope refl)
attribute_exact item Setting = with_true (plain_exact item Setting refl)
attribute_exact item Status = with_true (plain_exact item Status refl)
attribute_exact item TimeOpen = with_true (plain_exact item TimeOpen refl)
attribute_exact item TimeClosed = with_true (plain_exact item TimeClosed refl)

pub attribute_back : (a : Attr) → IsTrue (has_word a) → attribute_named (attribute_text a) ≡ Some a
attribute_back a h = (attribute_exact (attribute_text a) a).1 (word_itself (attribute_text a), h)
