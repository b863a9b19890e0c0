-- Just the words of each table are read, each as itself.
use Rattle.std.proofs.Common.{◌≡◌, ◌↔◌, ℕ, Some, List, refl}
use Rattle.std.specs.Prelude.{IsTrue}
use Rattle.std.specs.List.{find}
use Rattle.std.specs.Str.{bytes_eq, str_to_ascii_lowercase}
use Rattle.rule_types.specs.declared.object.ObjectWord.{ObjectWord}
use Rattle.rule_types.specs.declared.object.ObjectWord.TheVariants as objects
use Rattle.rule_types.specs.declared.key.ClockAttr.{ClockAttr}
use Rattle.rule_types.specs.declared.key.ClockAttr.TheVariants as clocks
use Rattle.exact_fraction.specs.declared.relation.Relation.{Relation}
use Rattle.exact_fraction.specs.declared.relation.Relation.TheVariants as relations
use Rattle.key_words.specs.declared.status.StatusWord.{StatusWord}
use Rattle.key_words.specs.declared.status.StatusWord.TheVariants as statuss
use Rattle.key_words.specs.Words.{is_word, object_text, object_words, object_word, clock_text, clock_attributes, clock_attribute, relation_text, relations, relation_of, status_text, status_words, status_word}
use Rattle.key_words.proofs.Tables.{table_exact, word_itself}

-- ---- object
own_object : (word : ObjectWord) → find (λ v. bytes_eq (str_to_ascii_lowercase (object_text word)) (str_to_ascii_lowercase (object_text v))) object_words ≡ Some word
own_object objects.Gage = refl
own_object objects.Node = refl
own_object objects.Link = refl
own_object objects.Conduit = refl
own_object objects.Pump = refl
own_object objects.Orifice = refl
own_object objects.Weir = refl
own_object objects.Outlet = refl

pub object_exact : (item : List ℕ) (word : ObjectWord) → (object_word item ≡ Some word) ↔ IsTrue (is_word item (object_text word))
unfolding object_word
object_exact item word = table_exact ObjectWord object_text object_words word (own_object word) item

pub object_back : (word : ObjectWord) → object_word (object_text word) ≡ Some word
object_back word = (object_exact (object_text word) word).1 (word_itself (object_text word))

-- ---- clock
own_clock : (word : ClockAttr) → find (λ v. bytes_eq (str_to_ascii_lowercase (clock_text word)) (str_to_ascii_lowercase (clock_text v))) clock_attributes ≡ Some word
own_clock clocks.Time = refl
own_clock clocks.Date = refl
own_clock clocks.Month = refl
own_clock clocks.Day = refl
own_clock clocks.ClockTime = refl
own_clock clocks.DayOfYear = refl

pub clock_exact : (item : List ℕ) (word : ClockAttr) → (clock_attribute item ≡ Some word) ↔ IsTrue (is_word item (clock_text word))
unfolding clock_attribute
clock_exact item word = table_exact ClockAttr clock_text clock_attributes word (own_clock word) item

pub clock_back : (word : ClockAttr) → clock_attribute (clock_text word) ≡ Some word
clock_back word = (clock_exact (clock_text word) word).1 (word_itself (clock_text word))

-- ---- relation
own_relation : (word : Relation) → find (λ v. bytes_eq (str_to_ascii_lowercase (relation_text word)) (str_to_ascii_lowercase (relation_text v))) relations ≡ Some word
own_relation relations.Eq = refl
own_relation relations.Ne = refl
own_relation relations.Lt = refl
own_relation relations.Le = refl
own_relation relations.Gt = refl
own_relation relations.Ge = refl

pub relation_exact : (item : List ℕ) (word : Relation) → (relation_of item ≡ Some word) ↔ IsTrue (is_word item (relation_text word))
unfolding relation_of
relation_exact item word = table_exact Relation relation_text relations word (own_relation word) item

pub relation_back : (word : Relation) → relation_of (relation_text word) ≡ Some word
relation_back word = (relation_exact (relation_text word) word).1 (word_itself (relation_text word))

-- ---- status
own_status : (word : StatusWord) → find (λ v. bytes_eq (str_to_ascii_lowercase (status_text word)) (str_to_ascii_lowercase (status_text v))) status_words ≡ Some word
own_status statuss.On = refl
own_status statuss.Open = refl
own_status statuss.Off = refl
own_status statuss.Closed = refl

pub status_exact : (item : List ℕ) (word : StatusWord) → (status_word item ≡ Some word) ↔ IsTrue (is_word item (status_text word))
unfolding status_word
status_exact item word = table_exact StatusWord status_text status_words word (own_status word) item

pub status_back : (word : StatusWord) → status_word (status_text word) ≡ Some word
status_back word = (status_exact (status_text word) word).1 (word_itself (status_text word))
