-- What a search over a table of words finds.
use Rattle.std.proofs.Common.{◌≡◌, ◌↔◌, ℕ, Bool, true, false, Some, List, [], ◌∷◌, ◌++◌, take, drop, refl, sym, ap, ap₂, ◌∙◌, cond}
use Rattle.std.specs.Prelude.{IsTrue}
use Rattle.std.specs.Char.{to_ascii_lowercase}
use Rattle.std.specs.List.{find, list_all}
use Rattle.std.specs.Str.{bytes_eq, str_to_ascii_lowercase}
use Rattle.std.proofs.lemmas.Bool.{and_parts}
use Rattle.std.proofs.lemmas.List.{map-append, take-append-drop}
use Rattle.std.proofs.lemmas.Slice.Eq.{bytes_eq-Decides}
use Rattle.key_words.specs.Words.{is_word}

-- what is found passes the test
pub found : (X : Type 0) (test : X → Bool) (xs : List X) (x : X) → find test xs ≡ Some x → test x ≡ true
found X test [] x e = cc
found X test (y ∷ ys) x e = by_test (test y) refl e (found X test ys x)
  where
    by_test : (t : Bool) → test y ≡ t → cond t (Some y) (find test ys) ≡ Some x → (find test ys ≡ Some x → test x ≡ true) → test x ≡ true
    by_test true h e rest =
        let same : y ≡ x = cc in
        ap test (sym same) ∙ h
    by_test false h e rest = rest e

-- what is found passes each test that all pass
pub found_all : (X : Type 0) (test each : X → Bool) (xs : List X) (x : X) → list_all each xs ≡ true → find test xs ≡ Some x → each x ≡ true
found_all X test each [] x all e = cc
found_all X test each (y ∷ ys) x all e =
    let parts = and_parts (each y) (list_all each ys) all in
    by_test (test y) e parts.0 (found_all X test each ys x parts.1)
  where
    by_test : (t : Bool) → cond t (Some y) (find test ys) ≡ Some x → each y ≡ true → (find test ys ≡ Some x → each x ≡ true) → each x ≡ true
    by_test true e h rest =
        let same : y ≡ x = cc in
        ap each (sym same) ∙ h
    by_test false e h rest = rest e

pub word_same : (item word : List ℕ) → IsTrue (is_word item word) → str_to_ascii_lowercase item ≡ str_to_ascii_lowercase word
word_same item word h = (bytes_eq-Decides (str_to_ascii_lowercase item) (str_to_ascii_lowercase word)).0 h

pub same_word : (item word : List ℕ) → str_to_ascii_lowercase item ≡ str_to_ascii_lowercase word → IsTrue (is_word item word)
same_word item word e = (bytes_eq-Decides (str_to_ascii_lowercase item) (str_to_ascii_lowercase word)).1 e

pub word_itself : (word : List ℕ) → IsTrue (is_word word word)
word_itself word = same_word word word refl

-- a word that its own text finds is found by just the items that are its text
pub table_exact : (X : Type 0) (text : X → List ℕ) (words : List X) (word : X)
    → find (λ v. bytes_eq (str_to_ascii_lowercase (text word)) (str_to_ascii_lowercase (text v))) words ≡ Some word
    → (item : List ℕ) → (find (λ v. is_word item (text v)) words ≡ Some word) ↔ IsTrue (is_word item (text word))
table_exact X text words word own item = (
  λ e. found X (λ v. is_word item (text v)) words word e,
  λ h. ap (λ l. find (λ v. bytes_eq l (str_to_ascii_lowercase (text v))) words) (word_same item (text word) h) ∙ own,
)

-- an item whose parts are two texts is the texts in a row
pub parts_joined : (k : ℕ) (item front back : List ℕ) → str_to_ascii_lowercase (take k item) ≡ str_to_ascii_lowercase front → str_to_ascii_lowercase (drop k item) ≡ str_to_ascii_lowercase back
    → str_to_ascii_lowercase item ≡ str_to_ascii_lowercase (front ++ back)
parts_joined k item front back p q =
    ap str_to_ascii_lowercase (sym (take-append-drop k item))
    ∙ map-append to_ascii_lowercase (take k item) (drop k item)
    ∙ ap₂ (λ x y. x ++ y) p q
    ∙ sym (map-append to_ascii_lowercase front back)
