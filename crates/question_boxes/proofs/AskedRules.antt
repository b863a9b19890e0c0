-- The question's rules, number by number.
use Rattle.std.proofs.Common.{◌≡◌, ℕ, zero, suc, ◌+◌, ◌<◌, Bool, true, false, cond, ◌&&◌, ◌||◌, Option, Some, None, List, [], ◌∷◌, ◌++◌, refl, sym, subst, ap, ◌∙◌, append_assoc, arith}
use Rattle.std.proofs.lemmas.List.{append-nil}
use Rattle.std.specs.Prelude.{if◌then◌else◌, filter, filter_map}
use Rattle.std.specs.List.{cons_option, list_any, range_with_len}
use Rattle.rule_types.specs.declared.key.Key.{Key}
use Rattle.rule_types.specs.declared.names.NameDef.{NameDef}
use Rattle.rule_types.specs.declared.rule.Rule.{Rule}
use Rattle.rule_types.specs.Reading.{keys_read, rule_actions}
use Rattle.verdict_meaning.specs.Questions.{is_series}
use Rattle.question_boxes.specs.internal.KeyLists.{rule_has_series, rule_reads}

-- numbers to one more
range_more : (a n : ℕ) → range_with_len a (suc n) ≡ range_with_len a n ++ (a + n) ∷ []
range_more a zero = ap (λ k. k ∷ []) (let e : a ≡ a + 0 = omega arith in e)
range_more a (suc n) =
    ap (λ list. a ∷ list) (range_more (a + 1) n)
    ∙ ap (λ k. a ∷ range_with_len (a + 1) n ++ k ∷ [])
    (let e : a + 1 + n ≡ a + suc n = omega arith in e)

one_more : (n : ℕ) → range_with_len 0 (n + 1) ≡ range_with_len 0 n ++ n ∷ []
one_more n =
    ap (range_with_len 0) (let e : n + 1 ≡ suc n = omega arith in e) ∙ range_more 0 n
    ∙ ap (λ k. range_with_len 0 n ++ k ∷ []) (let e : 0 + n ≡ n = omega arith in e)

-- what the rules of numbers read that pass a test
reads_of : List NameDef → (ℕ → Bool) → (ℕ → Option Rule) → List ℕ → List Key
reads_of names asks get numbers = keys_read names (filter_map get (filter asks numbers))

here_by : (names : List NameDef) (o : Option Rule) (more : List Rule)
    → keys_read names (cons_option o more) ≡ rule_reads names o ++ keys_read names more
here_by names None more = refl
here_by names (Some rule) more = refl

split_by : (names : List NameDef) (get : ℕ → Option Rule) (n : ℕ) (numbers : List ℕ) (b : Bool)
    → keys_read names (filter_map get (cond b (n ∷ numbers) numbers))
    ≡ cond b (rule_reads names (get n)) [] ++ keys_read names (filter_map get numbers)
split_by names get n numbers true = here_by names (get n) (filter_map get numbers)
split_by names get n numbers false = refl

reads_first : (names : List NameDef) (asks : ℕ → Bool) (get : ℕ → Option Rule) (n : ℕ)
    (numbers : List ℕ)
    → reads_of names asks get (n ∷ numbers)
    ≡ cond (asks n) (rule_reads names (get n)) [] ++ reads_of names asks get numbers
unfolding reads_of
reads_first names asks get n numbers = split_by names get n (filter asks numbers) (asks n)

reads_last : (names : List NameDef) (asks : ℕ → Bool) (get : ℕ → Option Rule)
    (numbers : List ℕ) (n : ℕ)
    → reads_of names asks get (numbers ++ n ∷ [])
    ≡ reads_of names asks get numbers ++ cond (asks n) (rule_reads names (get n)) []
unfolding reads_of
reads_last names asks get [] n =
    reads_first names asks get n [] ∙ last_alone (asks n) (rule_reads names (get n))
  where
    last_alone : (b : Bool) (keys : List Key)
        → cond b keys [] ++ [] ≡ [] ++ cond b keys []
    last_alone true keys = append-nil keys
    last_alone false keys = refl
reads_last names asks get (m ∷ numbers) n =
    reads_first names asks get m (numbers ++ n ∷ [])
    ∙ ap (λ list. cond (asks m) (rule_reads names (get m)) [] ++ list)
    (reads_last names asks get numbers n)
    ∙ sym
    (append_assoc (cond (asks m) (rule_reads names (get m)) []) (reads_of names asks get numbers)
    (cond (asks n) (rule_reads names (get n)) []))
    ∙ ap (λ list. list ++ cond (asks n) (rule_reads names (get n)) [])
    (sym (reads_first names asks get m numbers))

pub asked_more : (names : List NameDef) (asks : ℕ → Bool) (get : ℕ → Option Rule) (n : ℕ)
    → keys_read names (filter_map get (filter asks (range_with_len 0 (n + 1))))
    ≡ keys_read names (filter_map get (filter asks (range_with_len 0 n)))
    ++ (if asks n then rule_reads names (get n) else [])
unfolding reads_of
asked_more names asks get n =
    ap (reads_of names asks get) (one_more n) ∙ reads_last names asks get (range_with_len 0 n) n

-- ---- whether such a rule has a series
has_here : (o : Option Rule) (more : List Rule)
    → list_any (λ rule. list_any (λ action. is_series action.what) (rule_actions rule))
    (cons_option o more)
    ≡ (rule_has_series o
    || list_any (λ rule. list_any (λ action. is_series action.what) (rule_actions rule)) more)
has_here None more = refl
has_here (Some rule) more = refl

has_by : (get : ℕ → Option Rule) (n : ℕ) (numbers : List ℕ) (b : Bool)
    → list_any (λ rule. list_any (λ action. is_series action.what) (rule_actions rule))
    (filter_map get (cond b (n ∷ numbers) numbers))
    ≡ ((b && rule_has_series (get n))
    || list_any (λ rule. list_any (λ action. is_series action.what) (rule_actions rule))
    (filter_map get numbers))
has_by get n numbers true = has_here (get n) (filter_map get numbers)
has_by get n numbers false = refl

pub any_asked : (asks : ℕ → Bool) (get : ℕ → Option Rule) (numbers : List ℕ)
    → list_any (λ rule. list_any (λ action. is_series action.what) (rule_actions rule))
    (filter_map get (filter asks numbers))
    ≡ list_any (λ n. asks n && rule_has_series (get n)) numbers
any_asked asks get [] = refl
any_asked asks get (n ∷ numbers) =
    has_by get n (filter asks numbers) (asks n)
    ∙ ap (λ t. (asks n && rule_has_series (get n)) || t) (any_asked asks get numbers)

-- ---- tests of numbers
any_last : (p : ℕ → Bool) (numbers : List ℕ) (n : ℕ)
    → list_any p (numbers ++ n ∷ []) ≡ (list_any p numbers || p n)
any_last p [] n = or_none (p n)
  where
    or_none : (b : Bool) → (b || false) ≡ b
    or_none true = refl
    or_none false = refl
any_last p (m ∷ numbers) n =
    ap (λ t. p m || t) (any_last p numbers n) ∙ or_assoc (p m) (list_any p numbers) (p n)
  where
    or_assoc : (a b c : Bool) → (a || (b || c)) ≡ ((a || b) || c)
    or_assoc true b c = refl
    or_assoc false b c = refl

neither : (a b : Bool) → a ≡ false → b ≡ false → (a || b) ≡ false
neither true b e f = e
neither false b e f = f

pub none_so_far : (p : ℕ → Bool) (n : ℕ) → list_any p (range_with_len 0 n) ≡ false
    → p n ≡ false → list_any p (range_with_len 0 (n + 1)) ≡ false
none_so_far p n so_far here =
    ap (list_any p) (one_more n) ∙ any_last p (range_with_len 0 n) n
    ∙ neither (list_any p (range_with_len 0 n)) (p n) so_far here

passes_at : (p : ℕ → Bool) (a n k : ℕ) → k < n → p (a + k) ≡ true
    → list_any p (range_with_len a n) ≡ true
passes_at p a zero k within e = absurd (omega (arith, within))
passes_at p a (suc n) zero within e =
    ap (λ t. t || list_any p (range_with_len (a + 1) n))
    (ap p (let s : a ≡ a + 0 = omega arith in s) ∙ e)
passes_at p a (suc n) (suc k) within e =
    let later : k < n = omega (arith, within) in
    let same : a + 1 + k ≡ a + suc k = omega arith in
    or_all (p a) (list_any p (range_with_len (a + 1) n))
    (passes_at p (a + 1) n k later (subst (λ m. p m ≡ true) (sym same) e))
  where
    or_all : (b c : Bool) → c ≡ true → (b || c) ≡ true
    or_all true c f = refl
    or_all false c f = f

pub one_passes : (p : ℕ → Bool) (n k : ℕ) → k < n → p k ≡ true
    → list_any p (range_with_len 0 n) ≡ true
one_passes p n k within e =
    passes_at p 0 n k within
    (subst (λ m. p m ≡ true) (let s : k ≡ 0 + k = omega arith in s) e)
