-- A replay that has seen no row, list by list, and the settings of controlled links.
use Rattle.std.proofs.Common.{◌≡◌, ℕ, zero, suc, ◌+◌, ◌<◌, ◌≤◌, ◌==◌, nat_lt, not, Bool, true, false, cond, Option, Some, None, List, [], ◌∷◌, ◌++◌, length, map, get_or, take, drop, replicate, position, refl, sym, ap, subst, ◌∙◌, append_assoc, append-nil, arith}
use Rattle.std.proofs.lemmas.List.{drop_more, drop_all, take_all, take_more, length-append, replicate-append-replicate}
use Rattle.std.proofs.lemmas.Option.{none-some, same_Some, slice_get-map, slice_get-get_or, slice_get_within}
use Rattle.std.proofs.lemmas.Bool.Decides.{nat_tests}
use Rattle.std.specs.Prelude.{slice_get, option_map, Contains, All}
use Rattle.std.specs.List.{AllZip, flat_map, position_or_len}
use Rattle.exact_fraction.specs.Number.{Rational, zero as nothing}
use Rattle.rule_types.specs.declared.action.Action.{Action}
use Rattle.rule_types.specs.declared.action.PidMemory.{PidMemory}
use Rattle.rule_types.specs.declared.action.What.{What}
use Rattle.rule_types.specs.declared.action.What.TheVariants.{Constant, Curve, Series, Pid}
use Rattle.rule_types.specs.declared.rule.Rule.{Rule}
use Rattle.rule_types.specs.declared.rules.Rules.{Rules}
use Rattle.rule_types.specs.declared.state.LinkState.{LinkState}
use Rattle.rule_types.specs.Reading.{pid_of, pid_count, pid_numbers, rule_actions}
use Rattle.rule_types.specs.WellFormed.{WellFormed, InOrder}
use Rattle.rule_types.proofs.PublicLaws.{opened-lists}
use Rattle.rule_meaning.specs.History.{Standing, stayed, controlled_settings}
use Rattle.rule_meaning.specs.Pid.{fresh}
use Rattle.rule_meaning.specs.Replay.{first_standings, unswitched}
use Rattle.rule_meaning.proofs.PublicLaws.{standing-setting, standing-settings}
use Rattle.trace_replay.specs.Progress.{ArePlaces}
use Rattle.trace_replay.specs.internal.Moving.{setting_or_zero, settings_at}
use Rattle.trace_replay.specs.internal.Rows.{is_pid_kind, pids_among}

-- ---- links
stayed_push : (links : List LinkState) (link : LinkState) → stayed (links ++ link ∷ []) ≡ stayed links ++ record { setting = link.setting; target = link.target } ∷ []
stayed_push [] link = refl
stayed_push (first ∷ links) link = ap (λ rest. record { setting = first.setting; target = first.target } ∷ rest) (stayed_push links link)

pub stayed_long : (links : List LinkState) → length (stayed links) ≡ length links
stayed_long [] = refl
stayed_long (link ∷ links) = ap suc (stayed_long links)

pub link_step : (initial : List Rational) (links pushed : List LinkState) (k : ℕ) (item timer : Rational) (all : List Standing)
    → k < length initial → item ≡ get_or initial k item → pushed ≡ links ++ record { setting = item; target = item; timer = timer } ∷ []
    → stayed links ++ first_standings (drop k initial) ≡ all
    → stayed pushed ++ first_standings (drop (k + 1) initial) ≡ all
unfolding first_standings
link_step initial links pushed k item timer all within is added before =
    ap (λ list. stayed list ++ first_standings (drop (k + 1) initial)) added
    ∙ ap (λ list. list ++ first_standings (drop (k + 1) initial)) (stayed_push links (record { setting = item; target = item; timer = timer }))
    ∙ append_assoc (stayed links) (record { setting = item; target = item } ∷ []) (first_standings (drop (k + 1) initial))
    ∙ (λ i. stayed links ++ record { setting = is i; target = is i } ∷ first_standings (drop (k + 1) initial))
    ∙ ap (λ list. stayed links ++ first_standings list) (sym (drop_more initial k item within))
    ∙ before

pub link_end : (initial : List Rational) (links : List LinkState) (k : ℕ) (all : List Standing) → length initial ≤ k
    → stayed links ++ first_standings (drop k initial) ≡ all → stayed links ≡ all
unfolding first_standings
link_end initial links k all past before =
    sym (append-nil (stayed links)) ∙ ap (λ list. stayed links ++ first_standings list) (sym (drop_all k initial past)) ∙ before

-- ---- switches
pub unswitched_is : (links : List ℕ) → replicate (length links) None ≡ unswitched links
unfolding unswitched
unswitched_is [] = refl
unswitched_is (link ∷ links) = ap (λ list. None ∷ list) (unswitched_is links)

-- ---- memories
pub kind_count : (what : What) → length (pid_of what) ≡ cond (is_pid_kind what) 1 0
kind_count (Constant q) = refl
kind_count (Curve number) = refl
kind_count (Series number) = refl
kind_count (Pid set number) = refl

pids_first : (action : Action) (more : List Action) → pids_among (action ∷ more) ≡ cond (is_pid_kind action.what) 1 0 + pids_among more
pids_first action more =
    length-append (pid_of action.what) (flat_map (λ other. pid_of other.what) more)
    ∙ ap (λ n. n + pids_among more) (kind_count action.what)

pids_drop : (actions : List Action) (k : ℕ) (action : Action) → k < length actions → action ≡ get_or actions k action
    → pids_among (drop k actions) ≡ cond (is_pid_kind action.what) 1 0 + pids_among (drop (k + 1) actions)
pids_drop actions k action within is =
    ap pids_among (drop_more actions k action within)
    ∙ pids_first (get_or actions k action) (drop (k + 1) actions)
    ∙ ap (λ (a : Action). cond (is_pid_kind a.what) 1 0 + pids_among (drop (k + 1) actions)) (sym is)

flat_append : {A B : Type 0} (f : A → List B) (xs ys : List A) → flat_map f (xs ++ ys) ≡ flat_map f xs ++ flat_map f ys
flat_append f [] ys = refl
flat_append f (x ∷ xs) ys = ap (λ l. f x ++ l) (flat_append f xs ys) ∙ sym (append_assoc (f x) (flat_map f xs) (flat_map f ys))

count_first : (rule : Rule) (more : List Rule) → pid_count (rule ∷ more) ≡ pids_among rule.then_actions + (pids_among rule.else_actions + pid_count more)
unfolding pid_count pid_numbers
count_first rule more =
    let here : List ℕ = flat_map (λ (action : Action). pid_of action.what) (rule_actions rule) in
    let later : List ℕ = pid_numbers more in
    length-append here later
    ∙ ap (λ n. n + length later)
    (ap length (flat_append (λ (action : Action). pid_of action.what) rule.then_actions rule.else_actions)
    ∙ length-append (flat_map (λ (action : Action). pid_of action.what) rule.then_actions) (flat_map (λ (action : Action). pid_of action.what) rule.else_actions))
    ∙ (omega arith)

pub rule_step : (rules : List Rule) (memories middle pushed all : List PidMemory) (k : ℕ) (rule : Rule)
    → k < length rules → rule ≡ get_or rules k rule
    → middle ≡ memories ++ replicate (pids_among rule.then_actions) fresh
    → pushed ≡ middle ++ replicate (pids_among rule.else_actions) fresh
    → memories ++ replicate (pid_count (drop k rules)) fresh ≡ all
    → pushed ++ replicate (pid_count (drop (k + 1) rules)) fresh ≡ all
rule_step rules memories middle pushed all k rule within is first second before =
    let later : ℕ = pid_count (drop (k + 1) rules) in
    let count : pid_count (drop k rules) ≡ pids_among rule.then_actions + (pids_among rule.else_actions + later) =
    ap pid_count (drop_more rules k rule within ∙ ap (λ r. r ∷ drop (k + 1) rules) (sym is)) ∙ count_first rule (drop (k + 1) rules) in
    ap (λ list. list ++ replicate later fresh) second
    ∙ append_assoc middle (replicate (pids_among rule.else_actions) fresh) (replicate later fresh)
    ∙ ap (λ list. middle ++ list) (replicate-append-replicate (pids_among rule.else_actions) later fresh)
    ∙ ap (λ list. list ++ replicate (pids_among rule.else_actions + later) fresh) first
    ∙ append_assoc memories (replicate (pids_among rule.then_actions) fresh) (replicate (pids_among rule.else_actions + later) fresh)
    ∙ ap (λ list. memories ++ list) (replicate-append-replicate (pids_among rule.then_actions) (pids_among rule.else_actions + later) fresh)
    ∙ ap (λ n. memories ++ replicate n fresh) (sym count)
    ∙ before

no_rules : pid_count [] ≡ 0
unfolding pid_count pid_numbers
no_rules = refl

pub rules_end : (rules : List Rule) (memories all : List PidMemory) (k : ℕ) → length rules ≤ k
    → memories ++ replicate (pid_count (drop k rules)) fresh ≡ all → memories ≡ all
rules_end rules memories all k past before =
    sym (append-nil memories) ∙ ap (λ n. memories ++ replicate n fresh) (sym no_rules) ∙ ap (λ list. memories ++ replicate (pid_count list) fresh) (sym (drop_all k rules past)) ∙ before

-- ---- places
zipped_push : {A B : Type 0} (R : A → B → Type 0) (xs : List A) (ys : List B) (one : A) (other : B)
    → AllZip R xs ys → R one other → AllZip R (xs ++ one ∷ []) (ys ++ other ∷ [])
zipped_push R [] [] one other all here = (here, tt)
zipped_push R [] (y ∷ ys) one other all here = elim all [ ]
zipped_push R (x ∷ xs) [] one other all here = elim all [ ]
zipped_push R (x ∷ xs) (y ∷ ys) one other all here = (all.0, zipped_push R xs ys one other all.1 here)

pub places_more : (x : Rules) (items places pushed : List ℕ) (i place : ℕ)
    → items ≡ x.controlled → i < length items
    → AllZip (λ (link at : ℕ). slice_get x.tracked at ≡ Some link) (take i x.controlled) places
    → slice_get x.tracked place ≡ Some (get_or items i 0) → pushed ≡ places ++ place ∷ []
    → AllZip (λ (link at : ℕ). slice_get x.tracked at ≡ Some link) (take (i + 1) x.controlled) pushed
places_more x items places pushed i place same within all here added =
    let inside : i < length x.controlled = omega (arith, within, ap length same) in
    let is : slice_get x.tracked place ≡ Some (get_or x.controlled i 0) = here ∙ ap (λ l. Some (get_or l i 0)) same in
    subst (λ (l : List ℕ). AllZip (λ (link at : ℕ). slice_get x.tracked at ≡ Some link) l pushed)
    (sym (take_more x.controlled i 0 inside))
    (subst (λ (l : List ℕ). AllZip (λ (link at : ℕ). slice_get x.tracked at ≡ Some link) (take i x.controlled ++ get_or x.controlled i 0 ∷ []) l)
    (sym added)
    (zipped_push (λ (link at : ℕ). slice_get x.tracked at ≡ Some link) (take i x.controlled) places (get_or x.controlled i 0) place all is))

pub places_all : (x : Rules) (items places : List ℕ) (i : ℕ)
    → items ≡ x.controlled → length items ≤ i
    → AllZip (λ (link at : ℕ). slice_get x.tracked at ≡ Some link) (take i x.controlled) places
    → ArePlaces x places
places_all x items places i same past all =
    subst (λ (l : List ℕ). AllZip (λ (link at : ℕ). slice_get x.tracked at ≡ Some link) l places)
    (take_all i x.controlled (omega (arith, past, ap length same))) all

pub tracked_link : (x : Rules) (items tracked : List ℕ) (i : ℕ) → WellFormed x
    → items ≡ x.controlled → tracked ≡ x.tracked → i < length items
    → Contains tracked (get_or items i 0)
tracked_link x items tracked i formed same tracks within =
    let inside : i < length x.controlled = omega (arith, within, ap length same) in
    subst (λ (l : List ℕ). Contains l (get_or items i 0)) (sym tracks)
    (subst (λ (link : ℕ). Contains x.tracked link) (sym (ap (λ l. get_or l i 0) same))
    ((opened-lists x formed.lists).controlled i 0 inside))

past_by : (t : Bool) (m n : ℕ) → nat_lt m n ≡ t → cond t (Some m) None ≡ None → n ≤ m
past_by true m n is h = absurd (none-some m (sym h))
past_by false m n is h = grind (arith, nat_tests)

fails_by : (b : Bool) (m n : ℕ) → suc n ≤ cond (not b) (1 + m) 0 → (b ≡ false) × (n ≤ m)
fails_by true m n h = absurd (omega (arith, h))
fails_by false m n h = (refl, omega (arith, h))

all_fail : (passes : ℕ → Bool) (things : List ℕ)
    → length things ≤ position_or_len passes things
    → (j other : ℕ) → slice_get things j ≡ Some other → passes other ≡ false
all_fail passes [] h j other at = absurd (none-some other at)
all_fail passes (first ∷ things) h zero other at =
    ap passes (sym (same_Some first other at))
    ∙ (fails_by (passes first) (position_or_len passes things) (length things) h).0
all_fail passes (first ∷ things) h (suc j) other at =
    all_fail passes things
    (fails_by (passes first) (position_or_len passes things) (length things) h).1 j other at

pub not_absent : (links : List ℕ) (link : ℕ) → Contains links link
    → position (λ other. link == other) links ≡ None → ⊥
not_absent links link among none =
    let past = past_by (nat_lt (position_or_len (λ other. link == other) links) (length links)) _ _ refl none in
    let fails : (link == link) ≡ false =
    all_fail (λ other. link == other) links past among.0 link (slice_get-get_or links among.0 link among.1 ∙ ap Some among.2) in
    grind (arith, nat_tests)

-- ---- settings
zipped_get : {A B : Type 0} (R : A → B → Type 0) (xs : List A) (ys : List B) (j : ℕ) (x : A) → AllZip R xs ys → slice_get xs j ≡ Some x
    → (y : B) × (slice_get ys j ≡ Some y) × R x y
zipped_get R [] [] j x all is = absurd (none-some x is)
zipped_get R [] (v ∷ ys) j x all is = elim all [ ]
zipped_get R (u ∷ xs) [] j x all is = elim all [ ]
zipped_get R (u ∷ xs) (v ∷ ys) zero x all is = (v, refl, subst (λ w. R w v) (same_Some u x is) all.0)
zipped_get R (u ∷ xs) (v ∷ ys) (suc j) x all is = zipped_get R xs ys j x all.1 is

zipped_none : {A B : Type 0} (R : A → B → Type 0) (xs : List A) (ys : List B) (j : ℕ) → AllZip R xs ys → slice_get xs j ≡ None → slice_get ys j ≡ None
zipped_none R [] [] j all is = refl
zipped_none R [] (v ∷ ys) j all is = elim all [ ]
zipped_none R (u ∷ xs) [] j all is = elim all [ ]
zipped_none R (u ∷ xs) (v ∷ ys) zero all is = absurd (none-some u (sym is))
zipped_none R (u ∷ xs) (v ∷ ys) (suc j) all is = zipped_none R xs ys j all.1 is

same_slices : {A : Type 0} (xs ys : List A) → ((j : ℕ) → slice_get xs j ≡ slice_get ys j) → xs ≡ ys
same_slices [] [] h = refl
same_slices [] (y ∷ ys) h = absurd (none-some y (h 0))
same_slices (x ∷ xs) [] h = absurd (none-some x (sym (h 0)))
same_slices (x ∷ xs) (y ∷ ys) h =
    let first : x ≡ y = same_Some x y (h 0) in
    let later : xs ≡ ys = same_slices xs ys (λ j. h (suc j)) in
    λ i. first i ∷ later i

stayed_at : (links : List LinkState) (k : ℕ) (old : LinkState) → slice_get links k ≡ Some old
    → slice_get (stayed links) k ≡ Some (record { setting = old.setting; target = old.target })
stayed_at [] k old is = absurd (none-some old is)
stayed_at (link ∷ links) zero old is = let same = same_Some link old is in λ i. Some (record { setting = (same i).setting; target = (same i).target })
stayed_at (link ∷ links) (suc k) old is = stayed_at links k old is

no_link : LinkState
no_link = record { setting = nothing; target = nothing; timer = nothing }

past_end : {A : Type 0} (xs : List A) (j n : ℕ) → slice_get xs j ≡ None → length xs ≡ n → n ≤ j
past_end [] j n is long = omega (arith, long)
past_end (x ∷ xs) zero n is long = absurd (none-some x (sym is))
past_end (x ∷ xs) (suc j) zero is long = omega arith
past_end (x ∷ xs) (suc j) (suc n) is long = let rest : n ≤ j = past_end xs j n is (omega (arith, long)) in omega (arith, rest)

none_past : {A : Type 0} (xs : List A) (j : ℕ) → length xs ≤ j → slice_get xs j ≡ None
none_past [] j past = refl
none_past (x ∷ xs) zero past = absurd (omega (arith, past))
none_past (x ∷ xs) (suc j) past = none_past xs j (omega (arith, past))

setting_same : (x : Rules) (links : List LinkState) (places : List ℕ) (j : ℕ) (o : Option ℕ) → InOrder x → length links ≡ length x.tracked
    → ArePlaces x places → slice_get x.controlled j ≡ o → slice_get (settings_at links places) j ≡ slice_get (controlled_settings x (stayed links)) j
setting_same x links places j None order long all at =
    slice_get-map (λ place. setting_or_zero (slice_get links place)) places j
    ∙ ap (option_map (λ place. setting_or_zero (slice_get links place))) (zipped_none (λ (link place : ℕ). slice_get x.tracked place ≡ Some link) x.controlled places j all at)
    ∙ sym (none_past (controlled_settings x (stayed links)) j (past_end x.controlled j (length (controlled_settings x (stayed links))) at (sym (standing-settings x (stayed links)))))
setting_same x links places j (Some link) order long all at =
    let found = zipped_get (λ (link place : ℕ). slice_get x.tracked place ≡ Some link) x.controlled places j link all at in
    let place : ℕ = found.0 in
    let within : place < length links = omega (arith, slice_get_within x.tracked place link found.2, long) in
    let old : LinkState = get_or links place no_link in
    let there : slice_get links place ≡ Some old = slice_get-get_or links place no_link within in
    slice_get-map (λ place. setting_or_zero (slice_get links place)) places j
    ∙ ap (option_map (λ place. setting_or_zero (slice_get links place))) found.1
    ∙ ap (λ o. Some (setting_or_zero o)) there
    ∙ sym (standing-setting x (stayed links) j place link (record { setting = old.setting; target = old.target }) order (stayed_long links ∙ long) at found.2 (stayed_at links place old there))

pub settings_are : (x : Rules) (links : List LinkState) (places : List ℕ) → InOrder x → length links ≡ length x.tracked → ArePlaces x places
    → settings_at links places ≡ controlled_settings x (stayed links)
settings_are x links places order long all =
    same_slices (settings_at links places) (controlled_settings x (stayed links))
    (λ j. setting_same x links places j (slice_get x.controlled j) order long all refl)

pub settings_stay : (x : Rules) (before after : List LinkState) (places : List ℕ) (settings : List Rational) → InOrder x → length after ≡ length x.tracked → ArePlaces x places
    → settings ≡ controlled_settings x (stayed before) → stayed after ≡ stayed before → settings ≡ settings_at after places
settings_stay x before after places settings order long all is same =
    is ∙ ap (controlled_settings x) (sym same) ∙ sym (settings_are x after places order long all)

pub places_within : (x : Rules) (links : List LinkState) (places : List ℕ) → length links ≡ length x.tracked → ArePlaces x places
    → All (λ place. place < length links) places
places_within x links places long all = λ k d below.
    let is = slice_get-get_or places k d below in
    within_by (get_or places k d) k is
  where
    within_by : (place k : ℕ) → slice_get places k ≡ Some place → place < length links
    within_by place k is = by (slice_get x.controlled k) refl where
      by : (o : Option ℕ) → slice_get x.controlled k ≡ o → place < length links
      by None at = absurd (none-some place (sym (zipped_none (λ (link place : ℕ). slice_get x.tracked place ≡ Some link) x.controlled places k all at) ∙ is))
      by (Some link) at =
          let found = zipped_get (λ (link place : ℕ). slice_get x.tracked place ≡ Some link) x.controlled places k link all at in
          let same : found.0 ≡ place = same_Some found.0 place (sym found.1 ∙ is) in
          omega (arith, slice_get_within x.tracked found.0 link found.2, long, same)

pub places_long : (x : Rules) (places : List ℕ) → ArePlaces x places → length places ≡ length x.controlled
places_long x places all = by x.controlled places all where
  by : (xs ys : List ℕ) → AllZip (λ (link place : ℕ). slice_get x.tracked place ≡ Some link) xs ys → length ys ≡ length xs
  by [] [] all = refl
  by [] (y ∷ ys) all = elim all [ ]
  by (x ∷ xs) [] all = elim all [ ]
  by (x ∷ xs) (y ∷ ys) all = ap suc (by xs ys all.1)

-- one more setting
pub setting_more : (links : List LinkState) (places : List ℕ) (settings : List Rational) (k place : ℕ) (link : LinkState)
    → k < length places → k < length settings → place ≡ get_or places k 0 → place < length links → link ≡ get_or links place link
    → take k settings ≡ settings_at links (take k places)
    → take k settings ++ link.setting ∷ [] ≡ settings_at links (take (k + 1) places)
setting_more links places settings k place link within inside is below read before =
    ap (λ list. list ++ link.setting ∷ []) before
    ∙ ap (λ q. settings_at links (take k places) ++ q ∷ []) (sym (ap setting_or_zero (slice_get-get_or links place link below ∙ ap Some (sym read))))
    ∙ ap (λ p. settings_at links (take k places) ++ setting_or_zero (slice_get links p) ∷ []) is
    ∙ sym (map_push (λ p. setting_or_zero (slice_get links p)) (take k places) (get_or places k 0))
    ∙ ap (settings_at links) (sym (take_more places k 0 within))
  where
    map_push : {A B : Type 0} (f : A → B) (xs : List A) (x : A) → map f (xs ++ x ∷ []) ≡ map f xs ++ f x ∷ []
    map_push f [] x = refl
    map_push f (y ∷ xs) x = ap (λ l. f y ∷ l) (map_push f xs x)
