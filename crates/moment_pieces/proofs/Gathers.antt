-- Sets of numbers, and the numbers that are added to them.
use Rattle.std.proofs.Common.{◌≡◌, ℕ, ◌≤◌, Bool, true, false, cond, List, [], ◌∷◌}
use Rattle.std.proofs.Common.{Some, None, ℤ, pos, ◌-ℤ◌, neg_ℤ, ◌<ℤ◌, ◌≤ℤ◌, Ordering, Less, Equal, Greater, refl, sym, ap, ap₂, subst, ◌∙◌, arith}
use Rattle.std.specs.Prelude.{◌==◌, ◌&&◌, ◌||◌, nat_le, All, slice_get}
use Rattle.std.proofs.lemmas.Option.{slice_get_within, get_or_from_slice_get}
use Rattle.std.specs.List.{filter}
use Rattle.std.specs.Ordering.{nat_cmp, int_eq, match_ordering}
use Rattle.std.specs.BTreeSet.{insert_key}
use Rattle.std.proofs.lemmas.Bool.Decides.{nat_tests}
use Rattle.std.proofs.lemmas.Int.{ints}
use Rattle.rule_types.specs.declared.condition.Condition.{Condition}
use Rattle.rule_types.specs.declared.condition.Side.{Side}
use Rattle.rule_types.specs.declared.condition.Side.TheVariants as side
use Rattle.rule_types.specs.declared.condition.Right.{Right}
use Rattle.rule_types.specs.declared.condition.Right.TheVariants as right
use Rattle.rule_types.specs.declared.key.Attr.{Attr}
use Rattle.rule_types.specs.declared.key.Key.TheVariants.{Object}
use Rattle.rule_types.specs.declared.names.NameDef.{NameDef}
use Rattle.rule_types.specs.declared.object.ObjectNo.{ObjectNo}
use Rattle.clock_values.specs.declared.window.Window.{Window}
use Rattle.clock_values.specs.Windows.{turns_at, window_turns}
use Rattle.moment_pieces.specs.Sides.{side_of}
use Rattle.moment_pieces.specs.internal.Turns.{stands_in, Adds, IsNumberAt, sides_turn}
use Rattle.moment_pieces.specs.internal.Turns.{condition_turns}
use Rattle.moment_pieces.specs.declared.turns.Scale.{Scale}
use Rattle.moment_pieces.proofs.WholeTests.{eq_is, eq_not, lt_true, lt_false}

-- ---- one number
or_false : (b : Bool) → (b || false) ≡ b
or_false true = refl
or_false false = refl

and_false : (b : Bool) → (b && false) ≡ false
and_false true = refl
and_false false = refl

nil_or : (b : Bool) → (b || false) ≡ (false || b)
nil_or true = refl
nil_or false = refl

swap_or : (a b : Bool) → (a || b) ≡ (b || a)
swap_or true true = refl
swap_or true false = refl
swap_or false true = refl
swap_or false false = refl

again_or : (a b : Bool) → (a || b) ≡ ((a || b) || a)
again_or true b = refl
again_or false true = refl
again_or false false = refl

later_or : (a b c : Bool) → (a || (b || c)) ≡ ((a || b) || c)
later_or true b c = refl
later_or false b c = refl

equal_is : (a b : ℕ) → nat_cmp a b ≡ Equal → a ≡ b
equal_is a b e = grind (arith, nat_tests)

inserted_by : (s k m : ℕ) (more : List ℕ) (o : Ordering) → nat_cmp k s ≡ o
    → stands_in (insert_key nat_cmp more k) m ≡ (stands_in more m || (m == k))
    → stands_in (match_ordering o (k ∷ s ∷ more) (s ∷ more) (s ∷ insert_key nat_cmp more k)) m
    ≡ (stands_in (s ∷ more) m || (m == k))
inserted_by s k m more Less e h = swap_or (m == k) (stands_in (s ∷ more) m)
inserted_by s k m more Equal e h =
    subst (λ x. stands_in (s ∷ more) m ≡ (stands_in (s ∷ more) m || (m == x))) (sym (equal_is k s e))
    (again_or (m == s) (stands_in more m))
inserted_by s k m more Greater e h =
    ap (λ b. (m == s) || b) h ∙ later_or (m == s) (stands_in more m) (m == k)

pub stands_inserted : (keys : List ℕ) (k m : ℕ)
    → stands_in (insert_key nat_cmp keys k) m ≡ (stands_in keys m || (m == k))
stands_inserted [] k m = nil_or (m == k)
stands_inserted (s ∷ more) k m = inserted_by s k m more (nat_cmp k s) refl (stands_inserted more k m)

-- ---- what is added
pub adds_none : (old : List ℕ) (test : ℕ → Bool) → ((m : ℕ) → test m ≡ false) → Adds old old test
adds_none old test h = record { is = λ m. sym (ap (λ b. stands_in old m || b) (h m) ∙ or_false (stands_in old m)) }

pub adds_as : (old new : List ℕ) (test other : ℕ → Bool) → Adds old new test → ((m : ℕ) → other m ≡ test m)
    → Adds old new other
adds_as old new test other h e = record { is = λ m. h.is m ∙ ap (λ b. stands_in old m || b) (sym (e m)) }

pub adds_both : (a b c : List ℕ) (p q r : ℕ → Bool) → Adds a b p → Adds b c q
    → ((m : ℕ) → r m ≡ (p m || q m)) → Adds a c r
adds_both a b c p q r h k e = record {
  is = λ m. k.is m ∙ ap (λ x. x || q m) (h.is m) ∙ sym (later_or (stands_in a m) (p m) (q m))
      ∙ ap (λ x. stands_in a m || x) (sym (e m));
}

-- ---- a second on a scale
pub number_test : (second : ℤ) (scale : Scale) (number : ℕ) → number ≤ scale.limit → pos number -ℤ scale.shift ≡ second
    → (m : ℕ) → (int_eq (pos m -ℤ scale.shift) second && nat_le m scale.limit) ≡ (m == number)
number_test second scale number le e m = by_test (m == number) refl
  where
    by_test : (b : Bool) → (m == number) ≡ b → (int_eq (pos m -ℤ scale.shift) second && nat_le m scale.limit) ≡ b
    by_test true f =
        let same : m ≡ number = grind (arith, nat_tests) in
        let at : int_eq (pos m -ℤ scale.shift) second ≡ true = eq_is (pos m -ℤ scale.shift) second (ap (λ x. pos x -ℤ scale.shift) same ∙ e) in
        let few : nat_le m scale.limit ≡ true = grind (arith, nat_tests) in
        ap₂ (λ x y. x && y) at few
    by_test false f =
        let other : m ≡ number → ⊥ = grind (arith, nat_tests) in
        let not_at : int_eq (pos m -ℤ scale.shift) second ≡ false = eq_not (pos m -ℤ scale.shift) second (λ k. other (omega (arith, ints, e, k))) in
        ap (λ x. x && nat_le m scale.limit) not_at

pub no_number : (second : ℤ) (scale : Scale) → IsNumberAt second scale None
    → (m : ℕ) → (int_eq (pos m -ℤ scale.shift) second && nat_le m scale.limit) ≡ false
no_number second scale h m = by_test (nat_le m scale.limit) refl
  where
    by_test : (b : Bool) → nat_le m scale.limit ≡ b → (int_eq (pos m -ℤ scale.shift) second && b) ≡ false
    by_test true e = ap (λ x. x && true) (h m (grind (arith, nat_tests)))
    by_test false e = and_false (int_eq (pos m -ℤ scale.shift) second)

-- ---- the ends of a window
pub both_ends : (a b l : Bool) → ((true && (a || b)) && l) ≡ ((a && l) || (b && l))
both_ends true true true = refl
both_ends true true false = refl
both_ends true false true = refl
both_ends true false false = refl
both_ends false true true = refl
both_ends false true false = refl
both_ends false false l = refl

-- ---- a loop that adds what each item of a list has
pub record Pending (old now : List ℕ) (left all may : ℕ → Bool) : Type 0 where
  pub is : (m : ℕ) → (stands_in now m || (left m && may m)) ≡ (stands_in old m || (all m && may m))

pub pending_first : (old : List ℕ) (all may : ℕ → Bool) → Pending old old all all may
pending_first old all may = record { is = λ m. refl }

pub pending_last : (old now : List ℕ) (left all may : ℕ → Bool) → ((m : ℕ) → left m ≡ false)
    → Pending old now left all may → Adds old now (λ m. all m && may m)
pending_last old now left all may none h = record {
  is = λ m. sym (ap (λ b. stands_in now m || (b && may m)) (none m) ∙ or_false (stands_in now m)) ∙ h.is m;
}

regroup : (a t r y : Bool) → ((a || (t && y)) || (r && y)) ≡ (a || ((t || r) && y))
regroup true t r y = refl
regroup false true r true = refl
regroup false true true false = refl
regroup false true false false = refl
regroup false false r y = refl

pub pending_next : (old now next : List ℕ) (here left rest all may : ℕ → Bool)
    → ((m : ℕ) → left m ≡ (here m || rest m)) → Pending old now left all may
    → Adds now next (λ m. here m && may m) → Pending old next rest all may
pending_next old now next here left rest all may split h k = record {
  is = λ m. ap (λ b. b || (rest m && may m)) (k.is m) ∙ regroup (stands_in now m) (here m) (rest m) (may m)
      ∙ ap (λ b. stands_in now m || (b && may m)) (sym (split m)) ∙ h.is m;
}

-- ---- a list without some of its numbers
kept : (a b t : Bool) → (a ≡ true → t ≡ true) → (a || (b && t)) ≡ ((a || b) && t)
kept true b t h = sym (h refl)
kept false b t h = refl

left_out : (a b t : Bool) → (a ≡ true → t ≡ false) → (b && t) ≡ ((a || b) && t)
left_out true true t h = refl
left_out true false t h = sym (h refl)
left_out false b t h = refl

same_number : (m s : ℕ) → (m == s) ≡ true → m ≡ s
same_number m s e = grind (arith, nat_tests)

filtered_by : (test : ℕ → Bool) (s m : ℕ) (more : List ℕ) (b : Bool) → test s ≡ b
    → stands_in (filter test more) m ≡ (stands_in more m && test m)
    → stands_in (cond b (s ∷ filter test more) (filter test more)) m ≡ (((m == s) || stands_in more m) && test m)
filtered_by test s m more true e h =
    ap (λ x. (m == s) || x) h
    ∙ kept (m == s) (stands_in more m) (test m) (λ k. ap test (same_number m s k) ∙ e)
filtered_by test s m more false e h =
    h ∙ left_out (m == s) (stands_in more m) (test m) (λ k. ap test (same_number m s k) ∙ e)

pub stands_filtered : (test : ℕ → Bool) (list : List ℕ) (m : ℕ)
    → stands_in (filter test list) m ≡ (stands_in list m && test m)
stands_filtered test [] m = refl
stands_filtered test (s ∷ more) m = filtered_by test s m more (test s) refl (stands_filtered test more m)

-- ---- seconds that are not counted
pub number_before : (second : ℤ) (scale : Scale) → second <ℤ neg_ℤ scale.shift → IsNumberAt second scale None
number_before second scale h = λ m l. eq_not (pos m -ℤ scale.shift) second (λ e. omega (arith, ints, e, h))

pub number_after : (second : ℤ) (scale : Scale) → (pos scale.limit -ℤ scale.shift) <ℤ second → IsNumberAt second scale None
number_after second scale h = λ m l. eq_not (pos m -ℤ scale.shift) second (λ e. omega (arith, ints, e, h, l))

-- ---- items at places
pub all_at : {A : Type 0} (P : A → Type 0) (xs : List A) (k : ℕ) (x : A) → All P xs → slice_get xs k ≡ Some x → P x
all_at P xs k x h e = subst P (get_or_from_slice_get xs k x x e) (h k x (slice_get_within xs k x e))

-- ---- conditions and their sides
pub turns_by_side : (names : List NameDef) (scale : Scale) (m : ℕ) (c : Condition) (left : Side)
    → left ≡ side_of names c.left → condition_turns names scale m c ≡ sides_turn scale c m left c.right
unfolding condition_turns
turns_by_side names scale m c left e = ap (λ s. sides_turn scale c m s c.right) (sym e)

pub object_turns_not : (scale : Scale) (m : ℕ) (c : Condition) (object : ObjectNo) (attribute : Attr) (other : Right)
    → sides_turn scale c m (side.Key (Object object attribute)) other ≡ false
object_turns_not scale m c object attribute (right.Key key) = refl
object_turns_not scale m c object attribute (right.Value q) = refl

pub name_turns_not : (scale : Scale) (m : ℕ) (c : Condition) (name : ℕ) (other : Right)
    → sides_turn scale c m (side.Expr name) other ≡ false
name_turns_not scale m c name (right.Key key) = refl
name_turns_not scale m c name (right.Value q) = refl

-- nothing that is not there within the limit is added
pub nothing_within : (b l : Bool) → b ≡ false → (b && l) ≡ false
nothing_within b l e = ap (λ x. x && l) e

-- ---- the ends of a window
pub open_turns : (w : Window) (t : ℤ) → w.high ≡ None → window_turns w t ≡ int_eq t w.low
unfolding window_turns
open_turns w t e = ap (λ high. turns_at w.low high t) e

pub closed_turns : (w : Window) (high t : ℤ) → w.high ≡ Some high → window_turns w t ≡ turns_at w.low (Some high) t
unfolding window_turns
closed_turns w high t e = ap (λ end. turns_at w.low end t) e

pub ends_meet : (low high t : ℤ) → high ≤ℤ low → turns_at low (Some high) t ≡ false
ends_meet low high t h = ap (λ b. b && (int_eq t low || int_eq t high)) (lt_false low high h)

pub ends_apart : (low high t : ℤ) (l : Bool) → low <ℤ high
    → (turns_at low (Some high) t && l) ≡ ((int_eq t low && l) || (int_eq t high && l))
ends_apart low high t l h =
    ap (λ b. (b && (int_eq t low || int_eq t high)) && l) (lt_true low high h)
    ∙ both_ends (int_eq t low) (int_eq t high) l
