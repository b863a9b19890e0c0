-- Trees and their certificates, node by node.
use Rattle.std.proofs.Common.{◌≡◌, ℕ, suc, ◌+◌, Bool, true, false, not, ◌&&◌, Option, Some}
use Rattle.std.proofs.Common.{Result, Ok, Err, List, max, refl, sym, ap, ◌∙◌, subst, nat_lt, arith}
use Rattle.std.proofs.Common.{ℤ, pos, ◌-ℤ◌}
use Rattle.std.specs.Prelude.{if◌then◌else◌, IfOk, int_le, slice_get, ◌<◌}
use Rattle.std.proofs.Math.Nat.{le-max_left, le-max_right}
use Rattle.std.proofs.lemmas.Bool.{and_from, true≢false}
use Rattle.exact_fraction.specs.Number.{Rational}
use Rattle.interval_sets.specs.declared.interval.Interval.{Interval}
use Rattle.rule_types.specs.declared.key.Key.{Key}
use Rattle.rule_types.specs.declared.rules.Rules.{Rules}
use Rattle.rule_types.specs.Tables.{TableSet}
use Rattle.rule_meaning.specs.CheckedSteps.{◌>>=◌}
use Rattle.block_search.specs.declared.tree.Tree.{Tree}
use Rattle.block_search.specs.declared.tree.Tree.TheOpen.{Tree-F}
use Rattle.block_search.specs.declared.tree.Tree.TheFolds.{fold-Tree, fold-roll-Tree}
use Rattle.block_search.specs.declared.tree.Tree.TheVariants as tree
use Rattle.block_search.specs.Judgements.{Judgement}
use Rattle.block_search.specs.Trees.{Proof, depth, node_depth, node_proves, proves}
use Rattle.verdict_meaning.specs.declared.cell.Cell.{Cell}
use Rattle.verdict_meaning.specs.declared.cert.Cert.{Cert}
use Rattle.verdict_meaning.specs.declared.cert.Cert.TheOpen.{Cert-F}
use Rattle.verdict_meaning.specs.declared.cert.Cert.TheFolds.{fold-Cert, fold-roll-Cert}
use Rattle.verdict_meaning.specs.declared.cert.Cert.TheVariants as cert
use Rattle.verdict_meaning.specs.declared.cert.Reason.{Reason}
use Rattle.verdict_meaning.specs.declared.cert.Reason.TheVariants.{Facts}
use Rattle.verdict_meaning.specs.declared.question.Question.{Question}
use Rattle.verdict_meaning.specs.Certificates.{Judge, Judged, NodeFault, above_of, before_in}
use Rattle.verdict_meaning.specs.Certificates.{below_of}
use Rattle.verdict_meaning.specs.Certificates.{can_split, cert_judged, is_end, leaf_judged}
use Rattle.verdict_meaning.specs.Certificates.{node_judged, part_at, part_through, part_with}
use Rattle.verdict_meaning.specs.Certificates.{shape_at, split_in, three_judged, two_judged}
use Rattle.verdict_meaning.specs.Reaches.{piece_in}
use Rattle.verdict_meaning.specs.Shown.{shown}
use Rattle.verdict_meaning.specs.Verdicts.{Lean, lean_before, lean_leaf, lean_node, lean_split}
use Rattle.grid_blocks.specs.declared.grid.Grid.{Grid}
use Rattle.grid_trees.specs.TreeCertificates.{before_cert, cert_of, node_cert, split_cert}

-- ---- trees
pub leaf_proves_is : (judged : Judgement) (facts : List (ℕ × Bool))
    → proves judged (tree.Leaf facts) ≡ node_proves judged (Tree-F.Leaf facts)
unfolding proves
leaf_proves_is judged facts =
    ap (fold-Tree Proof (node_proves judged)) (sym (tree.rolls-Leaf facts))
    ∙ fold-roll-Tree Proof (node_proves judged) (Tree-F.Leaf facts)

pub split_proves_is : (judged : Judgement) (axis at : ℕ) (a b c : Tree)
    → proves judged (tree.Split axis at a b c)
    ≡ node_proves judged
    (Tree-F.Split axis at (proves judged a) (proves judged b) (proves judged c))
unfolding proves
split_proves_is judged axis at a b c =
    ap (fold-Tree Proof (node_proves judged)) (sym (tree.rolls-Split axis at a b c))
    ∙ fold-roll-Tree Proof (node_proves judged) (Tree-F.Split axis at a b c)

pub before_proves_is : (judged : Judgement) (axis at : ℕ) (a c : Tree)
    → proves judged (tree.Before axis at a c)
    ≡ node_proves judged (Tree-F.Before axis at (proves judged a) (proves judged c))
unfolding proves
before_proves_is judged axis at a c =
    ap (fold-Tree Proof (node_proves judged)) (sym (tree.rolls-Before axis at a c))
    ∙ fold-roll-Tree Proof (node_proves judged) (Tree-F.Before axis at a c)

pub leaf_depth : (facts : List (ℕ × Bool)) → depth (tree.Leaf facts) ≡ 1
unfolding depth node_depth
leaf_depth facts =
    ap (fold-Tree ℕ node_depth) (sym (tree.rolls-Leaf facts))
    ∙ fold-roll-Tree ℕ node_depth (Tree-F.Leaf facts)

pub split_depth : (axis at : ℕ) (a b c : Tree)
    → depth (tree.Split axis at a b c) ≡ suc (max (depth a) (max (depth b) (depth c)))
unfolding depth node_depth
split_depth axis at a b c =
    ap (fold-Tree ℕ node_depth) (sym (tree.rolls-Split axis at a b c))
    ∙ fold-roll-Tree ℕ node_depth (Tree-F.Split axis at a b c)

pub before_depth : (axis at : ℕ) (a c : Tree)
    → depth (tree.Before axis at a c) ≡ suc (max (depth a) (depth c))
unfolding depth node_depth
before_depth axis at a c =
    ap (fold-Tree ℕ node_depth) (sym (tree.rolls-Before axis at a c))
    ∙ fold-roll-Tree ℕ node_depth (Tree-F.Before axis at a c)

-- ---- certificates of trees
pub leaf_cert_is : (grid : Grid) (facts : List (ℕ × Bool))
    → cert_of grid (tree.Leaf facts) ≡ cert.Leaf (Facts facts)
unfolding cert_of node_cert
leaf_cert_is grid facts =
    ap (fold-Tree Cert (node_cert grid)) (sym (tree.rolls-Leaf facts))
    ∙ fold-roll-Tree Cert (node_cert grid) (Tree-F.Leaf facts)

pub split_cert_is : (grid : Grid) (axis at : ℕ) (a b c : Tree)
    → cert_of grid (tree.Split axis at a b c)
    ≡ split_cert (slice_get grid.keys axis) at (cert_of grid a) (cert_of grid b) (cert_of grid c)
unfolding cert_of node_cert
split_cert_is grid axis at a b c =
    ap (fold-Tree Cert (node_cert grid)) (sym (tree.rolls-Split axis at a b c))
    ∙ fold-roll-Tree Cert (node_cert grid) (Tree-F.Split axis at a b c)

pub before_cert_is : (grid : Grid) (axis at : ℕ) (a c : Tree)
    → cert_of grid (tree.Before axis at a c)
    ≡ before_cert grid.moments at (cert_of grid a) (cert_of grid c)
unfolding cert_of node_cert
before_cert_is grid axis at a c =
    ap (fold-Tree Cert (node_cert grid)) (sym (tree.rolls-Before axis at a c))
    ∙ fold-roll-Tree Cert (node_cert grid) (Tree-F.Before axis at a c)

-- the parts of a tree are less deep
pub first_less : (one part : Tree) (axis at : ℕ) (a b c : Tree)
    → one ≡ tree.Split axis at a b c → part ≡ a → depth part < depth one
first_less one part axis at a b c is e =
    let here : depth one ≡ suc (max (depth a) (max (depth b) (depth c))) =
    ap depth is ∙ split_depth axis at a b c in
    let same : depth part ≡ depth a = ap depth e in
    let most = le-max_left (depth a) (max (depth b) (depth c)) in
    omega (arith, here, same, most)

pub second_less : (one part : Tree) (axis at : ℕ) (a b c : Tree)
    → one ≡ tree.Split axis at a b c → part ≡ b → depth part < depth one
second_less one part axis at a b c is e =
    let here : depth one ≡ suc (max (depth a) (max (depth b) (depth c))) =
    ap depth is ∙ split_depth axis at a b c in
    let same : depth part ≡ depth b = ap depth e in
    let inner = le-max_left (depth b) (depth c) in
    let most = le-max_right (depth a) (max (depth b) (depth c)) in
    omega (arith, here, same, inner, most)

pub third_less : (one part : Tree) (axis at : ℕ) (a b c : Tree)
    → one ≡ tree.Split axis at a b c → part ≡ c → depth part < depth one
third_less one part axis at a b c is e =
    let here : depth one ≡ suc (max (depth a) (max (depth b) (depth c))) =
    ap depth is ∙ split_depth axis at a b c in
    let same : depth part ≡ depth c = ap depth e in
    let inner = le-max_right (depth b) (depth c) in
    let most = le-max_right (depth a) (max (depth b) (depth c)) in
    omega (arith, here, same, inner, most)

pub before_less : (one part : Tree) (axis at : ℕ) (a c : Tree)
    → one ≡ tree.Before axis at a c → part ≡ a → depth part < depth one
before_less one part axis at a c is e =
    let here : depth one ≡ suc (max (depth a) (depth c)) =
    ap depth is ∙ before_depth axis at a c in
    let same : depth part ≡ depth a = ap depth e in
    let most = le-max_left (depth a) (depth c) in
    omega (arith, here, same, most)

pub from_less : (one part : Tree) (axis at : ℕ) (a c : Tree)
    → one ≡ tree.Before axis at a c → part ≡ c → depth part < depth one
from_less one part axis at a c is e =
    let here : depth one ≡ suc (max (depth a) (depth c)) =
    ap depth is ∙ before_depth axis at a c in
    let same : depth part ≡ depth c = ap depth e in
    let most = le-max_right (depth a) (depth c) in
    omega (arith, here, same, most)

-- what is made of the certificates of parts
pub leaf_made : (grid : Grid) (one : Tree) (facts : List (ℕ × Bool)) → one ≡ tree.Leaf facts
    → cert.Leaf (Facts facts) ≡ cert_of grid one
leaf_made grid one facts is = sym (ap (cert_of grid) is ∙ leaf_cert_is grid facts)

pub split_made : {E : Type 0} (grid : Grid) (one : Tree) (axis at : ℕ) (a b c : Tree)
    (p q r : Cert) (result : Result Cert E) → one ≡ tree.Split axis at a b c
    → p ≡ cert_of grid a → q ≡ cert_of grid b → r ≡ cert_of grid c
    → IfOk result (λ made. made ≡ split_cert (slice_get grid.keys axis) at p q r)
    → IfOk result (λ made. made ≡ cert_of grid one)
split_made grid one axis at a b c p q r result is e f g =
    let entry = slice_get grid.keys axis in
    subst (λ goal. IfOk result (λ made. made ≡ goal))
    (ap (λ x. split_cert entry at x q r) e
    ∙ ap (λ y. split_cert entry at (cert_of grid a) y r) f
    ∙ ap (λ z. split_cert entry at (cert_of grid a) (cert_of grid b) z) g
    ∙ sym (ap (cert_of grid) is ∙ split_cert_is grid axis at a b c))

pub before_made : {E : Type 0} (grid : Grid) (one : Tree) (axis at : ℕ) (a c : Tree)
    (p r : Cert) (result : Result Cert E) → one ≡ tree.Before axis at a c
    → p ≡ cert_of grid a → r ≡ cert_of grid c
    → IfOk result (λ made. made ≡ before_cert grid.moments at p r)
    → IfOk result (λ made. made ≡ cert_of grid one)
before_made grid one axis at a c p r result is e g =
    subst (λ goal. IfOk result (λ made. made ≡ goal))
    (ap (λ x. before_cert grid.moments at x r) e
    ∙ ap (λ z. before_cert grid.moments at (cert_of grid a) z) g
    ∙ sym (ap (cert_of grid) is ∙ before_cert_is grid axis at a c))

-- ---- certificates that are judged
leaf_judged_is : (judge : Judge) (reason : Reason)
    → cert_judged judge (cert.Leaf reason) ≡ node_judged judge (Cert-F.Leaf reason)
unfolding cert_judged
leaf_judged_is judge reason =
    ap (fold-Cert Judged (node_judged judge)) (sym (cert.rolls-Leaf reason))
    ∙ fold-roll-Cert Judged (node_judged judge) (Cert-F.Leaf reason)

split_judged_is : (judge : Judge) (key : Key) (q : Rational) (a b c : Cert)
    → cert_judged judge (cert.Split key q a b c)
    ≡ node_judged judge
    (Cert-F.Split key q (cert_judged judge a) (cert_judged judge b) (cert_judged judge c))
unfolding cert_judged
split_judged_is judge key q a b c =
    ap (fold-Cert Judged (node_judged judge)) (sym (cert.rolls-Split key q a b c))
    ∙ fold-roll-Cert Judged (node_judged judge) (Cert-F.Split key q a b c)

before_judged_is : (judge : Judge) (m : ℤ) (a c : Cert)
    → cert_judged judge (cert.Before m a c)
    ≡ node_judged judge (Cert-F.Before m (cert_judged judge a) (cert_judged judge c))
unfolding cert_judged
before_judged_is judge m a c =
    ap (fold-Cert Judged (node_judged judge)) (sym (cert.rolls-Before m a c))
    ∙ fold-roll-Cert Judged (node_judged judge) (Cert-F.Before m a c)

else_is : {A : Type 0} (b : Bool) (x y : A) → b ≡ false → (if b then x else y) ≡ y
else_is true x y e = absurd (true≢false e)
else_is false x y e = refl

then_is : {A : Type 0} (b : Bool) (x y : A) → b ≡ true → (if b then x else y) ≡ x
then_is true x y e = refl
then_is false x y e = absurd (true≢false (sym e))

-- one tree after another
pub ends_then : (first : Result ℕ NodeFault) (next : ℕ → Result ℕ NodeFault)
    → is_end first ≡ true → ((n : ℕ) → is_end (next n) ≡ true) → is_end (first >>= next) ≡ true
ends_then (Ok n) next e f = f n
ends_then (Err fault) next e f = absurd (true≢false (sym e))

-- a tree that gives no fault in a box or an empty part, at a depth
abbrev pub Ends : Judge → Cert → ℕ → Option Cell → Type 0
Ends judge one depth part = (place : ℕ) → is_end (cert_judged judge one depth part place) ≡ true

pub leaf_ends : (judge : Judge) (reason : Reason) (depth : ℕ) (part : Option Cell)
    → nat_lt 1024 depth ≡ false
    → ((place : ℕ) → is_end (leaf_judged judge reason part place) ≡ true)
    → Ends judge (cert.Leaf reason) depth part
unfolding node_judged
leaf_ends judge reason depth part e f place =
    ap is_end
    (ap (λ judged. judged depth part place) (leaf_judged_is judge reason)
    ∙ else_is (nat_lt 1024 depth) (shape_at place) (leaf_judged judge reason part place) e)
    ∙ f place

pub split_ends : (judge : Judge) (key : Key) (q : Rational) (a b c : Cert) (depth : ℕ)
    (cell : Cell) (piece : Interval) (first second third : Option Cell)
    → nat_lt 1024 depth ≡ false → piece_in key cell.keys ≡ Some piece → can_split piece q ≡ true
    → part_with key (below_of piece q) cell ≡ first → part_at key piece q cell ≡ second
    → part_with key (above_of piece q) cell ≡ third → Ends judge a (depth + 1) first
    → Ends judge b (depth + 1) second → Ends judge c (depth + 1) third
    → Ends judge (cert.Split key q a b c) depth (Some cell)
unfolding node_judged
split_ends judge key q a b c depth cell piece first second third e found splits below at above f g
    h place =
    let below_judged = cert_judged judge a in
    let at_judged = cert_judged judge b in
    let above_judged = cert_judged judge c in
    ap is_end
    (ap (λ judged. judged depth (Some cell) place) (split_judged_is judge key q a b c)
    ∙ else_is (nat_lt 1024 depth) (shape_at place)
    (split_in key q below_judged at_judged above_judged depth cell place
    (piece_in key cell.keys)) e
    ∙ ap (split_in key q below_judged at_judged above_judged depth cell place) found
    ∙ then_is (can_split piece q)
    (three_judged below_judged at_judged above_judged (depth + 1)
    (part_with key (below_of piece q) cell) (part_at key piece q cell)
    (part_with key (above_of piece q) cell) (place + 1)) (shape_at place) splits)
    ∙ ends_then (below_judged (depth + 1) (part_with key (below_of piece q) cell) (place + 1))
    (λ next.
    at_judged (depth + 1) (part_at key piece q cell) next
    >>= λ last. above_judged (depth + 1) (part_with key (above_of piece q) cell) last)
    (ap (λ part. is_end (below_judged (depth + 1) part (place + 1))) below ∙ f (place + 1))
    (λ next.
    ends_then (at_judged (depth + 1) (part_at key piece q cell) next)
    (λ last. above_judged (depth + 1) (part_with key (above_of piece q) cell) last)
    (ap (λ part. is_end (at_judged (depth + 1) part next)) at ∙ g next)
    (λ last. ap (λ part. is_end (above_judged (depth + 1) part last)) above ∙ h last))

pub before_ends : (judge : Judge) (m : ℤ) (a c : Cert) (depth : ℕ) (cell : Cell)
    (first last : ℤ) (before from : Option Cell) → nat_lt 1024 depth ≡ false
    → cell.moments ≡ Some (first, last) → (int_le first m && int_le m last) ≡ true
    → part_through first (m -ℤ pos 1) cell ≡ before → part_through m last cell ≡ from
    → Ends judge a (depth + 1) before → Ends judge c (depth + 1) from
    → Ends judge (cert.Before m a c) depth (Some cell)
unfolding node_judged
before_ends judge m a c depth cell first last before from e found splits earlier later f g place =
    let before_judged = cert_judged judge a in
    let from_judged = cert_judged judge c in
    ap is_end
    (ap (λ judged. judged depth (Some cell) place) (before_judged_is judge m a c)
    ∙ else_is (nat_lt 1024 depth) (shape_at place)
    (before_in m before_judged from_judged depth cell place cell.moments) e
    ∙ ap (before_in m before_judged from_judged depth cell place) found
    ∙ then_is (int_le first m && int_le m last)
    (two_judged before_judged from_judged (depth + 1) (part_through first (m -ℤ pos 1) cell)
    (part_through m last cell) (place + 1)) (shape_at place) splits)
    ∙ ends_then (before_judged (depth + 1) (part_through first (m -ℤ pos 1) cell) (place + 1))
    (λ next. from_judged (depth + 1) (part_through m last cell) next)
    (ap (λ part. is_end (before_judged (depth + 1) part (place + 1))) earlier ∙ f (place + 1))
    (λ next. ap (λ part. is_end (from_judged (depth + 1) part next)) later ∙ g next)

-- ---- certificates without a spare fact or split
abbrev pub tree_lean : Rules → TableSet → Question → Cert → Lean
tree_lean x tables question = fold-Cert Lean (lean_node x tables question)

pub leaf_lean_is : (x : Rules) (tables : TableSet) (question : Question) (reason : Reason)
    (part : Option Cell)
    → tree_lean x tables question (cert.Leaf reason) part
    ≡ lean_leaf x tables question reason part
unfolding lean_node
leaf_lean_is x tables question reason part =
    ap (λ lean. lean part)
    (ap (fold-Cert Lean (lean_node x tables question)) (sym (cert.rolls-Leaf reason))
    ∙ fold-roll-Cert Lean (lean_node x tables question) (Cert-F.Leaf reason))

pub split_lean : (x : Rules) (tables : TableSet) (question : Question) (key : Key) (q : Rational)
    (a b c : Cert) (cell : Cell) (piece : Interval) (first second third : Option Cell)
    → not (shown x tables question cell) ≡ true → piece_in key cell.keys ≡ Some piece
    → part_with key (below_of piece q) cell ≡ first → part_at key piece q cell ≡ second
    → part_with key (above_of piece q) cell ≡ third
    → tree_lean x tables question a first ≡ true → tree_lean x tables question b second ≡ true
    → tree_lean x tables question c third ≡ true
    → tree_lean x tables question (cert.Split key q a b c) (Some cell) ≡ true
unfolding lean_node
split_lean x tables question key q a b c cell piece first second third closed found below at above
    f g h =
    let lean = tree_lean x tables question in
    ap (λ one. one (Some cell))
    (ap (fold-Cert Lean (lean_node x tables question)) (sym (cert.rolls-Split key q a b c))
    ∙ fold-roll-Cert Lean (lean_node x tables question) (Cert-F.Split key q a b c))
    ∙ and_from (not (shown x tables question cell))
    (lean_split key q (lean a) (lean b) (lean c) cell (piece_in key cell.keys)) closed
    (ap (lean_split key q (lean a) (lean b) (lean c) cell) found
    ∙ and_from
    (lean a (part_with key (below_of piece q) cell) && lean b (part_at key piece q cell))
    (lean c (part_with key (above_of piece q) cell))
    (and_from (lean a (part_with key (below_of piece q) cell)) (lean b (part_at key piece q cell))
    (ap (lean a) below ∙ f) (ap (lean b) at ∙ g))
    (ap (lean c) above ∙ h))

pub before_lean : (x : Rules) (tables : TableSet) (question : Question) (m : ℤ) (a c : Cert)
    (cell : Cell) (first last : ℤ) (before from : Option Cell)
    → not (shown x tables question cell) ≡ true → cell.moments ≡ Some (first, last)
    → part_through first (m -ℤ pos 1) cell ≡ before → part_through m last cell ≡ from
    → tree_lean x tables question a before ≡ true → tree_lean x tables question c from ≡ true
    → tree_lean x tables question (cert.Before m a c) (Some cell) ≡ true
unfolding lean_node
before_lean x tables question m a c cell first last before from closed found earlier later f g =
    let lean = tree_lean x tables question in
    ap (λ one. one (Some cell))
    (ap (fold-Cert Lean (lean_node x tables question)) (sym (cert.rolls-Before m a c))
    ∙ fold-roll-Cert Lean (lean_node x tables question) (Cert-F.Before m a c))
    ∙ and_from (not (shown x tables question cell))
    (lean_before m (lean a) (lean c) cell cell.moments) closed
    (ap (lean_before m (lean a) (lean c) cell) found
    ∙ and_from (lean a (part_through first (m -ℤ pos 1) cell)) (lean c (part_through m last cell))
    (ap (lean a) earlier ∙ f) (ap (lean c) later ∙ g))
