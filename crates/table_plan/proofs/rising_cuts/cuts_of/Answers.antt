use Rattle.std.proofs.Common.{◌≡◌, List, sym, subst, rules, All}
use Rattle.std.proofs.lemmas.Fn.{always_returns_same}
use Rattle.std.proofs.lemmas.List.Sorted.{IsPermutation-sym, All-permutation, Contains-permutation}
use Rattle.std.proofs.lemmas.List.Elements.{All-weaker}
use Rattle.std.specs.List.{Contains}
use Rattle.std.specs.List.Sorted.{IsSortedBy}
use Rattle.std.specs.Ordering.{is_lt}
use Rattle.exact_fraction.specs.Number.{Rational}
use Rattle.exact_fraction.specs.Order.{less}
use Rattle.table_plan.specs.Pieces.{IsCut}
use Rattle.table_plan.proofs.PieceOrder.{less_compares}
use Rattle.table_plan.proofs.CutLists.{weak_order}
use Rattle.table_plan.proofs.rising_cuts.cuts_of.Goals as goal

pub without_repeats-requires : goal.without_repeats-requires
without_repeats-requires c =
    let P : List Rational → Type 0 = λ xs. IsSortedBy less xs in
    subst P (sym c.as_slice.ensures.value)
    (c.sort_unstable_by.ensures.sorted less weak_order
    (always_returns_same _ (λ a r. is_lt r ≡ less a.0.now a.1.0.now) _ (λ a r q k. search (rules, less_compares))))

pub returns-clause-cuts : goal.returns-clause-cuts
returns-clause-cuts c =
    let cuts = c.in_ok-cuts.cuts.items in
    let P : List Rational → Type 0 = λ xs. All (IsCut c.in_ok-cuts.cuts.items) xs in
    let Q : List Rational → Type 0 = λ all. All (IsCut all) c.args.ends.now in
    subst Q (sym c.new.ensures.value)
    (subst P c.in_ok-sorted.ensures.items
    (All-permutation (IsCut c.in_ok-cuts.cuts.items) c.sort_unstable_by.new.self.items c.in_ok-sorted.sorted.items
    (IsPermutation-sym c.in_ok-sorted.sorted.items c.sort_unstable_by.new.self.items c.sort_unstable_by.ensures.permutation)
    (subst P c.as_slice.ensures.value c.in_ok-cuts.ensures.cuts)))

pub returns-clause-from : goal.returns-clause-from
returns-clause-from c =
    let P : List Rational → Type 0 = λ xs. All (Contains xs) c.in_ok-cuts.cuts.items in
    let Q : List Rational → Type 0 = λ all. All (Contains c.args.ends.now) all in
    subst Q (sym c.new.ensures.value)
    (subst P c.in_ok-sorted.ensures.items
    (All-weaker (Contains c.sort_unstable_by.new.self.items) (Contains c.in_ok-sorted.sorted.items)
    (λ p h. Contains-permutation c.sort_unstable_by.new.self.items c.in_ok-sorted.sorted.items p (IsPermutation-sym c.in_ok-sorted.sorted.items c.sort_unstable_by.new.self.items c.sort_unstable_by.ensures.permutation) h)
    c.in_ok-cuts.cuts.items (subst P c.as_slice.ensures.value c.in_ok-cuts.ensures.from)))
