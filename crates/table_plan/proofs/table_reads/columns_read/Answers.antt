use Rattle.std.proofs.Common.{◌==◌, ℕ, List, IsTrue, All, subst}
use Rattle.std.specs.List.{list_any}
use Rattle.std.proofs.lemmas.List.Sorted.{IsPermutation-sym, All-permutation}
use Rattle.table_plan.proofs.table_reads.columns_read.Goals as goal

pub returns : goal.returns
returns c =
    let Listed : ℕ → Type 0 = λ column. IsTrue (list_any (λ k. k == column) c.in_ok-read.read.items) in
    let P : List ℕ → Type 0 = λ xs. All Listed xs in
    subst P c.in_ok-columns.ensures
    (All-permutation Listed c.sort_unstable.new.self.items c.in_ok-columns.columns.items
    (IsPermutation-sym c.in_ok-columns.columns.items c.sort_unstable.new.self.items c.sort_unstable.ensures.permutation)
    (subst P c.as_slice.ensures.value c.in_ok-read.ensures))
