use Rattle.std.proofs.Common.{ℕ, refl, List, [], ◌++◌, Option, Some, None}
use Rattle.std.specs.Prelude.{IfSome}
use Rattle.num_text.specs.Numbers.{without_end_zeros}
use Rattle.num_text.specs.internal.Significands.{IsHeld}
use Rattle.num_text.specs.declared.narrow.NarrowSignificand.{NarrowSignificand}
use Rattle.num_text.proofs.narrow.NarrowSignificand.of.Goals as goal

none : IsHeld 0 0 []
unfolding without_end_zeros
none = record { number = refl; zeros = refl }

-- what holds behind any digits holds behind these
behind : (front back : List ℕ) (P : NarrowSignificand → List ℕ → Type 0) (found : Option NarrowSignificand) → IfSome found (λ s. (digits : List ℕ) → P s digits → IsHeld s.number s.zeros (digits ++ back)) → ((s : NarrowSignificand) → P s front) → IfSome found (λ s. IsHeld s.number s.zeros (front ++ back))
behind front back P None known here = tt
behind front back P (Some s) known here = known front (here s)

pub returns : goal.returns
returns c = record {
  held = behind c.args.whole.now c.args.behind.now (λ s digits. IsHeld c.in_ok-front.front.number c.in_ok-front.front.zeros digits)
      c.with_digits-2.result c.with_digits-2.ensures.held (λ s. c.in_ok-front.ensures.held [] none);
}
