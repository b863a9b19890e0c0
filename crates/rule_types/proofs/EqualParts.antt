-- `==` of options tells exactly whether two are equal, where `==` of what they hold does.
use Rattle.std.specs.Prelude.{Bool, ◌≡◌, Option, Some, None}
use Rattle.std.specs.Bool.{Decides}
use Rattle.std.specs.Option.{option_eq}
use Rattle.std.proofs.Common.{ap, rules}
use Rattle.std.proofs.lemmas.Bool.Decides.{Decides-like}

pub Option-sames : {A : Type 0} {E : A → A → Bool} → ((a b : A) → Decides (E a b) (a ≡ b)) → (a b : Option A) → Decides (option_eq E a b) (a ≡ b)
Option-sames same None None = search rules
Option-sames same None (Some b) = search rules
Option-sames same (Some a) None = search rules
Option-sames same (Some a) (Some b) = Decides-like _ (ap Some) (λ e. cc) (same a b)
