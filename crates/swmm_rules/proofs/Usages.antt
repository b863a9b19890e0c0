-- What a run leaves whose words are no command.
use Rattle.std.proofs.Common.{inl, inr, ℕ, List, [], Option, refl, sym, subst, arith}
use Rattle.byte_edge.proofs.PublicLaws.{written_bytes-nothing, written_bytes-prefix}
use Rattle.command_outputs.specs.Outcomes.{usage_outcome}
use Rattle.command_outputs.specs.Runs.{Leaves, Says, Counts}
use Rattle.command_outputs.specs.Steps.{Tells}
use Rattle.command_outputs.specs.declared.status.Status.{Status}
use Rattle.command_outputs.specs.declared.status.Status.TheVariants.{Usage}

pub usage_leaves : (usage : List ℕ) (second : Option (List ℕ)) (left : ℕ → Option (List ℕ))
    (was ew en : Option (List ℕ)) (of fw fn : ℕ) (result : Status)
    → Tells usage ew en fw fn Usage result
    → Leaves (usage_outcome usage) second left was was ew en of of fw fn result
usage_leaves usage second left was ew en of fw fn result (inl said) =
    let P : Status → Type 0 =
    λ s. Leaves (usage_outcome usage) second left was was ew en of of fw fn s in
    subst P (sym said.0) (record {
      status = refl;
      output = written_bytes-nothing was;
      message = said.1;
      at_end = λ k below. absurd (omega (arith, below));
    })
usage_leaves usage second left was ew en of fw fn result (inr cut) =
    let P : Status → Type 0 =
    λ s. Leaves (usage_outcome usage) second left was was ew en of of fw fn s in
    subst P (sym cut.0) (record {
      prefix = written_bytes-prefix was was [] [] (written_bytes-nothing was);
      cause = inr (inl cut.2);
    })

pub usage_says : (usage : List ℕ) (faults : ℕ → ℕ) (ew en : Option (List ℕ)) (of fw fn : ℕ)
    (result : Status) → Tells usage ew en fw fn Usage result
    → Says usage [] faults faults of of fw fn ew en result
usage_says usage faults ew en of fw fn result (inl said) =
    let P : Status → Type 0 = λ s. Says usage [] faults faults of of fw fn ew en s in
    subst P (sym said.0) said.1
usage_says usage faults ew en of fw fn result (inr cut) =
    let P : Status → Type 0 = λ s. Says usage [] faults faults of of fw fn ew en s in
    subst P (sym cut.0) (inr (inr (cut.2, (usage, inl refl, cut.1))))

pub usage_counts : (usage : List ℕ) (faults : ℕ → ℕ) (ew en : Option (List ℕ)) (of fw fn : ℕ)
    (result : Status) → Tells usage ew en fw fn Usage result
    → Counts [] faults faults of of fw fn result
usage_counts usage faults ew en of fw fn result (inl said) =
    let P : Status → Type 0 = λ s. Counts [] faults faults of of fw fn s in
    subst P (sym said.0) (record { files = λ k. refl; out = refl; err = said.2 })
usage_counts usage faults ew en of fw fn result (inr cut) =
    let P : Status → Type 0 = λ s. Counts [] faults faults of of fw fn s in
    subst P (sym cut.0) (inr (inr cut.2))
