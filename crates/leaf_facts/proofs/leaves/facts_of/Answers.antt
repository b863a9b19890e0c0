use Rattle.std.proofs.Common.{◌≡◌, true, [], sym, subst, ◌∙◌}
use Rattle.verdict_meaning.specs.Shown.{shown_by}
use Rattle.verdict_meaning.specs.Verdicts.{is_leaf, none_spare}
use Rattle.leaf_facts.specs.internal.FewerFacts.{AreFacts}
use Rattle.leaf_facts.proofs.Accepted.{leaf_is, leaf_lean}
use Rattle.leaf_facts.proofs.AllFacts.{all_are_facts}
use Rattle.leaf_facts.proofs.ShownAlone.{shown_alone}
use Rattle.leaf_facts.proofs.leaves.facts_of.Goals as goal

pub lean-requires-clause-fits : goal.lean-requires-clause-fits
lean-requires-clause-fits c =
    subst (AreFacts c.args.rules.now c.args.question.now c.args.cell.now)
    (sym (c.deref.ensures.value ∙ c.in_ok-told.ensures.value))
    (all_are_facts c.args.rules.now c.args.question.now c.args.cell.now)

pub lean-requires-clause-accepted : goal.lean-requires-clause-accepted
lean-requires-clause-accepted c =
    subst
    (λ facts.
    shown_by c.args.rules.now c.args.tables.now c.args.question.now c.args.cell.now facts ≡ true)
    (sym (c.deref.ensures.value ∙ c.in_ok-told.ensures.value))
    (shown_alone c.args.rules.now c.args.tables.now c.args.question.now c.args.cell.now
    c.requires.shown)

pub returns-clause-accepted : goal.returns-clause-accepted
returns-clause-accepted c =
    subst
    (λ facts.
    is_leaf c.args.rules.now c.args.tables.now c.args.question.now c.args.cell.now facts ≡ true)
    (sym c.from_vec.ensures.value)
    (leaf_is c.args.rules.now c.args.tables.now c.args.question.now c.args.cell.now
    c.in_ok-kept.kept.items c.in_ok-kept.ensures.fits c.in_ok-kept.ensures.accepted)

pub returns-clause-lean : goal.returns-clause-lean
returns-clause-lean c =
    subst
    (λ facts.
    none_spare (is_leaf c.args.rules.now c.args.tables.now c.args.question.now c.args.cell.now) []
    facts ≡ true)
    (sym c.from_vec.ensures.value)
    (leaf_lean c.args.rules.now c.args.tables.now c.args.question.now c.args.cell.now
    c.in_ok-kept.kept.items c.in_ok-kept.ensures.none_spare)
