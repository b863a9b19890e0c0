-- Certificates of worked examples, node by node.
use Rattle.std.proofs.Common.{◌≡◌, ℕ, Some, Result, refl, ap}
use Rattle.exact_fraction.specs.Number.{Rational}
use Rattle.rule_types.specs.declared.rules.Rules.{Rules}
use Rattle.rule_types.specs.Tables.{TableSet}
use Rattle.rule_meaning.specs.Examples.{number, depth}
use Rattle.verdict_meaning.specs.declared.cert.Cert.TheOpen.{Cert-F}
use Rattle.verdict_meaning.specs.declared.cert.Cert.TheFolds.{fold-Cert, fold-roll-Cert}
use Rattle.verdict_meaning.specs.declared.cert.Reason.{Reason}
use Rattle.verdict_meaning.specs.declared.question.Question.{Question}
use Rattle.verdict_meaning.specs.declared.ranges.Ranges.{Ranges}
use Rattle.verdict_meaning.specs.Boxes.{first_box}
use Rattle.verdict_meaning.specs.Certificates.{Judge, Judged, NodeFault, node_judged, cert_judged}
use Rattle.verdict_meaning.specs.Certificates.{checked_cert, leaf_cause}
use Rattle.verdict_meaning.specs.Examples.{flow, gate_tree, leaf_of}
use Rattle.verdict_meaning.specs.Verdicts.{is_lean, Lean, lean_node}

abbrev leaf_node : Judge → Reason → Judged
leaf_node judge reason = node_judged judge (Cert-F.Leaf reason)

abbrev pub gate_node : Judge → Rational → Reason → Reason → Reason → Reason → Reason → Judged
gate_node judge q first second third fourth fifth =
    node_judged judge
    (Cert-F.Split (depth 0) (number 12) (leaf_node judge first) (leaf_node judge second)
    (node_judged judge
    (Cert-F.Split flow q (leaf_node judge third) (leaf_node judge fourth)
    (leaf_node judge fifth))))

leaf_judged : (judge : Judge) (reason : Reason)
    → cert_judged judge (leaf_of reason) ≡ leaf_node judge reason
unfolding cert_judged
leaf_judged judge reason = fold-roll-Cert Judged (node_judged judge) (Cert-F.Leaf reason)

gate_judged : (judge : Judge) (q : Rational) (first second third fourth fifth : Reason)
    → cert_judged judge (gate_tree q first second third fourth fifth)
    ≡ gate_node judge q first second third fourth fifth
unfolding cert_judged gate_tree
gate_judged judge q first second third fourth fifth = simp fold-roll-Cert refl

pub leaf_checked : (x : Rules) (tables : TableSet) (ranges : Ranges) (question : Question)
    (reason : Reason)
    → checked_cert x tables ranges question (leaf_of reason)
    ≡ leaf_node (leaf_cause x tables question) reason 1 (Some (first_box x question ranges)) 0
unfolding checked_cert
leaf_checked x tables ranges question reason =
    ap (λ judged. judged 1 (Some (first_box x question ranges)) 0)
    (leaf_judged (leaf_cause x tables question) reason)

pub gate_checked : (x : Rules) (tables : TableSet) (ranges : Ranges) (question : Question)
    (q : Rational) (first second third fourth fifth : Reason)
    → checked_cert x tables ranges question (gate_tree q first second third fourth fifth)
    ≡ gate_node (leaf_cause x tables question) q first second third fourth fifth 1
    (Some (first_box x question ranges)) 0
unfolding checked_cert
gate_checked x tables ranges question q first second third fourth fifth =
    ap (λ judged. judged 1 (Some (first_box x question ranges)) 0)
    (gate_judged (leaf_cause x tables question) q first second third fourth fifth)

-- ---- trees of a search
abbrev lean_leaf_node : Rules → TableSet → Question → Reason → Lean
lean_leaf_node x tables question reason = lean_node x tables question (Cert-F.Leaf reason)

abbrev pub lean_gate_node : Rules → TableSet → Question → Rational → Reason → Reason → Reason
    → Reason → Reason → Lean
lean_gate_node x tables question q first second third fourth fifth =
    let leaf = lean_leaf_node x tables question in
    lean_node x tables question
    (Cert-F.Split (depth 0) (number 12) (leaf first) (leaf second)
    (lean_node x tables question (Cert-F.Split flow q (leaf third) (leaf fourth) (leaf fifth))))

gate_is_lean : (x : Rules) (tables : TableSet) (question : Question) (q : Rational)
    (first second third fourth fifth : Reason)
    → fold-Cert Lean (lean_node x tables question) (gate_tree q first second third fourth fifth)
    ≡ lean_gate_node x tables question q first second third fourth fifth
unfolding gate_tree
gate_is_lean x tables question q first second third fourth fifth = simp fold-roll-Cert refl

pub gate_lean : (x : Rules) (tables : TableSet) (ranges : Ranges) (question : Question)
    (q : Rational) (first second third fourth fifth : Reason)
    → is_lean x tables ranges question (gate_tree q first second third fourth fifth)
    ≡ lean_gate_node x tables question q first second third fourth fifth
    (Some (first_box x question ranges))
unfolding is_lean
gate_lean x tables ranges question q first second third fourth fifth =
    ap (λ lean. lean (Some (first_box x question ranges)))
    (gate_is_lean x tables question q first second third fourth fifth)
