use Rattle.std.proofs.Common.{◌≡◌, ◌∷◌, position, get_or, drop, suc, sym, ap, ◌∙◌}
use Rattle.std.proofs.lemmas.Bool.{true≢false}
use Rattle.std.proofs.lemmas.List.Quantifiers.{position-Some}
use Rattle.std.specs.Option.{is_some}
use Rattle.table_compiler.specs.declared.table.Clause.{Clause}
use Rattle.table_compiler.specs.Clauses.{met_clause, with_clause}
use Rattle.table_compiler.specs.internal.PartPlaces.{is_met}
use Rattle.table_compiler.proofs.Entering.{clauses_past, met_there, at_end, set_there}
use Rattle.table_compiler.proofs.clauses.add_clause.Goals as goal

pub returns-in_default : goal.returns-in_default
returns-in_default c =
    let clause = c.args.clause in
    let none = sym (c.in_default.ensures ∙ ap (position (λ held. is_met held c.args.clause)) c.deref.ensures.value) in
    c.in_ok-push.ensures.items
    ∙ sym (at_end (λ held. is_met held clause) clause (λ clauses. with_clause clauses clause) (clauses_past clause) c.args.clauses.now.items none)

pub returns-in-Some-2 : goal.returns-in-Some-2
returns-in-Some-2 c =
    let clause = c.args.clause in
    let xs = c.args.clauses.now.items in
    let held : c.index.result.now ≡ get_or c.args.clauses.now.items c.in-Some.at c.index.result.now = c.index.ensures in
    let place = sym (c.in-Some.ensures ∙ ap (position (λ one. is_met one c.args.clause)) c.deref.ensures.value) in
    let met = ap (λ (o : Clause). met_clause o c.args.clause) (sym held) ∙ sym c.in_ok-part.ensures ∙ c.in-Some-2.is in
    sym (set_there (λ one. is_met one clause) clause c.in_ok-one.one (λ clauses. with_clause clauses clause) (clauses_past clause) xs c.in-Some.at c.index.result.now place
    (met_there (get_or xs c.in-Some.at c.index.result.now) clause c.in-Some-2.part (drop (suc c.in-Some.at) xs) met
    ∙ ap (λ (o : Clause). o ∷ drop (suc c.in-Some.at) c.args.clauses.now.items) (sym c.in_ok-one.ensures)))

pub returns : goal.returns
returns c =
    let held : c.index.result.now ≡ get_or c.args.clauses.now.items c.in-Some.at c.index.result.now = c.index.ensures in
    let place = sym (c.in-Some.ensures ∙ ap (position (λ one. is_met one c.args.clause)) c.deref.ensures.value) in
    let met = ap (λ (o : Clause). met_clause o c.args.clause) (sym held) ∙ sym c.in_ok-part.ensures ∙ c.in_default-2.is in
    let stops = (position-Some (λ one. is_met one c.args.clause) c.args.clauses.now.items c.in-Some.at c.index.result.now place).1 in
    absurd (true≢false (sym stops ∙ ap is_some met))
