use Rattle.std.proofs.Common.{◌≡◌, position, get_or, drop, suc, sym, ap, ◌∙◌}
use Rattle.std.proofs.lemmas.List.Quantifiers.{position-Some}
use Rattle.table_compiler.specs.declared.part.Part.{Part}
use Rattle.table_compiler.specs.Parts.{united_part, with_part}
use Rattle.table_compiler.specs.internal.PartPlaces.{is_past}
use Rattle.table_compiler.proofs.Entering.{parts_past, united_there, before_there, at_end, set_there, insert_there}
use Rattle.table_compiler.proofs.part_lists.add_part.Goals as goal

pub returns-in_default : goal.returns-in_default
returns-in_default c =
    let part = c.args.part in
    let none = sym (c.in_default.ensures ∙ ap (position (λ held. is_past held c.args.part)) c.deref.ensures.value) in
    c.in_ok-push.ensures.items
    ∙ sym (at_end (λ held. is_past held part) part (λ parts. with_part parts part) (parts_past part) c.args.parts.now.items none)

pub returns-in-Some-2 : goal.returns-in-Some-2
returns-in-Some-2 c =
    let part = c.args.part in
    let xs = c.args.parts.now.items in
    let held : c.index.result.now ≡ get_or c.args.parts.now.items c.in-Some.at c.index.result.now = c.index.ensures in
    let place = sym (c.in-Some.ensures ∙ ap (position (λ one. is_past one c.args.part)) c.deref.ensures.value) in
    let united = ap (λ (p : Part). united_part p c.args.part) (sym held) ∙ sym c.in_ok-one.ensures ∙ c.in-Some-2.is in
    sym (set_there (λ one. is_past one part) part c.in-Some-2.one (λ parts. with_part parts part) (parts_past part) xs c.in-Some.at c.index.result.now place
    (united_there (get_or xs c.in-Some.at c.index.result.now) part c.in-Some-2.one (drop (suc c.in-Some.at) xs) united))

pub returns : goal.returns
returns c =
    let part = c.args.part in
    let xs = c.args.parts.now.items in
    let held : c.index.result.now ≡ get_or c.args.parts.now.items c.in-Some.at c.index.result.now = c.index.ensures in
    let place = sym (c.in-Some.ensures ∙ ap (position (λ one. is_past one c.args.part)) c.deref.ensures.value) in
    let united = ap (λ (p : Part). united_part p c.args.part) (sym held) ∙ sym c.in_ok-one.ensures ∙ c.in_default-2.is in
    let past = (position-Some (λ one. is_past one c.args.part) c.args.parts.now.items c.in-Some.at c.index.result.now place).1 in
    c.in_ok-insert.ensures.items
    ∙ sym (insert_there (λ one. is_past one part) part (λ parts. with_part parts part) (parts_past part) xs c.in-Some.at c.index.result.now place
    (before_there (get_or xs c.in-Some.at c.index.result.now) part (drop (suc c.in-Some.at) xs) united past))
