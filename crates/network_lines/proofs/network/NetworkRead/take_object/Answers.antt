use Rattle.std.proofs.Common.{◌≡◌, ap, subst, ◌∙◌}
use Rattle.std.specs.Prelude.{OnOk}
use Rattle.std.specs.Option.{option_or}
use Rattle.inp_text.specs.Headings.{first_of}
use Rattle.inp_text.specs.Items.{items}
use Rattle.control_lines.specs.Faults.{refusal_at}
use Rattle.control_lines.specs.Views.{texts}
use Rattle.network_lines.specs.Objects.{object_read, with_new, data_of}
use Rattle.network_lines.specs.internal.Views.{line_now}
use Rattle.network_lines.proofs.Networks.{read_kind}
use Rattle.network_lines.proofs.network.NetworkRead.take_object.Goals as goal

pub returns-clause-network : goal.returns-clause-network
returns-clause-network c =
    let network = c.args.self.now.network in
    let kind = c.args.kind in
    let bytes = c.args.found.now.line.now.bytes in
    let same = ap texts c.as_slice-2.ensures.value ∙ c.in_ok-items.ensures.value ∙ ap items c.as_slice.ensures.value in
    subst (λ read. OnOk c.take_items.result (c.take_items.new.self.network ≡ with_new network kind (first_of (items bytes)) (data_of read)))
    (read_kind network (line_now c.args.found.now) kind c.requires.kind)
    (subst (λ found. OnOk c.take_items.result (c.take_items.new.self.network ≡ with_new network kind (first_of found) (data_of (object_read network kind found (first_of found))))) same
    c.take_items.ensures.network)

pub returns-clause-refusal : goal.returns-clause-refusal
returns-clause-refusal c =
    let network = c.args.self.now.network in
    let kind = c.args.kind in
    let number = c.args.found.now.line.now.number in
    let same = ap texts c.as_slice-2.ensures.value ∙ c.in_ok-items.ensures.value ∙ ap items c.as_slice.ensures.value in
    subst (λ read. OnOk c.take_items.result (c.take_items.new.self.refusal ≡ option_or c.args.self.now.refusal (refusal_at number read)))
    (read_kind network (line_now c.args.found.now) kind c.requires.kind)
    (subst (λ found. OnOk c.take_items.result (c.take_items.new.self.refusal ≡ option_or c.args.self.now.refusal (refusal_at number (object_read network kind found (first_of found))))) same
    c.take_items.ensures.refusal)
