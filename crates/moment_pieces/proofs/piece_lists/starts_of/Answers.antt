use Rattle.std.proofs.Common.{◌≡◌, ◌%◌, not, subst}
use Rattle.std.specs.List.{filter}
use Rattle.std.specs.Prelude.{◌&&◌, nat_le}
use Rattle.moment_pieces.specs.internal.Spans.{run_scale}
use Rattle.moment_pieces.specs.internal.Turns.{stands_in, Adds, used_turn}
use Rattle.moment_pieces.proofs.Collected.{starts_are}
use Rattle.moment_pieces.proofs.piece_lists.starts_of.Goals as goal

pub returns : goal.returns
returns c =
    let scale : Adds c.new-set.result.keys c.put_used.new.set.keys (λ m. used_turn c.args.rules.now c.args.used.now (run_scale c.args.hours.now c.args.span.now) m && nat_le m c.args.span.now.last) =
    subst (λ s. Adds c.new-set.result.keys c.put_used.new.set.keys (λ m. used_turn c.args.rules.now c.args.used.now s m && nat_le m s.limit)) c.run_scale-scale.ensures.value c.in_ok-put_used.ensures.adds in
    let all = subst (λ keys. Adds keys c.put_used.new.set.keys (λ m. used_turn c.args.rules.now c.args.used.now (run_scale c.args.hours.now c.args.span.now) m && nat_le m c.args.span.now.last)) c.new-set.ensures.empty scale in
    let items = subst (λ list. c.in_ok-singles.singles.items ≡ filter (λ m. not (stands_in list (m % 86400))) c.put_used.new.set.keys) c.deref.ensures.value c.in_ok-singles.ensures.items in
    record {
      starts = starts_are c.args.rules.now c.args.used.now c.args.hours.now c.args.span.now c.put_used.new.set.keys _ c.in_ok-daily.ensures.daily all c.in_ok-singles.ensures.rising items;
    }
