use Rattle.std.proofs.Common.{◌%◌, subst}
use Rattle.moment_pieces.specs.internal.Turns.{stands_in}
use Rattle.moment_pieces.specs.internal.Starts.{begins, IsNext, IsLast}
use Rattle.moment_pieces.proofs.Counting.{next_alone, next_sooner}
use Rattle.moment_pieces.proofs.starts.Starts.next_after.Goals as goal

pub returns-in-None : goal.returns-in-None
unfolding begins
returns-in-None c =
    let daily : IsNext (λ m. stands_in c.args.self.now.daily.items (m % 86400)) c.args.at c.next_daily-next.result = subst (λ list. IsNext (λ m. stands_in list (m % 86400)) c.args.at c.next_daily-next.result) c.deref.ensures.value c.next_daily-next.ensures.value in
    let last : IsLast (stands_in c.args.self.now.singles.items) c.args.at = subst (λ list. IsLast (stands_in list) c.args.at) c.deref-2.ensures.value c.in-None.ensures.value in
    record {
      value =
          next_alone (λ m. stands_in c.args.self.now.daily.items (m % 86400)) (stands_in c.args.self.now.singles.items)
          c.args.at c.next_daily-next.result daily last;
    }

pub returns-in-Some : goal.returns-in-Some
unfolding begins
returns-in-Some c =
    let daily : IsNext (λ m. stands_in c.args.self.now.daily.items (m % 86400)) c.args.at c.next_daily-next.result = subst (λ list. IsNext (λ m. stands_in list (m % 86400)) c.args.at c.next_daily-next.result) c.deref.ensures.value c.next_daily-next.ensures.value in
    let single : IsNext (stands_in c.args.self.now.singles.items) c.args.at c.in-Some.single = subst (λ list. IsNext (stands_in list) c.args.at c.in-Some.single) c.deref-2.ensures.value c.in-Some.ensures.value in
    record {
      value =
          rw c.sooner_of.ensures.value
          (next_sooner (λ m. stands_in c.args.self.now.daily.items (m % 86400)) (stands_in c.args.self.now.singles.items)
          c.args.at c.next_daily-next.result c.in-Some.single daily single);
    }
