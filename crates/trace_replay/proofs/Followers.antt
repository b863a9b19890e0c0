-- Rows that can follow what a replay keeps.
use Rattle.std.proofs.Common.{◌≡◌, Option, Some, None, List, [], ◌∷◌, refl, subst, ◌∙◌, ℤ, ◌<ℤ◌}
use Rattle.std.proofs.lemmas.Option.{none-some, same_Some}
use Rattle.std.specs.Prelude.{slice_get}
use Rattle.rule_types.specs.declared.row.Row.{Row}
use Rattle.rule_types.specs.declared.rules.Rules.{Rules}
use Rattle.rule_types.specs.declared.stop.Stop.{Stop}
use Rattle.rule_types.specs.Tables.{TableSet}
use Rattle.rule_meaning.specs.Reading.{Choice}
use Rattle.rule_meaning.specs.Replay.{replayed_by, last_moment}
use Rattle.replay_meaning.specs.Kept.{Kept, first_kept, after_row, kept_by, kept_after}
use Rattle.replay_meaning.specs.Standing.{CanReplay, CanFollow}
use Rattle.replay_meaning.proofs.PublicLaws.{standing-first, standing-with}
use Rattle.trace_replay.specs.Following.{StandsForRows, IsNextRow}

pub at_first : (choice : Choice) (x : Rules) (tables : TableSet) → CanReplay choice x tables → StandsForRows choice x tables (first_kept x)
at_first choice x tables ready = record {
  rules = ready;
  rows = [];
  stands = standing-first choice x tables;
  fits = tt;
}

after_by : (choice : Choice) (x : Rules) (tables : TableSet) (k : Kept) (row : Row) (stop : Option Stop) → k.stop ≡ stop → CanFollow choice x tables k row
    → StandsForRows choice x tables (kept_by stop k (after_row choice x tables k row))
after_by choice x tables k row None is h = record {
  rules = h.rules;
  rows = row ∷ h.rows;
  stands = standing-with choice x tables k h.rows row h.rules.formed is h.stands;
  fits = h.fits;
}
after_by choice x tables k row (Some stop) is h = record {
  rules = h.rules;
  rows = h.rows;
  stands = h.stands;
  fits = h.fits.1;
}

pub after_any : (choice : Choice) (x : Rules) (tables : TableSet) (k : Kept) (row : Row) → CanFollow choice x tables k row
    → StandsForRows choice x tables (kept_after choice x tables k row)
after_any choice x tables k row h = after_by choice x tables k row k.stop refl h

later_than : (choice : Choice) (x : Rules) (tables : TableSet) (rows : List Row) (row last : Row)
    → ((before : ℤ) → last_moment (replayed_by choice x tables rows) ≡ Some before → before <ℤ row.moment)
    → slice_get rows 0 ≡ Some last → last.moment <ℤ row.moment
later_than choice x tables [] row last later is = absurd (none-some last is)
later_than choice x tables (first ∷ rows) row last later is =
    subst (λ (r : Row). r.moment <ℤ row.moment) (same_Some first last is) (later first.moment refl)

pub can_come : (choice : Choice) (x : Rules) (tables : TableSet) (k : Kept) (row : Row) → StandsForRows choice x tables k → IsNextRow x k.last row
    → CanFollow choice x tables k row
can_come choice x tables k row h next = record {
  rules = h.rules;
  rows = h.rows;
  stands = h.stands;
  fits = (
    record {
      inputs = next.inputs;
      moment = next.moment;
      started = next.started;
      rising = λ last is.
          later_than choice x tables h.rows row last (λ before there. next.later before (h.stands.last ∙ there)) is;
    },
    h.fits,
  );
}
