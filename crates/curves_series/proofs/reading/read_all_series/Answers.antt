use Rattle.std.proofs.Common.{rules, ◌<◌, ◌≤◌, [], false, length, refl, ◌∙◌, arith}
use Rattle.std.proofs.lemmas.List.{get_or_default}
use Rattle.rule_types.specs.Tables.{IsPointList}
use Rattle.curves_series.specs.Reading.{series_read}
use Rattle.curves_series.specs.internal.Views.{groups_now}
use Rattle.curves_series.proofs.GroupPuts.{groups_many}
use Rattle.curves_series.proofs.HeldTables.{read_none, read_more, held_end, refusal_end, series_found}
use Rattle.curves_series.proofs.reading.read_all_series.Goals as goal

pub loop-at-init : goal.loop-at-init
loop-at-init c = read_none _ _ _ _ _ c.new-read.ensures.held c.new-read.ensures.refusal

pub loop-at-preserved : goal.loop-at-preserved
loop-at-preserved c =
    let g = c.args.groups.now in
    let l = c.loop-at in
    let within : l.at < length g.tables.items = search rules in
    let many = groups_many g c.requires.even in
    let marks = c.in_ok-marks.marks.items in
    let named : l.at < length g.names = omega (arith, within, c.requires.even) in
    let marked : l.at < length marks = omega (arith, named, c.in_ok-marks.ensures.length) in
    let used =
    c.index-used.ensures ∙ get_or_default marks l.at _ false marked
    ∙ c.in_ok-marks.ensures.value l.at named in
    let added = c.in_ok-add_series_at.ensures.added in
    let found = series_found g c.args.controls.now l.at _ _ c.requires.even used refl in
    read_more (series_read c.args.controls.now (groups_now g)) (λ table. IsPointList table.points)
    (groups_now g) l.at (record { name = []; lines = [] }) l.read.held.items _ l.read.refusal _ _
    (omega (arith, within, many)) found added.points added.held added.refusal l.invariant

pub returns-clause-held : goal.returns-clause-held
returns-clause-held c =
    let g = c.args.groups.now in
    let past : length g.tables.items ≤ c.loop-at.at = search rules in
    held_end _ _ _ _ _ _ (omega (arith, past, groups_many g c.requires.even)) c.loop-at.invariant

pub returns-clause-refusal : goal.returns-clause-refusal
returns-clause-refusal c =
    let g = c.args.groups.now in
    let past : length g.tables.items ≤ c.loop-at.at = search rules in
    refusal_end _ _ _ _ _ _ (omega (arith, past, groups_many g c.requires.even))
    c.loop-at.invariant
