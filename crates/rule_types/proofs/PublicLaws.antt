-- What the crates above may cite: each term is the proof of one clause of `laws`, and is named
-- LAW-CLAUSE after it.
use Rattle.std.specs.Prelude.{◌≡◌}
use Rattle.std.specs.Bool.{Decides}
use Rattle.rule_types.proofs.Equal.{Space-sames, ObjectKind-sames, ObjectWord-sames, ObjectNo-sames, Attr-sames, ClockAttr-sames, Key-sames, Side-sames, Right-sames, Condition-sames, CurveNo-sames, SeriesNo-sames, PidSet-sames, What-sames, Action-sames, Branch-sames, ActionAt-sames, PidMemory-sames, LinkState-sames, State-sames, Row-sames, Point-sames, Order-sames, StopCause-sames, StopPlace-sames, Stop-sames, ReadingEnd-sames, RowStop-sames, Cause-sames, Refusal-sames, ReadFault-sames, AddFault-sames}
use Rattle.rule_types.specs.declared.object.Space.{Space}
use Rattle.rule_types.specs.contracts.object.SpacePartialEq.TheImpl as SpaceEq
use Rattle.rule_types.specs.declared.object.ObjectKind.{ObjectKind}
use Rattle.rule_types.specs.contracts.object.ObjectKindPartialEq.TheImpl as ObjectKindEq
use Rattle.rule_types.specs.declared.object.ObjectWord.{ObjectWord}
use Rattle.rule_types.specs.contracts.object.ObjectWordPartialEq.TheImpl as ObjectWordEq
use Rattle.rule_types.specs.declared.object.ObjectNo.{ObjectNo}
use Rattle.rule_types.specs.contracts.object.ObjectNoPartialEq.TheImpl as ObjectNoEq
use Rattle.rule_types.specs.declared.key.Attr.{Attr}
use Rattle.rule_types.specs.contracts.key.AttrPartialEq.TheImpl as AttrEq
use Rattle.rule_types.specs.declared.key.ClockAttr.{ClockAttr}
use Rattle.rule_types.specs.contracts.key.ClockAttrPartialEq.TheImpl as ClockAttrEq
use Rattle.rule_types.specs.declared.key.Key.{Key}
use Rattle.rule_types.specs.contracts.key.KeyPartialEq.TheImpl as KeyEq
use Rattle.rule_types.specs.declared.condition.Side.{Side}
use Rattle.rule_types.specs.contracts.condition.SidePartialEq.TheImpl as SideEq
use Rattle.rule_types.specs.declared.condition.Right.{Right}
use Rattle.rule_types.specs.contracts.condition.RightPartialEq.TheImpl as RightEq
use Rattle.rule_types.specs.declared.condition.Condition.{Condition}
use Rattle.rule_types.specs.contracts.condition.ConditionPartialEq.TheImpl as ConditionEq
use Rattle.rule_types.specs.declared.action.CurveNo.{CurveNo}
use Rattle.rule_types.specs.contracts.action.CurveNoPartialEq.TheImpl as CurveNoEq
use Rattle.rule_types.specs.declared.action.SeriesNo.{SeriesNo}
use Rattle.rule_types.specs.contracts.action.SeriesNoPartialEq.TheImpl as SeriesNoEq
use Rattle.rule_types.specs.declared.action.PidSet.{PidSet}
use Rattle.rule_types.specs.contracts.action.PidSetPartialEq.TheImpl as PidSetEq
use Rattle.rule_types.specs.declared.action.What.{What}
use Rattle.rule_types.specs.contracts.action.WhatPartialEq.TheImpl as WhatEq
use Rattle.rule_types.specs.declared.action.Action.{Action}
use Rattle.rule_types.specs.contracts.action.ActionPartialEq.TheImpl as ActionEq
use Rattle.rule_types.specs.declared.action.Branch.{Branch}
use Rattle.rule_types.specs.contracts.action.BranchPartialEq.TheImpl as BranchEq
use Rattle.rule_types.specs.declared.action.ActionAt.{ActionAt}
use Rattle.rule_types.specs.contracts.action.ActionAtPartialEq.TheImpl as ActionAtEq
use Rattle.rule_types.specs.declared.action.PidMemory.{PidMemory}
use Rattle.rule_types.specs.contracts.action.PidMemoryPartialEq.TheImpl as PidMemoryEq
use Rattle.rule_types.specs.declared.state.LinkState.{LinkState}
use Rattle.rule_types.specs.contracts.state.LinkStatePartialEq.TheImpl as LinkStateEq
use Rattle.rule_types.specs.declared.state.State.{State}
use Rattle.rule_types.specs.contracts.state.StatePartialEq.TheImpl as StateEq
use Rattle.rule_types.specs.declared.action.Order.{Order}
use Rattle.rule_types.specs.contracts.action.OrderPartialEq.TheImpl as OrderEq
use Rattle.rule_types.specs.declared.row.Row.{Row}
use Rattle.rule_types.specs.contracts.row.RowPartialEq.TheImpl as RowEq
use Rattle.rule_types.specs.declared.table.Point.{Point}
use Rattle.rule_types.specs.contracts.table.PointPartialEq.TheImpl as PointEq
use Rattle.rule_types.specs.declared.stop.StopCause.{StopCause}
use Rattle.rule_types.specs.contracts.stop.StopCausePartialEq.TheImpl as StopCauseEq
use Rattle.rule_types.specs.declared.stop.StopPlace.{StopPlace}
use Rattle.rule_types.specs.contracts.stop.StopPlacePartialEq.TheImpl as StopPlaceEq
use Rattle.rule_types.specs.declared.stop.Stop.{Stop}
use Rattle.rule_types.specs.contracts.stop.StopPartialEq.TheImpl as StopEq
use Rattle.rule_types.specs.declared.stop.ReadingEnd.{ReadingEnd}
use Rattle.rule_types.specs.contracts.stop.ReadingEndPartialEq.TheImpl as ReadingEndEq
use Rattle.rule_types.specs.declared.stop.RowStop.{RowStop}
use Rattle.rule_types.specs.contracts.stop.RowStopPartialEq.TheImpl as RowStopEq
use Rattle.rule_types.specs.declared.refusal.Cause.{Cause}
use Rattle.rule_types.specs.contracts.refusal.CausePartialEq.TheImpl as CauseEq
use Rattle.rule_types.specs.declared.refusal.Refusal.{Refusal}
use Rattle.rule_types.specs.contracts.refusal.RefusalPartialEq.TheImpl as RefusalEq
use Rattle.rule_types.specs.declared.refusal.ReadFault.{ReadFault}
use Rattle.rule_types.specs.contracts.refusal.ReadFaultPartialEq.TheImpl as ReadFaultEq
use Rattle.rule_types.specs.declared.refusal.AddFault.{AddFault}
use Rattle.rule_types.specs.contracts.refusal.AddFaultPartialEq.TheImpl as AddFaultEq
pub use Rattle.rule_types.proofs.Opened.{orders_of as opened-orders, times_of as opened-times}
pub use Rattle.rule_types.proofs.Opened.{lists_of as opened-lists}
pub use Rattle.rule_types.proofs.Opened.{numbers_of as opened-pid_places}
pub use Rattle.rule_types.proofs.Refusals.{by_line as refusals-by_line, by_cause as refusals-by_cause}
pub use Rattle.rule_types.proofs.Refusals.{transitive as refusals-transitive}
pub use Rattle.rule_types.proofs.Refusals.{irreflexive as refusals-irreflexive}
pub use Rattle.rule_types.proofs.Refusals.{tied as refusals-tied, least as refusals-least}
pub use Rattle.rule_types.proofs.Refusals.{first_lower as refusals-first}
pub use Rattle.rule_types.proofs.Refusals.{second_lower as refusals-second}
pub use Rattle.rule_types.proofs.Refusals.{associative as refusals-associative}
pub use Rattle.rule_types.proofs.Refusals.{earlier_none as refusals-none}
pub use Rattle.rule_types.proofs.Refusals.{earlier_alone as refusals-alone}
pub use Rattle.rule_types.proofs.Refusals.{earlier_both as refusals-both}
pub use Rattle.rule_types.proofs.Refusals.{neither as refusals-neither}
pub use Rattle.rule_types.proofs.Refusals.{earlier_associative as refusals-in_any_order}
pub use Rattle.rule_types.proofs.Fitting.{half_step as fitting-half_step}
pub use Rattle.rule_types.proofs.Fitting.{actions_counted as fitting-actions}
pub use Rattle.rule_types.proofs.Fitting.{same_sizes as fitting-sizes}
pub use Rattle.rule_types.proofs.Fitting.{pids_counted as fitting-counted}
pub use Rattle.rule_types.proofs.Fitting.{actions_ready as fitting-ready}

pub equal_keys-space : (a b : Space) → Decides (SpaceEq.eq-value.it a b) (a ≡ b)
equal_keys-space = Space-sames

pub equal_keys-object_kind : (a b : ObjectKind) → Decides (ObjectKindEq.eq-value.it a b) (a ≡ b)
equal_keys-object_kind = ObjectKind-sames

pub equal_keys-object_word : (a b : ObjectWord) → Decides (ObjectWordEq.eq-value.it a b) (a ≡ b)
equal_keys-object_word = ObjectWord-sames

pub equal_keys-object_no : (a b : ObjectNo) → Decides (ObjectNoEq.eq-value.it a b) (a ≡ b)
equal_keys-object_no = ObjectNo-sames

pub equal_keys-attr : (a b : Attr) → Decides (AttrEq.eq-value.it a b) (a ≡ b)
equal_keys-attr = Attr-sames

pub equal_keys-clock_attr : (a b : ClockAttr) → Decides (ClockAttrEq.eq-value.it a b) (a ≡ b)
equal_keys-clock_attr = ClockAttr-sames

pub equal_keys-key : (a b : Key) → Decides (KeyEq.eq-value.it a b) (a ≡ b)
equal_keys-key = Key-sames

pub equal_rules-side : (a b : Side) → Decides (SideEq.eq-value.it a b) (a ≡ b)
equal_rules-side = Side-sames

pub equal_rules-right : (a b : Right) → Decides (RightEq.eq-value.it a b) (a ≡ b)
equal_rules-right = Right-sames

pub equal_rules-condition : (a b : Condition) → Decides (ConditionEq.eq-value.it a b) (a ≡ b)
equal_rules-condition = Condition-sames

pub equal_rules-curve_no : (a b : CurveNo) → Decides (CurveNoEq.eq-value.it a b) (a ≡ b)
equal_rules-curve_no = CurveNo-sames

pub equal_rules-series_no : (a b : SeriesNo) → Decides (SeriesNoEq.eq-value.it a b) (a ≡ b)
equal_rules-series_no = SeriesNo-sames

pub equal_rules-pid_set : (a b : PidSet) → Decides (PidSetEq.eq-value.it a b) (a ≡ b)
equal_rules-pid_set = PidSet-sames

pub equal_rules-what : (a b : What) → Decides (WhatEq.eq-value.it a b) (a ≡ b)
equal_rules-what = What-sames

pub equal_rules-action : (a b : Action) → Decides (ActionEq.eq-value.it a b) (a ≡ b)
equal_rules-action = Action-sames

pub equal_rules-branch : (a b : Branch) → Decides (BranchEq.eq-value.it a b) (a ≡ b)
equal_rules-branch = Branch-sames

pub equal_rules-action_at : (a b : ActionAt) → Decides (ActionAtEq.eq-value.it a b) (a ≡ b)
equal_rules-action_at = ActionAt-sames

pub equal_states-pid_memory : (a b : PidMemory) → Decides (PidMemoryEq.eq-value.it a b) (a ≡ b)
equal_states-pid_memory = PidMemory-sames

pub equal_states-link_state : (a b : LinkState) → Decides (LinkStateEq.eq-value.it a b) (a ≡ b)
equal_states-link_state = LinkState-sames

pub equal_states-state : (a b : State) → Decides (StateEq.eq-value.it a b) (a ≡ b)
equal_states-state = State-sames

pub equal_states-row : (a b : Row) → Decides (RowEq.eq-value.it a b) (a ≡ b)
equal_states-row = Row-sames

pub equal_points-point : (a b : Point) → Decides (PointEq.eq-value.it a b) (a ≡ b)
equal_points-point = Point-sames

pub equal_answers-order : (a b : Order) → Decides (OrderEq.eq-value.it a b) (a ≡ b)
equal_answers-order = Order-sames

pub equal_answers-stop_cause : (a b : StopCause) → Decides (StopCauseEq.eq-value.it a b) (a ≡ b)
equal_answers-stop_cause = StopCause-sames

pub equal_answers-stop_place : (a b : StopPlace) → Decides (StopPlaceEq.eq-value.it a b) (a ≡ b)
equal_answers-stop_place = StopPlace-sames

pub equal_answers-stop : (a b : Stop) → Decides (StopEq.eq-value.it a b) (a ≡ b)
equal_answers-stop = Stop-sames

pub equal_answers-reading_end : (a b : ReadingEnd) → Decides (ReadingEndEq.eq-value.it a b) (a ≡ b)
equal_answers-reading_end = ReadingEnd-sames

pub equal_answers-row_stop : (a b : RowStop) → Decides (RowStopEq.eq-value.it a b) (a ≡ b)
equal_answers-row_stop = RowStop-sames

pub equal_answers-cause : (a b : Cause) → Decides (CauseEq.eq-value.it a b) (a ≡ b)
equal_answers-cause = Cause-sames

pub equal_answers-refusal : (a b : Refusal) → Decides (RefusalEq.eq-value.it a b) (a ≡ b)
equal_answers-refusal = Refusal-sames

pub equal_answers-read_fault : (a b : ReadFault) → Decides (ReadFaultEq.eq-value.it a b) (a ≡ b)
equal_answers-read_fault = ReadFault-sames

pub equal_answers-add_fault : (a b : AddFault) → Decides (AddFaultEq.eq-value.it a b) (a ≡ b)
equal_answers-add_fault = AddFault-sames

-- what `==` of each type tells, for a caller's `using`
pub ruleset sames = (equal_keys-space, equal_keys-object_kind, equal_keys-object_word, equal_keys-object_no, equal_keys-attr, equal_keys-clock_attr, equal_keys-key, equal_rules-side, equal_rules-right, equal_rules-condition, equal_rules-curve_no, equal_rules-series_no, equal_rules-pid_set, equal_rules-what, equal_rules-action, equal_rules-branch, equal_rules-action_at, equal_states-pid_memory, equal_states-link_state, equal_states-state, equal_states-row, equal_points-point, equal_answers-order, equal_answers-stop_cause, equal_answers-stop_place, equal_answers-stop, equal_answers-reading_end, equal_answers-row_stop, equal_answers-cause, equal_answers-refusal, equal_answers-read_fault, equal_answers-add_fault)
