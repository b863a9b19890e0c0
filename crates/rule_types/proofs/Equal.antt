-- `==` of each type tells exactly whether two values are equal.
use Rattle.std.specs.Prelude.{◌≡◌, nat_eq, refl}
use Rattle.std.specs.Bool.{Decides}
use Rattle.std.specs.Cmp.{booleans_Decides}
use Rattle.std.specs.Cmp.Lexicographic.{pointwise}
use Rattle.std.proofs.Common.{ap, rules}
use Rattle.std.proofs.lemmas.Bool.Decides.{Decides-like, Decides-and, Decides-eqb}
use Rattle.std.proofs.lemmas.Slice.Eq.{slice_eq-Decides}
use Rattle.exact_fraction.proofs.PublicLaws.{equality-fraction, equality-moment, equality-relation}
use Rattle.rule_types.proofs.EqualParts.{Option-sames}
use Rattle.rule_types.proofs.KeyPlaces.{key_place-injective}
use Rattle.rule_types.specs.KeyOrder.{key_place}
use Rattle.rule_types.specs.declared.object.Space.{Space}
use Rattle.rule_types.specs.contracts.object.SpacePartialEq.TheImpl as SpaceEq
use Rattle.rule_types.specs.declared.object.ObjectKind.{ObjectKind}
use Rattle.rule_types.specs.contracts.object.ObjectKindPartialEq.TheImpl as ObjectKindEq
use Rattle.rule_types.specs.declared.object.ObjectWord.{ObjectWord}
use Rattle.rule_types.specs.contracts.object.ObjectWordPartialEq.TheImpl as ObjectWordEq
use Rattle.rule_types.specs.declared.object.ObjectNo.{ObjectNo}
use Rattle.rule_types.specs.contracts.object.ObjectNoPartialEq.TheImpl as ObjectNoEq
use Rattle.rule_types.specs.declared.key.Attr.{Attr}
use Rattle.rule_types.specs.contracts.key.AttrPartialEq.TheImpl as AttrEq
use Rattle.rule_types.specs.declared.key.ClockAttr.{ClockAttr}
use Rattle.rule_types.specs.contracts.key.ClockAttrPartialEq.TheImpl as ClockAttrEq
use Rattle.rule_types.specs.declared.key.Key.{Key}
use Rattle.rule_types.specs.declared.condition.Side.{Side}
use Rattle.rule_types.specs.contracts.condition.SidePartialEq.TheImpl as SideEq
use Rattle.rule_types.specs.declared.condition.Side.TheVariants as side
use Rattle.rule_types.specs.declared.condition.Right.{Right}
use Rattle.rule_types.specs.contracts.condition.RightPartialEq.TheImpl as RightEq
use Rattle.rule_types.specs.declared.condition.Right.TheVariants as right
use Rattle.rule_types.specs.declared.condition.Condition.{Condition}
use Rattle.rule_types.specs.contracts.condition.ConditionPartialEq.TheImpl as ConditionEq
use Rattle.rule_types.specs.declared.action.CurveNo.{CurveNo}
use Rattle.rule_types.specs.contracts.action.CurveNoPartialEq.TheImpl as CurveNoEq
use Rattle.rule_types.specs.declared.action.SeriesNo.{SeriesNo}
use Rattle.rule_types.specs.contracts.action.SeriesNoPartialEq.TheImpl as SeriesNoEq
use Rattle.rule_types.specs.declared.action.PidSet.{PidSet}
use Rattle.rule_types.specs.contracts.action.PidSetPartialEq.TheImpl as PidSetEq
use Rattle.rule_types.specs.declared.action.PidMemory.{PidMemory}
use Rattle.rule_types.specs.contracts.action.PidMemoryPartialEq.TheImpl as PidMemoryEq
use Rattle.rule_types.specs.declared.action.What.{What}
use Rattle.rule_types.specs.contracts.action.WhatPartialEq.TheImpl as WhatEq
use Rattle.rule_types.specs.declared.action.What.TheVariants as what
use Rattle.rule_types.specs.declared.action.Action.{Action}
use Rattle.rule_types.specs.contracts.action.ActionPartialEq.TheImpl as ActionEq
use Rattle.rule_types.specs.declared.action.Branch.{Branch}
use Rattle.rule_types.specs.contracts.action.BranchPartialEq.TheImpl as BranchEq
use Rattle.rule_types.specs.declared.action.ActionAt.{ActionAt}
use Rattle.rule_types.specs.contracts.action.ActionAtPartialEq.TheImpl as ActionAtEq
use Rattle.rule_types.specs.declared.action.Order.{Order}
use Rattle.rule_types.specs.contracts.action.OrderPartialEq.TheImpl as OrderEq
use Rattle.rule_types.specs.declared.state.LinkState.{LinkState}
use Rattle.rule_types.specs.contracts.state.LinkStatePartialEq.TheImpl as LinkStateEq
use Rattle.rule_types.specs.declared.state.State.{State}
use Rattle.rule_types.specs.contracts.state.StatePartialEq.TheImpl as StateEq
use Rattle.rule_types.specs.declared.row.Row.{Row}
use Rattle.rule_types.specs.contracts.row.RowPartialEq.TheImpl as RowEq
use Rattle.rule_types.specs.declared.table.Point.{Point}
use Rattle.rule_types.specs.contracts.table.PointPartialEq.TheImpl as PointEq
use Rattle.rule_types.specs.declared.stop.StopCause.{StopCause}
use Rattle.rule_types.specs.contracts.stop.StopCausePartialEq.TheImpl as StopCauseEq
use Rattle.rule_types.specs.declared.stop.StopPlace.{StopPlace}
use Rattle.rule_types.specs.contracts.stop.StopPlacePartialEq.TheImpl as StopPlaceEq
use Rattle.rule_types.specs.declared.stop.StopPlace.TheVariants as place
use Rattle.rule_types.specs.declared.stop.Stop.{Stop}
use Rattle.rule_types.specs.contracts.stop.StopPartialEq.TheImpl as StopEq
use Rattle.rule_types.specs.declared.stop.ReadingEnd.{ReadingEnd}
use Rattle.rule_types.specs.contracts.stop.ReadingEndPartialEq.TheImpl as ReadingEndEq
use Rattle.rule_types.specs.declared.stop.ReadingEnd.TheVariants as ending
use Rattle.rule_types.specs.declared.stop.RowStop.{RowStop}
use Rattle.rule_types.specs.contracts.stop.RowStopPartialEq.TheImpl as RowStopEq
use Rattle.rule_types.specs.declared.stop.RowStop.TheVariants as row
use Rattle.rule_types.specs.declared.refusal.Cause.{Cause}
use Rattle.rule_types.specs.contracts.refusal.CausePartialEq.TheImpl as CauseEq
use Rattle.rule_types.specs.declared.refusal.Refusal.{Refusal}
use Rattle.rule_types.specs.contracts.refusal.RefusalPartialEq.TheImpl as RefusalEq
use Rattle.rule_types.specs.declared.refusal.ReadFault.{ReadFault}
use Rattle.rule_types.specs.contracts.refusal.ReadFaultPartialEq.TheImpl as ReadFaultEq
use Rattle.rule_types.specs.declared.refusal.ReadFault.TheVariants as fault
use Rattle.rule_types.specs.declared.refusal.AddFault.{AddFault}
use Rattle.rule_types.specs.contracts.refusal.AddFaultPartialEq.TheImpl as AddFaultEq

pub Space-sames : (a b : Space) → Decides (SpaceEq.eq-value.it a b) (a ≡ b)
Space-sames a b = search rules

pub ObjectKind-sames : (a b : ObjectKind) → Decides (ObjectKindEq.eq-value.it a b) (a ≡ b)
ObjectKind-sames a b = search rules

pub ObjectWord-sames : (a b : ObjectWord) → Decides (ObjectWordEq.eq-value.it a b) (a ≡ b)
ObjectWord-sames a b = search rules

pub ObjectNo-sames : (a b : ObjectNo) → Decides (ObjectNoEq.eq-value.it a b) (a ≡ b)
ObjectNo-sames a b =
    Decides-like (ObjectNoEq.eq-value.it a b)
    (λ p i. record { space = p.0 i; index = p.1 i })
    (λ e. (ap (λ (x : ObjectNo). x.space) e, ap (λ (x : ObjectNo). x.index) e))
    (Decides-and _ _ (Space-sames a.space b.space) (Decides-eqb a.index b.index))

pub Attr-sames : (a b : Attr) → Decides (AttrEq.eq-value.it a b) (a ≡ b)
Attr-sames a b = search rules

pub ClockAttr-sames : (a b : ClockAttr) → Decides (ClockAttrEq.eq-value.it a b) (a ≡ b)
ClockAttr-sames a b = search rules

pub Key-sames : (a b : Key) → Decides (pointwise nat_eq (key_place a) (key_place b)) (a ≡ b)
Key-sames a b =
    Decides-like _ (key_place-injective a b) (ap key_place) (slice_eq-Decides Decides-eqb (key_place a) (key_place b) _ refl)

pub Side-sames : (a b : Side) → Decides (SideEq.eq-value.it a b) (a ≡ b)
Side-sames (side.Key x) (side.Key y) = Decides-like _ (ap side.Key) (λ e. cc) (Key-sames x y)
Side-sames (side.Expr x) (side.Expr y) = Decides-like _ (ap side.Expr) (λ e. cc) (Decides-eqb x y)
Side-sames a b = search rules

pub Right-sames : (a b : Right) → Decides (RightEq.eq-value.it a b) (a ≡ b)
Right-sames (right.Key x) (right.Key y) = Decides-like _ (ap right.Key) (λ e. cc) (Key-sames x y)
Right-sames (right.Value x) (right.Value y) = Decides-like _ (ap right.Value) (λ e. cc) (equality-fraction x y)
Right-sames a b = search rules

pub Condition-sames : (a b : Condition) → Decides (ConditionEq.eq-value.it a b) (a ≡ b)
Condition-sames a b =
    Decides-like (ConditionEq.eq-value.it a b)
    (λ p i. record { left = p.0 i; rel = p.1.0 i; right = p.1.1.0 i; half_step = p.1.1.1.0 i; joined_by_and = p.1.1.1.1 i })
    (λ e. (ap (λ (x : Condition). x.left) e, (ap (λ (x : Condition). x.rel) e, (ap (λ (x : Condition). x.right) e, (ap (λ (x : Condition). x.half_step) e, ap (λ (x : Condition). x.joined_by_and) e)))))
    (Decides-and _ _ (Side-sames a.left b.left) (Decides-and _ _ (equality-relation a.rel b.rel) (Decides-and _ _ (Right-sames a.right b.right) (Decides-and _ _ (booleans_Decides a.half_step b.half_step) (booleans_Decides a.joined_by_and b.joined_by_and)))))

pub CurveNo-sames : (a b : CurveNo) → Decides (CurveNoEq.eq-value.it a b) (a ≡ b)
CurveNo-sames a b = search rules

pub SeriesNo-sames : (a b : SeriesNo) → Decides (SeriesNoEq.eq-value.it a b) (a ≡ b)
SeriesNo-sames a b = search rules

pub PidSet-sames : (a b : PidSet) → Decides (PidSetEq.eq-value.it a b) (a ≡ b)
PidSet-sames a b =
    Decides-like (PidSetEq.eq-value.it a b)
    (λ p i. record { gain = p.0 i; integral = p.1.0 i; derivative = p.1.1 i })
    (λ e. (ap (λ (x : PidSet). x.gain) e, (ap (λ (x : PidSet). x.integral) e, ap (λ (x : PidSet). x.derivative) e)))
    (Decides-and _ _ (equality-fraction a.gain b.gain) (Decides-and _ _ (equality-fraction a.integral b.integral) (equality-fraction a.derivative b.derivative)))

pub PidMemory-sames : (a b : PidMemory) → Decides (PidMemoryEq.eq-value.it a b) (a ≡ b)
PidMemory-sames a b =
    Decides-like (PidMemoryEq.eq-value.it a b)
    (λ p i. record { e1 = p.0 i; e2 = p.1 i })
    (λ e. (ap (λ (x : PidMemory). x.e1) e, ap (λ (x : PidMemory). x.e2) e))
    (Decides-and _ _ (equality-fraction a.e1 b.e1) (equality-fraction a.e2 b.e2))

pub What-sames : (a b : What) → Decides (WhatEq.eq-value.it a b) (a ≡ b)
What-sames (what.Constant x) (what.Constant y) = Decides-like _ (ap what.Constant) (λ e. cc) (equality-fraction x y)
What-sames (what.Curve x) (what.Curve y) = Decides-like _ (ap what.Curve) (λ e. cc) (CurveNo-sames x y)
What-sames (what.Series x) (what.Series y) = Decides-like _ (ap what.Series) (λ e. cc) (SeriesNo-sames x y)
What-sames (what.Pid x m) (what.Pid y n) =
    Decides-like _ (λ p i. what.Pid (p.0 i) (p.1 i)) (λ e. (cc, cc)) (Decides-and _ _ (PidSet-sames x y) (Decides-eqb m n))
What-sames a b = search rules

pub Action-sames : (a b : Action) → Decides (ActionEq.eq-value.it a b) (a ≡ b)
Action-sames a b =
    Decides-like (ActionEq.eq-value.it a b)
    (λ p i. record { link = p.0 i; what = p.1 i })
    (λ e. (ap (λ (x : Action). x.link) e, ap (λ (x : Action). x.what) e))
    (Decides-and _ _ (Decides-eqb a.link b.link) (What-sames a.what b.what))

pub Branch-sames : (a b : Branch) → Decides (BranchEq.eq-value.it a b) (a ≡ b)
Branch-sames a b = search rules

pub ActionAt-sames : (a b : ActionAt) → Decides (ActionAtEq.eq-value.it a b) (a ≡ b)
ActionAt-sames a b =
    Decides-like (ActionAtEq.eq-value.it a b)
    (λ p i. record { rule = p.0 i; branch = p.1.0 i; action = p.1.1 i })
    (λ e. (ap (λ (x : ActionAt). x.rule) e, (ap (λ (x : ActionAt). x.branch) e, ap (λ (x : ActionAt). x.action) e)))
    (Decides-and _ _ (Decides-eqb a.rule b.rule) (Decides-and _ _ (Branch-sames a.branch b.branch) (Decides-eqb a.action b.action)))

pub Order-sames : (a b : Order) → Decides (OrderEq.eq-value.it a b) (a ≡ b)
Order-sames a b =
    Decides-like (OrderEq.eq-value.it a b)
    (λ p i. record { link = p.0 i; by = p.1.0 i; value = p.1.1 i })
    (λ e. (ap (λ (x : Order). x.link) e, (ap (λ (x : Order). x.by) e, ap (λ (x : Order). x.value) e)))
    (Decides-and _ _ (Decides-eqb a.link b.link) (Decides-and _ _ (ActionAt-sames a.by b.by) (equality-fraction a.value b.value)))

pub LinkState-sames : (a b : LinkState) → Decides (LinkStateEq.eq-value.it a b) (a ≡ b)
LinkState-sames a b =
    Decides-like (LinkStateEq.eq-value.it a b)
    (λ p i. record { setting = p.0 i; target = p.1.0 i; timer = p.1.1 i })
    (λ e. (ap (λ (x : LinkState). x.setting) e, (ap (λ (x : LinkState). x.target) e, ap (λ (x : LinkState). x.timer) e)))
    (Decides-and _ _ (equality-fraction a.setting b.setting) (Decides-and _ _ (equality-fraction a.target b.target) (equality-fraction a.timer b.timer)))

pub State-sames : (a b : State) → Decides (StateEq.eq-value.it a b) (a ≡ b)
State-sames a b =
    Decides-like (StateEq.eq-value.it a b)
    (λ p i. record { moment = p.0 i; start = p.1.0 i; step = p.1.1.0 i; inputs = p.1.1.1.0 i; links = p.1.1.1.1 i })
    (λ e. (ap (λ (x : State). x.moment) e, (ap (λ (x : State). x.start) e, (ap (λ (x : State). x.step) e, (ap (λ (x : State). x.inputs) e, ap (λ (x : State). x.links) e)))))
    (Decides-and _ _ (equality-moment a.moment b.moment) (Decides-and _ _ (equality-moment a.start b.start) (Decides-and _ _ (equality-fraction a.step b.step) (Decides-and _ _ (slice_eq-Decides (Option-sames equality-fraction) a.inputs b.inputs _ refl) (slice_eq-Decides LinkState-sames a.links b.links _ refl)))))

pub Row-sames : (a b : Row) → Decides (RowEq.eq-value.it a b) (a ≡ b)
Row-sames a b =
    Decides-like (RowEq.eq-value.it a b)
    (λ p i. record { moment = p.0 i; inputs = p.1 i })
    (λ e. (ap (λ (x : Row). x.moment) e, ap (λ (x : Row). x.inputs) e))
    (Decides-and _ _ (equality-moment a.moment b.moment)
    (slice_eq-Decides (Option-sames equality-fraction) a.inputs b.inputs _ refl))

pub Point-sames : (a b : Point) → Decides (PointEq.eq-value.it a b) (a ≡ b)
Point-sames a b =
    Decides-like (PointEq.eq-value.it a b)
    (λ p i. record { x = p.0 i; y = p.1 i })
    (λ e. (ap (λ (p : Point). p.x) e, ap (λ (p : Point). p.y) e))
    (Decides-and _ _ (equality-fraction a.x b.x) (equality-fraction a.y b.y))

pub StopCause-sames : (a b : StopCause) → Decides (StopCauseEq.eq-value.it a b) (a ≡ b)
StopCause-sames a b = search rules

pub StopPlace-sames : (a b : StopPlace) → Decides (StopPlaceEq.eq-value.it a b) (a ≡ b)
StopPlace-sames (place.Name x) (place.Name y) = Decides-like _ (ap place.Name) (λ e. cc) (Decides-eqb x y)
StopPlace-sames (place.Action x) (place.Action y) = Decides-like _ (ap place.Action) (λ e. cc) (ActionAt-sames x y)
StopPlace-sames a b = search rules

pub Stop-sames : (a b : Stop) → Decides (StopEq.eq-value.it a b) (a ≡ b)
Stop-sames a b =
    Decides-like (StopEq.eq-value.it a b)
    (λ p i. record { place = p.0 i; cause = p.1 i })
    (λ e. (ap (λ (x : Stop). x.place) e, ap (λ (x : Stop). x.cause) e))
    (Decides-and _ _ (StopPlace-sames a.place b.place) (StopCause-sames a.cause b.cause))

pub ReadingEnd-sames : (a b : ReadingEnd) → Decides (ReadingEndEq.eq-value.it a b) (a ≡ b)
ReadingEnd-sames (ending.Stop x) (ending.Stop y) = Decides-like _ (ap ending.Stop) (λ e. cc) (Stop-sames x y)
ReadingEnd-sames a b = search rules

pub RowStop-sames : (a b : RowStop) → Decides (RowStopEq.eq-value.it a b) (a ≡ b)
RowStop-sames (row.Stop x) (row.Stop y) = Decides-like _ (ap row.Stop) (λ e. cc) (Stop-sames x y)
RowStop-sames (row.Stopped x) (row.Stopped y) = Decides-like _ (ap row.Stopped) (λ e. cc) (Stop-sames x y)
RowStop-sames a b = search rules

pub Cause-sames : (a b : Cause) → Decides (CauseEq.eq-value.it a b) (a ≡ b)
Cause-sames a b = search rules

pub Refusal-sames : (a b : Refusal) → Decides (RefusalEq.eq-value.it a b) (a ≡ b)
Refusal-sames a b =
    Decides-like (RefusalEq.eq-value.it a b)
    (λ p i. record { line = p.0 i; cause = p.1.0 i; token = p.1.1 i })
    (λ e. (ap (λ (x : Refusal). x.line) e, (ap (λ (x : Refusal). x.cause) e, ap (λ (x : Refusal). x.token) e)))
    (Decides-and _ _ (Decides-eqb a.line b.line) (Decides-and _ _ (Cause-sames a.cause b.cause) (slice_eq-Decides Decides-eqb a.token b.token _ refl)))

pub ReadFault-sames : (a b : ReadFault) → Decides (ReadFaultEq.eq-value.it a b) (a ≡ b)
ReadFault-sames (fault.Refused x) (fault.Refused y) = Decides-like _ (ap fault.Refused) (λ e. cc) (Refusal-sames x y)
ReadFault-sames a b = search rules

pub AddFault-sames : (a b : AddFault) → Decides (AddFaultEq.eq-value.it a b) (a ≡ b)
AddFault-sames a b = search rules

-- what `==` says of each type, for a caller's `using`
pub ruleset sames = (equality-fraction, equality-moment, equality-relation, Space-sames, ObjectKind-sames, ObjectWord-sames, ObjectNo-sames, Attr-sames, ClockAttr-sames, Key-sames, Side-sames, Right-sames, Condition-sames, CurveNo-sames, SeriesNo-sames, PidSet-sames, PidMemory-sames, What-sames, Action-sames, Branch-sames, ActionAt-sames, Order-sames, LinkState-sames, State-sames, Row-sames, Point-sames, StopCause-sames, StopPlace-sames, Stop-sames, ReadingEnd-sames, RowStop-sames, Cause-sames, Refusal-sames, ReadFault-sames, AddFault-sames)
