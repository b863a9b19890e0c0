-- The place of a key in key order tells the key.
use Rattle.std.specs.Prelude.{◌≡◌, ℕ, false, ◌+◌, ◌-◌, ◌<◌, nat_lt, if◌then◌else◌, [], ◌∷◌, slice_get, unwrap_or, refl}
use Rattle.std.proofs.Common.{ap, sym, ◌∙◌, arith}
use Rattle.std.proofs.lemmas.Bool.Decides.{nat_tests}
use Rattle.rule_types.specs.declared.object.Space.{Space}
use Rattle.rule_types.specs.declared.object.Space.TheVariants.{Nodes, Links, Gages}
use Rattle.rule_types.specs.declared.key.Attr.{Attr}
use Rattle.rule_types.specs.declared.key.Attr.TheVariants.{Intensity, HourDepth, Depth, MaxDepth, FullDepth, Head, Volume, Inflow, Flow, FullFlow, Velocity, Length, Slope, Setting, Status, TimeOpen, TimeClosed}
use Rattle.rule_types.specs.declared.key.ClockAttr.{ClockAttr}
use Rattle.rule_types.specs.declared.key.ClockAttr.TheVariants.{Time, Date, Month, Day, ClockTime, DayOfYear}
use Rattle.rule_types.specs.declared.key.Key.{Key}
use Rattle.rule_types.specs.declared.key.Key.TheVariants.{Object, Clock}
use Rattle.rule_types.specs.KeyOrder.{space_place, attribute_place, clock_place, key_place}

-- the space, the attribute and the attribute of the clock at a place
abbrev space_at : ℕ → Space
space_at k = unwrap_or (slice_get (Nodes ∷ Links ∷ Gages ∷ []) k) Nodes

abbrev attribute_at : ℕ → Attr
attribute_at k =
    if nat_lt k 16 then unwrap_or (slice_get (Flow ∷ FullFlow ∷ Depth ∷ MaxDepth ∷ FullDepth ∷ Head ∷ Volume ∷ Inflow ∷ Velocity ∷ Length ∷ Slope ∷ Setting ∷ Status ∷ TimeOpen ∷ TimeClosed ∷ Intensity ∷ []) k) Flow else HourDepth (k - 16)

abbrev clock_at : ℕ → ClockAttr
clock_at k = unwrap_or (slice_get (Time ∷ Date ∷ Month ∷ Day ∷ ClockTime ∷ DayOfYear ∷ []) k) Time

space_at-place : (s : Space) → space_at (space_place s) ≡ s
space_at-place Nodes = refl
space_at-place Links = refl
space_at-place Gages = refl

hours_at : (hours k : ℕ) → k ≡ hours + 16 → attribute_at k ≡ HourDepth hours
hours_at hours k e =
    let later : nat_lt k 16 ≡ false = grind (arith, nat_tests) in
    let back : k - 16 ≡ hours = omega arith in rw (later, back)

attribute_at-place : (a : Attr) → attribute_at (attribute_place a) ≡ a
attribute_at-place (HourDepth hours) = hours_at hours (hours + 16) refl
attribute_at-place Flow = refl
attribute_at-place FullFlow = refl
attribute_at-place Depth = refl
attribute_at-place MaxDepth = refl
attribute_at-place FullDepth = refl
attribute_at-place Head = refl
attribute_at-place Volume = refl
attribute_at-place Inflow = refl
attribute_at-place Velocity = refl
attribute_at-place Length = refl
attribute_at-place Slope = refl
attribute_at-place Setting = refl
attribute_at-place Status = refl
attribute_at-place TimeOpen = refl
attribute_at-place TimeClosed = refl
attribute_at-place Intensity = refl

clock_at-place : (a : ClockAttr) → clock_at (clock_place a) ≡ a
clock_at-place Time = refl
clock_at-place Date = refl
clock_at-place Month = refl
clock_at-place Day = refl
clock_at-place ClockTime = refl
clock_at-place DayOfYear = refl

space_place-small : (s : Space) → space_place s < 3
space_place-small Nodes = omega arith
space_place-small Links = omega arith
space_place-small Gages = omega arith

-- keys at one place are one key
pub key_place-injective : (a b : Key) → key_place a ≡ key_place b → a ≡ b
key_place-injective (Object x p) (Object y q) e =
    let first : space_place x.space ≡ space_place y.space = cc in
    let second : x.index ≡ y.index = cc in
    let third : attribute_place p ≡ attribute_place q = cc in
    let space : x.space ≡ y.space = sym (space_at-place x.space) ∙ ap space_at first ∙ space_at-place y.space in
    let attribute : p ≡ q = sym (attribute_at-place p) ∙ ap attribute_at third ∙ attribute_at-place q in
    λ i. Object (record { space = space i; index = second i }) (attribute i)
key_place-injective (Object x p) (Clock q) e =
    let first : space_place x.space ≡ 3 = cc in absurd (omega (arith, space_place-small x.space))
key_place-injective (Clock p) (Object y q) e =
    let first : space_place y.space ≡ 3 = cc in absurd (omega (arith, space_place-small y.space))
key_place-injective (Clock p) (Clock q) e =
    let third : clock_place p ≡ clock_place q = cc in
    ap Clock (sym (clock_at-place p) ∙ ap clock_at third ∙ clock_at-place q)
