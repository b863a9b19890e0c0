-- Times of the clock are read exactly from their parts.
use Rattle.std.specs.Prelude.{◌↔◌}
use Rattle.std.proofs.Common.{◌≡◌, ℕ, ◌+◌, ◌*◌, ◌<◌, true, List, [], ◌∷◌, ◌++◌, Option, None, Some, refl, sym, ap, ap₂, ◌∙◌, arith, append-nil}
use Rattle.std.specs.Str.Parse.{digits_value}
use Rattle.num_text.specs.Fields.{Field, leading_digits, past_digits, field, field_below, past, last_number}
use Rattle.num_text.specs.NumberText.{AllDigits, IsDigits}
use Rattle.num_text.specs.ClockText.{ClockParts, seconds_text, clock_text, IsSixtieth, AreSeconds, IsClockText, written_seconds, seconds_of_parts}
use Rattle.num_text.specs.Clocks.{sixtieth, seconds_part, clock}
use Rattle.num_text.proofs.Cuts.{is_apart, cut}
use Rattle.num_text.proofs.Grammar.{then_some, past_is, IsFieldOf, field_is, field_below_is, last_number_is, field_of_digits, field_below_of_digits}

-- ---- what a reading tells of the text
-- seconds behind minutes
pub record AreSecondsOf (text : List ℕ) (seconds : Option (List ℕ)) (number : ℕ) : Type 0 where
  pub joined : text ≡ seconds_text seconds
  pub sixtieth : AreSeconds seconds
  pub value : written_seconds seconds ≡ number

same_some : {A : Type 0} (x y : A) → Some x ≡ Some y → x ≡ y
same_some x y e = cc

pub seconds_is : (text : List ℕ) (number : ℕ) → seconds_part text ≡ Some number → (seconds : Option (List ℕ)) × AreSecondsOf text seconds number
unfolding seconds_part
seconds_is [] number e = (None, record { joined = refl; sixtieth = tt; value = same_some 0 number e })
seconds_is (byte ∷ bytes) number e =
    let step = then_some (past 58 (byte ∷ bytes)) (λ behind. last_number (sixtieth behind)) number e in
    let cut = past_is 58 (byte ∷ bytes) step.0 step.1 in
    let last = last_number_is step.0 (sixtieth step.0) number step.2 in
    let read = field_below_is 1 2 60 step.0 last.0 last.1 in
    let all : step.0 ≡ leading_digits step.0 = read.0.joined ∙ ap (λ r. leading_digits step.0 ++ r) last.2 ∙ append-nil (leading_digits step.0) in
    let below : digits_value 10 (leading_digits step.0) < 60 = rw read.0.value read.1 in (
      Some (leading_digits step.0),
      record {
        joined = cut ∙ ap (λ r. 58 ∷ r) all;
        sixtieth = record { digits_alone = read.0.digits; below_60 = below };
        value = read.0.value ∙ last.3;
      },
    )

pub clock_is : (most : ℕ) (text : List ℕ) (number : ℕ) → clock most text ≡ Some number → (p : ClockParts) × IsClockText most text p × (seconds_of_parts p ≡ number)
unfolding clock
clock_is most text number e =
    let hours = then_some (field 1 most text) _ number e in
    let behind_hours = then_some (past 58 hours.0.rest) _ number hours.2 in
    let minutes = then_some (sixtieth behind_hours.0) _ number behind_hours.2 in
    let seconds = then_some (seconds_part minutes.0.rest) _ number minutes.2 in
    let front = field_is 1 most text hours.0 hours.1 in
    let middle = field_below_is 1 2 60 behind_hours.0 minutes.0 minutes.1 in
    let back = seconds_is minutes.0.rest seconds.0 seconds.1 in
    let below : digits_value 10 (leading_digits behind_hours.0) < 60 = rw middle.0.value middle.1 in
    let sum = same_some _ number seconds.2 in (
      record { hours = leading_digits text; minutes = leading_digits behind_hours.0; seconds = back.0 },
      record {
        joined = front.joined
            ∙ ap (λ r. leading_digits text ++ r) (past_is 58 hours.0.rest behind_hours.0 behind_hours.1
            ∙ ap (λ r. 58 ∷ r) (middle.0.joined ∙ ap (λ r. leading_digits behind_hours.0 ++ r) back.1.joined));
        hours = front.digits;
        minutes = record { digits_alone = middle.0.digits; below_60 = below };
        seconds = back.1.sixtieth;
      },
      rw (front.value, middle.0.value, back.1.value) sum,
    )

-- ---- and what the parts tell of the reading
pub seconds_of : (seconds : Option (List ℕ)) → AreSeconds seconds → seconds_part (seconds_text seconds) ≡ Some (written_seconds seconds)
unfolding seconds_part
seconds_of None known = refl
seconds_of (Some digits) known =
    let read = field_below_of_digits 1 2 60 digits [] known.digits_alone known.below_60 refl in
    let whole : sixtieth digits ≡ Some (record { number = digits_value 10 digits; rest = [] }) = rw (append-nil digits) at read in
    rw whole refl

seconds_apart : (seconds : Option (List ℕ)) → is_apart (seconds_text seconds) ≡ true
seconds_apart None = refl
seconds_apart (Some digits) = refl

joined_read : (most : ℕ) (hours minutes : List ℕ) (seconds : Option (List ℕ)) → IsDigits 1 most hours → IsSixtieth minutes → AreSeconds seconds → clock most (hours ++ 58 ∷ (minutes ++ seconds_text seconds)) ≡ Some (3600 * digits_value 10 hours + 60 * digits_value 10 minutes + written_seconds seconds)
unfolding clock
joined_read most hours minutes seconds known middle back =
    rw (field_of_digits 1 most hours (58 ∷ (minutes ++ seconds_text seconds)) known refl)
    (rw (field_below_of_digits 1 2 60 minutes (seconds_text seconds) middle.digits_alone middle.below_60 (seconds_apart seconds))
    (rw (seconds_of seconds back) refl))

pub clock_of_parts : (most : ℕ) (text : List ℕ) (p : ClockParts) → IsClockText most text p → clock most text ≡ Some (seconds_of_parts p)
clock_of_parts most text p known = ap (λ t. clock most t) known.joined ∙ joined_read most p.hours p.minutes p.seconds known.hours known.minutes known.seconds

-- each way
pub clock-read : (most : ℕ) (text : List ℕ) (number : ℕ) → clock most text ≡ Some number ↔ ((p : ClockParts) × IsClockText most text p × (seconds_of_parts p ≡ number))
clock-read most text number = (clock_is most text number, λ known. clock_of_parts most text known.0 known.1 ∙ ap Some known.2)

-- ---- a text has one such cut
-- digits at the head of a text, and what stands behind them
pub heads_same : (front back one other : List ℕ) → AllDigits front → AllDigits back → is_apart one ≡ true → is_apart other ≡ true → front ++ one ≡ back ++ other → (front ≡ back) × (one ≡ other)
heads_same front back one other known held apart ends same =
    let p = cut front one known apart in
    let q = cut back other held ends in
    (sym p.front ∙ ap leading_digits same ∙ q.front, sym p.back ∙ ap past_digits same ∙ q.back)

-- what stands behind a byte
abbrev behind_first : List ℕ → List ℕ
behind_first [] = []
behind_first (byte ∷ bytes) = bytes

seconds_same : (one other : Option (List ℕ)) → seconds_text one ≡ seconds_text other → one ≡ other
seconds_same None None e = refl
seconds_same None (Some digits) e = absurd cc
seconds_same (Some digits) None e = absurd cc
seconds_same (Some digits) (Some others) e = ap Some (ap behind_first e)

pub clock-one : (most : ℕ) (text : List ℕ) (p q : ClockParts) → IsClockText most text p → IsClockText most text q → p ≡ q
clock-one most text p q known held =
    let hours = heads_same p.hours q.hours (58 ∷ (p.minutes ++ seconds_text p.seconds)) (58 ∷ (q.minutes ++ seconds_text q.seconds)) known.hours.alone held.hours.alone refl refl (sym known.joined ∙ held.joined) in
    let minutes = heads_same p.minutes q.minutes (seconds_text p.seconds) (seconds_text q.seconds) known.minutes.digits_alone.alone held.minutes.digits_alone.alone (seconds_apart p.seconds) (seconds_apart q.seconds) (ap behind_first hours.1) in
    let seconds = seconds_same p.seconds q.seconds minutes.1 in
    λ i. record { hours = hours.0 i; minutes = minutes.0 i; seconds = seconds i }
