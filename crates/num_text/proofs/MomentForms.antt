-- Moments are read exactly from their parts.
use Rattle.std.specs.Prelude.{◌↔◌, ◌==◌, nat_lt, option_and_then}
use Rattle.std.proofs.Common.{◌≡◌, ◌⊎◌, inl, inr, ℕ, ◌<◌, true, List, [], ◌∷◌, ◌++◌, Option, None, Some, refl, sym, ap, ◌∙◌, arith, ℤ}
use Rattle.std.specs.Option.{option_or}
use Rattle.num_text.specs.Fields.{past}
use Rattle.num_text.specs.Dates.{Dated, month_day_year, year_month_day}
use Rattle.num_text.specs.Clocks.{clock_below, moment_day, past_gap, seconds_at, moment_of}
use Rattle.num_text.specs.ClockText.{ClockParts, IsClockText, seconds_of_parts}
use Rattle.num_text.specs.DateText.{DateParts, IsDateText, IsIsoDateText, day_of_parts}
use Rattle.num_text.specs.MomentText.{MomentParts, IsMomentText, moment_of_parts}
use Rattle.num_text.proofs.Cuts.{is_apart}
use Rattle.num_text.proofs.Grammar.{then_some, past_is}
use Rattle.num_text.proofs.TimeForms.{clock_below_is, clock_below_of}
use Rattle.num_text.proofs.DateForms.{IsDated, date_is, iso_is, date_of_parts, iso_of_parts, slashes_no_iso}

same_some : {A : Type 0} (x y : A) → Some x ≡ Some y → x ≡ y
same_some x y e = cc

-- the date of a moment: in the form of ISO 8601, or with slashes
pub IsDay : List ℕ → DateParts → Type 0
IsDay text p = IsIsoDateText text p ⊎ IsDateText 47 text p

day_by : (text : List ℕ) (dated : Dated) (found : Option Dated) → year_month_day text ≡ found → option_or found (month_day_year 47 text) ≡ Some dated → IsDated IsDay text dated
unfolding IsDay
day_by text dated None e f =
    let known = date_is 47 text dated f in
    record { date = known.date; parts = known.parts; joined = known.joined; formed = inr known.formed; value = known.value }
day_by text dated (Some found) e f =
    let same : found ≡ dated = same_some found dated f in
    let known = iso_is text dated (e ∙ ap Some same) in
    record { date = known.date; parts = known.parts; joined = known.joined; formed = inl known.formed; value = known.value }

day_of : (text : List ℕ) (p : DateParts) (rest : List ℕ) → is_apart rest ≡ true → IsIsoDateText text p ⊎ IsDateText 47 text p → moment_day (text ++ rest) ≡ Some (record { day = day_of_parts p; rest = rest })
day_of text p rest ends (inl known) = rw (iso_of_parts text p rest ends known) refl
day_of text p rest ends (inr known) = rw (slashes_no_iso text p rest known) (date_of_parts 47 text p rest refl ends known)

-- what stands between the date and the time
pub IsGap : List ℕ → List ℕ → Type 0
IsGap text rest = (gap : ℕ) × (text ≡ gap ∷ rest) × ((gap ≡ 84) ⊎ (gap ≡ 32))

gap_by : (text rest : List ℕ) (found : Option (List ℕ)) → past 84 text ≡ found → option_or found (past 32 text) ≡ Some rest → IsGap text rest
unfolding IsGap
gap_by text rest None e f = (32, past_is 32 text rest f, inr refl)
gap_by text rest (Some behind) e f =
    let same : behind ≡ rest = same_some behind rest f in
    (84, past_is 84 text rest (e ∙ ap Some same), inl refl)

gap_of : (gap : ℕ) (rest : List ℕ) → (gap ≡ 84) ⊎ (gap ≡ 32) → past_gap (gap ∷ rest) ≡ Some rest
gap_of gap rest (inl letter) = rw letter refl
gap_of gap rest (inr blank) = rw blank refl

gap_apart : (gap : ℕ) (rest : List ℕ) → (gap ≡ 84) ⊎ (gap ≡ 32) → is_apart (gap ∷ rest) ≡ true
gap_apart gap rest (inl letter) = rw letter refl
gap_apart gap rest (inr blank) = rw blank refl

-- ---- each way
moment_is : (text : List ℕ) (second : ℤ) → moment_of text ≡ Some second → (p : MomentParts) × IsMomentText text p × (moment_of_parts p ≡ second)
unfolding moment_of IsDay IsGap
moment_is text second e =
    let date = then_some (moment_day text) _ second e in
    let time = then_some (past_gap date.0.rest) _ second date.2 in
    let number = then_some (clock_below 2 86_400 time.0) _ second time.2 in
    let day = day_by text date.0 (year_month_day text) refl date.1 in
    let gap = gap_by date.0.rest time.0 (past 84 date.0.rest) refl time.1 in
    let clock = clock_below_is 2 86_400 time.0 number.0 number.1 in
    let below = clock.3 in
    let same = same_some (seconds_at date.0.day number.0) second number.2 in (
      record { date = day.date; date_parts = day.parts; gap = gap.0; time = time.0; time_parts = clock.0 },
      record {
        joined = day.joined ∙ ap (λ r. day.date ++ r) gap.1;
        date = day.formed;
        gap = gap.2;
        time = clock.1;
        within_day = rw clock.2 below;
      },
      rw (day.value, clock.2) same,
    )

moment_from : (text : List ℕ) (p : MomentParts) → IsMomentText text p → moment_of text ≡ Some (moment_of_parts p)
unfolding moment_of
moment_from text p known =
    rw known.joined
    (rw (day_of p.date p.date_parts (p.gap ∷ p.time) (gap_apart p.gap p.time known.gap) known.date)
    (rw (gap_of p.gap p.time known.gap) (rw (clock_below_of 2 86_400 p.time p.time_parts known.time known.within_day) refl)))

pub moment-read : (text : List ℕ) (second : ℤ) → moment_of text ≡ Some second ↔ ((p : MomentParts) × IsMomentText text p × (moment_of_parts p ≡ second))
moment-read text second = (moment_is text second, λ known. moment_from text known.0 known.1 ∙ ap Some known.2)
