-- Moments of one day: they are written alike but for the time.
use Rattle.std.proofs.Common.{◌≡◌, ℕ, ◌+◌, ◌*◌, ◌/◌, ◌%◌, ◌<◌, Bool, true, false, cond, List, [], ◌∷◌, ◌++◌, take, drop, length, get_or, refl, sym, ap, ◌∙◌, arith, ℤ, pos, ◌+ℤ◌, ◌-ℤ◌, Option, None, Some, IfSome}
use Rattle.std.proofs.lemmas.Int.{ints}
use Rattle.std.proofs.lemmas.List.{take-append-drop}
use Rattle.std.specs.Prelude.{codes, ◌&&◌, int_le}
use Rattle.exact_fraction.specs.Moments.{IsMoment, moment_at, first_second, last_second}
use Rattle.jiff_core.specs.Calendar.{days_of_months}
use Rattle.num_text.specs.CivilDays.{year_at, place_at, months_before, month_at, day_at}
use Rattle.num_text.specs.Clocks.{moment_of}
use Rattle.num_text.specs.Written.{places, written_day, written_time, written_moment, seconds_after_first}
use Rattle.num_text.proofs.PublicLaws.{round_trips-moment}

-- a time by its digits
time_by : (hour minute second : ℕ) (t : ℕ) → t ≡ 3600 * hour + 60 * minute + second → minute < 60 → second < 60
    → written_time t ≡ places 2 hour ++ codes ":" ++ places 2 minute ++ codes ":" ++ places 2 second
time_by hour minute second t is small less =
    let one : t / 3600 ≡ hour = omega arith in
    let two : t / 60 % 60 ≡ minute = omega arith in
    let three : t % 60 ≡ second = omega arith in
    rw (one, two, three) refl

pub time_is : (hour minute second : ℕ) (a b d e g h : ℕ) → minute < 60 → second < 60
    → places 2 hour ≡ a ∷ b ∷ [] → places 2 minute ≡ d ∷ e ∷ [] → places 2 second ≡ g ∷ h ∷ []
    → written_time (3600 * hour + 60 * minute + second) ≡ a ∷ b ∷ 58 ∷ d ∷ e ∷ 58 ∷ g ∷ h ∷ []
time_is hour minute second a b d e g h small less one two three =
    time_by hour minute second (3600 * hour + 60 * minute + second) refl small less ∙ rw (one, two, three) refl

-- the date of a written moment, with the letter behind it
date_of : (m : ℤ) → take 11 (written_moment m) ≡ written_day (seconds_after_first m / 86_400) ++ codes "T"
unfolding written_moment places
date_of m = refl

by_parts : (m : ℤ) (days t : ℕ) → seconds_after_first m / 86_400 ≡ days → seconds_after_first m % 86_400 ≡ t
    → written_moment m ≡ written_day days ++ codes "T" ++ written_time t
unfolding written_moment
by_parts m days t one two = rw (one, two) refl

pub same_day : (m found : ℤ) (t : ℕ) → IsMoment m → t < 86_400
    → found ≡ m -ℤ pos (seconds_after_first m % 86_400) +ℤ pos t
    → written_moment found ≡ take 11 (written_moment m) ++ written_time t
same_day m found t known in_day is =
    let early = known.early in
    let days : seconds_after_first found / 86_400 ≡ seconds_after_first m / 86_400 = omega (arith, ints) in
    let seconds : seconds_after_first found % 86_400 ≡ t = omega (arith, ints) in
    by_parts found (seconds_after_first m / 86_400) t days seconds ∙ ap (λ date. date ++ written_time t) (sym (date_of m))

-- a text of a date and a time is what is written
pub read_back : (m : ℤ) (text : List ℕ) → IsMoment m → text ≡ written_moment m → moment_of text ≡ Some m
read_back m text known is = ap moment_of is ∙ round_trips-moment m known

-- a moment that was made is the second that it was made of
kept_by : (passes : Bool) (second found : ℤ) → Some found ≡ cond passes (Some second) None → found ≡ second
kept_by true second found is = cc
kept_by false second found is = cc

made_is : (second found : ℤ) → Some found ≡ moment_at second → found ≡ second
unfolding moment_at
made_is second found is = kept_by (int_le first_second second && int_le second last_second) second found is

pub if_made : (m : ℤ) (t : ℕ) (made : Option ℤ) → IsMoment m → t < 86_400
    → made ≡ moment_at (m -ℤ pos (seconds_after_first m % 86_400) +ℤ pos t)
    → IfSome made (λ found. written_moment found ≡ take 11 (written_moment m) ++ written_time t)
if_made m t None known in_day made = tt
if_made m t (Some found) known in_day made =
    same_day m found t known in_day (made_is (m -ℤ pos (seconds_after_first m % 86_400) +ℤ pos t) found made)

-- a text of eight bytes
pub eight : (text : List ℕ) → length text ≡ 8
    → text ≡ get_or text 0 0 ∷ get_or text 1 0 ∷ get_or text 2 0 ∷ get_or text 3 0 ∷ get_or text 4 0 ∷ get_or text 5 0 ∷ get_or text 6 0 ∷ get_or text 7 0 ∷ []
eight [] long = cc
eight (a ∷ []) long = cc
eight (a ∷ b ∷ []) long = cc
eight (a ∷ b ∷ c ∷ []) long = cc
eight (a ∷ b ∷ c ∷ d ∷ []) long = cc
eight (a ∷ b ∷ c ∷ d ∷ e ∷ []) long = cc
eight (a ∷ b ∷ c ∷ d ∷ e ∷ f ∷ []) long = cc
eight (a ∷ b ∷ c ∷ d ∷ e ∷ f ∷ g ∷ []) long = cc
eight (a ∷ b ∷ c ∷ d ∷ e ∷ f ∷ g ∷ h ∷ []) long = refl
eight (a ∷ b ∷ c ∷ d ∷ e ∷ f ∷ g ∷ h ∷ i ∷ more) long = cc

pub time_text_is : (hour minute second : ℕ) (text : List ℕ) → length text ≡ 8 → get_or text 2 0 ≡ 58 → get_or text 5 0 ≡ 58 → minute < 60 → second < 60
    → places 2 hour ≡ get_or text 0 0 ∷ get_or text 1 0 ∷ [] → places 2 minute ≡ get_or text 3 0 ∷ get_or text 4 0 ∷ []
    → places 2 second ≡ get_or text 6 0 ∷ get_or text 7 0 ∷ [] → written_time (3600 * hour + 60 * minute + second) ≡ text
time_text_is hour minute second text long colon other small less one two three =
    time_is hour minute second (get_or text 0 0) (get_or text 1 0) (get_or text 3 0) (get_or text 4 0) (get_or text 6 0) (get_or text 7 0)
    small less one two three
    ∙ ap (λ byte. get_or text 0 0 ∷ get_or text 1 0 ∷ byte ∷ get_or text 3 0 ∷ get_or text 4 0 ∷ 58 ∷ get_or text 6 0 ∷ get_or text 7 0 ∷ []) (sym colon)
    ∙ ap (λ byte. get_or text 0 0 ∷ get_or text 1 0 ∷ get_or text 2 0 ∷ get_or text 3 0 ∷ get_or text 4 0 ∷ byte ∷ get_or text 6 0 ∷ get_or text 7 0 ∷ []) (sym other)
    ∙ sym (eight text long)

-- a text whose front is that of the text of a moment
pub joined : (m found : ℤ) (t : ℕ) (text kept front back : List ℕ) → kept ≡ written_moment m → front ≡ take 11 text → back ≡ drop 11 text
    → front ≡ take 11 kept → written_time t ≡ back → written_moment found ≡ take 11 (written_moment m) ++ written_time t → text ≡ written_moment found
joined m found t text kept front back is one two same time written =
    sym (take-append-drop 11 text) ∙ ap (λ f. f ++ drop 11 text) (sym one ∙ same ∙ ap (take 11) is)
    ∙ ap (λ b. take 11 (written_moment m) ++ b) (sym two ∙ sym time) ∙ sym written

-- the first moment of 1970
pub epoch_written : written_moment (pos 0) ≡ codes "1970-01-01T00:00:00"
unfolding places written_moment year_at place_at months_before month_at day_at days_of_months
epoch_written = refl
