-- The numbers at which pieces begin, counted in seconds from a midnight: at some seconds of each
-- day, and at single seconds.
use Rattle.std.specs.Prelude.{◌≡◌, ℕ, ◌+◌, ◌*◌, ◌/◌, ◌%◌, ◌<◌, ◌≤◌, Bool, true}
use Rattle.std.specs.Prelude.{nat_le, nat_lt}
use Rattle.std.specs.Prelude.{false, ◌||◌, if◌then◌else◌, List, [], ◌∷◌}
use Rattle.std.specs.List.Sorted.{IsStrictlySortedBy}
use Rattle.std.specs.Ordering.{nat_cmp}
use Rattle.moment_pieces.specs.internal.Turns.{stands_in}

-- each number of a list is below those after it
abbrev pub Rises : List ℕ → Type 0
Rises list = IsStrictlySortedBy nat_cmp list

-- how many numbers of a list are at most n
unfoldable pub rank : List ℕ → ℕ → ℕ
rank [] n = 0
rank (first ∷ others) n = (if nat_le first n then 1 else 0) + rank others n

-- the next number after one that passes a test
pub record IsNext (test : ℕ → Bool) (at next : ℕ) : Type 0 where
  pub above : at < next
  pub passes : test next ≡ true
  pub none : (m : ℕ) → at < m → m < next → test m ≡ false

-- no number after one passes a test
pub record IsLast (test : ℕ → Bool) (at : ℕ) : Type 0 where
  pub none : (m : ℕ) → at < m → test m ≡ false

-- the next number after one, up to a last one, that passes a test, and that there is none
pub record IsNextUpTo (test : ℕ → Bool) (at last next : ℕ) : Type 0 where
  pub next_is : IsNext test at next
  pub within : next ≤ last

pub record IsLastUpTo (test : ℕ → Bool) (at last : ℕ) : Type 0 where
  pub none : (m : ℕ) → at < m → m ≤ last → test m ≡ false

-- the seconds of each day at which pieces begin: midnight is one
pub record IsDaily (daily : List ℕ) : Type 0 where
  pub rising : Rises daily
  pub midnight : stands_in daily 0 ≡ true
  pub within : (s : ℕ) → stands_in daily s ≡ true → s < 86400

-- the single seconds at which pieces begin: none is a second of each day at which they do
pub record AreSingle (daily singles : List ℕ) : Type 0 where
  pub rising : Rises singles
  pub apart : (m : ℕ) → stands_in singles m ≡ true → stands_in daily (m % 86400) ≡ false

-- whether a piece begins at a number
unfoldable pub begins : List ℕ → List ℕ → ℕ → Bool
begins daily singles m = stands_in daily (m % 86400) || stands_in singles m

-- the lesser of two numbers
abbrev pub sooner_of : ℕ → ℕ → ℕ
sooner_of next single = if nat_lt single next then single else next

-- how many pieces begin from 0 up to a number
unfoldable pub starts_up_to : List ℕ → List ℕ → ℕ → ℕ
starts_up_to daily singles m =
    m / 86400 * rank daily 86399 + rank daily (m % 86400) + rank singles m
