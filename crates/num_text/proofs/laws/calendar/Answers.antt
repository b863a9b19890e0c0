-- The law of the calendar.
use Rattle.num_text.proofs.PublicLaws.{calendar-date, calendar-number, calendar-place, calendar-month}
use Rattle.num_text.proofs.laws.calendar.Goals as goal

pub returns-clause-date : goal.returns-clause-date
returns-clause-date c = calendar-date

pub returns-clause-number : goal.returns-clause-number
returns-clause-number c = calendar-number

pub returns-clause-place : goal.returns-clause-place
returns-clause-place c = calendar-place

pub returns-clause-month : goal.returns-clause-month
returns-clause-month c = calendar-month
