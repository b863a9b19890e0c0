-- The numbers of the statuses, and with which status and line a command ends.
use Rattle.std.specs.Prelude.{ℕ, List, ⊤}
use Rattle.command_outputs.specs.Messages.{too_long_line, read_failed_line, write_failed_line}
use Rattle.command_outputs.specs.Messages.{out_of_memory_line, IsRefusal}
use Rattle.command_outputs.specs.declared.complaint.Complaint.{Complaint}
use Rattle.command_outputs.specs.declared.complaint.Complaint.TheVariants as complaint
use Rattle.command_outputs.specs.declared.completion.Completion.{Completion}
use Rattle.command_outputs.specs.declared.completion.Completion.TheVariants as completion
use Rattle.command_outputs.specs.declared.status.Status.{Status}
use Rattle.command_outputs.specs.declared.status.Status.TheVariants.{Done, Refused, Usage, Device}
use Rattle.command_outputs.specs.declared.status.Status.TheVariants.{NoMemory, Refuted, Undecided}

-- what the program ends with
abbrev pub status_number : Status → ℕ
status_number Done = 0
status_number Refused = 1
status_number Usage = 2
status_number Device = 3
status_number NoMemory = 4
status_number Refuted = 5
status_number Undecided = 6

-- the status of a command that wrote its whole text
abbrev pub completion_status : Completion → Status
completion_status completion.Done = Done
completion_status completion.Refuted = Refuted
completion_status completion.Undecided = Undecided

-- the status of a command that did not
abbrev pub complaint_status : Complaint → Status
complaint_status (complaint.Refused line) = Refused
complaint_status (complaint.TooLong role) = Refused
complaint_status (complaint.ReadFailed role) = Device
complaint_status complaint.WriteFailed = Device
complaint_status complaint.OutOfMemory = NoMemory

-- what is said of a complaint
abbrev pub complaint_line : Complaint → List ℕ
complaint_line (complaint.Refused line) = line
complaint_line (complaint.TooLong role) = too_long_line role
complaint_line (complaint.ReadFailed role) = read_failed_line role
complaint_line complaint.WriteFailed = write_failed_line
complaint_line complaint.OutOfMemory = out_of_memory_line

-- a refusal comes with the line of a refusal
abbrev pub HasLine : Complaint → Type 0
HasLine (complaint.Refused line) = IsRefusal line
HasLine (complaint.TooLong role) = ⊤
HasLine (complaint.ReadFailed role) = ⊤
HasLine complaint.WriteFailed = ⊤
HasLine complaint.OutOfMemory = ⊤
